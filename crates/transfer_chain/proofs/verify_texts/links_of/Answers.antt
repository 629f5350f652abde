use Rattle.std.proofs.Common.{sym, subst}
use Rattle.transfer_chain.specs.Refusal.{IsTextRefused}
use Rattle.transfer_chain.proofs.LinkLemmas.{links-more, text-refused}
use Rattle.transfer_chain.proofs.verify_texts.links_of.Goals as goal

pub returns-in-Err-link_at-clause-err : goal.returns-in-Err-link_at-clause-err
returns-in-Err-link_at-clause-err g c =
    subst (IsTextRefused (g.G.KeyRing.keys c.args.ring.now) c.args.texts.now) (sym c.at.ensures)
    (text-refused (g.G.KeyRing.keys c.args.ring.now) c.args.texts.now c.loop-place.place c.index-texts-place.result
    c.loop-place.links.items c.in-Err-link_at.fault c.loop-place-test.true c.index-texts-place.is
    c.loop-place.invariant c.in-Err-link_at.ensures.err)

pub loop-place-preserved : goal.loop-place-preserved
loop-place-preserved g c =
    links-more (g.G.KeyRing.keys c.args.ring.now) c.args.texts.now c.loop-place.place c.index-texts-place.result
    c.loop-place.links.items c.push.new.links.items c.in-Ok-link_at.link c.loop-place-test.true
    c.index-texts-place.is c.loop-place.invariant c.in-Ok-link_at.ensures.ok c.in_ok-push.ensures
