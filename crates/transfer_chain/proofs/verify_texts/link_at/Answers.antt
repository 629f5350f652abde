use Rattle.std.proofs.Common.{length, refl, sym, ◌∙◌}
use Rattle.std.proofs.lemmas.Option.{slice_get_read}
use Rattle.std.proofs.lemmas.Slice.Eq.{bytes_eq-Decides}
use Rattle.transfer_chain.proofs.KnownLemmas.{known-link}
use Rattle.transfer_chain.proofs.verify_texts.link_at.Goals as goal

pub returns-then-eq-clause-ok : goal.returns-then-eq-clause-ok
returns-then-eq-clause-ok g c =
    let there = slice_get_read c.args.known.now (length c.args.known.now) c.args.place c.in-Some.link.now refl
    c.in-Some.ensures.lookup.3.0 c.in-Some.ensures.lookup.1 in
    let same = (bytes_eq-Decides c.as_slice.result.now c.as_slice-in-Some.result.now).0
    (sym c.eq.ensures ∙ c.if-eq.true) in
    known-link (g.G.KeyRing.keys c.args.ring.now) c.args.known.now c.args.place c.in-Some.link.now c.in_ok-link.link
    c.args.text.now there c.requires (sym c.as_slice.ensures ∙ same ∙ c.as_slice-in-Some.ensures) c.in_ok-link.ensures
