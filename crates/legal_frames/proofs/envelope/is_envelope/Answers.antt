use Rattle.std.proofs.Common.{ap, sym, ◌∙◌}
use Rattle.bill_chain.specs.Chain.{last_of}
use Rattle.envelope_manifest.specs.Body.{body_view}
use Rattle.legal_frames.proofs.TestLemmas.{if_through, isnt, never}
use Rattle.legal_frames.proofs.EnvelopeLemmas.{envelope_by, envelope_good, envelope_so}
use Rattle.legal_frames.proofs.envelope.is_envelope.Goals as goal

pub returns-then-not-good : goal.returns-then-not-good
returns-then-not-good g c =
    never (λ e.
    isnt c.in_ok-good.good c.if-not-good.true c.in_ok-good.ensures
    (envelope_good c.args.roster.now (g.G.KeyRing.keys c.args.ring.now) c.args.begun.bill c.args.begun.chain.now
    c.args.begun.manifest.now c.args.begun.body.now (body_view c.in_ok-body.body) c.in_ok-body.ensures.reads
    c.in_ok-body.ensures.form e))

pub returns : goal.returns
returns g c =
    let last_is = sym (c.in-Some.ensures ∙ ap last_of c.as_slice.ensures) in
    if_through c.is_manifest_by.result
    (envelope_so c.args.roster.now (g.G.KeyRing.keys c.args.ring.now) c.args.begun.bill c.args.begun.chain.now
    c.args.begun.manifest.now c.args.begun.body.now c.in-Some.last.now (body_view c.in_ok-body.body) c.requires
    c.in_ok-body.ensures.reads c.in_ok-body.ensures.form (c.in_ok-good.ensures.0 c.if-not-good.false) last_is)
    (envelope_by c.args.roster.now (g.G.KeyRing.keys c.args.ring.now) c.args.begun.bill c.args.begun.chain.now
    c.args.begun.manifest.now c.args.begun.body.now (body_view c.in_ok-body.body) c.in-Some.last.now
    c.in_ok-body.ensures.reads last_is)
    c.is_manifest_by.ensures
