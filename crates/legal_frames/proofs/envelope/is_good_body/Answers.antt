use Rattle.std.proofs.Common.{refl, ◌≢◌}
use Rattle.envelope_manifest.specs.Body.{body_view}
use Rattle.transfer_chain.specs.declared.fault.ChainRefusal.TheVariants as refusals
use Rattle.transport_document.specs.declared.fault.DocumentFault.TheVariants as faults
use Rattle.legal_frames.specs.Rows.{IsGoodBody}
use Rattle.legal_frames.proofs.TestLemmas.{if_refused}
use Rattle.legal_frames.proofs.EnvelopeLemmas.{bad_chain, bad_document, good_so}
use Rattle.legal_frames.proofs.envelope.is_good_body.Goals as goal

pub returns-in-Err : goal.returns-in-Err
returns-in-Err g c =
    if_refused (IsGoodBody c.args.roster.now (g.G.KeyRing.keys c.args.ring.now) (body_view c.args.body.now))
    (c.in-Err.fault ≢ faults.NoMemory) c.no_document.result c.no_document.ensures
    (bad_document c.args.roster.now (g.G.KeyRing.keys c.args.ring.now) (body_view c.args.body.now) c.in-Err.fault
    c.in-Err.ensures.err)

pub returns-in-Err-check : goal.returns-in-Err-check
returns-in-Err-check g c =
    if_refused (IsGoodBody c.args.roster.now (g.G.KeyRing.keys c.args.ring.now) (body_view c.args.body.now))
    (c.in-Err-check.refusal ≢ refusals.NoMemory) c.no_chain.result c.no_chain.ensures
    (bad_chain c.refused_texts_are_no_good_chain.ensures.refused c.args.roster.now (g.G.KeyRing.keys c.args.ring.now)
    (body_view c.args.body.now) c.in-Ok.document c.in-Err-check.refusal c.in-Ok.ensures.ok c.in-Err-check.ensures.err)

pub returns : goal.returns
returns g c = (
  λ t.
      good_so c.args.roster.now (g.G.KeyRing.keys c.args.ring.now) (body_view c.args.body.now) c.in-Ok.document _
      c.in-Ok.ensures.ok c.in-Ok-check.ensures.ok,
  λ x. refl,
)
