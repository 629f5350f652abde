use Rattle.std.proofs.Common.{refl, ◌≢◌}
use Rattle.signed_envelope.specs.declared.fault.BadSigned.TheVariants as bad
use Rattle.legal_frames.specs.Rows.{IsManifestBy}
use Rattle.legal_frames.proofs.TestLemmas.{if_refused, never}
use Rattle.legal_frames.proofs.EnvelopeLemmas.{manifest_reads, manifest_so, not_signed}
use Rattle.legal_frames.proofs.envelope.is_manifest_by.Goals as goal

pub returns-in-Err : goal.returns-in-Err
returns-in-Err g c =
    if_refused (IsManifestBy (g.G.KeyRing.keys c.args.ring.now) c.args.who c.args.bill c.args.last c.args.manifest.now
    c.args.text.now)
    (c.in-Err.why ≢ bad.NoMemory) c.not_signed.result c.not_signed.ensures (λ some x.
    not_signed (g.G.KeyRing.keys c.args.ring.now) c.args.who c.args.text.now c.as_slice.result.now c.in-Err.why
    c.as_slice.ensures c.in-Err.ensures.err some
    x.signed)

pub returns-in-Ok-decode : goal.returns-in-Ok-decode
returns-in-Ok-decode g c = (
  λ t.
      let both = c.names_both.ensures.0 c.if-not-names_both.false in
      manifest_so (g.G.KeyRing.keys c.args.ring.now) c.args.who c.args.text.now c.as_slice.result.now
      c.args.manifest.now c.in-Ok-decode.field-0 _ c.args.bill
      c.args.last c.as_slice.ensures c.requires c.in-Ok.ensures.ok c.in-Ok-decode.ensures.ok c.in-Ok-decode.ensures.form
      both.0
      both.1,
  λ x. refl,
)

pub returns : goal.returns
returns g c =
    never (λ x.
    manifest_reads (g.G.KeyRing.keys c.args.ring.now) c.args.who c.args.text.now c.as_slice.result.now
    c.args.manifest.now _ c.in-Err-ManifestForm.field-0-0
    c.as_slice.ensures c.requires c.in-Ok.ensures.ok
    (rw c.in-Err-ManifestForm.field-0-is at c.in-Err-ManifestForm.ensures.err))
