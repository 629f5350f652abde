use Rattle.std.proofs.Common.{◌≡◌, Ok}
use Rattle.canonical_json.specs.View.{view}
use Rattle.envelope_manifest.specs.Manifest.{manifest_of}
use Rattle.envelope_manifest.specs.declared.manifest.Manifest.{Manifest}
use Rattle.bill_diary.specs.Texts.{ManifestIsItsText}
use Rattle.record_bytes.proofs.FindLemmas.{found_some, if_finds, unfound}
use Rattle.record_bytes.proofs.TextLemmas.{no_manifest_payload, manifest_here, manifest_said}
use Rattle.record_bytes.proofs.texts.manifest_of.Goals as goal

pub returns-in-Some : goal.returns-in-Some
returns-in-Some c =
    let has = found_some _ _ c.in_ok-payload.field-0 c.in-Some.payload c.in-Some.is c.in_ok-payload.ensures in
    if_finds (λ (manifest : Manifest). manifest_of (view c.in-Some.payload) ≡ Ok manifest)
    (ManifestIsItsText c.args.text.now) (manifest_here c.args.text.now (view c.in-Some.payload) has)
    (manifest_said c.args.text.now (view c.in-Some.payload) has) c.manifest_in.result c.manifest_in.ensures

pub returns-in-None : goal.returns-in-None
returns-in-None c =
    no_manifest_payload c.args.text.now (unfound _ _ c.in_ok-payload.field-0 c.in-None.is c.in_ok-payload.ensures)
