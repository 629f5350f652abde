use Rattle.std.proofs.Common.{subst, sym}
use Rattle.ebl_base.specs.declared.checksum.Checksum.{Checksum}
use Rattle.bill_diary.specs.declared.record.Record.TheVariants.{Begun}
use Rattle.record_bytes.specs.Fields.{text_bytes}
use Rattle.record_bytes.specs.Reading.{AreFields}
use Rattle.record_bytes.proofs.FindLemmas.{found_is, isnt, not_found}
use Rattle.record_bytes.proofs.BegunLemmas.{no_begun_count, no_begun_manifest, no_begun_chain, begun_found}
use Rattle.record_bytes.proofs.begun.begun_with.Goals as goal

pub returns-then-not-has_entries : goal.returns-then-not-has_entries
returns-then-not-has_entries c =
    no_begun_count c.args.text.now c.args.document.now c.args.manifest.now c.args.chain c.requires.short c.requires.body
    (isnt c.has_entries.result _ c.if-not-has_entries.true c.has_entries.ensures.1)

pub returns-in_default : goal.returns-in_default
returns-in_default c =
    no_begun_manifest c.args.text.now c.args.document.now c.args.manifest.now c.args.chain c.requires.short
    c.requires.body (not_found _ c.in_ok-manifest.field-0 c.in_default.not-Some c.in_ok-manifest.ensures)

pub returns-in_default-2 : goal.returns-in_default-2
returns-in_default-2 c =
    no_begun_chain c.args.text.now c.args.document.now c.args.manifest.now c.args.chain c.requires.short c.requires.body
    (not_found _ c.in_ok-chain.field-0 c.in_default-2.not-Some c.in_ok-chain.ensures)

pub returns : goal.returns
returns c =
    let entries = c.has_entries.ensures.0 c.if-not-has_entries.false in
    let found = begun_found c.args.text.now c.in_ok-body.body c.args.document.now c.args.manifest.now c.args.chain
    c.in-Some.manifest c.in-Some-2.chain c.requires.short c.requires.body entries.0 entries.1
    (found_is _ c.in_ok-manifest.field-0 c.in-Some.manifest c.in-Some.is c.in_ok-manifest.ensures)
    (found_is _ c.in_ok-chain.field-0 c.in-Some-2.chain c.in-Some-2.is c.in_ok-chain.ensures) c.in_ok-body.ensures in
    subst (λ (b : Checksum). AreFields 7 (text_bytes c.args.text.now)
    (Begun b c.in-Some-2.chain c.in-Some.manifest c.in_ok-body.body)) (sym c.bill.ensures) found
