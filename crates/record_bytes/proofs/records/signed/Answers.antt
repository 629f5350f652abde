use Rattle.canonical_json.specs.Canon.{canon}
use Rattle.chain_entry.specs.Writing.{transaction_value}
use Rattle.envelope_manifest.specs.Piece.{piece_value}
use Rattle.std.proofs.Common.{◌∷◌, ◌++◌, ◌≡◌, ℕ, sym, ap, subst, ◌∙◌}
use Rattle.record_bytes.specs.Fields.{text_bytes}
use Rattle.bill_diary.specs.Texts.{IsDocumentOf}
use Rattle.record_bytes.specs.Grammar.{cause_byte}
use Rattle.record_bytes.proofs.FindLemmas.{from_none, not_found}
use Rattle.record_bytes.proofs.FieldLemmas.{same_texts, same_begin, same_names, same_whole}
use Rattle.record_bytes.proofs.RecordParts.{signed_parts}
use Rattle.record_bytes.proofs.records.signed.Goals as goal

pub returns-in_default : goal.returns-in_default
returns-in_default c r are =
    let p = signed_parts c.args.fields.now r are in
    from_none c.two_texts.result _ c.in_default.not-Some c.two_texts.ensures.none p.document (canon (transaction_value p.t))
    p.texts

pub returns-in_default-2 : goal.returns-in_default-2
returns-in_default-2 c r are =
    let p = signed_parts c.args.fields.now r are in
    let same = same_texts c.args.fields.now c.in-Some.document.now c.in-Some.transaction.now p.document
    (canon (transaction_value p.t)) c.in-Some.ensures.found p.texts in
    not_found _ c.in_ok-transaction.field-0 c.in_default-2.not-Some c.in_ok-transaction.ensures p.t
    (record { form = p.form.form; text_is = same.1 })

pub returns-in_default-3 : goal.returns-in_default-3
returns-in_default-3 c r are =
    let p = signed_parts c.args.fields.now r are in
    let same = same_texts c.args.fields.now c.in-Some.document.now c.in-Some.transaction.now p.document
    (canon (transaction_value p.t)) c.in-Some.ensures.found p.texts in
    not_found _ c.in_ok-bill.field-0 c.in_default-3.not-Some c.in_ok-bill.ensures p.bill
    (subst (λ t. IsDocumentOf p.bill t) (sym same.0) p.form.document_is)
