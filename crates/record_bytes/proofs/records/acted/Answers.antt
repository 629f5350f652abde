use Rattle.canonical_json.specs.Canon.{canon}
use Rattle.chain_entry.specs.Writing.{transaction_value}
use Rattle.envelope_manifest.specs.Piece.{piece_value}
use Rattle.std.proofs.Common.{◌∷◌, ◌++◌, ◌≡◌, ℕ, sym, ap, subst, ◌∙◌}
use Rattle.record_bytes.specs.Fields.{text_bytes, evidence_bytes}
use Rattle.record_bytes.specs.Grammar.{cause_byte}
use Rattle.record_bytes.proofs.FindLemmas.{from_none, not_found}
use Rattle.record_bytes.proofs.FieldLemmas.{same_texts, same_begin, same_names, same_whole}
use Rattle.record_bytes.proofs.RecordParts.{acted_parts}
use Rattle.record_bytes.proofs.records.acted.Goals as goal

pub returns-in_default : goal.returns-in_default
returns-in_default c r are =
    let p = acted_parts c.args.fields.now r are in
    from_none c.name_at.result _ c.in_default.not-Some c.name_at.ensures.none p.bill
    (text_bytes (canon (transaction_value p.t))) p.begins

pub returns-in_default-one_text : goal.returns-in_default-one_text
returns-in_default-one_text c r are =
    let p = acted_parts c.args.fields.now r are in
    let same = same_begin c.args.fields.now c.in-Some.bill p.bill c.in-Some.rest.now
    (text_bytes (canon (transaction_value p.t))) c.in-Some.ensures.found p.begins in
    from_none c.one_text.result _ c.in_default-one_text.not-Some c.one_text.ensures.none (canon (transaction_value p.t))
    (record { short = p.text.short; bytes_are = same.1 })

pub returns-in_default-2 : goal.returns-in_default-2
returns-in_default-2 c r are =
    let p = acted_parts c.args.fields.now r are in
    let same = same_begin c.args.fields.now c.in-Some.bill p.bill c.in-Some.rest.now
    (text_bytes (canon (transaction_value p.t))) c.in-Some.ensures.found p.begins in
    let text = same_whole c.in-Some.rest.now c.in-Some-one_text.text.now (canon (transaction_value p.t)) c.in-Some-one_text.ensures.found
    (record { short = p.text.short; bytes_are = same.1 }) in
    not_found _ c.in_ok-transaction.field-0 c.in_default-2.not-Some c.in_ok-transaction.ensures p.t
    (record { form = p.form.form; text_is = text })
