use Rattle.canonical_json.specs.Canon.{canon}
use Rattle.chain_entry.specs.Writing.{transaction_value}
use Rattle.envelope_manifest.specs.Piece.{piece_value}
use Rattle.std.proofs.Common.{◌∷◌, ◌++◌, ◌≡◌, ℕ, sym, ap, subst, ◌∙◌}
use Rattle.record_bytes.specs.Fields.{text_bytes}
use Rattle.record_bytes.specs.Reading.{AreTexts}
use Rattle.record_bytes.specs.Grammar.{cause_byte}
use Rattle.record_bytes.proofs.FindLemmas.{from_none, not_found}
use Rattle.record_bytes.proofs.FieldLemmas.{same_texts, same_begin, same_names, same_whole}
use Rattle.record_bytes.proofs.RecordParts.{attached_parts}
use Rattle.record_bytes.proofs.records.attached.Goals as goal

pub returns-in_default : goal.returns-in_default
returns-in_default c r are =
    let p = attached_parts c.args.fields.now r are in
    let rest = text_bytes (canon (piece_value p.piece)) ++ text_bytes p.bytes in
    from_none c.name_at.result _ c.in_default.not-Some c.name_at.ensures.none p.bill rest p.begins

pub returns-in_default-two_texts : goal.returns-in_default-two_texts
returns-in_default-two_texts c r are =
    let p = attached_parts c.args.fields.now r are in
    let rest = text_bytes (canon (piece_value p.piece)) ++ text_bytes p.bytes in
    let same = same_begin c.args.fields.now c.in-Some.bill p.bill c.in-Some.rest.now rest c.in-Some.ensures.found p.begins in
    let texts : AreTexts c.in-Some.rest.now (canon (piece_value p.piece)) p.bytes = record {
      first_short = p.texts.first_short;
      second_short = p.texts.second_short;
      bytes_are = same.1;
    } in
    from_none c.two_texts.result _ c.in_default-two_texts.not-Some c.two_texts.ensures.none (canon (piece_value p.piece)) p.bytes texts

pub returns-in_default-2 : goal.returns-in_default-2
returns-in_default-2 c r are =
    let p = attached_parts c.args.fields.now r are in
    let rest = text_bytes (canon (piece_value p.piece)) ++ text_bytes p.bytes in
    let same = same_begin c.args.fields.now c.in-Some.bill p.bill c.in-Some.rest.now rest c.in-Some.ensures.found p.begins in
    let texts : AreTexts c.in-Some.rest.now (canon (piece_value p.piece)) p.bytes = record {
      first_short = p.texts.first_short;
      second_short = p.texts.second_short;
      bytes_are = same.1;
    } in
    let fronts = same_texts c.in-Some.rest.now c.in-Some-two_texts.piece.now c.in-Some-two_texts.bytes.now (canon (piece_value p.piece))
    p.bytes c.in-Some-two_texts.ensures.found texts in
    not_found _ c.in_ok-piece.field-0 c.in_default-2.not-Some c.in_ok-piece.ensures p.piece
    (record { form = p.form.form; text_is = fronts.0 })
