use Rattle.canonical_json.specs.Canon.{canon}
use Rattle.chain_entry.specs.Writing.{transaction_value}
use Rattle.envelope_manifest.specs.Piece.{piece_value}
use Rattle.std.proofs.Common.{◌∷◌, ◌++◌, ◌≡◌, ℕ, sym, ap, subst, ◌∙◌}
use Rattle.record_bytes.specs.Fields.{text_bytes}
use Rattle.bill_diary.specs.Texts.{ManifestIsItsText}
use Rattle.record_bytes.specs.Reading.{AreTexts}
use Rattle.record_bytes.proofs.EvidenceLemmas.{same_signed}
use Rattle.record_bytes.specs.Grammar.{cause_byte}
use Rattle.record_bytes.proofs.FindLemmas.{from_none, not_found}
use Rattle.record_bytes.proofs.FieldLemmas.{same_texts, same_begin, same_names, same_whole}
use Rattle.record_bytes.proofs.RecordParts.{parted_parts}
use Rattle.record_bytes.proofs.records.parted.Goals as goal

pub returns-in_default : goal.returns-in_default
returns-in_default c r are =
    let p = parted_parts c.args.fields.now r are in
    let rest = text_bytes p.link.text.0 ++ text_bytes p.text.0 in
    from_none c.name_at.result _ c.in_default.not-Some c.name_at.ensures.none p.bill rest p.begins

pub returns-in_default-two_texts : goal.returns-in_default-two_texts
returns-in_default-two_texts c r are =
    let p = parted_parts c.args.fields.now r are in
    let rest = text_bytes p.link.text.0 ++ text_bytes p.text.0 in
    let same = same_begin c.args.fields.now c.in-Some.bill p.bill c.in-Some.rest.now rest c.in-Some.ensures.found p.begins in
    let texts : AreTexts c.in-Some.rest.now p.link.text.0 p.text.0 = record {
      first_short = p.texts.first_short;
      second_short = p.texts.second_short;
      bytes_are = same.1;
    } in
    from_none c.two_texts.result _ c.in_default-two_texts.not-Some c.two_texts.ensures.none p.link.text.0 p.text.0 texts

pub returns-in_default-2 : goal.returns-in_default-2
returns-in_default-2 c r are =
    let p = parted_parts c.args.fields.now r are in
    let rest = text_bytes p.link.text.0 ++ text_bytes p.text.0 in
    let same = same_begin c.args.fields.now c.in-Some.bill p.bill c.in-Some.rest.now rest c.in-Some.ensures.found p.begins in
    let texts : AreTexts c.in-Some.rest.now p.link.text.0 p.text.0 = record {
      first_short = p.texts.first_short;
      second_short = p.texts.second_short;
      bytes_are = same.1;
    } in
    let fronts = same_texts c.in-Some.rest.now c.in-Some-two_texts.entry.now c.in-Some-two_texts.manifest.now p.link.text.0 p.text.0
    c.in-Some-two_texts.ensures.found texts in
    not_found _ c.in_ok-link.field-0 c.in_default-2.not-Some c.in_ok-link.ensures p.link
    (record {
      text_is = same_signed p.link.text c.in_ok-signed_text.field-0 (sym fronts.0 ∙ sym c.in_ok-signed_text.ensures);
      link_is = p.form.link_is;
    })

pub returns-in_default-3 : goal.returns-in_default-3
returns-in_default-3 c r are =
    let p = parted_parts c.args.fields.now r are in
    let rest = text_bytes p.link.text.0 ++ text_bytes p.text.0 in
    let same = same_begin c.args.fields.now c.in-Some.bill p.bill c.in-Some.rest.now rest c.in-Some.ensures.found p.begins in
    let texts : AreTexts c.in-Some.rest.now p.link.text.0 p.text.0 = record {
      first_short = p.texts.first_short;
      second_short = p.texts.second_short;
      bytes_are = same.1;
    } in
    let fronts = same_texts c.in-Some.rest.now c.in-Some-two_texts.entry.now c.in-Some-two_texts.manifest.now p.link.text.0 p.text.0
    c.in-Some-two_texts.ensures.found texts in
    not_found _ c.in_ok-manifest.field-0 c.in_default-3.not-Some c.in_ok-manifest.ensures p.manifest
    (subst (λ t. ManifestIsItsText t p.manifest)
    (same_signed p.text c.in_ok-manifest_text.manifest_text (sym fronts.1 ∙ sym c.in_ok-manifest_text.ensures))
    p.form.manifest_is)
