use Rattle.std.proofs.Common.{◌≡◌, ℕ, List, [], ◌∷◌, sym, ◌∙◌}
use Rattle.record_bytes.specs.Fields.{evidence_bytes}
use Rattle.record_bytes.specs.Grammar.{cause_byte}
use Rattle.record_bytes.proofs.FindLemmas.{from_none, not_found}
use Rattle.record_bytes.proofs.FieldLemmas.{same_names}
use Rattle.record_bytes.proofs.SpellingLemmas.{one_tag, one_rest}
use Rattle.record_bytes.proofs.RecordParts.{declined_parts}
use Rattle.record_bytes.proofs.records.declined.Goals as goal

pub returns-in_default : goal.returns-in_default
returns-in_default c r are =
    let p = declined_parts c.args.fields.now r are in
    from_none c.names_at.result _ c.in_default.not-Some c.names_at.ensures.none p.bill p.entry
    (cause_byte p.reason ∷ evidence_bytes p.evidence) p.begins

pub returns-in_default-byte_at : goal.returns-in_default-byte_at
returns-in_default-byte_at c r are =
    let p = declined_parts c.args.fields.now r are in
    let same = same_names c.args.fields.now c.in-Some.bill c.in-Some.entry p.bill p.entry c.in-Some.rest.now
    (cause_byte p.reason ∷ evidence_bytes p.evidence) c.in-Some.ensures.found p.begins in
    let clash : [] ≡ cause_byte p.reason ∷ evidence_bytes p.evidence =
    sym (from_none c.byte_at.result _ c.in_default-byte_at.not-Some c.byte_at.ensures.none) ∙ same.2 in
    cc clash

pub returns-in_default-reason_of : goal.returns-in_default-reason_of
returns-in_default-reason_of c r are =
    let p = declined_parts c.args.fields.now r are in
    let same = same_names c.args.fields.now c.in-Some.bill c.in-Some.entry p.bill p.entry c.in-Some.rest.now
    (cause_byte p.reason ∷ evidence_bytes p.evidence) c.in-Some.ensures.found p.begins in
    let whole : c.in-Some-byte_at.cause ∷ c.in-Some-byte_at.rest.now ≡ cause_byte p.reason ∷ evidence_bytes p.evidence =
    sym c.in-Some-byte_at.ensures.found ∙ same.2 in
    from_none c.reason_of.result _ c.in_default-reason_of.not-Some c.reason_of.ensures.none p.reason p.form.cause
    (sym (one_tag c.in-Some-byte_at.cause (cause_byte p.reason) c.in-Some-byte_at.rest.now (evidence_bytes p.evidence) whole))

pub returns-in_default-2 : goal.returns-in_default-2
returns-in_default-2 c r are =
    let p = declined_parts c.args.fields.now r are in
    let same = same_names c.args.fields.now c.in-Some.bill c.in-Some.entry p.bill p.entry c.in-Some.rest.now
    (cause_byte p.reason ∷ evidence_bytes p.evidence) c.in-Some.ensures.found p.begins in
    let whole : c.in-Some-byte_at.cause ∷ c.in-Some-byte_at.rest.now ≡ cause_byte p.reason ∷ evidence_bytes p.evidence =
    sym c.in-Some-byte_at.ensures.found ∙ same.2 in
    not_found _ c.in_ok-evidence.field-0 c.in_default-2.not-Some c.in_ok-evidence.ensures p.evidence
    (record {
      form = p.form.evidence_is;
      bytes_are = one_rest c.in-Some-byte_at.cause (cause_byte p.reason) c.in-Some-byte_at.rest.now (evidence_bytes p.evidence) whole;
    })
