use Rattle.std.proofs.Common.{◌++◌}
use Rattle.record_bytes.specs.Fields.{text_bytes}
use Rattle.record_bytes.proofs.FindLemmas.{from_none}
use Rattle.record_bytes.proofs.FieldLemmas.{same_begin, same_names}
use Rattle.record_bytes.proofs.RecordParts.{stored_parts}
use Rattle.record_bytes.proofs.records.stored.Goals as goal

pub returns-in_default : goal.returns-in_default
returns-in_default c r are =
    let p = stored_parts c.args.fields.now r are in
    from_none c.names_at.result _ c.in_default.not-Some c.names_at.ensures.none p.bill p.entry
    (p.checksum.0 ++ text_bytes p.bytes) p.begins

pub returns-in_default-name_at : goal.returns-in_default-name_at
returns-in_default-name_at c r are =
    let p = stored_parts c.args.fields.now r are in
    let same = same_names c.args.fields.now c.in-Some.bill c.in-Some.entry p.bill p.entry c.in-Some.rest.now
    (p.checksum.0 ++ text_bytes p.bytes) c.in-Some.ensures.found p.begins in
    from_none c.name_at.result _ c.in_default-name_at.not-Some c.name_at.ensures.none p.checksum (text_bytes p.bytes)
    (record { form = p.then.form; bytes_are = same.2 })

pub returns-in_default-one_text : goal.returns-in_default-one_text
returns-in_default-one_text c r are =
    let p = stored_parts c.args.fields.now r are in
    let same = same_names c.args.fields.now c.in-Some.bill c.in-Some.entry p.bill p.entry c.in-Some.rest.now
    (p.checksum.0 ++ text_bytes p.bytes) c.in-Some.ensures.found p.begins in
    let behind = same_begin c.in-Some.rest.now c.in-Some-name_at.checksum p.checksum c.in-Some-name_at.rest.now (text_bytes p.bytes)
    c.in-Some-name_at.ensures.found (record { form = p.then.form; bytes_are = same.2 }) in
    from_none c.one_text.result _ c.in_default-one_text.not-Some c.one_text.ensures.none p.bytes
    (record { short = p.text.short; bytes_are = behind.1 })
