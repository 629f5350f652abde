use Rattle.record_bytes.proofs.FindLemmas.{found_is, from_none, none_found}
use Rattle.record_bytes.proofs.FrameLemmas.{no_bytes, record_spells, no_record}
use Rattle.record_bytes.proofs.reading.frame_of.Goals as goal

pub returns-in_default : goal.returns-in_default
returns-in_default c frame is =
    no_bytes c.args.bytes.now frame (from_none c.byte_at.result _ c.in_default.not-Some c.byte_at.ensures.none) is

pub returns-in-Some-2 : goal.returns-in-Some-2
returns-in-Some-2 c =
    record_spells c.args.bytes.now c.in-Some.fields.now c.in-Some.tag c.in-Some-2.record c.in-Some.ensures.found
    (found_is _ c.in_ok-record.field-0 c.in-Some-2.record c.in-Some-2.is c.in_ok-record.ensures)

pub returns-in-None : goal.returns-in-None
returns-in-None c =
    no_record c.args.bytes.now c.in-Some.fields.now c.in-Some.tag c.in-Some.ensures.found c.if-tag-eq7.false
    (none_found _ c.in_ok-record.field-0 c.in-None.is c.in_ok-record.ensures)
