use Rattle.record_bytes.specs.Reading.{IsCompactOf, IsCompactField}
use Rattle.record_bytes.proofs.FindLemmas.{if_finds}
use Rattle.record_bytes.proofs.EvidenceLemmas.{compact_here, compact_there}
use Rattle.record_bytes.proofs.evidence.compact_field.Goals as goal

pub returns-in-Some : goal.returns-in-Some
returns-in-Some c =
    if_finds (IsCompactOf c.in-Some.text.now) (IsCompactField c.args.bytes.now)
    (compact_here c.args.bytes.now c.in-Some.text.now c.in-Some.ensures.found)
    (compact_there c.args.bytes.now c.in-Some.text.now c.in-Some.ensures.found) c.compact_of.result c.compact_of.ensures
