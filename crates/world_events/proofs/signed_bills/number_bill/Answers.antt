-- A bill that had no number has this one.
use Rattle.std.specs.BTreeMap.{get}
use Rattle.ebl_base.specs.Checksum.{checksum_cmp}
use Rattle.world_events.proofs.SignedNumbers.{none_by, numbered_new}
use Rattle.world_events.proofs.signed_bills.number_bill.Goals as goal

pub returns-in_ok-insert-clause-ok : goal.returns-in_ok-insert-clause-ok
returns-in_ok-insert-clause-ok c = λ other.
    numbered_new c.args.numbers.now c.insert.new.self c.args.bill other c.args.number c.in_ok-insert.ensures.updates
    (none_by (get checksum_cmp c.args.numbers.now c.args.bill) c.contains_key.result c.contains_key.ensures
    c.if-not-contains_key.true)
