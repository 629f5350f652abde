-- What was recorded, by the records behind those that are left.
use Rattle.std.proofs.Common.{◌≡◌, List, ◌++◌, map, vec_len}
use Rattle.bill_diary.specs.declared.record.Record.{Record}
use Rattle.bill_diary.specs.KnownChains.{IsToldBy}
use Rattle.bill_diary.specs.History.{record_at}
use Rattle.bill_diary.proofs.known.known_links.Given as goal

abbrev pub invariant-loop-record : goal.invariant-loop-record
invariant-loop-record l =
    (done : List Record) × (map record_at l.left.items ++ done ≡ l.fn.h) × IsToldBy done l.told

abbrev pub decreases-loop-record : goal.decreases-loop-record
decreases-loop-record l = vec_len l.left
