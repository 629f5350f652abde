-- The transactions that are left, followed by those that were found, are all.
use Rattle.std.proofs.Common.{◌≡◌, ◌++◌, length, reverse}
use Rattle.bill_diary.specs.Place.{since}
use Rattle.bill_diary.proofs.since.since.Given as goal

abbrev pub invariant-loop-record : goal.invariant-loop-record
invariant-loop-record l = since l.fn.h ≡ since l.h ++ reverse l.newest_first.items

abbrev pub decreases-loop-record : goal.decreases-loop-record
decreases-loop-record l = length l.h
