-- What is left gives what the whole gives.
use Rattle.std.proofs.Common.{◌≡◌, length}
use Rattle.bill_diary.specs.Place.{last_parted}
use Rattle.bill_diary.proofs.parting.last_parted.Given as goal

abbrev pub invariant-loop-record : goal.invariant-loop-record
invariant-loop-record l = last_parted l.fn.h ≡ last_parted l.h

abbrev pub decreases-loop-record : goal.decreases-loop-record
decreases-loop-record l = length l.h
