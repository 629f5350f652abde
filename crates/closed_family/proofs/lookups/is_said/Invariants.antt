-- What is left says it where the whole does.
use Rattle.std.proofs.Common.{◌≡◌, length}
use Rattle.std.specs.List.{list_any}
use Rattle.closed_family.specs.Lacking.{says}
use Rattle.closed_family.proofs.lookups.is_said.Given as goal

abbrev pub invariant-loop-record : goal.invariant-loop-record
invariant-loop-record l = list_any (says l.fn.what l.fn.entry) l.fn.h ≡ list_any (says l.fn.what l.fn.entry) l.h

abbrev pub decreases-loop-record : goal.decreases-loop-record
decreases-loop-record l = length l.h
