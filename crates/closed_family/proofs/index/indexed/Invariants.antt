-- What was gone over is indexed.
use Rattle.std.proofs.Common.{◌≡◌, take}
use Rattle.closed_family.proofs.index.indexed.Given as goal

abbrev pub invariant-loop-member : goal.invariant-loop-member
invariant-loop-member l = l.members.items ≡ take l.member-index l.member-items
