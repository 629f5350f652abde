-- What was gone over is indexed.
use Rattle.std.proofs.Common.{◌≡◌, take}
use Rattle.closed_family.proofs.index.diaries_of.Given as goal

abbrev pub invariant-loop-diary : goal.invariant-loop-diary
invariant-loop-diary l = l.indices.items ≡ take l.diary-index l.diaries
