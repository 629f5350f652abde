-- What was gone over is indexed.
use Rattle.std.proofs.Common.{take}
use Rattle.closed_family.proofs.SharedNames.{IsIndex}
use Rattle.closed_family.proofs.shared.first_shared.Given as goal

abbrev pub invariant-loop-text : goal.invariant-loop-text
invariant-loop-text l = IsIndex (λ bytes. bytes.now) (take l.text-index l.texts) l.seen
