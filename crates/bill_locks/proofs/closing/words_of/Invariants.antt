use Rattle.std.proofs.Common.{◌≡◌, ◌*◌, map, length, take}
use Rattle.bill_locks.proofs.closing.words_of.Given as goal

abbrev pub invariant-loop-value : goal.invariant-loop-value
invariant-loop-value g l = l.words.items ≡ map (λ x. 2 * length (g.T.Grows.list x)) (take l.value-index l.values.items)
