use Rattle.std.proofs.Common.{◌≡◌, take}
use Rattle.std.specs.Prelude.{◌↔◌}
use Rattle.test_signer.proofs.tags.are_equal.Given as goal

abbrev pub invariant-loop-i : goal.invariant-loop-i
invariant-loop-i l = (l.difference ≡ 0) ↔ (take l.i l.tag ≡ take l.i l.other)
