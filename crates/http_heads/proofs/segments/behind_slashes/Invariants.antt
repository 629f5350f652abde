use Rattle.std.proofs.Common.{◌≡◌, drop}
use Rattle.http_heads.specs.Route.{behind_slashes}
use Rattle.http_heads.proofs.segments.behind_slashes.Given as goal

abbrev pub invariant-loop-i : goal.invariant-loop-i
invariant-loop-i l = behind_slashes l.n l.target ≡ behind_slashes l.left (drop l.i l.target)
