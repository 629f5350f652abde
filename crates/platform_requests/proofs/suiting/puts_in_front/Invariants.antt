use Rattle.std.proofs.Common.{take, IsTrue}
use Rattle.std.specs.List.{list_all}
use Rattle.platform_requests.specs.Desk.{is_put}
use Rattle.platform_requests.proofs.suiting.puts_in_front.Given as goal

abbrev pub invariant-loop-place : goal.invariant-loop-place
invariant-loop-place l = IsTrue (list_all is_put (take l.place l.messages))
