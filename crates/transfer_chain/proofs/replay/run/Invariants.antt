-- The run over what is left, from the title so far, is the run over all.
use Rattle.std.proofs.Common.{length}
use Rattle.transfer_chain.proofs.RunLemmas.{RunsOn}
use Rattle.transfer_chain.proofs.replay.run.Given as goal

abbrev pub invariant-loop-rest : goal.invariant-loop-rest
invariant-loop-rest l = RunsOn l.transactions l.fn.before l.rest l.title l.moves_last l.place

abbrev pub decreases-loop-rest : goal.decreases-loop-rest
decreases-loop-rest l = length l.rest
