-- The passes stay those of the offices.
use Rattle.platform_office.specs.Office.{IsPassOf}
use Rattle.office_bench.proofs.serving.serve.Given as goal

abbrev pub invariant-loop-place : goal.invariant-loop-place
invariant-loop-place g l = IsPassOf l.offices.alph l.passes.alph × IsPassOf l.offices.beta l.passes.beta
