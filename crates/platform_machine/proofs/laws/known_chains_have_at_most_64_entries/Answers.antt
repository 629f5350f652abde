use Rattle.platform_machine.proofs.EntryLemmas.{few_in, few_with}
use Rattle.platform_machine.proofs.laws.known_chains_have_at_most_64_entries.Goals as goal

pub returns-clause-now : goal.returns-clause-now
returns-clause-now c = few_in

pub returns-clause-then : goal.returns-clause-then
returns-clause-then c = few_with
