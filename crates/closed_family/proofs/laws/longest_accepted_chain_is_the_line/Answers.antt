use Rattle.closed_family.proofs.Longest.{longest_is_line}
use Rattle.closed_family.proofs.laws.longest_accepted_chain_is_the_line.Goals as goal

pub returns : goal.returns
returns c = longest_is_line
