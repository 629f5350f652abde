use Rattle.closed_family.proofs.Longest.{longest_in_safe, longest_is_known}
use Rattle.closed_family.proofs.laws.line_of_a_safe_bill_is_known_at_its_end.Goals as goal

pub returns : goal.returns
returns c = record { line = longest_in_safe; known = longest_is_known }
