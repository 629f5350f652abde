use Rattle.bill_diary.proofs.ReferenceLemmas.{last_of_both}
use Rattle.bill_diary.proofs.laws.last_begun_with_a_reference_is_the_last_of_its_entry.Goals as goal

pub returns : goal.returns
returns c = last_of_both
