use Rattle.bill_diary.proofs.BegunLemmas.{written_form}
use Rattle.bill_diary.proofs.laws.body_has_no_further_member.Goals as goal

pub returns : goal.returns
returns c = written_form
