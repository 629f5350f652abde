use Rattle.transfer_judge.proofs.BegunLemmas.{begun_changes_nothing}
use Rattle.transfer_judge.proofs.laws.begun_changes_no_judgement.Goals as goal

pub returns : goal.returns
returns c = begun_changes_nothing
