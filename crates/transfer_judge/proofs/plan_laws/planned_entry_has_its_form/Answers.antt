use Rattle.transfer_judge.proofs.FollowLemmas.{planned_part, planned_forms}
use Rattle.transfer_judge.proofs.plan_laws.planned_entry_has_its_form.Goals as goal

pub returns : goal.returns
returns c = λ roster me diary party command now entry documents to sound given has is.
    planned_forms roster me diary party command now entry documents to sound given has
    (planned_part roster me _ party now entry documents to command is)
