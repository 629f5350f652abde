use Rattle.upload_state.proofs.StartedLemmas.{started_once}
use Rattle.upload_state.proofs.laws.texts_have_one_answer.Goals as goal

pub returns : goal.returns
returns c = started_once
