use Rattle.upload_state.specs.Started.{started_value}
use Rattle.upload_state.proofs.StartedLemmas.{one_started, IsLawful-started}
use Rattle.upload_state.proofs.laws.answers_with_one_text_are_one.Goals as goal

pub returns : goal.returns
returns c a b first second same =
    one_started a b first second
    (c.equal_texts_have_equal_values.ensures (started_value a) (started_value b) (IsLawful-started a)
    (IsLawful-started b) same)
