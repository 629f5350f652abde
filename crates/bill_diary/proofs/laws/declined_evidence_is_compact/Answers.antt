use Rattle.bill_diary.proofs.TextLemmas.{declined_is_compact}
use Rattle.bill_diary.proofs.laws.declined_evidence_is_compact.Goals as goal

pub returns : goal.returns
returns c =
    λ me diary entry declined sound is.
    declined_is_compact me entry _ sound.records declined is
