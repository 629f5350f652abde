use Rattle.transfer_judge.proofs.SealLemmas.{judged_can_be_sealed}
use Rattle.transfer_judge.proofs.laws.what_is_judged_can_be_sealed.Goals as goal

pub returns : goal.returns
returns c =
    λ roster me bill diary chain manifest sound are count.
    judged_can_be_sealed roster me bill _ chain manifest sound.records are count
