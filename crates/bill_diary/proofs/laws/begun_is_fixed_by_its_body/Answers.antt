use Rattle.bill_diary.proofs.BegunLemmas.{one_begun}
use Rattle.bill_diary.proofs.laws.begun_is_fixed_by_its_body.Goals as goal

pub returns : goal.returns
returns c =
    λ me other records h others g bill bill1 chain chain1 manifest manifest1 body a b.
    one_begun bill bill1 chain chain1 manifest manifest1 body a.body_is a.links_are b.body_is b.links_are
