use Rattle.bill_diary.proofs.PieceLemmas.{missing-brought}
use Rattle.bill_diary.proofs.laws.missing_documents_are_those_not_stored.Goals as goal

pub returns : goal.returns
returns c = missing-brought
