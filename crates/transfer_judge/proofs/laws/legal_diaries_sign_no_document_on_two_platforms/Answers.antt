use Rattle.transfer_judge.proofs.SigningLemmas.{one_platform}
use Rattle.transfer_judge.proofs.laws.legal_diaries_sign_no_document_on_two_platforms.Goals as goal

pub returns : goal.returns
returns c = one_platform c.documents_with_one_text_are_one.ensures
