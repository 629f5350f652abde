use Rattle.pint_responses.proofs.SealedLemmas.{other_platform, refused_is_none}
use Rattle.pint_responses.proofs.laws.refused_text_is_no_response.Goals as goal

pub returns-clause-refused : goal.returns-clause-refused
returns-clause-refused c = refused_is_none

pub returns-clause-other : goal.returns-clause-other
returns-clause-other c = other_platform
