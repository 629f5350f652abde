use Rattle.ebl_base.proofs.FormLemmas.{IsParty-platform, IsParty-name}
use Rattle.ebl_base.proofs.laws.party_has_a_code_and_a_name.Goals as goal

pub returns-clause-platform : goal.returns-clause-platform
returns-clause-platform c = IsParty-platform

pub returns-clause-name : goal.returns-clause-name
returns-clause-name c = IsParty-name
