use Rattle.run_safety.proofs.Disputes.{declined_for_party, undisputed}
use Rattle.run_safety.proofs.Rosters.{grounds_of}
use Rattle.run_safety.proofs.laws.no_chain_is_disputed_in_a_run.Goals as goal

pub returns-clause-answers : goal.returns-clause-answers
returns-clause-answers c = λ roster rings n form reached distinct asked response text is.
    undisputed roster rings n
    (grounds_of (record {
      carrier = c.carriers_are_on_listed_platforms.ensures.carrier;
      party = c.carriers_are_on_listed_platforms.ensures.party;
      one_signer = c.legal_diaries_sign_no_document_on_two_platforms.ensures;
      keeps = c.steps_keep_a_diary_legal.ensures;
      sealed = c.sealed_response_is_unsealed.ensures;
    }) roster form)
    (c.every_run_is_steady.ensures roster rings n form reached distinct) distinct asked response text is

pub returns-clause-declined : goal.returns-clause-declined
returns-clause-declined c = λ roster rings n form reached distinct.
    declined_for_party roster rings n (c.every_run_is_steady.ensures roster rings n form reached distinct)
