use Rattle.run_safety.proofs.Rosters.{grounds_of}
use Rattle.run_safety.proofs.Runs.{run_steady}
use Rattle.run_safety.proofs.laws.every_run_is_steady.Goals as goal

pub returns : goal.returns
returns c = λ roster rings n form reached distinct.
    run_steady roster rings
    (grounds_of (record {
      carrier = c.carriers_are_on_listed_platforms.ensures.carrier;
      party = c.carriers_are_on_listed_platforms.ensures.party;
      one_signer = c.legal_diaries_sign_no_document_on_two_platforms.ensures;
      keeps = c.steps_keep_a_diary_legal.ensures;
      sealed = c.sealed_response_is_unsealed.ensures;
    }) roster form)
    (c.platforms_are_apart.ensures roster form) n reached distinct
