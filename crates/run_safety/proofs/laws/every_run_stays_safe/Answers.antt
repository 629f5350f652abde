use Rattle.run_safety.proofs.Sound.{steady_closed, steady_sound}
use Rattle.run_safety.proofs.laws.every_run_stays_safe.Goals as goal

pub returns-clause-sound : goal.returns-clause-sound
returns-clause-sound c = λ roster rings n form reached distinct.
    steady_sound roster rings n (c.every_run_is_steady.ensures roster rings n form reached distinct)
    (c.legal_diaries_sign_no_document_on_two_platforms.ensures roster)

pub returns-clause-closed : goal.returns-clause-closed
returns-clause-closed c = λ roster rings n form reached distinct.
    steady_closed roster rings n (c.every_run_is_steady.ensures roster rings n form reached distinct)

pub returns-clause-safe : goal.returns-clause-safe
returns-clause-safe c = λ roster rings n form reached distinct.
    let S = c.every_run_is_steady.ensures roster rings n form reached distinct in
    c.closed_family_is_safe.ensures n.family
    (steady_sound roster rings n S (c.legal_diaries_sign_no_document_on_two_platforms.ensures roster))
    (steady_closed roster rings n S) distinct
