use Rattle.record_bytes.proofs.FindLemmas.{not_found}
use Rattle.record_bytes.proofs.EvidenceLemmas.{own_missing, theirs_missing}
use Rattle.record_bytes.proofs.evidence.own_and_theirs.Goals as goal

pub returns-in_default-2 : goal.returns-in_default-2
returns-in_default-2 c =
    own_missing c.args.rest.now c.in-Some.own.now c.in-Some.rest.now c.in-Some.ensures.found
    (not_found _ c.in_ok-own.field-0 c.in_default-2.not-Some c.in_ok-own.ensures)

pub returns-in_default-3 : goal.returns-in_default-3
returns-in_default-3 c =
    theirs_missing c.args.rest.now c.in-Some.own.now c.in-Some.rest.now c.in-Some.ensures.found
    (not_found _ c.in_ok-theirs.field-0 c.in_default-3.not-Some c.in_ok-theirs.ensures)
