use Rattle.std.proofs.Common.{Err, ap, ◌∙◌}
use Rattle.pint_responses.proofs.LawfulLemmas.{response_is_lawful}
use Rattle.pint_responses.proofs.LengthLemmas.{never_too_long}
use Rattle.pint_responses.proofs.sealing.seal.Goals as goal

pub compose-requires : goal.compose-requires
compose-requires g c = rw (c.in_ok-payload.ensures.value) (response_is_lawful c.args.r.now)

pub unreachable-requires : goal.unreachable-requires
unreachable-requires g c =
    let long = c.compose.ensures.long (c.in-Err-TooLong.is ∙ ap Err c.in-Err-TooLong.field-0-is) in
    never_too_long c.args.r.now c.requires c.in_ok-payload.ensures.digits (rw (c.in_ok-payload.ensures.value) at long)
