-- How a judgement is answered, and what is written of it.
use Rattle.std.specs.Prelude.{true, false, [], Option, Some, None, option_map}
use Rattle.ebl_base.specs.declared.code.Code.TheVariants as codes
use Rattle.ebl_base.specs.declared.reason.Reason.TheVariants as reasons
use Rattle.pint_responses.specs.declared.response.Response.{Response}
use Rattle.bill_diary.specs.declared.record.Record.{Record}
use Rattle.bill_diary.specs.declared.record.Record.TheVariants as records
use Rattle.bill_diary.specs.declared.frame.Frame.{Frame}
use Rattle.bill_diary.specs.declared.frame.Frame.TheVariants.{One, BegunTaken}
use Rattle.transfer_judge.specs.declared.judgement.Judgement.{Judgement}
use Rattle.transfer_judge.specs.declared.judgement.Judgement.TheVariants.{Elsewhere, Duplicate, Declined, Parts, Unknown, Missing, Accept}
use Rattle.platform_machine.specs.declared.subject.Subject.{Subject}
use Rattle.platform_machine.specs.Answer.{no_evidence, response_with}

-- how a judgement is answered; it stands where the entry is declined for good
abbrev pub response_for : Subject → Judgement → Response
response_for s Elsewhere = response_with s codes.BadEnvelope false (Some reasons.Destination) [] no_evidence
response_for s Duplicate = response_with s codes.Duplicate false None [] no_evidence
response_for s (Declined code reason evidence) = response_with s code true (Some reason) [] evidence
response_for s (Parts evidence) = response_with s codes.DisputedEnvelope true (Some reasons.Parts) [] evidence
response_for s Unknown = response_with s codes.BadEnvelope true (Some reasons.Party) [] no_evidence
response_for s (Missing checksums) = response_with s codes.MissingDocuments false None checksums no_evidence
response_for s Accept = response_with s codes.Received false None [] no_evidence

-- a Taken, in one frame with the Begun, if one is written
abbrev pub taken_with : Option Record → Subject → Frame
taken_with None s = One (records.Taken s.bill s.last)
taken_with (Some begun) s = BegunTaken begun

-- what is written of a judgement, with the Begun that is new, if one is: new disputes and unknown parties are declined
-- for good; a Begun waits for documents; a bill that is received is taken
abbrev pub frame_for : Option Record → Subject → Judgement → Option Frame
frame_for begun s (Parts evidence) =
    Some (One (records.Declined s.bill s.last codes.DisputedEnvelope reasons.Parts evidence))
frame_for begun s Unknown = Some (One (records.Declined s.bill s.last codes.BadEnvelope reasons.Party no_evidence))
frame_for begun s (Missing checksums) = option_map One begun
frame_for begun s Accept = Some (taken_with begun s)
frame_for begun s judgement = None
