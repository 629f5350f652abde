-- No step of the machine replies with a failure.
use Rattle.std.proofs.Common.{◌≡◌, inl, inr, ℕ, false, List, Option, None, Ok, Err, refl, ap, ◌∙◌}
use Rattle.ebl_base.specs.declared.checksum.Checksum.{Checksum}
use Rattle.ebl_base.specs.declared.moment.Moment.{Moment}
use Rattle.ebl_base.specs.declared.party.Party.{Party}
use Rattle.ebl_base.specs.declared.platform_code.PlatformCode.{PlatformCode}
use Rattle.ebl_base.specs.declared.reference.Reference.{Reference}
use Rattle.holder_commands.specs.Command.{CommandRecord, signs, acts, attaches}
use Rattle.signed_envelope.specs.KeyRing.{Keys}
use Rattle.party_roster.specs.RosterRecord.{RosterRecord}
use Rattle.pint_responses.specs.declared.response.Response.{Response}
use Rattle.platform_requests.specs.Request.{RequestRecord, commands, starts, puts, finishes, start_replies, finish_replies, resends, asks}
use Rattle.platform_requests.specs.declared.message.Message.{Message}
use Rattle.platform_requests.specs.declared.reply.Reply.{Reply}
use Rattle.bill_diary.specs.declared.frame.Frame.{Frame}
use Rattle.bill_diary.specs.History.{newest_first}
use Rattle.transfer_judge.specs.Plan.{Plan, plan_of}
use Rattle.transfer_judge.specs.declared.planned.Planned.TheVariants.{Nothing, Add, Part}
use Rattle.transfer_judge.specs.declared.planned.PlanRefusal.{PlanRefusal}
use Rattle.transfer_judge.specs.declared.planned.PlanRefusal.TheVariants as refusals
use Rattle.transfer_judge.specs.declared.judgement.Judgement.{Judgement}
use Rattle.transfer_judge.specs.declared.judgement.Judgement.TheVariants as judgements
use Rattle.platform_machine.specs.declared.step.Step.{Step}
use Rattle.platform_machine.specs.declared.subject.Subject.{Subject}
use Rattle.platform_machine.specs.Answer.{IsAnswer, subject_of}
use Rattle.platform_machine.specs.Commanding.{FollowsPlan, IsThere, StepsAtCommand, reply_to}
use Rattle.platform_machine.specs.Complete.{is_failure}
use Rattle.platform_machine.specs.Hearing.{StepsAtAnswer, StepsAtRequest, StepsAtStartReply}
use Rattle.platform_machine.specs.Machine.{Steps, StepsAtResend}
use Rattle.platform_machine.specs.Receiving.{SaysAtStart, StepsAtFinish, StepsAtPut, StepsAtStart, judgement_at_start}
use Rattle.platform_machine.specs.Step.{IsDone}
use Rattle.platform_machine.proofs.PlanLemmas.{IsReason, refusal_has_reason}

-- the reply isn't a failure
abbrev IsFine : Reply → Type 0
IsFine reply = is_failure reply ≡ false

-- ---- each kind of step

answer_fine : (keys : Keys) (me : PlatformCode) (response : Response) (reply : Reply) → IsAnswer keys me response reply
    → IsFine reply
answer_fine keys me response reply says = ap is_failure says.reply_is

done_fine : (bill : Checksum) (diary : List Frame) (frame : Option Frame) (sent : List Message) (step : Step)
    → IsDone bill diary frame sent step → IsFine step.reply
done_fine bill diary frame sent step done = ap is_failure done.reply_is

-- ---- a command

refusal_fine : (refusal : PlanRefusal) → IsReason refusal → IsFine (reply_to refusal)
refusal_fine refusals.NotOurs reason = refl
refusal_fine (refusals.Document fault) reason = refl
refusal_fine refusals.NotCarrier reason = refl
refusal_fine refusals.KnownBill reason = refl
refusal_fine (refusals.NotHere place) reason = refl
refusal_fine (refusals.NoParty party) reason = refl
refusal_fine (refusals.NotAllowed rule) reason = refl
refusal_fine (refusals.Limit limit) reason = refl
refusal_fine refusals.NoMemory reason = absurd reason

there_fine : (diary : List Frame) (command : CommandRecord) (step : Step) → IsThere diary command step
    → IsFine step.reply
there_fine diary (signs document) step there = absurd there
there_fine diary (acts bill kind recipient) step there = absurd there
there_fine diary (attaches bill name media bytes) step there = done_fine bill diary None _ step there

command_fine : (roster : RosterRecord) (keys : Keys) (me : PlatformCode) (diary : List Frame) (now : Moment)
    (party : Party) (command : CommandRecord) (step : Step)
    → StepsAtCommand roster keys me diary now party command step → IsFine step.reply
command_fine roster keys me diary now party command step steps =
    on_plan (plan_of roster me (newest_first diary) party command now) refl steps
  where
    on_plan : (plan : Plan) → plan_of roster me (newest_first diary) party command now ≡ plan
        → FollowsPlan keys me diary command plan step → IsFine step.reply
    on_plan (Err refusal) is only =
        ap is_failure only.reply_is
        ∙ refusal_fine refusal (refusal_has_reason roster me (newest_first diary) party command now refusal is)
    on_plan (Ok Nothing) is there = there_fine diary command step there
    on_plan (Ok (Add r)) is done = done_fine _ diary _ _ step done
    on_plan (Ok (Part entry documents to)) is parted = done_fine _ diary _ _ step parted.parts.done

-- ---- what other platforms send

judged_fine : (keys : Keys) (me : PlatformCode) (subject : Subject) (judgement : Judgement) (reply : Reply)
    → SaysAtStart keys me subject judgement reply → IsFine reply
judged_fine keys me subject judgements.Elsewhere reply says = answer_fine keys me _ reply says
judged_fine keys me subject judgements.Duplicate reply says = answer_fine keys me _ reply says
judged_fine keys me subject (judgements.Declined code reason evidence) reply says = answer_fine keys me _ reply says
judged_fine keys me subject (judgements.Parts evidence) reply says = answer_fine keys me _ reply says
judged_fine keys me subject judgements.Unknown reply says = answer_fine keys me _ reply says
judged_fine keys me subject (judgements.Missing checksums) reply says = ap is_failure says
judged_fine keys me subject judgements.Accept reply says = answer_fine keys me _ reply says

start_fine : (roster : RosterRecord) (keys : Keys) (me : PlatformCode) (diary : List Frame) (body : List ℕ)
    (step : Step) → StepsAtStart roster keys me diary body step → IsFine step.reply
start_fine roster keys me diary body step (inl (refusal, refused, answers)) =
    answer_fine keys me _ step.reply answers.says
start_fine roster keys me diary body step (inr (s, shows, judged)) =
    judged_fine keys me (subject_of s.manifest) (judgement_at_start roster me diary s) step.reply judged.says

put_fine : (keys : Keys) (me : PlatformCode) (diary : List Frame) (reference : Reference) (checksum : Checksum)
    (bytes : List ℕ) (step : Step) → StepsAtPut keys me diary reference checksum bytes step → IsFine step.reply
put_fine keys me diary reference checksum bytes step (inl (unknown, only)) = ap is_failure only.reply_is
put_fine keys me diary reference checksum bytes step (inr (b, is, inl (unlisted, answers))) =
    answer_fine keys me _ step.reply answers.says
put_fine keys me diary reference checksum bytes step (inr (b, is, inr (piece, listed, inl (misfits, answers)))) =
    answer_fine keys me _ step.reply answers.says
put_fine keys me diary reference checksum bytes step (inr (b, is, inr (piece, listed, inr (fits, stored)))) =
    ap is_failure stored.reply_is

finish_fine : (roster : RosterRecord) (keys : Keys) (me : PlatformCode) (diary : List Frame) (reference : Reference)
    (step : Step) → StepsAtFinish roster keys me diary reference step → IsFine step.reply
finish_fine roster keys me diary reference step (inl (unknown, only)) = ap is_failure only.reply_is
finish_fine roster keys me diary reference step (inr (b, is, answers)) = answer_fine keys me _ step.reply answers.says

-- ---- replies, and an operator's questions

heard_fine : (keys : Keys) (diary : List Frame) (bill : Checksum) (bytes : List ℕ) (step : Step)
    → StepsAtAnswer keys diary bill bytes step → IsFine step.reply
heard_fine keys diary bill bytes step (inl (reason, ignored, only)) = ap is_failure only.reply_is
heard_fine keys diary bill bytes step (inr (written, ended, done)) = done_fine bill diary _ _ step done

asked_fine : (diary : List Frame) (bill : Checksum) (bytes : List ℕ) (step : Step)
    → StepsAtRequest diary bill bytes step → IsFine step.reply
asked_fine diary bill bytes step (inl (reason, ignored, only)) = ap is_failure only.reply_is
asked_fine diary bill bytes step (inr (sent, upload, done)) = done_fine bill diary _ _ step done

start_reply_fine : (keys : Keys) (diary : List Frame) (bill : Checksum) (bytes : List ℕ) (step : Step)
    → StepsAtStartReply keys diary bill bytes step → IsFine step.reply
start_reply_fine keys diary bill bytes step (inl (begins, request)) = asked_fine diary bill bytes step request
start_reply_fine keys diary bill bytes step (inr (begins, answer)) = heard_fine keys diary bill bytes step answer

resend_fine : (diary : List Frame) (bill : Checksum) (step : Step) → StepsAtResend diary bill step → IsFine step.reply
resend_fine diary bill step (inl (nothing, only)) = ap is_failure only.reply_is
resend_fine diary bill step (inr (sent, resent, done)) = done_fine bill diary _ _ step done

-- ---- every request

pub step_fine : (roster : RosterRecord) (keys : Keys) (me : PlatformCode) (diary : List Frame) (now : Moment)
    (request : RequestRecord) (step : Step) → Steps roster keys me diary now request step
    → is_failure step.reply ≡ false
step_fine roster keys me diary now (commands party command) step steps =
    command_fine roster keys me diary now party command step steps
step_fine roster keys me diary now (starts body) step steps = start_fine roster keys me diary body step steps
step_fine roster keys me diary now (puts reference checksum bytes) step steps =
    put_fine keys me diary reference checksum bytes step steps
step_fine roster keys me diary now (finishes reference) step steps =
    finish_fine roster keys me diary reference step steps
step_fine roster keys me diary now (start_replies bill bytes) step steps =
    start_reply_fine keys diary bill bytes step steps
step_fine roster keys me diary now (finish_replies bill bytes) step steps = heard_fine keys diary bill bytes step steps
step_fine roster keys me diary now (resends bill) step steps = resend_fine diary bill step steps
step_fine roster keys me diary now (asks bill) step steps = done_fine bill diary _ _ step steps
