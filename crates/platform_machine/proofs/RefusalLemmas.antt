-- A step that replies with a refusal writes and sends nothing.
use Rattle.std.proofs.Common.{◌≡◌, inl, inr, ℕ, true, false, List, [], Option, None, Ok, Err, ap, sym, ◌∙◌}
use Rattle.ebl_base.specs.declared.checksum.Checksum.{Checksum}
use Rattle.ebl_base.specs.declared.moment.Moment.{Moment}
use Rattle.ebl_base.specs.declared.platform_code.PlatformCode.{PlatformCode}
use Rattle.ebl_base.specs.declared.reference.Reference.{Reference}
use Rattle.holder_commands.specs.Command.{CommandRecord, signs, acts, attaches}
use Rattle.signed_envelope.specs.KeyRing.{Keys}
use Rattle.party_roster.specs.RosterRecord.{RosterRecord}
use Rattle.pint_responses.specs.declared.response.Response.{Response}
use Rattle.platform_requests.specs.Request.{RequestRecord, commands, starts, puts, finishes, start_replies, finish_replies, resends, asks}
use Rattle.platform_requests.specs.declared.message.Message.{Message}
use Rattle.platform_requests.specs.declared.reply.Reply.{Reply}
use Rattle.bill_diary.specs.declared.frame.Frame.{Frame}
use Rattle.bill_diary.specs.History.{newest_first}
use Rattle.transfer_judge.specs.Plan.{Plan, plan_of}
use Rattle.transfer_judge.specs.declared.planned.Planned.TheVariants.{Nothing, Add, Part}
use Rattle.transfer_judge.specs.declared.judgement.Judgement.{Judgement}
use Rattle.transfer_judge.specs.declared.judgement.Judgement.TheVariants as judgements
use Rattle.platform_machine.specs.declared.step.Step.{Step}
use Rattle.platform_machine.specs.declared.subject.Subject.{Subject}
use Rattle.platform_machine.specs.Answer.{IsAnswer, subject_of}
use Rattle.platform_machine.specs.Commanding.{FollowsPlan, IsThere, reply_to}
use Rattle.platform_machine.specs.Complete.{is_refusal}
use Rattle.platform_machine.specs.Hearing.{StepsAtAnswer, StepsAtRequest, StepsAtStartReply}
use Rattle.platform_machine.specs.Machine.{Steps, StepsAtResend}
use Rattle.platform_machine.specs.Receiving.{SaysAtStart, StepsAtFinish, StepsAtPut, StepsAtStart, judgement_at_start}
use Rattle.platform_machine.specs.Step.{IsDone, OnlyReplies}

-- a reply that is a refusal leaves everything as it was
abbrev IsMeek : Step → Type 0
IsMeek step = is_refusal step.reply ≡ true → (step.frame ≡ None) × (step.messages ≡ [])

-- ---- each kind of step

no_refusal : (step : Step) → is_refusal step.reply ≡ false → IsMeek step
no_refusal step is refused = let two : false ≡ true = sym is ∙ refused in absurd (cc two)

only_meek : (reply : Reply) (step : Step) → OnlyReplies reply step → IsMeek step
only_meek reply step only refused = (only.nothing_written, only.nothing_sent)

answer_meek : (keys : Keys) (me : PlatformCode) (response : Response) (step : Step)
    → IsAnswer keys me response step.reply → IsMeek step
answer_meek keys me response step says = no_refusal step (ap is_refusal says.reply_is)

done_meek : (bill : Checksum) (diary : List Frame) (frame : Option Frame) (sent : List Message) (step : Step)
    → IsDone bill diary frame sent step → IsMeek step
done_meek bill diary frame sent step done = no_refusal step (ap is_refusal done.reply_is)

-- ---- a command

there_meek : (diary : List Frame) (command : CommandRecord) (step : Step) → IsThere diary command step → IsMeek step
there_meek diary (signs document) step there = absurd there
there_meek diary (acts bill kind recipient) step there = absurd there
there_meek diary (attaches bill name media bytes) step there = done_meek bill diary None _ step there

plan_meek : (keys : Keys) (me : PlatformCode) (diary : List Frame) (command : CommandRecord) (plan : Plan)
    (step : Step) → FollowsPlan keys me diary command plan step → IsMeek step
plan_meek keys me diary command (Err refusal) step only = only_meek (reply_to refusal) step only
plan_meek keys me diary command (Ok Nothing) step there = there_meek diary command step there
plan_meek keys me diary command (Ok (Add r)) step done = done_meek _ diary _ _ step done
plan_meek keys me diary command (Ok (Part entry documents to)) step parted =
    done_meek _ diary _ _ step parted.parts.done

-- ---- what other platforms send

judged_meek : (keys : Keys) (me : PlatformCode) (subject : Subject) (judgement : Judgement) (step : Step)
    → SaysAtStart keys me subject judgement step.reply → IsMeek step
judged_meek keys me subject judgements.Elsewhere step says = answer_meek keys me _ step says
judged_meek keys me subject judgements.Duplicate step says = answer_meek keys me _ step says
judged_meek keys me subject (judgements.Declined code reason evidence) step says = answer_meek keys me _ step says
judged_meek keys me subject (judgements.Parts evidence) step says = answer_meek keys me _ step says
judged_meek keys me subject judgements.Unknown step says = answer_meek keys me _ step says
judged_meek keys me subject (judgements.Missing checksums) step says = no_refusal step (ap is_refusal says)
judged_meek keys me subject judgements.Accept step says = answer_meek keys me _ step says

start_meek : (roster : RosterRecord) (keys : Keys) (me : PlatformCode) (diary : List Frame) (body : List ℕ)
    (step : Step) → StepsAtStart roster keys me diary body step → IsMeek step
start_meek roster keys me diary body step (inl (refusal, refused, answers)) = answer_meek keys me _ step answers.says
start_meek roster keys me diary body step (inr (s, shows, judged)) =
    judged_meek keys me (subject_of s.manifest) (judgement_at_start roster me diary s) step judged.says

put_meek : (keys : Keys) (me : PlatformCode) (diary : List Frame) (reference : Reference) (checksum : Checksum)
    (bytes : List ℕ) (step : Step) → StepsAtPut keys me diary reference checksum bytes step → IsMeek step
put_meek keys me diary reference checksum bytes step (inl (unknown, only)) = only_meek _ step only
put_meek keys me diary reference checksum bytes step (inr (b, is, inl (unlisted, answers))) =
    answer_meek keys me _ step answers.says
put_meek keys me diary reference checksum bytes step (inr (b, is, inr (piece, listed, inl (misfits, answers)))) =
    answer_meek keys me _ step answers.says
put_meek keys me diary reference checksum bytes step (inr (b, is, inr (piece, listed, inr (fits, stored)))) =
    no_refusal step (ap is_refusal stored.reply_is)

finish_meek : (roster : RosterRecord) (keys : Keys) (me : PlatformCode) (diary : List Frame) (reference : Reference)
    (step : Step) → StepsAtFinish roster keys me diary reference step → IsMeek step
finish_meek roster keys me diary reference step (inl (unknown, only)) = only_meek _ step only
finish_meek roster keys me diary reference step (inr (b, is, answers)) = answer_meek keys me _ step answers.says

-- ---- replies, and an operator's questions

heard_meek : (keys : Keys) (diary : List Frame) (bill : Checksum) (bytes : List ℕ) (step : Step)
    → StepsAtAnswer keys diary bill bytes step → IsMeek step
heard_meek keys diary bill bytes step (inl (reason, ignored, only)) = only_meek _ step only
heard_meek keys diary bill bytes step (inr (written, ended, done)) = done_meek bill diary _ _ step done

asked_meek : (diary : List Frame) (bill : Checksum) (bytes : List ℕ) (step : Step)
    → StepsAtRequest diary bill bytes step → IsMeek step
asked_meek diary bill bytes step (inl (reason, ignored, only)) = only_meek _ step only
asked_meek diary bill bytes step (inr (sent, upload, done)) = done_meek bill diary _ _ step done

start_reply_meek : (keys : Keys) (diary : List Frame) (bill : Checksum) (bytes : List ℕ) (step : Step)
    → StepsAtStartReply keys diary bill bytes step → IsMeek step
start_reply_meek keys diary bill bytes step (inl (begins, request)) = asked_meek diary bill bytes step request
start_reply_meek keys diary bill bytes step (inr (begins, answer)) = heard_meek keys diary bill bytes step answer

resend_meek : (diary : List Frame) (bill : Checksum) (step : Step) → StepsAtResend diary bill step → IsMeek step
resend_meek diary bill step (inl (nothing, only)) = only_meek _ step only
resend_meek diary bill step (inr (sent, resent, done)) = done_meek bill diary _ _ step done

-- ---- every request

pub refusal_changes_nothing : (roster : RosterRecord) (keys : Keys) (me : PlatformCode) (diary : List Frame)
    (now : Moment) (request : RequestRecord) (step : Step) → Steps roster keys me diary now request step
    → is_refusal step.reply ≡ true → (step.frame ≡ None) × (step.messages ≡ [])
refusal_changes_nothing roster keys me diary now (commands party command) step steps =
    plan_meek keys me diary command (plan_of roster me (newest_first diary) party command now) step steps
refusal_changes_nothing roster keys me diary now (starts body) step steps =
    start_meek roster keys me diary body step steps
refusal_changes_nothing roster keys me diary now (puts reference checksum bytes) step steps =
    put_meek keys me diary reference checksum bytes step steps
refusal_changes_nothing roster keys me diary now (finishes reference) step steps =
    finish_meek roster keys me diary reference step steps
refusal_changes_nothing roster keys me diary now (start_replies bill bytes) step steps =
    start_reply_meek keys diary bill bytes step steps
refusal_changes_nothing roster keys me diary now (finish_replies bill bytes) step steps =
    heard_meek keys diary bill bytes step steps
refusal_changes_nothing roster keys me diary now (resends bill) step steps = resend_meek diary bill step steps
refusal_changes_nothing roster keys me diary now (asks bill) step steps = done_meek bill diary _ _ step steps
