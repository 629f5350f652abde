-- What a shard's step replies can be written: the texts of evidence in an answer are compact.
use Rattle.std.proofs.Common.{◌≡◌, inl, inr, ℕ, true, false, List, Option, None, Ok, Err, sym, subst}
use Rattle.ebl_base.specs.declared.checksum.Checksum.{Checksum}
use Rattle.ebl_base.specs.declared.moment.Moment.{Moment}
use Rattle.ebl_base.specs.declared.platform_code.PlatformCode.{PlatformCode}
use Rattle.ebl_base.specs.declared.reference.Reference.{Reference}
use Rattle.holder_commands.specs.Command.{CommandRecord, signs, acts, attaches}
use Rattle.signed_envelope.specs.KeyRing.{Keys}
use Rattle.party_roster.specs.RosterRecord.{RosterRecord}
use Rattle.pint_responses.specs.Response.{IsOptionalEvidence, IsSealable}
use Rattle.pint_responses.specs.declared.response.Response.{Response}
use Rattle.platform_requests.specs.Request.{RequestRecord, commands, starts, puts, finishes, start_replies, finish_replies, resends, asks}
use Rattle.platform_requests.specs.declared.message.Message.{Message}
use Rattle.platform_requests.specs.declared.reply.Reply.{Reply}
use Rattle.platform_requests.specs.declared.reply.Reply.TheVariants as replies
use Rattle.bill_diary.specs.Sound.{IsSound}
use Rattle.bill_diary.specs.declared.frame.Frame.{Frame}
use Rattle.bill_diary.specs.History.{newest_first}
use Rattle.transfer_judge.specs.Plan.{Plan, plan_of}
use Rattle.transfer_judge.specs.declared.planned.Planned.TheVariants.{Nothing, Add, Part}
use Rattle.transfer_judge.specs.declared.planned.PlanRefusal.{PlanRefusal}
use Rattle.transfer_judge.specs.declared.planned.PlanRefusal.TheVariants as refusals
use Rattle.transfer_judge.specs.declared.judgement.Judgement.{Judgement}
use Rattle.transfer_judge.specs.declared.judgement.Judgement.TheVariants as judgements
use Rattle.platform_machine.specs.declared.step.Step.{Step}
use Rattle.platform_machine.specs.declared.subject.Subject.{Subject}
use Rattle.platform_machine.specs.Answer.{IsAnswer, subject_of}
use Rattle.platform_machine.specs.Commanding.{FollowsPlan, IsThere, reply_to}
use Rattle.platform_machine.specs.Complete.{is_failure}
use Rattle.platform_machine.specs.Hearing.{StepsAtAnswer, StepsAtRequest, StepsAtStartReply}
use Rattle.platform_machine.specs.Judged.{response_for}
use Rattle.platform_machine.specs.Machine.{Steps, StepsAtResend}
use Rattle.platform_machine.specs.Receiving.{SaysAtStart, StepsAtFinish, StepsAtPut, StepsAtStart, judgement_at_finish, judgement_at_start}
use Rattle.platform_machine.specs.Step.{IsDone}
use Rattle.platform_machine.proofs.SealLemmas.{sealable_at_finish, sealable_at_start}
use Rattle.answer_lines.specs.Lines.{IsWritable}
use Rattle.answer_lines.specs.declared.answer.Answer.TheVariants.{Replied}

-- the reply can be written
abbrev IsFine : Reply → Type 0
IsFine reply = IsWritable (Replied reply)

-- ---- each kind of step

by_reply : (a b : Reply) → a ≡ b → IsFine b → IsFine a
by_reply a b is fine = subst IsFine (sym is) fine

answer_fine : (keys : Keys) (me : PlatformCode) (response : Response) (reply : Reply)
    → IsOptionalEvidence response.evidence.own → IsOptionalEvidence response.evidence.theirs
    → IsAnswer keys me response reply → IsFine reply
answer_fine keys me response reply own theirs says =
    by_reply reply (replies.Answer response (record { 0 = says.text })) says.reply_is (own, theirs)

done_fine : (bill : Checksum) (diary : List Frame) (frame : Option Frame) (sent : List Message) (step : Step)
    → IsDone bill diary frame sent step → IsFine step.reply
done_fine bill diary frame sent step done = by_reply step.reply (replies.Done _) done.reply_is tt

-- ---- a command

refusal_fine : (refusal : PlanRefusal) → IsFine (reply_to refusal)
refusal_fine refusals.NotOurs = tt
refusal_fine (refusals.Document fault) = tt
refusal_fine refusals.NotCarrier = tt
refusal_fine refusals.KnownBill = tt
refusal_fine (refusals.NotHere place) = tt
refusal_fine (refusals.NoParty party) = tt
refusal_fine (refusals.NotAllowed rule) = tt
refusal_fine (refusals.Limit limit) = tt
refusal_fine refusals.NoMemory = tt

there_fine : (diary : List Frame) (command : CommandRecord) (step : Step) → IsThere diary command step
    → IsFine step.reply
there_fine diary (signs document) step there = absurd there
there_fine diary (acts bill kind recipient) step there = absurd there
there_fine diary (attaches bill name media bytes) step there = done_fine bill diary None _ step there

plan_fine : (keys : Keys) (me : PlatformCode) (diary : List Frame) (command : CommandRecord) (step : Step)
    (plan : Plan) → FollowsPlan keys me diary command plan step → IsFine step.reply
plan_fine keys me diary command step (Err refusal) only =
    by_reply step.reply (reply_to refusal) only.reply_is (refusal_fine refusal)
plan_fine keys me diary command step (Ok Nothing) there = there_fine diary command step there
plan_fine keys me diary command step (Ok (Add r)) done = done_fine _ diary _ _ step done
plan_fine keys me diary command step (Ok (Part entry documents to)) parted = done_fine _ diary _ _ step parted.parts.done

-- ---- what other platforms send

judged_fine : (keys : Keys) (me : PlatformCode) (subject : Subject) (judgement : Judgement) (reply : Reply)
    → IsSealable (response_for subject judgement) → SaysAtStart keys me subject judgement reply → IsFine reply
judged_fine keys me subject judgements.Elsewhere reply can says =
    answer_fine keys me (response_for subject judgements.Elsewhere) reply can.own can.theirs says
judged_fine keys me subject judgements.Duplicate reply can says =
    answer_fine keys me (response_for subject judgements.Duplicate) reply can.own can.theirs says
judged_fine keys me subject (judgements.Declined code reason evidence) reply can says =
    answer_fine keys me (response_for subject (judgements.Declined code reason evidence)) reply can.own can.theirs says
judged_fine keys me subject (judgements.Parts evidence) reply can says =
    answer_fine keys me (response_for subject (judgements.Parts evidence)) reply can.own can.theirs says
judged_fine keys me subject judgements.Unknown reply can says =
    answer_fine keys me (response_for subject judgements.Unknown) reply can.own can.theirs says
judged_fine keys me subject (judgements.Missing checksums) reply can says =
    by_reply reply (replies.Started _ checksums) says tt
judged_fine keys me subject judgements.Accept reply can says =
    answer_fine keys me (response_for subject judgements.Accept) reply can.own can.theirs says

start_fine : (roster : RosterRecord) (keys : Keys) (me : PlatformCode) (diary : List Frame) (body : List ℕ)
    (step : Step) → IsSound me diary → StepsAtStart roster keys me diary body step → IsFine step.reply
start_fine roster keys me diary body step sound (inl (refusal, refused, answers)) =
    answer_fine keys me _ step.reply tt tt answers.says
start_fine roster keys me diary body step sound (inr (s, shows, judged)) =
    judged_fine keys me (subject_of s.manifest) (judgement_at_start roster me diary s) step.reply
    (sealable_at_start roster keys me diary body s sound shows) judged.says

put_fine : (keys : Keys) (me : PlatformCode) (diary : List Frame) (reference : Reference) (checksum : Checksum)
    (bytes : List ℕ) (step : Step) → StepsAtPut keys me diary reference checksum bytes step → IsFine step.reply
put_fine keys me diary reference checksum bytes step (inl (unknown, only)) =
    by_reply step.reply replies.UnknownReference only.reply_is tt
put_fine keys me diary reference checksum bytes step (inr (b, is, inl (unlisted, answers))) =
    answer_fine keys me _ step.reply tt tt answers.says
put_fine keys me diary reference checksum bytes step (inr (b, is, inr (piece, listed, inl (misfits, answers)))) =
    answer_fine keys me _ step.reply tt tt answers.says
put_fine keys me diary reference checksum bytes step (inr (b, is, inr (piece, listed, inr (fits, stored)))) =
    by_reply step.reply replies.Stored stored.reply_is tt

finish_fine : (roster : RosterRecord) (keys : Keys) (me : PlatformCode) (diary : List Frame) (reference : Reference)
    (step : Step) → IsSound me diary → StepsAtFinish roster keys me diary reference step → IsFine step.reply
finish_fine roster keys me diary reference step sound (inl (unknown, only)) =
    by_reply step.reply replies.UnknownReference only.reply_is tt
finish_fine roster keys me diary reference step sound (inr (b, is, answers)) =
    let can = sealable_at_finish roster me diary reference b sound is in
    answer_fine keys me (response_for (subject_of b.manifest) (judgement_at_finish roster me diary b)) step.reply can.own
    can.theirs answers.says

-- ---- replies, and an operator's questions

heard_fine : (keys : Keys) (diary : List Frame) (bill : Checksum) (bytes : List ℕ) (step : Step)
    → StepsAtAnswer keys diary bill bytes step → IsFine step.reply
heard_fine keys diary bill bytes step (inl (reason, ignored, only)) =
    by_reply step.reply (replies.Ignored reason) only.reply_is tt
heard_fine keys diary bill bytes step (inr (written, ended, done)) = done_fine bill diary _ _ step done

asked_fine : (diary : List Frame) (bill : Checksum) (bytes : List ℕ) (step : Step)
    → StepsAtRequest diary bill bytes step → IsFine step.reply
asked_fine diary bill bytes step (inl (reason, ignored, only)) =
    by_reply step.reply (replies.Ignored reason) only.reply_is tt
asked_fine diary bill bytes step (inr (sent, upload, done)) = done_fine bill diary None sent step done

start_reply_fine : (keys : Keys) (diary : List Frame) (bill : Checksum) (bytes : List ℕ) (step : Step)
    → StepsAtStartReply keys diary bill bytes step → IsFine step.reply
start_reply_fine keys diary bill bytes step (inl (begins, request)) = asked_fine diary bill bytes step request
start_reply_fine keys diary bill bytes step (inr (begins, answer)) = heard_fine keys diary bill bytes step answer

resend_fine : (diary : List Frame) (bill : Checksum) (step : Step) → StepsAtResend diary bill step → IsFine step.reply
resend_fine diary bill step (inl (nothing, only)) = by_reply step.reply (replies.NotParting _) only.reply_is tt
resend_fine diary bill step (inr (sent, resent, done)) = done_fine bill diary None sent step done

-- ---- all requests

-- the reply of each step over a sound diary can be written
pub steps_write : (roster : RosterRecord) (keys : Keys) (me : PlatformCode) (diary : List Frame) (now : Moment)
    (request : RequestRecord) (step : Step) → IsSound me diary → Steps roster keys me diary now request step
    → IsFine step.reply
steps_write roster keys me diary now (commands party command) step sound steps =
    plan_fine keys me diary command step (plan_of roster me (newest_first diary) party command now) steps
steps_write roster keys me diary now (starts body) step sound steps = start_fine roster keys me diary body step sound steps
steps_write roster keys me diary now (puts reference checksum bytes) step sound steps =
    put_fine keys me diary reference checksum bytes step steps
steps_write roster keys me diary now (finishes reference) step sound steps =
    finish_fine roster keys me diary reference step sound steps
steps_write roster keys me diary now (start_replies bill bytes) step sound steps =
    start_reply_fine keys diary bill bytes step steps
steps_write roster keys me diary now (finish_replies bill bytes) step sound steps =
    heard_fine keys diary bill bytes step steps
steps_write roster keys me diary now (resends bill) step sound steps = resend_fine diary bill step steps
steps_write roster keys me diary now (asks bill) step sound steps = done_fine bill diary None _ step steps

not_true : {X : Type 0} → false ≡ true → X
not_true no_way = absurd (let e : false ≡ true = no_way in cc)

-- a failure can be written
pub failure_writes : (reply : Reply) → is_failure reply ≡ true → IsFine reply
failure_writes (replies.Done view) no_way = tt
failure_writes (replies.Started reference missing) no_way = tt
failure_writes replies.Stored no_way = tt
failure_writes (replies.Answer response text) no_way = not_true no_way
failure_writes replies.UnknownReference no_way = tt
failure_writes replies.NotOurs no_way = tt
failure_writes (replies.Document fault) no_way = tt
failure_writes replies.NotCarrier no_way = tt
failure_writes replies.KnownBill no_way = tt
failure_writes (replies.NotHere place) no_way = tt
failure_writes (replies.NoParty party) no_way = tt
failure_writes (replies.NotAllowed rule) no_way = tt
failure_writes (replies.Limit limit) no_way = tt
failure_writes (replies.Ignored reason) no_way = tt
failure_writes (replies.NotParting place) no_way = tt
failure_writes replies.Sign is = tt
failure_writes replies.Full is = tt
failure_writes replies.Disk is = tt
failure_writes (replies.Damaged place) is = tt
failure_writes replies.NoMemory is = tt
