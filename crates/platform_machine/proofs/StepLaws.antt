-- What other platforms' messages write keeps a legal diary legal, and so does what an operator asks.
use Rattle.std.proofs.Common.{◌≡◌, ℕ, List, inl, inr, Option, Some, None, sym, subst}
use Rattle.std.proofs.lemmas.List.{append-nil}
use Rattle.ebl_base.specs.declared.checksum.Checksum.{Checksum}
use Rattle.ebl_base.specs.declared.platform_code.PlatformCode.{PlatformCode}
use Rattle.ebl_base.specs.declared.reference.Reference.{Reference}
use Rattle.signed_envelope.specs.KeyRing.{Keys}
use Rattle.party_roster.specs.RosterRecord.{RosterRecord}
use Rattle.bill_diary.specs.declared.frame.Frame.{Frame}
use Rattle.transfer_judge.specs.Legal.{IsLegal}
use Rattle.transfer_judge.proofs.FrameLemmas.{one_more_is_legal}
use Rattle.platform_machine.specs.declared.step.Step.{Step}
use Rattle.platform_machine.specs.Step.{with_frame}
use Rattle.platform_machine.specs.Receiving.{StepsAtFinish, StepsAtPut, StepsAtStart}
use Rattle.platform_machine.specs.Machine.{StepsAtAsk, StepsAtResend}
use Rattle.platform_machine.specs.Hearing.{StepsAtAnswer, StepsAtRequest, StepsAtStartReply}
use Rattle.platform_machine.proofs.BegunLemmas.{AreBodiesReadBack}
use Rattle.platform_machine.proofs.JudgedFrames.{MayFollowIfAny, start_may}
use Rattle.platform_machine.proofs.StepFrames.{ended_may, finish_may, put_may}

-- a diary with a frame that may follow it, or with none
pub legal_with : (roster : RosterRecord) (keys : Keys) (me : PlatformCode) (diary : List Frame) (frame : Option Frame)
    → IsLegal roster keys me diary → MayFollowIfAny roster keys me diary frame
    → IsLegal roster keys me (with_frame diary frame)
legal_with roster keys me diary None legal may = subst (IsLegal roster keys me) (sym (append-nil diary)) legal
legal_with roster keys me diary (Some frame) legal may = one_more_is_legal roster keys me diary frame legal may

-- a step that writes nothing
pub nothing_may : (roster : RosterRecord) (keys : Keys) (me : PlatformCode) (diary : List Frame) (frame : Option Frame)
    → frame ≡ None → MayFollowIfAny roster keys me diary frame
nothing_may roster keys me diary frame none = subst (MayFollowIfAny roster keys me diary) (sym none) tt

pub start_keeps : (roster : RosterRecord) (keys : Keys) (me : PlatformCode) (diary : List Frame) (body : List ℕ)
    (step : Step) → AreBodiesReadBack → IsLegal roster keys me diary
    → StepsAtStart roster keys me diary body step → IsLegal roster keys me (with_frame diary step.frame)
start_keeps roster keys me diary body step back legal (inl (refusal, refused, answers)) =
    legal_with roster keys me diary step.frame legal (nothing_may roster keys me diary step.frame answers.frame_is)
start_keeps roster keys me diary body step back legal (inr (s, shows, judged)) =
    legal_with roster keys me diary step.frame legal
    (subst (MayFollowIfAny roster keys me diary) (sym judged.frame_is)
    (start_may roster keys me diary body s back shows legal))

pub put_keeps : (roster : RosterRecord) (keys : Keys) (me : PlatformCode) (diary : List Frame) (reference : Reference)
    (checksum : Checksum) (bytes : List ℕ) (step : Step) → IsLegal roster keys me diary
    → StepsAtPut keys me diary reference checksum bytes step → IsLegal roster keys me (with_frame diary step.frame)
put_keeps roster keys me diary reference checksum bytes step legal (inl (unknown, only)) =
    legal_with roster keys me diary step.frame legal (nothing_may roster keys me diary step.frame only.nothing_written)
put_keeps roster keys me diary reference checksum bytes step legal (inr (b, is, inl (unlisted, answers))) =
    legal_with roster keys me diary step.frame legal (nothing_may roster keys me diary step.frame answers.frame_is)
put_keeps roster keys me diary reference checksum bytes step legal (inr (b, is, inr (piece, listed, inl (misfits, answers)))) =
    legal_with roster keys me diary step.frame legal (nothing_may roster keys me diary step.frame answers.frame_is)
put_keeps roster keys me diary reference checksum bytes step legal (inr (b, is, inr (piece, listed, inr (fits, stored)))) =
    legal_with roster keys me diary step.frame legal
    (subst (MayFollowIfAny roster keys me diary) (sym stored.frame_is)
    (put_may roster keys me diary reference b checksum bytes piece legal is listed fits))

pub finish_keeps : (roster : RosterRecord) (keys : Keys) (me : PlatformCode) (diary : List Frame)
    (reference : Reference) (step : Step) → IsLegal roster keys me diary
    → StepsAtFinish roster keys me diary reference step → IsLegal roster keys me (with_frame diary step.frame)
finish_keeps roster keys me diary reference step legal (inl (unknown, only)) =
    legal_with roster keys me diary step.frame legal (nothing_may roster keys me diary step.frame only.nothing_written)
finish_keeps roster keys me diary reference step legal (inr (b, is, answers)) =
    legal_with roster keys me diary step.frame legal
    (subst (MayFollowIfAny roster keys me diary) (sym answers.frame_is)
    (finish_may roster keys me diary reference b legal is))

pub answer_keeps : (roster : RosterRecord) (keys : Keys) (me : PlatformCode) (diary : List Frame) (bill : Checksum)
    (bytes : List ℕ) (step : Step) → IsLegal roster keys me diary → StepsAtAnswer keys diary bill bytes step
    → IsLegal roster keys me (with_frame diary step.frame)
answer_keeps roster keys me diary bill bytes step legal (inl (reason, ignored, only)) =
    legal_with roster keys me diary step.frame legal (nothing_may roster keys me diary step.frame only.nothing_written)
answer_keeps roster keys me diary bill bytes step legal (inr (written, ended, done)) =
    legal_with roster keys me diary step.frame legal
    (subst (MayFollowIfAny roster keys me diary) (sym done.frame_is)
    (ended_may roster keys me diary bill bytes written ended))

request_keeps : (roster : RosterRecord) (keys : Keys) (me : PlatformCode) (diary : List Frame) (bill : Checksum)
    (bytes : List ℕ) (step : Step) → IsLegal roster keys me diary → StepsAtRequest diary bill bytes step
    → IsLegal roster keys me (with_frame diary step.frame)
request_keeps roster keys me diary bill bytes step legal (inl (reason, ignored, only)) =
    legal_with roster keys me diary step.frame legal (nothing_may roster keys me diary step.frame only.nothing_written)
request_keeps roster keys me diary bill bytes step legal (inr (sent, upload, done)) =
    legal_with roster keys me diary step.frame legal (nothing_may roster keys me diary step.frame done.frame_is)

pub start_reply_keeps : (roster : RosterRecord) (keys : Keys) (me : PlatformCode) (diary : List Frame)
    (bill : Checksum) (bytes : List ℕ) (step : Step) → IsLegal roster keys me diary
    → StepsAtStartReply keys diary bill bytes step → IsLegal roster keys me (with_frame diary step.frame)
start_reply_keeps roster keys me diary bill bytes step legal (inl (begins, request)) =
    request_keeps roster keys me diary bill bytes step legal request
start_reply_keeps roster keys me diary bill bytes step legal (inr (begins, answer)) =
    answer_keeps roster keys me diary bill bytes step legal answer

pub resend_keeps : (roster : RosterRecord) (keys : Keys) (me : PlatformCode) (diary : List Frame) (bill : Checksum)
    (step : Step) → IsLegal roster keys me diary → StepsAtResend diary bill step
    → IsLegal roster keys me (with_frame diary step.frame)
resend_keeps roster keys me diary bill step legal (inl (nothing, only)) =
    legal_with roster keys me diary step.frame legal (nothing_may roster keys me diary step.frame only.nothing_written)
resend_keeps roster keys me diary bill step legal (inr (sent, resent, done)) =
    legal_with roster keys me diary step.frame legal (nothing_may roster keys me diary step.frame done.frame_is)

pub ask_keeps : (roster : RosterRecord) (keys : Keys) (me : PlatformCode) (diary : List Frame) (bill : Checksum)
    (step : Step) → IsLegal roster keys me diary → StepsAtAsk diary bill step
    → IsLegal roster keys me (with_frame diary step.frame)
ask_keeps roster keys me diary bill step legal done =
    legal_with roster keys me diary step.frame legal (nothing_may roster keys me diary step.frame done.frame_is)
