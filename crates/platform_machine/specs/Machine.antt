-- One platform as a machine: what each request comes to, by its shard's diary. Only the
-- signatures of texts that are made are free.
--
-- | Request      | Frame                                                   | Reply and messages                       |
-- |--------------|---------------------------------------------------------|------------------------------------------|
-- | Command      | by the plan: none, one record, or Parted                | a refusal; or Done, after Parted a Start |
-- | Start        | none; Declined; Begun; Begun and Taken; no Begun twice  | Started, or a signed answer              |
-- | Put          | Stored, unless the bytes are there                      | UnknownReference, INCD, Stored           |
-- | Finish       | as a Start on the last Begun, without a Begun           | UnknownReference, or a signed answer     |
-- | StartReply   | none where it asks for documents; else as a FinishReply | Ignored; or Done, with Puts and a Finish |
-- | FinishReply  | Settled; Regained; or none                              | Ignored; or Done                         |
-- | Resend       | none                                                    | NotParting; or Done, with the Start      |
-- | Ask          | none                                                    | Done                                     |
use Rattle.std.specs.Prelude.{◌⊎◌, List, [], None}
use Rattle.ebl_base.specs.declared.checksum.Checksum.{Checksum}
use Rattle.ebl_base.specs.declared.moment.Moment.{Moment}
use Rattle.ebl_base.specs.declared.platform_code.PlatformCode.{PlatformCode}
use Rattle.signed_envelope.specs.KeyRing.{Keys}
use Rattle.party_roster.specs.RosterRecord.{RosterRecord}
use Rattle.platform_requests.specs.Request.{RequestRecord, commands, starts, puts, finishes, start_replies, finish_replies, resends, asks}
use Rattle.platform_requests.specs.declared.message.Message.{Message}
use Rattle.platform_requests.specs.declared.reply.Reply.TheVariants.{NotParting}
use Rattle.bill_diary.specs.declared.record.Record.{Record}
use Rattle.bill_diary.specs.declared.frame.Frame.{Frame}
use Rattle.bill_diary.specs.History.{history, newest_first}
use Rattle.bill_diary.specs.Place.{place_of, tag_of}
use Rattle.transfer_judge.specs.Plan.{HasAttempts}
use Rattle.transfer_judge.specs.PlannedTexts.{IsHandedIn}
use Rattle.platform_machine.specs.declared.step.Step.{Step}
use Rattle.platform_machine.specs.Commanding.{StepsAtCommand}
use Rattle.platform_machine.specs.Hearing.{StepsAtFinishReply, StepsAtStartReply}
use Rattle.platform_machine.specs.Receiving.{StepsAtFinish, StepsAtPut, StepsAtStart}
use Rattle.platform_machine.specs.Step.{OnlyReplies, IsDone}
use Rattle.platform_machine.specs.Transfer.{TransferRecord, IsUnderWay, NothingUnderWay, SendsStart}

-- ---- an operator's questions

-- the start of what is under way, made again from the same texts
abbrev pub IsResent : List Record → Checksum → List Message → Type 0
IsResent h bill sent = (t : TransferRecord) × IsUnderWay bill h t × SendsStart bill h t.chain t.manifest_text t.to sent

-- nothing is under way; or its start is sent again
abbrev pub StepsAtResend : List Frame → Checksum → Step → Type 0
StepsAtResend diary bill step =
    (NothingUnderWay (history bill diary) × OnlyReplies (NotParting (tag_of (place_of (history bill diary)))) step)
    ⊎ ((sent : List Message) × IsResent (history bill diary) bill sent × IsDone bill diary None sent step)

-- how the bill is
abbrev pub StepsAtAsk : List Frame → Checksum → Step → Type 0
StepsAtAsk diary bill step = IsDone bill diary None [] step

-- ---- all requests

-- what a platform may be asked at a moment: a command has its form, and so have its party and the moment, the document
-- that it signs nests at most 126 deep, and one attempt more of its bill can be counted; every other request may be any
-- bytes, at any moment
abbrev pub MayBeAsked : List Frame → Moment → RequestRecord → Type 0
MayBeAsked diary now (commands party command) =
    IsHandedIn party command now × HasAttempts command (newest_first diary)
MayBeAsked diary now (starts body) = Unit {0}
MayBeAsked diary now (puts reference checksum bytes) = Unit {0}
MayBeAsked diary now (finishes reference) = Unit {0}
MayBeAsked diary now (start_replies bill bytes) = Unit {0}
MayBeAsked diary now (finish_replies bill bytes) = Unit {0}
MayBeAsked diary now (resends bill) = Unit {0}
MayBeAsked diary now (asks bill) = Unit {0}

-- what a request comes to at a moment
abbrev pub Steps : RosterRecord → Keys → PlatformCode → List Frame → Moment → RequestRecord → Step → Type 0
Steps roster keys me diary now (commands party command) step =
    StepsAtCommand roster keys me diary now party command step
Steps roster keys me diary now (starts body) step = StepsAtStart roster keys me diary body step
Steps roster keys me diary now (puts reference checksum bytes) step =
    StepsAtPut keys me diary reference checksum bytes step
Steps roster keys me diary now (finishes reference) step = StepsAtFinish roster keys me diary reference step
Steps roster keys me diary now (start_replies bill bytes) step = StepsAtStartReply keys diary bill bytes step
Steps roster keys me diary now (finish_replies bill bytes) step = StepsAtFinishReply keys diary bill bytes step
Steps roster keys me diary now (resends bill) step = StepsAtResend diary bill step
Steps roster keys me diary now (asks bill) step = StepsAtAsk diary bill step
