-- Replies to a transfer that is under way from here: they ask for documents, settle it, regain the bill, or are
-- ignored, by the first that applies.
use Rattle.std.specs.Prelude.{◌≡◌, ◌≢◌, ◌⊎◌, ◌==◌, ℕ, List, [], ◌∷◌, Bool, true, false, Option, Some, None, Result, Ok, Err, if◌then◌else◌}
use Rattle.ebl_base.specs.Checksum.{checksum_eq}
use Rattle.ebl_base.specs.declared.checksum.Checksum.{Checksum}
use Rattle.ebl_base.specs.declared.code.Code.{Code}
use Rattle.ebl_base.specs.declared.code.Code.TheVariants as codes
use Rattle.ebl_base.specs.declared.platform_code.PlatformCode.{PlatformCode}
use Rattle.signed_envelope.specs.KeyRing.{Keys}
use Rattle.signed_envelope.specs.declared.fault.BadSigned.{BadSigned}
use Rattle.pint_responses.specs.Sealed.{IsSealed, IsUnsealFault}
use Rattle.pint_responses.specs.declared.fault.ResponseField.{ResponseField}
use Rattle.pint_responses.specs.declared.fault.UnsealFault.TheVariants as faults
use Rattle.pint_responses.specs.declared.response.Response.{Response}
use Rattle.upload_state.specs.Started.{ReadsAs}
use Rattle.upload_state.specs.declared.started.Started.{Started}
use Rattle.platform_requests.specs.declared.ignore_reason.IgnoreReason.{IgnoreReason}
use Rattle.platform_requests.specs.declared.ignore_reason.IgnoreReason.TheVariants as ignored
use Rattle.platform_requests.specs.declared.message.Message.{Message}
use Rattle.platform_requests.specs.declared.reply.Reply.TheVariants.{Ignored}
use Rattle.bill_diary.specs.declared.record.Record.{Record}
use Rattle.bill_diary.specs.declared.record.Record.TheVariants as records
use Rattle.bill_diary.specs.declared.frame.Frame.{Frame}
use Rattle.bill_diary.specs.declared.frame.Frame.TheVariants.{One}
use Rattle.bill_diary.specs.History.{history}
use Rattle.platform_machine.specs.declared.ending.Ending.{Ending}
use Rattle.platform_machine.specs.declared.ending.Ending.TheVariants as endings
use Rattle.platform_machine.specs.declared.step.Step.{Step}
use Rattle.platform_machine.specs.Step.{OnlyReplies, IsDone}
use Rattle.platform_machine.specs.Transfer.{TransferRecord, IsUnderWay, NothingUnderWay, reference_at, uploads_of}

-- ---- a signed answer

-- whether a response is for this entry
abbrev pub is_for : Checksum → Option Checksum → Bool
is_for entry None = false
is_for entry (Some last) = checksum_eq last entry

-- RECE and DUPE: it was received; else an answer that stands: it is declined; every other answer passes
abbrev pub ending_by : Code → Bool → Result Ending IgnoreReason
ending_by codes.Received standing = Ok endings.Received
ending_by codes.Duplicate standing = Ok endings.Received
ending_by code standing = if standing then Ok endings.Declined else Err ignored.Passing

-- what a response says of this entry
abbrev pub ending_in : Checksum → Response → Result Ending IgnoreReason
ending_in entry r = if is_for entry r.last then ending_by r.code r.standing else Err ignored.OtherEntry

-- the bytes are a response of the platform to which it goes, by which the transfer ends so
abbrev pub EndsBy : Keys → TransferRecord → List ℕ → Ending → Type 0
EndsBy keys t bytes ending = (r : Response) × IsSealed keys bytes t.to r × (ending_in t.entry.name r ≡ Ok ending)

-- the bytes aren't signed by that platform, or they are no response
abbrev pub IsNoAnswer : Keys → PlatformCode → List ℕ → IgnoreReason → Type 0
IsNoAnswer keys from bytes ignored.Signature = (why : BadSigned) × IsUnsealFault keys bytes from (faults.Signature why)
IsNoAnswer keys from bytes ignored.Form = (field : ResponseField) × IsUnsealFault keys bytes from (faults.Form field)
IsNoAnswer keys from bytes reason = ⊥

-- why the bytes don't end the transfer: they are no answer; or for what the answer says
abbrev pub IsPassedOver : Keys → TransferRecord → List ℕ → IgnoreReason → Type 0
IsPassedOver keys t bytes reason =
    IsNoAnswer keys t.to bytes reason
    ⊎ ((r : Response) × IsSealed keys bytes t.to r × (ending_in t.entry.name r ≡ Err reason))

-- why an answer is ignored: nothing is under way, or it doesn't end what is
abbrev pub IsAnswerIgnored : Keys → List Record → Checksum → List ℕ → IgnoreReason → Type 0
IsAnswerIgnored keys h bill bytes reason =
    ((reason ≡ ignored.NotParting) × NothingUnderWay h)
    ⊎ ((t : TransferRecord) × IsUnderWay bill h t × IsPassedOver keys t bytes reason)

-- what is written of an ending
abbrev pub record_for : Checksum → Checksum → Ending → Record
record_for bill entry endings.Received = records.Settled bill entry
record_for bill entry endings.Declined = records.Regained bill entry

-- what is under way ends by an answer, and this is written
abbrev pub IsEnded : Keys → List Record → Checksum → List ℕ → Record → Type 0
IsEnded keys h bill bytes written =
    (t : TransferRecord) × (ending : Ending) × IsUnderWay bill h t × EndsBy keys t bytes ending
    × (written ≡ record_for bill t.entry.name ending)

-- it is ignored, or the transfer ends by it
abbrev pub StepsAtAnswer : Keys → List Frame → Checksum → List ℕ → Step → Type 0
StepsAtAnswer keys diary bill bytes step =
    ((reason : IgnoreReason) × IsAnswerIgnored keys (history bill diary) bill bytes reason
    × OnlyReplies (Ignored reason) step)
    ⊎ ((written : Record) × IsEnded keys (history bill diary) bill bytes written
    × IsDone bill diary (Some (One written)) [] step)

-- ---- a reply that asks for documents

-- the bytes begin as a JSON object does
abbrev pub begins_object : List ℕ → Bool
begins_object [] = false
begins_object (byte ∷ bytes) = byte == 123

-- why it is ignored: nothing is under way; or it is malformed; or it is for another transfer
abbrev pub IsRequestIgnored : List Record → Checksum → List ℕ → IgnoreReason → Type 0
IsRequestIgnored h bill bytes reason =
    ((reason ≡ ignored.NotParting) × NothingUnderWay h)
    ⊎ (((reason ≡ ignored.Form) × ((t : TransferRecord) × IsUnderWay bill h t)
    × ((started : Started) → ¬ ReadsAs bytes started))
    ⊎ ((reason ≡ ignored.Reference) × ((t : TransferRecord) × (started : Started) × IsUnderWay bill h t
    × ReadsAs bytes started × (started.reference ≢ reference_at bill t))))

-- the documents of what is under way that it asks for, and the finish
abbrev pub IsUpload : List Record → Checksum → List ℕ → List Message → Type 0
IsUpload h bill bytes sent =
    (t : TransferRecord) × (started : Started) × IsUnderWay bill h t × ReadsAs bytes started
    × (started.reference ≡ reference_at bill t) × (sent ≡ uploads_of bill h t started.missing)

-- it is ignored, or these are sent
abbrev pub StepsAtRequest : List Frame → Checksum → List ℕ → Step → Type 0
StepsAtRequest diary bill bytes step =
    ((reason : IgnoreReason) × IsRequestIgnored (history bill diary) bill bytes reason
    × OnlyReplies (Ignored reason) step)
    ⊎ ((sent : List Message) × IsUpload (history bill diary) bill bytes sent × IsDone bill diary None sent step)

-- ---- replies

-- a reply to the start asks for documents where it begins as an object, and else is an answer
abbrev pub StepsAtStartReply : Keys → List Frame → Checksum → List ℕ → Step → Type 0
StepsAtStartReply keys diary bill bytes step =
    ((begins_object bytes ≡ true) × StepsAtRequest diary bill bytes step)
    ⊎ ((begins_object bytes ≡ false) × StepsAtAnswer keys diary bill bytes step)

-- a reply to a document or the finish is an answer
abbrev pub StepsAtFinishReply : Keys → List Frame → Checksum → List ℕ → Step → Type 0
StepsAtFinishReply keys diary bill bytes step = StepsAtAnswer keys diary bill bytes step
