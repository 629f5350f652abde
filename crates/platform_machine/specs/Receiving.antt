-- Bills that another platform sends here: the start of a transfer, its documents, its finish.
use Rattle.std.specs.Prelude.{◌≡◌, ◌⊎◌, ℕ, List, [], Bool, false, Option, Some, None, bytes_eq, find, if◌then◌else◌}
use Rattle.std.specs.Option.{option_map_or}
use Rattle.ebl_base.specs.Checksum.{checksum_eq}
use Rattle.ebl_base.specs.declared.checksum.Checksum.{Checksum}
use Rattle.ebl_base.specs.declared.chain.ChainLink.{ChainLink}
use Rattle.ebl_base.specs.declared.platform_code.PlatformCode.{PlatformCode}
use Rattle.ebl_base.specs.declared.reason.Reason.TheVariants as reasons
use Rattle.ebl_base.specs.declared.reference.Reference.{Reference}
use Rattle.canonical_json.specs.Canon.{canon}
use Rattle.signed_envelope.specs.KeyRing.{Keys}
use Rattle.party_roster.specs.RosterRecord.{RosterRecord}
use Rattle.envelope_manifest.specs.Body.{BodyRecord, body_value}
use Rattle.envelope_manifest.specs.declared.manifest.Manifest.{Manifest}
use Rattle.envelope_manifest.specs.declared.piece.Piece.{Piece}
use Rattle.upload_state.specs.Piece.{Fits}
use Rattle.platform_requests.specs.declared.reply.Reply.{Reply}
use Rattle.platform_requests.specs.declared.reply.Reply.TheVariants.{Started, Stored, UnknownReference}
use Rattle.bill_diary.specs.declared.record.Record.{Record}
use Rattle.bill_diary.specs.declared.record.Record.TheVariants as records
use Rattle.bill_diary.specs.declared.frame.Frame.{Frame}
use Rattle.bill_diary.specs.declared.frame.Frame.TheVariants.{One}
use Rattle.bill_diary.specs.History.{history, newest_first}
use Rattle.bill_diary.specs.Pieces.{are_there}
use Rattle.bill_diary.specs.Sound.{last_with_reference}
use Rattle.transfer_judge.specs.Judgement.{judgement_by}
use Rattle.transfer_judge.specs.declared.judgement.Judgement.{Judgement}
use Rattle.transfer_judge.specs.declared.judgement.Judgement.TheVariants.{Missing}
use Rattle.platform_machine.specs.declared.refusal.Refusal.{Refusal}
use Rattle.platform_machine.specs.declared.step.Step.{Step}
use Rattle.platform_machine.specs.declared.subject.Subject.{Subject}
use Rattle.platform_machine.specs.Preface.{ShownRecord, Shows, IsRefused}
use Rattle.platform_machine.specs.Answer.{subject_of, reference_for, refusal_response, document_response, IsAnswer}
use Rattle.platform_machine.specs.Judged.{response_for, frame_for}
use Rattle.platform_machine.specs.Step.{OnlyReplies, Answers}

-- ---- a Begun that is new

-- the canonical text of a body's written form
unfoldable pub body_text : BodyRecord → List ℕ
body_text parts = canon (body_value parts)

-- whether a record is the Begun of this body
abbrev pub has_body : List ℕ → Record → Bool
has_body body (records.Begun bill chain manifest other) = bytes_eq other body
has_body body r = false

-- whether the last Begun with a reference is of this body
abbrev pub is_again : Reference → List ℕ → List Frame → Bool
is_again reference body diary = option_map_or (has_body body) (last_with_reference reference (newest_first diary)) false

-- the Begun of a body
abbrev pub begun_of : ShownRecord → Record
begun_of s = records.Begun s.manifest.bill s.chain s.manifest (body_text s.parts)

-- it is written, unless the last one with its reference is of the same body
abbrev pub news_of : List Frame → ShownRecord → Option Record
news_of diary s =
    if is_again (reference_for (subject_of s.manifest)) (body_text s.parts) diary then None else Some (begun_of s)

-- ---- a start

-- the judgement of what a body shows
abbrev pub judgement_at_start : RosterRecord → PlatformCode → List Frame → ShownRecord → Judgement
judgement_at_start roster me diary s = judgement_by roster me (newest_first diary) s.chain s.manifest

-- what is written of it
abbrev pub frame_at_start : List Frame → ShownRecord → Judgement → Option Frame
frame_at_start diary s judgement = frame_for (news_of diary s) (subject_of s.manifest) judgement

-- how it is said: where documents are missing they are asked for, and else it is answered
abbrev pub SaysAtStart : Keys → PlatformCode → Subject → Judgement → Reply → Type 0
SaysAtStart keys me subject (Missing checksums) reply = reply ≡ Started (reference_for subject) checksums
SaysAtStart keys me subject judgement reply = IsAnswer keys me (response_for subject judgement) reply

-- a body that shows this is judged
pub record IsJudged (roster : RosterRecord) (keys : Keys) (me : PlatformCode) (diary : List Frame) (s : ShownRecord)
    (step : Step) : Type 0 where
  pub frame_is : step.frame ≡ frame_at_start diary s (judgement_at_start roster me diary s)
  pub says : SaysAtStart keys me (subject_of s.manifest) (judgement_at_start roster me diary s) step.reply
  pub nothing_sent : step.messages ≡ []

-- a body that is refused is answered so, and nothing is written; another one is judged by what it shows
abbrev pub StepsAtStart : RosterRecord → Keys → PlatformCode → List Frame → List ℕ → Step → Type 0
StepsAtStart roster keys me diary body step =
    ((refusal : Refusal) × IsRefused roster keys body refusal
    × Answers keys me None (refusal_response refusal) step)
    ⊎ ((s : ShownRecord) × Shows roster keys body s × IsJudged roster keys me diary s step)

-- ---- what was begun

-- what came with a Begun
pub record BegunRecord : Type 0 where
  pub bill : Checksum
  pub chain : List ChainLink
  pub manifest : Manifest
  pub body : List ℕ

-- the last Begun with a reference, of any bill
abbrev pub IsLastBegun : Reference → List Frame → BegunRecord → Type 0
IsLastBegun reference diary b =
    last_with_reference reference (newest_first diary) ≡ Some (records.Begun b.bill b.chain b.manifest b.body)

-- nothing was begun with it
abbrev pub IsUnknown : Reference → List Frame → Type 0
IsUnknown reference diary = last_with_reference reference (newest_first diary) ≡ None

-- ---- a document

-- the document that a manifest lists with a checksum
abbrev pub listed_with : Checksum → Manifest → Option Piece
listed_with checksum manifest = find (λ piece. checksum_eq piece.checksum checksum) manifest.documents

-- what is written of the bytes of a listed document: nothing where they are there for the bill
abbrev pub frame_at_put : List Frame → BegunRecord → Checksum → List ℕ → Option Frame
frame_at_put diary b checksum bytes =
    if are_there (history b.bill diary) bytes then None
    else Some (One (records.Stored b.bill b.manifest.last checksum bytes))

-- it is stored
pub record IsStored (diary : List Frame) (b : BegunRecord) (checksum : Checksum) (bytes : List ℕ) (step : Step)
    : Type 0 where
  pub frame_is : step.frame ≡ frame_at_put diary b checksum bytes
  pub reply_is : step.reply ≡ Stored
  pub nothing_sent : step.messages ≡ []

-- by the manifest of the Begun: no such document is listed; or the bytes aren't those of the one that is; or they are
abbrev pub IsPut : Keys → PlatformCode → List Frame → BegunRecord → Checksum → List ℕ → Step → Type 0
IsPut keys me diary b checksum bytes step =
    ((listed_with checksum b.manifest ≡ None)
    × Answers keys me None (document_response (subject_of b.manifest) reasons.NotListed) step)
    ⊎ ((piece : Piece) × (listed_with checksum b.manifest ≡ Some piece)
    × ((¬ Fits piece bytes × Answers keys me None (document_response (subject_of b.manifest) reasons.Bytes) step)
    ⊎ (Fits piece bytes × IsStored diary b checksum bytes step)))

abbrev pub StepsAtPut : Keys → PlatformCode → List Frame → Reference → Checksum → List ℕ → Step → Type 0
StepsAtPut keys me diary reference checksum bytes step =
    (IsUnknown reference diary × OnlyReplies UnknownReference step)
    ⊎ ((b : BegunRecord) × IsLastBegun reference diary b × IsPut keys me diary b checksum bytes step)

-- ---- a finish

-- the judgement of what was begun
abbrev pub judgement_at_finish : RosterRecord → PlatformCode → List Frame → BegunRecord → Judgement
judgement_at_finish roster me diary b = judgement_by roster me (newest_first diary) b.chain b.manifest

-- it is judged again and answered; no Begun is new
abbrev pub IsFinished : RosterRecord → Keys → PlatformCode → List Frame → BegunRecord → Step → Type 0
IsFinished roster keys me diary b step =
    Answers keys me (frame_for None (subject_of b.manifest) (judgement_at_finish roster me diary b))
    (response_for (subject_of b.manifest) (judgement_at_finish roster me diary b)) step

abbrev pub StepsAtFinish : RosterRecord → Keys → PlatformCode → List Frame → Reference → Step → Type 0
StepsAtFinish roster keys me diary reference step =
    (IsUnknown reference diary × OnlyReplies UnknownReference step)
    ⊎ ((b : BegunRecord) × IsLastBegun reference diary b × IsFinished roster keys me diary b step)
