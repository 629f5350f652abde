-- What a party's command comes to, by its plan: a refusal; nothing, or one record, that is done; or an entry that is
-- signed, written as Parted, and started.
use Rattle.std.specs.Prelude.{◌≡◌, ◌≤◌, List, [], ◌∷◌, ◌++◌, Some, None, Ok, Err, length}
use Rattle.ebl_base.specs.declared.limits.TheConstants.{MAX_SIGNED_TEXT}
use Rattle.ebl_base.specs.declared.chain.ChainLink.{ChainLink}
use Rattle.ebl_base.specs.declared.checksum.Checksum.{Checksum}
use Rattle.ebl_base.specs.declared.entry.Entry.{Entry}
use Rattle.ebl_base.specs.declared.moment.Moment.{Moment}
use Rattle.ebl_base.specs.declared.party.Party.{Party}
use Rattle.ebl_base.specs.declared.platform_code.PlatformCode.{PlatformCode}
use Rattle.ebl_base.specs.declared.signature.Signature.{Signature}
use Rattle.ebl_base.specs.declared.signed_text.SignedText.{SignedText}
use Rattle.ebl_base.specs.declared.transaction.Transaction.{Transaction}
use Rattle.document_checksum.specs.Digest.{checksum_of}
use Rattle.signed_envelope.specs.KeyRing.{Keys}
use Rattle.signed_envelope.specs.SignedText.{IsComposed}
use Rattle.chain_entry.specs.Writing.{entry_value}
use Rattle.envelope_manifest.specs.Manifest.{manifest_value}
use Rattle.envelope_manifest.specs.declared.manifest.Manifest.{Manifest}
use Rattle.envelope_manifest.specs.declared.piece.Piece.{Piece}
use Rattle.holder_commands.specs.Command.{CommandRecord, signs, acts, attaches}
use Rattle.party_roster.specs.RosterRecord.{RosterRecord}
use Rattle.platform_requests.specs.declared.message.Message.{Message}
use Rattle.platform_requests.specs.declared.reply.Reply.{Reply}
use Rattle.platform_requests.specs.declared.reply.Reply.TheVariants as replies
use Rattle.bill_diary.specs.declared.record.Record.{Record}
use Rattle.bill_diary.specs.declared.record.Record.TheVariants.{Parted}
use Rattle.bill_diary.specs.declared.frame.Frame.{Frame}
use Rattle.bill_diary.specs.declared.frame.Frame.TheVariants.{One}
use Rattle.bill_diary.specs.declared.bill_place.BillPlace.TheVariants.{Held}
use Rattle.bill_diary.specs.History.{bill_of, history, newest_first}
use Rattle.bill_diary.specs.Place.{place_of}
use Rattle.transfer_judge.specs.Plan.{Plan, plan_of}
use Rattle.transfer_judge.specs.declared.planned.Planned.TheVariants.{Nothing, Add, Part}
use Rattle.transfer_judge.specs.declared.planned.PlanRefusal.{PlanRefusal}
use Rattle.transfer_judge.specs.declared.planned.PlanRefusal.TheVariants as refusals
use Rattle.platform_machine.specs.declared.step.Step.{Step}
use Rattle.platform_machine.specs.Step.{OnlyReplies, IsDone}
use Rattle.platform_machine.specs.Transfer.{SendsStart}

-- ---- a refusal

-- the reply to a command that is refused
abbrev pub reply_to : PlanRefusal → Reply
reply_to refusals.NotOurs = replies.NotOurs
reply_to (refusals.Document fault) = replies.Document fault
reply_to refusals.NotCarrier = replies.NotCarrier
reply_to refusals.KnownBill = replies.KnownBill
reply_to (refusals.NotHere place) = replies.NotHere place
reply_to (refusals.NoParty party) = replies.NoParty party
reply_to (refusals.NotAllowed rule) = replies.NotAllowed rule
reply_to (refusals.Limit limit) = replies.Limit limit
reply_to refusals.NoMemory = replies.NoMemory

-- ---- an entry that parts

-- the link has the entry, its text is the entry's written form, signed by this platform with any signature that the
-- keys take, and its name is that of the text
pub record IsSignedEntry (keys : Keys) (me : PlatformCode) (entry : Entry) (link : ChainLink) : Type 0 where
  pub entry_is : link.entry ≡ entry
  pub name_is : link.name ≡ checksum_of link.text.0
  pub signature : Signature
  pub composed : IsComposed keys link.text.0 me (entry_value entry) signature
  pub fits : length link.text.0 ≤ MAX_SIGNED_TEXT

-- the manifest of a bill, its last entry's name and its documents
abbrev pub manifest_for : Checksum → Checksum → List Piece → Manifest
manifest_for bill last documents = record { bill = bill; last = last; documents = documents }

-- the text is the manifest's written form, signed by this platform in the same way
pub record IsSignedManifest (keys : Keys) (me : PlatformCode) (manifest : Manifest) (text : SignedText) : Type 0 where
  pub signature : Signature
  pub composed : IsComposed keys text.0 me (manifest_value manifest) signature
  pub fits : length text.0 ≤ MAX_SIGNED_TEXT

-- the bill is held, and the start of its known chain with the link is sent to the platform
pub record SendsStartWith (bill : Checksum) (h : List Record) (link : ChainLink) (manifest_text : SignedText)
    (to : PlatformCode) (sent : List Message) : Type 0 where
  pub known : List ChainLink
  pub since : List Transaction
  pub held : place_of h ≡ Held known since
  pub sends : SendsStart bill h (known ++ link ∷ []) manifest_text to sent

-- Parted is written, and that start is sent
pub record PartsWith (diary : List Frame) (link : ChainLink) (manifest : Manifest) (manifest_text : SignedText)
    (to : PlatformCode) (step : Step) : Type 0 where
  pub sent : List Message
  pub sends : SendsStartWith manifest.bill (history manifest.bill diary) link manifest_text to sent
  pub done : IsDone manifest.bill diary (Some (One (Parted manifest.bill link manifest manifest_text))) sent step

-- the entry and its manifest are signed, and the bill parts with them
pub record IsParted (keys : Keys) (me : PlatformCode) (diary : List Frame) (entry : Entry) (documents : List Piece)
    (to : PlatformCode) (step : Step) : Type 0 where
  pub link : ChainLink
  pub entry_signed : IsSignedEntry keys me entry link
  pub manifest_text : SignedText
  pub manifest_signed : IsSignedManifest keys me (manifest_for entry.bill link.name documents) manifest_text
  pub parts : PartsWith diary link (manifest_for entry.bill link.name documents) manifest_text to step

-- ---- a command

-- an attachment whose bytes are listed for the bill already is done, and nothing is written; nothing is planned of any
-- other command
abbrev pub IsThere : List Frame → CommandRecord → Step → Type 0
IsThere diary (signs document) step = ⊥
IsThere diary (acts bill kind recipient) step = ⊥
IsThere diary (attaches bill name media bytes) step = IsDone bill diary None [] step

-- what comes of a plan
abbrev pub FollowsPlan : Keys → PlatformCode → List Frame → CommandRecord → Plan → Step → Type 0
FollowsPlan keys me diary command (Err refusal) step = OnlyReplies (reply_to refusal) step
FollowsPlan keys me diary command (Ok Nothing) step = IsThere diary command step
FollowsPlan keys me diary command (Ok (Add r)) step = IsDone (bill_of r) diary (Some (One r)) [] step
FollowsPlan keys me diary command (Ok (Part entry documents to)) step = IsParted keys me diary entry documents to step

-- a party's command at a moment
abbrev pub StepsAtCommand : RosterRecord → Keys → PlatformCode → List Frame → Moment → Party → CommandRecord → Step
    → Type 0
StepsAtCommand roster keys me diary now party command step =
    FollowsPlan keys me diary command (plan_of roster me (newest_first diary) party command now) step
