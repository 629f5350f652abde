-- What holds of all platforms at every moment: the diaries are legal, and whatever is written or sent has its cause in
-- them.
use Rattle.std.specs.Prelude.{◌≡◌, ℕ, true, List, [], ◌∷◌, ◌++◌, Some, IfSome, length}
use Rattle.ebl_base.specs.declared.chain.ChainLink.{ChainLink}
use Rattle.ebl_base.specs.declared.checksum.Checksum.{Checksum}
use Rattle.ebl_base.specs.declared.code.Code.{Code}
use Rattle.ebl_base.specs.declared.code.Code.TheVariants as codes
use Rattle.ebl_base.specs.declared.evidence.Evidence.{Evidence}
use Rattle.ebl_base.specs.declared.platform_code.PlatformCode.{PlatformCode}
use Rattle.ebl_base.specs.declared.reason.Reason.{Reason}
use Rattle.ebl_base.specs.declared.reason.Reason.TheVariants as reasons
use Rattle.ebl_base.specs.declared.signed_text.SignedText.{SignedText}
use Rattle.signed_envelope.specs.KeyRing.{Keys}
use Rattle.party_roster.specs.RosterRecord.{RosterRecord}
use Rattle.envelope_manifest.specs.Body.{BodyRecord, ReadsAs}
use Rattle.envelope_manifest.specs.declared.manifest.Manifest.{Manifest}
use Rattle.pint_responses.specs.Sealed.{IsSealed}
use Rattle.pint_responses.specs.declared.response.Response.{Response}
use Rattle.bill_diary.specs.declared.record.Record.{Record}
use Rattle.bill_diary.specs.declared.record.Record.TheVariants.{Parted, Settled, Regained, Begun, Taken, Declined}
use Rattle.bill_diary.specs.declared.frame.Frame.{Frame}
use Rattle.bill_diary.specs.History.{bill_of, newest_first, records_of}
use Rattle.bill_diary.specs.Receiving.{is_taken, is_declined}
use Rattle.transfer_judge.specs.Legal.{IsLegal}
use Rattle.closed_family.specs.declared.family.Member.{Member}
use Rattle.closed_family.specs.Chains.{IsAmong}
use Rattle.closed_family.specs.Histories.{is_parted}
use Rattle.closed_family.specs.Closed.{Histories, EveryEntryWasParted, destination_of}
use Rattle.closed_family.specs.Family.{shard_of, histories_of, AreApart}
use Rattle.run_safety.specs.Network.{Sent, sent_start, sent_reply, Network, diary_of}

-- ---- what a record needs

-- some platform has parted with an entry of this name
abbrev pub WasParted : Histories → Checksum → Type 0
WasParted at entry = (p : PlatformCode) × (is_parted entry (at p) ≡ true)

-- what a record needs in the histories of its bill, with those before it on its platform: each entry of the chain that
-- a Begun shows was parted; what is settled was taken where it moves possession, and what is regained was declined
-- there; and what is declined was parted by some platform, and is declined for its party
abbrev pub NeedOf : Histories → List Record → Record → Type 0
NeedOf at before (Begun bill chain manifest body) = EveryEntryWasParted at chain
NeedOf at before (Settled bill entry) = IfSome (destination_of entry before) (λ to. is_taken entry (at to) ≡ true)
NeedOf at before (Regained bill entry) = IfSome (destination_of entry before) (λ to. is_declined entry (at to) ≡ true)
NeedOf at before (Declined bill entry code reason evidence) = (reason ≡ reasons.Party) × WasParted at entry
NeedOf at before r = Unit {0}

-- each record of a history has what it needs
abbrev pub AreMet : Histories → List Record → Type 0
AreMet at [] = Unit {0}
AreMet at (r ∷ h) = NeedOf at h r × AreMet at h

-- each record of a frame has, before the frame is written on a platform; the Taken of a BegunTaken needs nothing
abbrev pub FrameIsMet : List Member → PlatformCode → Frame → Type 0
FrameIsMet family p frame =
    (r : Record) → IsAmong r (records_of frame)
    → NeedOf (histories_of (bill_of r) family) (histories_of (bill_of r) family p) r

-- ---- what a message says

-- a record stands in the history of its bill on a platform
abbrev pub StandsOn : List Member → PlatformCode → Record → Type 0
StandsOn family p r = IsAmong r (histories_of (bill_of r) family p)

-- the text is that of an entry with which some platform has parted
pub record IsPartedText (family : List Member) (text : SignedText) : Type 0 where
  pub p : PlatformCode
  pub bill : Checksum
  pub link : ChainLink
  pub manifest : Manifest
  pub manifest_text : SignedText
  pub stands : StandsOn family p (Parted bill link manifest manifest_text)
  pub text_is : link.text ≡ text

-- the entry was taken on a platform, of whatever bill
pub record WasTakenOn (family : List Member) (p : PlatformCode) (entry : Checksum) : Type 0 where
  pub bill : Checksum
  pub stands : StandsOn family p (Taken bill entry)

-- the entry was declined there for good, of whatever bill
pub record WasDeclinedOn (family : List Member) (p : PlatformCode) (entry : Checksum) : Type 0 where
  pub bill : Checksum
  pub code : Code
  pub reason : Reason
  pub evidence : Evidence
  pub stands : StandsOn family p (Declined bill entry code reason evidence)

-- RECE or DUPE
abbrev pub IsReceipt : Code → Type 0
IsReceipt codes.Received = Unit {0}
IsReceipt codes.Duplicate = Unit {0}
IsReceipt code = ⊥

-- a response of some platform, sent by this one, is so: it is of this one; an entry of which it is a receipt was taken
-- here; and where it stands, the entry was declined here
pub record IsTrueOf (family : List Member) (from who : PlatformCode) (r : Response) : Type 0 where
  pub signer : who ≡ from
  pub receipt : IsReceipt r.code → (entry : Checksum) → r.last ≡ Some entry → WasTakenOn family from entry
  pub standing : r.standing ≡ true → (entry : Checksum) → r.last ≡ Some entry → WasDeclinedOn family from entry

-- what was sent has its cause: each text of the chain in a start is that of an entry that was parted; and a reply is
-- so, whatever response it is under whatever keys
abbrev pub HasCause : List Member → Sent → Type 0
HasCause family (sent_start from body) =
    (parts : BodyRecord) → ReadsAs body parts → (text : SignedText) → IsAmong text parts.chain
    → IsPartedText family text
HasCause family (sent_reply from bytes) =
    (keys : Keys) (who : PlatformCode) (r : Response) → IsSealed keys bytes who r → IsTrueOf family from who r

-- ---- all together

-- the keys of each platform's shard
abbrev pub Rings : Type 0
Rings = PlatformCode → ℕ → Keys

-- the records of a frame are of bills of a shard
abbrev pub IsInShard : ℕ → Frame → Type 0
IsInShard i frame = (r : Record) → IsAmong r (records_of frame) → shard_of (bill_of r) ≡ i

-- a frame may be written behind a diary: that stays legal, the frame is of the shard, and its records have what they
-- need
pub record MayBeWritten (roster : RosterRecord) (rings : Rings) (family : List Member) (p : PlatformCode) (i : ℕ)
    (diary : List Frame) (frame : Frame) : Type 0 where
  pub legal : IsLegal roster (rings p i) p (diary ++ frame ∷ [])
  pub in_shard : IsInShard i frame
  pub met : FrameIsMet family p frame

-- platforms of the roster, each once and with sixteen diaries; these are legal, and have records of bills of their
-- shard alone; each record has what it needs; a loose frame may be written; and what was sent has its cause. What
-- records and messages need stands in the diaries, never in a loose frame
pub record IsSteady (roster : RosterRecord) (rings : Rings) (n : Network) : Type 0 where
  pub listed : (m : Member) → IsAmong m n.family → IsAmong m.platform roster.platforms
  pub apart : AreApart n.family
  pub sixteen : (m : Member) → IsAmong m n.family → length m.diaries ≡ 16
  pub legal : (p : PlatformCode) (i : ℕ) (d : List Frame) → diary_of n.family p i ≡ Some d
      → IsLegal roster (rings p i) p d
  pub in_shard : (p : PlatformCode) (i : ℕ) (d : List Frame) → diary_of n.family p i ≡ Some d
      → (r : Record) → IsAmong r (newest_first d) → shard_of (bill_of r) ≡ i
  pub met : (bill : Checksum) (p : PlatformCode) → AreMet (histories_of bill n.family) (histories_of bill n.family p)
  pub loose : (p : PlatformCode) (i : ℕ) (d : List Frame) (frame : Frame) → diary_of n.family p i ≡ Some d
      → n.loose p i ≡ Some frame → MayBeWritten roster rings n.family p i d frame
  pub caused : (s : Sent) → IsAmong s n.sent → HasCause n.family s
