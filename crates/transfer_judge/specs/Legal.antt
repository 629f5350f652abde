-- Legal diaries of a platform, under a roster and a ring of keys: sound ones whose texts are rightly signed, whose
-- parties and platforms the roster lists, and whose chains were judged so.
use Rattle.std.specs.Prelude.{◌≡◌, ℕ, true, List, [], ◌∷◌, Some}
use Rattle.ebl_base.specs.declared.limits.TheConstants.{MAX_SIGNED_TEXT}
use Rattle.ebl_base.specs.declared.chain.ChainLink.{ChainLink}
use Rattle.ebl_base.specs.declared.checksum.Checksum.{Checksum}
use Rattle.ebl_base.specs.declared.platform_code.PlatformCode.{PlatformCode}
use Rattle.ebl_base.specs.declared.signed_text.SignedText.{SignedText}
use Rattle.ebl_base.specs.declared.transaction.Transaction.{Transaction}
use Rattle.canonical_json.specs.Value.{Value}
use Rattle.signed_envelope.specs.KeyRing.{Keys}
use Rattle.signed_envelope.specs.SignedText.{IsSigned}
use Rattle.envelope_manifest.specs.declared.manifest.Manifest.{Manifest}
use Rattle.envelope_manifest.specs.Manifest.{IsManifest}
use Rattle.party_roster.specs.RosterRecord.{RosterRecord, carrier, has_platform}
use Rattle.title_fold.specs.Title.{possessor}
use Rattle.bill_chain.specs.Chain.{last_of}
use Rattle.transfer_chain.specs.GoodChain.{IsGoodChain}
use Rattle.bill_diary.specs.declared.record.Record.{Record}
use Rattle.bill_diary.specs.declared.record.Record.TheVariants.{Signed, Acted, Attached, Parted, Settled, Regained, Begun, Stored, Taken, Declined}
use Rattle.bill_diary.specs.declared.frame.Frame.{Frame}
use Rattle.bill_diary.specs.History.{bill_of, records_of, newest_first, of_bill}
use Rattle.bill_diary.specs.Known.{Received, last_begun}
use Rattle.bill_diary.specs.Texts.{IsBodyOf}
use Rattle.bill_diary.specs.Sound.{MaySign, MayAct, MayAttach, MayPart, IsParting, MayStore, MayDecline, IsNotAgain, IsFrame, AreFrames}
use Rattle.transfer_judge.specs.declared.judgement.Judgement.{Judgement}
use Rattle.transfer_judge.specs.declared.judgement.Judgement.TheVariants.{Missing, Accept}
use Rattle.transfer_judge.specs.Judgement.{judgement_of}

-- ---- texts

-- the text is signed by the platform within 16,384 bytes
abbrev pub IsSignedBy : Keys → PlatformCode → SignedText → Type 0
IsSignedBy keys who text = (value : Value) × IsSigned keys MAX_SIGNED_TEXT text.0 who value

-- ---- what the roster and the ring add

-- the roster's carrier of the document signs
pub record SignsLegally (roster : RosterRecord) (me : PlatformCode) (h : List Record) (bill : Checksum)
    (document : List ℕ) (t : Transaction) : Type 0 where
  pub sound : MaySign me h bill document t
  pub by_carrier : carrier roster sound.document_is.document.provider sound.document_is.document.code ≡ Some t.actor

-- possession moves to a platform of the roster, and both texts are signed by this one
pub record PartsLegally (roster : RosterRecord) (keys : Keys) (me : PlatformCode) (h : List Record) (bill : Checksum)
    (link : ChainLink) (manifest : Manifest) (text : SignedText) : Type 0 where
  pub sound : MayPart me h bill link manifest text
  pub listed : has_platform roster (possessor sound.after).platform ≡ true
  pub entry_signed : IsSignedBy keys me link.text
  pub manifest_signed : IsSignedBy keys me text

-- a chain is received, now or once its documents are there
abbrev pub IsReceivable : Judgement → Type 0
IsReceivable Accept = Unit {0}
IsReceivable (Missing checksums) = Unit {0}
IsReceivable judgement = ⊥

-- a body with a good chain of its document's bill, and a well-formed manifest by the last entry's platform that names
-- both; the judgement is to receive it
pub record BeginsLegally (roster : RosterRecord) (keys : Keys) (me : PlatformCode) (records : List Record)
    (bill : Checksum) (chain : List ChainLink) (manifest : Manifest) (body : List ℕ) : Type 0 where
  pub body_is : IsBodyOf bill chain manifest body
  pub good : IsGoodChain roster keys body_is.document_is.document body_is.parts.chain chain
  pub last : ChainLink
  pub last_is : last_of chain ≡ Some last
  pub manifest_signed : IsSignedBy keys last.entry.platform body_is.parts.manifest
  pub manifest_form : IsManifest manifest
  pub names_bill : manifest.bill ≡ bill
  pub names_last : manifest.last ≡ last.name
  pub welcome : IsReceivable (judgement_of roster me bill records chain manifest)

-- the last Begun of this entry is received
pub record TakesLegally (roster : RosterRecord) (me : PlatformCode) (records h : List Record) (bill entry : Checksum)
    : Type 0 where
  pub begun : Received
  pub begun_is : last_begun entry h ≡ Some begun
  pub accepted : judgement_of roster me bill records begun.chain begun.manifest ≡ Accept

-- ---- legal diaries

-- a record may follow the records of the diary, among which `h` are those of its bill
abbrev pub FollowsLegally : RosterRecord → Keys → PlatformCode → List Record → List Record → Record → Type 0
FollowsLegally roster keys me records h (Signed bill document transaction) =
    SignsLegally roster me h bill document transaction
FollowsLegally roster keys me records h (Acted bill transaction) = MayAct h transaction
FollowsLegally roster keys me records h (Attached bill piece bytes) = MayAttach h piece bytes
FollowsLegally roster keys me records h (Parted bill link manifest manifest_text) =
    PartsLegally roster keys me h bill link manifest manifest_text
FollowsLegally roster keys me records h (Settled bill entry) = IsParting h entry
FollowsLegally roster keys me records h (Regained bill entry) = IsParting h entry
FollowsLegally roster keys me records h (Begun bill chain manifest body) =
    BeginsLegally roster keys me records bill chain manifest body
FollowsLegally roster keys me records h (Stored bill entry checksum bytes) = MayStore h entry checksum bytes
FollowsLegally roster keys me records h (Taken bill entry) = TakesLegally roster me records h bill entry
FollowsLegally roster keys me records h (Declined bill entry code reason evidence) =
    MayDecline records h entry code reason evidence

-- each record may follow those before it
abbrev pub AreLegal : RosterRecord → Keys → PlatformCode → List Record → Type 0
AreLegal roster keys me [] = Unit {0}
AreLegal roster keys me (r ∷ records) =
    FollowsLegally roster keys me records (of_bill (bill_of r) records) r × IsNotAgain records r
    × AreLegal roster keys me records

-- some records may follow those of a diary, one after the other
abbrev pub FollowEachLegally : RosterRecord → Keys → PlatformCode → List Record → List Record → Type 0
FollowEachLegally roster keys me records [] = Unit {0}
FollowEachLegally roster keys me records (r ∷ rs) =
    FollowsLegally roster keys me records (of_bill (bill_of r) records) r × IsNotAgain records r
    × FollowEachLegally roster keys me (r ∷ records) rs

-- a frame may follow a legal diary
pub record FollowsDiaryLegally (roster : RosterRecord) (keys : Keys) (me : PlatformCode) (diary : List Frame)
    (frame : Frame) : Type 0 where
  pub is_frame : IsFrame frame
  pub records : FollowEachLegally roster keys me (newest_first diary) (records_of frame)

-- a diary is legal for a platform
pub record IsLegal (roster : RosterRecord) (keys : Keys) (me : PlatformCode) (diary : List Frame) : Type 0 where
  pub frames : AreFrames diary
  pub records : AreLegal roster keys me (newest_first diary)
