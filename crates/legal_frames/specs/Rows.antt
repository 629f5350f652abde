-- For private clauses: the parts of what may follow a legal diary, each as one test finds it.
use Rattle.std.specs.Prelude.{◌≡◌, ℕ, ◌+◌, ◌≤◌, ◌<◌, Bool, true, false, not, ◌&&◌, ◌==◌, List, [], ◌∷◌, ◌++◌, Option, Some, None, Result, Ok, Err, length, nat_lt, bytes_eq, is_none}
use Rattle.std.specs.List.{list_any}
use Rattle.std.specs.Option.{option_map_or}
use Rattle.ebl_base.specs.Reference.{reference_of}
use Rattle.ebl_base.specs.Checksum.{checksum_eq}
use Rattle.ebl_base.specs.declared.chain.ChainLink.{ChainLink}
use Rattle.ebl_base.specs.declared.checksum.Checksum.{Checksum}
use Rattle.ebl_base.specs.declared.entry.Entry.{Entry}
use Rattle.ebl_base.specs.declared.evidence.Evidence.{Evidence}
use Rattle.ebl_base.specs.declared.kind.Kind.TheVariants.{Sign}
use Rattle.ebl_base.specs.declared.reason.Reason.{Reason}
use Rattle.ebl_base.specs.declared.reason.Reason.TheVariants as reasons
use Rattle.ebl_base.specs.declared.limits.TheConstants.{MAX_CHAIN_ENTRIES, MAX_DOCUMENTS, MAX_DOCUMENTS_SIZE, MAX_ENTRY_TRANSACTIONS}
use Rattle.ebl_base.specs.declared.platform_code.PlatformCode.{PlatformCode}
use Rattle.ebl_base.specs.declared.signed_text.SignedText.{SignedText}
use Rattle.ebl_base.specs.declared.transaction.Transaction.{Transaction}
use Rattle.signed_envelope.specs.KeyRing.{Keys}
use Rattle.envelope_manifest.specs.Body.{BodyRecord}
use Rattle.envelope_manifest.specs.Manifest.{IsManifest, total_size}
use Rattle.envelope_manifest.specs.declared.manifest.Manifest.{Manifest}
use Rattle.envelope_manifest.specs.declared.piece.Piece.{Piece}
use Rattle.party_roster.specs.RosterRecord.{RosterRecord, has_platform}
use Rattle.transport_document.specs.DocumentRecord.{DocumentRecord}
use Rattle.transport_document.specs.Reading.{document_of}
use Rattle.title_fold.specs.declared.refusal.FoldRefusal.{FoldRefusal}
use Rattle.title_fold.specs.declared.title.Title.{Title}
use Rattle.title_fold.specs.Title.{possessor}
use Rattle.title_fold.specs.Step.{step_title}
use Rattle.title_fold.specs.Movement.{moves}
use Rattle.bill_chain.specs.Chain.{ends_in, last_name, last_of}
use Rattle.transfer_chain.specs.GoodChain.{IsGoodChain}
use Rattle.bill_diary.specs.declared.record.Record.{Record}
use Rattle.bill_diary.specs.declared.record.Record.TheVariants.{Begun}
use Rattle.bill_diary.specs.declared.bill_place.BillPlace.{BillPlace}
use Rattle.bill_diary.specs.declared.bill_place.BillPlace.TheVariants.{Absent, Held, Parting}
use Rattle.bill_diary.specs.History.{bill_of, of_bill}
use Rattle.bill_diary.specs.Pieces.{lists}
use Rattle.bill_diary.specs.Sound.{IsNotAgain, last_with_reference, most_with}
use Rattle.bill_diary.specs.Texts.{IsBodyOf}
use Rattle.bill_diary.specs.Titles.{FoldedBy}
use Rattle.transfer_judge.specs.Legal.{FollowsLegally, IsSignedBy}

-- a record may follow the records of a diary
abbrev pub Follows : RosterRecord → Keys → PlatformCode → List Record → Record → Type 0
Follows roster keys me records r =
    FollowsLegally roster keys me records (of_bill (bill_of r) records) r × IsNotAgain records r

-- ---- places

abbrev pub is_absent : BillPlace → Bool
is_absent Absent = true
is_absent place = false

abbrev pub is_held : BillPlace → Bool
is_held (Held known since) = true
is_held place = false

-- the bill is parting with this entry
abbrev pub is_parting_with : Checksum → BillPlace → Bool
is_parting_with entry (Parting known link) = checksum_eq link.name entry
is_parting_with entry place = false

-- ---- transactions

-- a SIGN without recipient by a party of the platform
abbrev pub IsSignBy : PlatformCode → Transaction → Type 0
IsSignBy me t = (t.kind ≡ Sign) × (t.recipient ≡ None) × (t.actor.platform ≡ me)

-- the step is taken after so many since the known chain, doesn't move, and leaves room
abbrev pub stays : Option Title → ℕ → Transaction → Result Title FoldRefusal → Bool
stays before made t (Ok after) = not (moves before after) && nat_lt made (most_with t.kind)
stays before made t (Err rule) = false

-- the same on the title before, where there is one
abbrev pub stays_on : ℕ → Transaction → FoldedBy → Bool
stays_on made t (Ok before) = stays before made t (step_title before t)
stays_on made t (Err rule) = false

-- the same at a place with this title: the bill is held
abbrev pub stays_at : Transaction → FoldedBy → BillPlace → Bool
stays_at t title (Held known since) = stays_on (length since) t title
stays_at t title place = false

-- the step is taken, and moves to a listed platform
abbrev pub leaves : RosterRecord → Option Title → Result Title FoldRefusal → Bool
leaves roster before (Ok after) = moves before after && has_platform roster (possessor after).platform
leaves roster before (Err rule) = false

abbrev pub leaves_on : RosterRecord → Transaction → FoldedBy → Bool
leaves_on roster t (Ok before) = leaves roster before (step_title before t)
leaves_on roster t (Err rule) = false

-- ---- documents

-- a document more is new, and within the limits
pub record HasRoom (listed : List Piece) (piece : Piece) : Type 0 where
  pub new : lists listed piece.checksum ≡ false
  pub count : length listed + 1 ≤ MAX_DOCUMENTS
  pub together : total_size listed + piece.size ≤ MAX_DOCUMENTS_SIZE

-- the listed document has this checksum and this size
abbrev pub is_listed_as : Checksum → ℕ → Piece → Bool
is_listed_as checksum size piece = checksum_eq piece.checksum checksum && (piece.size == size)

-- a Begun of the entry lists such a document
abbrev pub lists_as : Checksum → Checksum → ℕ → Record → Bool
lists_as entry checksum size (Begun bill chain manifest body) =
    ends_in entry chain && list_any (is_listed_as checksum size) manifest.documents
lists_as entry checksum size r = false

-- ---- what is declined

-- an entry may be declined for this reason at a place: its chain parts from a known one; or its possessor isn't known,
-- the bill isn't held, and there is no evidence
abbrev pub is_cause : BillPlace → Reason → Evidence → Bool
is_cause place reasons.Parts evidence = not (is_absent place)
is_cause place reasons.Party evidence = not (is_held place) && (is_none evidence.own && is_none evidence.theirs)
is_cause place reason evidence = false

-- ---- entries

-- an entry of this platform and this bill, the next attempt after a known chain, within the limits
pub record IsNextEntry (me : PlatformCode) (bill : Checksum) (parted : ℕ) (known : List ChainLink) (entry : Entry)
    : Type 0 where
  pub room : length known < MAX_CHAIN_ENTRIES
  pub platform : entry.platform ≡ me
  pub bill_is : entry.bill ≡ bill
  pub previous : entry.previous ≡ last_name known
  pub attempt : entry.attempt ≡ parted + 1
  pub count : length entry.transactions ≤ MAX_ENTRY_TRANSACTIONS

-- its transactions are those made since and one more, which moves to a listed platform
pub record MovesOut (roster : RosterRecord) (title : FoldedBy) (since : List Transaction)
    (transactions : List Transaction) : Type 0 where
  pub last : Transaction
  pub parts : transactions ≡ since ++ last ∷ []
  pub out : leaves_on roster last title ≡ true

-- both, at a place with this title: the bill is held
abbrev pub IsNextAt : RosterRecord → PlatformCode → Checksum → ℕ → Entry → FoldedBy → BillPlace → Type 0
IsNextAt roster me bill parted entry title (Held known since) =
    IsNextEntry me bill parted known entry × MovesOut roster title since entry.transactions
IsNextAt roster me bill parted entry title place = ⊥

-- ---- envelopes

-- a well-formed manifest that the platform signed, and that names this bill and this entry
pub record IsManifestBy (keys : Keys) (who : PlatformCode) (bill last : Checksum) (manifest : Manifest)
    (text : SignedText) : Type 0 where
  pub signed : IsSignedBy keys who text
  pub form : IsManifest manifest
  pub names_bill : manifest.bill ≡ bill
  pub names_last : manifest.last ≡ last

-- a body has a document, and its texts are a good chain of it
pub record IsGoodBody (roster : RosterRecord) (keys : Keys) (parts : BodyRecord) : Type 0 where
  pub document : DocumentRecord
  pub document_is : document_of parts.document ≡ Ok document
  pub chain : List ChainLink
  pub good : IsGoodChain roster keys document parts.chain chain

-- a Begun's body has a good chain of its document, and a manifest by the platform of the last entry
pub record IsEnvelope (roster : RosterRecord) (keys : Keys) (bill : Checksum) (chain : List ChainLink)
    (manifest : Manifest) (body : List ℕ) : Type 0 where
  pub body_is : IsBodyOf bill chain manifest body
  pub good : IsGoodChain roster keys body_is.document_is.document body_is.parts.chain chain
  pub last : ChainLink
  pub last_is : last_of chain ≡ Some last
  pub manifest_by : IsManifestBy keys last.entry.platform bill last.name manifest body_is.parts.manifest

-- whether a record is a Begun with this body
abbrev pub has_body : List ℕ → Record → Bool
has_body body (Begun bill chain manifest other) = bytes_eq other body
has_body body r = false

-- whether the last Begun with the reference of a chain is of this body
abbrev pub is_again : Checksum → List ℕ → List Record → Option ChainLink → Bool
is_again bill body records None = false
is_again bill body records (Some last) =
    option_map_or (has_body body) (last_with_reference (reference_of bill last.name) records) false

-- an envelope that isn't that of the last Begun with its reference
pub record IsNewEnvelope (roster : RosterRecord) (keys : Keys) (records : List Record) (bill : Checksum)
    (chain : List ChainLink) (manifest : Manifest) (body : List ℕ) : Type 0 where
  pub envelope : IsEnvelope roster keys bill chain manifest body
  pub new : IsNotAgain records (Begun bill chain manifest body)
