-- Sound diaries of a platform: each record may follow the records before it, and its names and values are those of its
-- texts.
use Rattle.std.specs.Prelude.{◌≡◌, ◌≢◌, ◌⊎◌, ℕ, ◌+◌, ◌-◌, ◌≤◌, ◌<◌, Bool, true, false, List, [], ◌∷◌, ◌++◌, Option, Some, None, Ok, length, count_by, find, bytes_eq, Contains}
use Rattle.std.specs.Option.{option_map_or}
use Rattle.ebl_base.specs.Reference.{reference_of}
use Rattle.ebl_base.specs.declared.checksum.Checksum.{Checksum}
use Rattle.ebl_base.specs.declared.chain.ChainLink.{ChainLink}
use Rattle.ebl_base.specs.declared.code.Code.{Code}
use Rattle.ebl_base.specs.declared.code.Code.TheVariants.{BadEnvelope, DisputedEnvelope}
use Rattle.ebl_base.specs.declared.evidence.Evidence.{Evidence}
use Rattle.ebl_base.specs.declared.kind.Kind.{Kind}
use Rattle.ebl_base.specs.declared.kind.Kind.TheVariants.{Sign, SurrenderForDelivery, SurrenderForAmendment, SurrenderAccepted}
use Rattle.ebl_base.specs.declared.limits.TheConstants.{MAX_CHAIN_ENTRIES, MAX_DOCUMENT_SIZE, MAX_DOCUMENTS, MAX_DOCUMENTS_SIZE, MAX_ENTRY_TRANSACTIONS}
use Rattle.ebl_base.specs.declared.platform_code.PlatformCode.{PlatformCode}
use Rattle.ebl_base.specs.declared.reason.Reason.{Reason}
use Rattle.ebl_base.specs.declared.reference.Reference.{Reference}
use Rattle.ebl_base.specs.declared.reason.Reason.TheVariants as reasons
use Rattle.ebl_base.specs.declared.signed_text.SignedText.{SignedText}
use Rattle.ebl_base.specs.declared.transaction.Transaction.{Transaction}
use Rattle.envelope_manifest.specs.declared.manifest.Manifest.{Manifest}
use Rattle.envelope_manifest.specs.declared.piece.Piece.{Piece}
use Rattle.envelope_manifest.specs.Manifest.{IsManifest, total_size}
use Rattle.envelope_manifest.specs.Piece.{IsPiece}
use Rattle.chain_entry.specs.Form.{IsTransaction}
use Rattle.upload_state.specs.Piece.{Fits}
use Rattle.title_fold.specs.declared.title.Title.{Title}
use Rattle.title_fold.specs.Fold.{fold}
use Rattle.title_fold.specs.Step.{step_title}
use Rattle.title_fold.specs.Movement.{moves}
use Rattle.bill_chain.specs.Chain.{last_of, last_name, ends_in, transactions_of, destination, IsChainOfBill}
use Rattle.bill_diary.specs.declared.record.Record.{Record}
use Rattle.bill_diary.specs.declared.record.Record.TheVariants.{Signed, Acted, Attached, Parted, Settled, Regained, Begun, Stored, Taken, Declined}
use Rattle.bill_diary.specs.declared.frame.Frame.{Frame}
use Rattle.bill_diary.specs.declared.frame.Frame.TheVariants.{One, BegunTaken}
use Rattle.bill_diary.specs.declared.bill_place.BillPlace.{BillPlace}
use Rattle.bill_diary.specs.declared.bill_place.BillPlace.TheVariants.{Absent, Held, Parting}
use Rattle.bill_diary.specs.History.{bill_of, records_of, newest_first, of_bill}
use Rattle.bill_diary.specs.Known.{Received, last_begun}
use Rattle.bill_diary.specs.Place.{place_of, title_at, is_ended}
use Rattle.bill_diary.specs.Pieces.{pieces_of, lists, are_there, missing_of}
use Rattle.bill_diary.specs.Receiving.{is_taken, is_declined, continues}
use Rattle.bill_diary.specs.Texts.{LinkIsItsText, LinksAreTheirTexts, ManifestIsItsText, AreCompact, IsDocumentOf, IsBodyOf}

-- ---- holding a bill

-- a well-formed SIGN without recipient by a party of this platform, of an absent bill whose name is that of the
-- document
pub record MaySign (me : PlatformCode) (h : List Record) (bill : Checksum) (document : List ℕ) (t : Transaction)
    : Type 0 where
  pub absent : place_of h ≡ Absent
  pub document_is : IsDocumentOf bill document
  pub form : IsTransaction t
  pub kind : t.kind ≡ Sign
  pub recipient : t.recipient ≡ None
  pub actor : t.actor.platform ≡ me

-- how many transactions may be made since the known chain, this one included, where it doesn't move: a place stays
-- free for what has to follow
abbrev pub most_with : Kind → ℕ
most_with SurrenderAccepted = MAX_ENTRY_TRANSACTIONS
most_with SurrenderForDelivery = MAX_ENTRY_TRANSACTIONS - 2
most_with SurrenderForAmendment = MAX_ENTRY_TRANSACTIONS - 2
most_with kind = MAX_ENTRY_TRANSACTIONS - 1

-- the bill is held; the transaction is well-formed, is allowed, doesn't move, and stays within the limit
pub record MayAct (h : List Record) (t : Transaction) : Type 0 where
  pub known : List ChainLink
  pub since : List Transaction
  pub held : place_of h ≡ Held known since
  pub before : Option Title
  pub title : fold (transactions_of known ++ since) ≡ Ok before
  pub after : Title
  pub allowed : step_title before t ≡ Ok after
  pub stays : moves before after ≡ false
  pub form : IsTransaction t
  pub room : length since + 1 ≤ most_with t.kind

-- the bill is held and not ended; the bytes are those of the document, which is well-formed, new by its checksum, and
-- within the limits
pub record MayAttach (h : List Record) (piece : Piece) (bytes : List ℕ) : Type 0 where
  pub known : List ChainLink
  pub since : List Transaction
  pub held : place_of h ≡ Held known since
  pub lives : is_ended (title_at (Held known since)) ≡ false
  pub form : IsPiece piece
  pub fits : Fits piece bytes
  pub new : lists (pieces_of h) piece.checksum ≡ false
  pub size : length bytes ≤ MAX_DOCUMENT_SIZE
  pub count : length (pieces_of h) + 1 ≤ MAX_DOCUMENTS
  pub together : total_size (pieces_of h) + length bytes ≤ MAX_DOCUMENTS_SIZE

-- ---- parting with a bill

-- whether a record is a Parted
abbrev pub is_parted : Record → Bool
is_parted (Parted bill link manifest manifest_text) = true
is_parted r = false

-- the bill is held, with fewer than 64 entries in the known chain; the entry is this platform's next attempt, with the
-- transactions made since and one more, which moves to another platform; the manifest names entry and documents
pub record MayPart (me : PlatformCode) (h : List Record) (bill : Checksum) (link : ChainLink) (manifest : Manifest)
    (text : SignedText) : Type 0 where
  pub known : List ChainLink
  pub since : List Transaction
  pub held : place_of h ≡ Held known since
  pub room : length known < MAX_CHAIN_ENTRIES
  pub platform : link.entry.platform ≡ me
  pub bill_is : link.entry.bill ≡ bill
  pub previous : link.entry.previous ≡ last_name known
  pub attempt : link.entry.attempt ≡ count_by is_parted h + 1
  pub last : Transaction
  pub transactions : link.entry.transactions ≡ since ++ last ∷ []
  pub count : length link.entry.transactions ≤ MAX_ENTRY_TRANSACTIONS
  pub before : Option Title
  pub title : fold (transactions_of known ++ since) ≡ Ok before
  pub after : Title
  pub allowed : step_title before last ≡ Ok after
  pub moved : moves before after ≡ true
  pub link_is : LinkIsItsText link
  pub manifest_is : ManifestIsItsText text manifest
  pub manifest_form : IsManifest manifest
  pub names_bill : manifest.bill ≡ bill
  pub names_last : manifest.last ≡ link.name
  pub documents : manifest.documents ≡ pieces_of h

-- the bill is parting with this entry
pub record IsParting (h : List Record) (entry : Checksum) : Type 0 where
  pub known : List ChainLink
  pub link : ChainLink
  pub parting : place_of h ≡ Parting known link
  pub names : link.name ≡ entry

-- ---- receiving a bill

-- a chain may be received here, apart from its documents and from what a roster says: it ends on this platform, its
-- last entry was neither taken nor declined by any record, and it continues the bill's place
pub record MayReceive (me : PlatformCode) (records h : List Record) (chain : List ChainLink) : Type 0 where
  pub last : ChainLink
  pub last_is : last_of chain ≡ Some last
  pub destination_is : destination chain ≡ Some me
  pub not_taken : is_taken last.name records ≡ false
  pub not_declined : is_declined last.name records ≡ false
  pub continues_place : continues (place_of h) chain ≡ true

-- whether the envelope of a chain has this reference
abbrev pub refers : Checksum → List ChainLink → Reference → Bool
refers bill chain reference =
    option_map_or (λ link. bytes_eq (reference_of bill link.name).0 reference.0) (last_of chain) false

-- whether a record is a Begun whose envelope has this reference
abbrev pub has_reference : Reference → Record → Bool
has_reference reference (Begun bill chain manifest body) = refers bill chain reference
has_reference reference r = false

-- the last Begun, of any bill, with a reference
abbrev pub last_with_reference : Reference → List Record → Option Record
last_with_reference reference records = find (has_reference reference) records

-- a body with a good chain of the bill and a well-formed manifest that names both; the chain may be received
pub record MayBegin (me : PlatformCode) (records h : List Record) (bill : Checksum) (chain : List ChainLink)
    (manifest : Manifest) (body : List ℕ) : Type 0 where
  pub body_is : IsBodyOf bill chain manifest body
  pub room : length chain ≤ MAX_CHAIN_ENTRIES
  pub good : IsChainOfBill bill chain
  pub links_are : LinksAreTheirTexts chain
  pub receives : MayReceive me records h chain
  pub manifest_form : IsManifest manifest
  pub names_bill : manifest.bill ≡ bill
  pub names_last : manifest.last ≡ receives.last.name

-- a Begun of a chain that ends in this entry came with this manifest
abbrev pub CameWith : Checksum → Manifest → List Record → Type 0
CameWith entry listed [] = ⊥
CameWith entry listed (Begun bill chain manifest body ∷ h) =
    ((ends_in entry chain ≡ true) × (listed ≡ manifest)) ⊎ CameWith entry listed h
CameWith entry listed (r ∷ h) = CameWith entry listed h

-- a Begun of this entry lists a document that the bytes fit, and these bytes aren't there for the bill
pub record MayStore (h : List Record) (entry checksum : Checksum) (bytes : List ℕ) : Type 0 where
  pub manifest : Manifest
  pub came : CameWith entry manifest h
  pub piece : Piece
  pub listed : Contains manifest.documents piece
  pub fits : Fits piece bytes
  pub names : checksum ≡ piece.checksum
  pub new : are_there h bytes ≡ false

-- the last Begun of this entry came with a chain that may be received, and all documents of its manifest are there
pub record MayTake (me : PlatformCode) (records h : List Record) (entry : Checksum) : Type 0 where
  pub begun : Received
  pub begun_is : last_begun entry h ≡ Some begun
  pub receives : MayReceive me records h begun.chain
  pub whole : missing_of begun.manifest h ≡ []

-- the bill isn't held
abbrev pub IsNotHeld : BillPlace → Type 0
IsNotHeld (Held known since) = ⊥
IsNotHeld place = Unit {0}

-- why an entry was declined for good: its chain parts from the known one, and then the bill isn't absent; or its
-- possessor isn't known here, and then the bill isn't held and there is no evidence
abbrev pub IsCause : BillPlace → Code → Reason → Evidence → Type 0
IsCause place DisputedEnvelope reasons.Parts evidence = place ≢ Absent
IsCause place BadEnvelope reasons.Party evidence =
    IsNotHeld place × (evidence.own ≡ None) × (evidence.theirs ≡ None)
IsCause place code reason evidence = ⊥

-- the entry was neither taken nor declined by any record, there is a cause, and the evidence is compact
pub record MayDecline (records h : List Record) (entry : Checksum) (code : Code) (reason : Reason) (evidence : Evidence)
    : Type 0 where
  pub not_taken : is_taken entry records ≡ false
  pub not_declined : is_declined entry records ≡ false
  pub cause : IsCause (place_of h) code reason evidence
  pub evidence_is : AreCompact evidence

-- ---- sound diaries

-- a record may follow the records of the diary, among which `h` are those of its bill
abbrev pub MayFollow : PlatformCode → List Record → List Record → Record → Type 0
MayFollow me records h (Signed bill document transaction) = MaySign me h bill document transaction
MayFollow me records h (Acted bill transaction) = MayAct h transaction
MayFollow me records h (Attached bill piece bytes) = MayAttach h piece bytes
MayFollow me records h (Parted bill link manifest manifest_text) = MayPart me h bill link manifest manifest_text
MayFollow me records h (Settled bill entry) = IsParting h entry
MayFollow me records h (Regained bill entry) = IsParting h entry
MayFollow me records h (Begun bill chain manifest body) = MayBegin me records h bill chain manifest body
MayFollow me records h (Stored bill entry checksum bytes) = MayStore h entry checksum bytes
MayFollow me records h (Taken bill entry) = MayTake me records h entry
MayFollow me records h (Declined bill entry code reason evidence) = MayDecline records h entry code reason evidence

-- a Begun isn't the same as the last one, of any bill, with its reference
abbrev pub IsNotAgain : List Record → Record → Type 0
IsNotAgain records (Begun bill chain manifest body) =
    (last : ChainLink) → last_of chain ≡ Some last
    → last_with_reference (reference_of bill last.name) records ≢ Some (Begun bill chain manifest body)
IsNotAgain records r = Unit {0}

-- each record may follow those before it
abbrev pub AreSound : PlatformCode → List Record → Type 0
AreSound me [] = Unit {0}
AreSound me (r ∷ records) =
    MayFollow me records (of_bill (bill_of r) records) r × IsNotAgain records r × AreSound me records

-- what is taken within a frame is a Begun
abbrev pub IsFrame : Frame → Type 0
IsFrame (One r) = Unit {0}
IsFrame (BegunTaken (Begun bill chain manifest body)) = Unit {0}
IsFrame (BegunTaken r) = ⊥

-- each frame of a diary is one
abbrev pub AreFrames : List Frame → Type 0
AreFrames [] = Unit {0}
AreFrames (frame ∷ frames) = IsFrame frame × AreFrames frames

-- a diary is sound for a platform
pub record IsSound (me : PlatformCode) (diary : List Frame) : Type 0 where
  pub frames : AreFrames diary
  pub records : AreSound me (newest_first diary)

-- ---- frames that follow

-- some records may follow those of a diary, one after the other
abbrev pub MayFollowEach : PlatformCode → List Record → List Record → Type 0
MayFollowEach me records [] = Unit {0}
MayFollowEach me records (r ∷ rs) =
    MayFollow me records (of_bill (bill_of r) records) r × IsNotAgain records r × MayFollowEach me (r ∷ records) rs

-- a frame may follow a sound diary
pub record MayFollowDiary (me : PlatformCode) (diary : List Frame) (frame : Frame) : Type 0 where
  pub is_frame : IsFrame frame
  pub records : MayFollowEach me (newest_first diary) (records_of frame)

-- ---- the history of one bill

-- the records of one bill, newest first, are sound by themselves
abbrev pub IsSoundHistory : PlatformCode → List Record → Type 0
IsSoundHistory me [] = Unit {0}
IsSoundHistory me (r ∷ h) = MayFollow me h h r × IsSoundHistory me h
