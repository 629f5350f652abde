-- What an entry that was planned becomes: a link and a manifest, whose texts the platform signs.
use Rattle.std.specs.Prelude.{◌≡◌, ℕ, ◌≤◌, true, List, [], ◌∷◌, ◌++◌, Some}
use Rattle.ebl_base.specs.declared.limits.TheConstants.{MAX_SIGNED_TEXT}
use Rattle.canonical_json.specs.Value.{depth}
use Rattle.document_checksum.specs.Digest.{checksum_of}
use Rattle.ebl_base.specs.Moment.{IsMoment}
use Rattle.ebl_base.specs.Party.{IsParty}
use Rattle.ebl_base.specs.declared.chain.ChainLink.{ChainLink}
use Rattle.ebl_base.specs.declared.entry.Entry.{Entry}
use Rattle.ebl_base.specs.declared.moment.Moment.{Moment}
use Rattle.ebl_base.specs.declared.party.Party.{Party}
use Rattle.ebl_base.specs.declared.platform_code.PlatformCode.{PlatformCode}
use Rattle.ebl_base.specs.declared.signed_text.SignedText.{SignedText}
use Rattle.ebl_base.specs.declared.transaction.Transaction.{Transaction}
use Rattle.chain_entry.specs.Writing.{entry_value}
use Rattle.envelope_manifest.specs.declared.manifest.Manifest.{Manifest}
use Rattle.envelope_manifest.specs.declared.piece.Piece.{Piece}
use Rattle.envelope_manifest.specs.Manifest.{manifest_value}
use Rattle.holder_commands.specs.Command.{CommandRecord, signs, attaches}
use Rattle.holder_commands.specs.Form.{IsCommand}
use Rattle.signed_envelope.specs.KeyRing.{Keys}
use Rattle.signed_envelope.specs.SignedText.{IsSigned}
use Rattle.bill_chain.specs.Chain.{destination}
use Rattle.bill_diary.specs.declared.record.Record.{Record}
use Rattle.bill_diary.specs.declared.bill_place.BillPlace.{BillPlace}
use Rattle.bill_diary.specs.declared.bill_place.BillPlace.TheVariants.{Held}
use Rattle.bill_diary.specs.History.{of_bill}
use Rattle.bill_diary.specs.Pieces.{lists, pieces_of}

-- ---- what is handed in

-- a document nests at most 126 deep, so that it reads back within a body too
abbrev pub Nests : CommandRecord → Type 0
Nests (signs document) = depth document ≤ 126
Nests command = Unit {0}

-- a well-formed command, whose document nests at most 126 deep, by a well-formed party at a well-formed moment
pub record IsHandedIn (party : Party) (command : CommandRecord) (now : Moment) : Type 0 where
  pub by : IsParty party
  pub form : IsCommand command
  pub nests : Nests command
  pub time : IsMoment now

-- ---- what is made of an entry

-- the link has the entry, and its name is that of its text, which the platform signed with the entry's written form
pub record IsLinkOf (keys : Keys) (me : PlatformCode) (entry : Entry) (link : ChainLink) : Type 0 where
  pub has_entry : link.entry ≡ entry
  pub name : link.name ≡ checksum_of link.text.0
  pub signed : IsSigned keys MAX_SIGNED_TEXT link.text.0 me (entry_value entry)

-- the manifest names the bill and the link and lists the documents, and the platform signed its written form
pub record IsManifestOf (keys : Keys) (me : PlatformCode) (link : ChainLink) (documents : List Piece)
    (manifest : Manifest) (text : SignedText) : Type 0 where
  pub names_bill : manifest.bill ≡ link.entry.bill
  pub names_link : manifest.last ≡ link.name
  pub lists : manifest.documents ≡ documents
  pub signed : IsSigned keys MAX_SIGNED_TEXT text.0 me (manifest_value manifest)

-- ---- what a plan says

-- the bill is held with a known chain, which goes with this link to the platform
pub record GoesTo (place : BillPlace) (link : ChainLink) (to : PlatformCode) : Type 0 where
  pub known : List ChainLink
  pub since : List Transaction
  pub held : place ≡ Held known since
  pub goes : destination (known ++ link ∷ []) ≡ Some to

-- an attachment whose bytes are listed for its bill
abbrev pub IsListed : List Record → CommandRecord → Type 0
IsListed records (attaches bill name media bytes) = lists (pieces_of (of_bill bill records)) (checksum_of bytes) ≡ true
IsListed records command = ⊥
