-- Which events the rows of a script allow.
use Rattle.std.specs.Prelude.{◌≢◌, ◌≤◌, ℕ, IfSome, IsTrue}
use Rattle.std.specs.Str.{IsUtf8}
use Rattle.ebl_base.specs.declared.limits.TheConstants.{MAX_DOCUMENT_MEDIA, MAX_DOCUMENT_NAME}
use Rattle.base64.specs.GeneralPurpose.{IsBytes}
use Rattle.canonical_json.specs.Lawful.{IsLawful, HasTexts}
use Rattle.document_checksum.specs.Digest.{IsChecksum}
use Rattle.ebl_base.specs.Moment.{IsMoment}
use Rattle.ebl_base.specs.Party.{IsParty}
use Rattle.ebl_base.specs.PlatformCode.{IsCode}
use Rattle.ebl_base.specs.declared.kind.Kind.TheVariants as kinds
use Rattle.ebl_base.specs.declared.limits.TheConstants.{MAX_WHOLE_NUMBER}
use Rattle.envelope_manifest.specs.Piece.{is_plain_text}
use Rattle.upload_state.specs.Reference.{IsReference}
use Rattle.world_script.specs.declared.deed.BillName.{BillName}
use Rattle.world_script.specs.declared.deed.BillName.TheVariants.{Name, Number}
use Rattle.world_script.specs.Event.{DeedRecord, signs, acts, attaches, ForeignRecord, starts, puts, finishes, start_replies, finish_replies, EventRecord, commands, delivers, restarts, resends, asks, receives, shows}

-- messages and bills are numbered from 1
pub record IsNumber (n : ℕ) : Type 0 where
  pub least : 1 ≤ n
  pub most : n ≤ MAX_WHOLE_NUMBER

-- a bill's name, or the number of one
abbrev pub IsBillName : BillName → Type 0
IsBillName (Name bill) = IsChecksum bill
IsBillName (Number n) = IsNumber n

-- a document that may be written as JSON; a bill, any kind except SIGN, and a party if there is one; a bill, a name of
-- 1 to 128 bytes, a media type of 1 to 64, and any bytes
abbrev pub IsDeed : DeedRecord → Type 0
IsDeed (signs document) = IsLawful document × HasTexts document
IsDeed (acts bill kind recipient) = IsBillName bill × (kind ≢ kinds.Sign) × IfSome recipient IsParty
IsDeed (attaches bill name media bytes) =
    IsBillName bill × (IsTrue (is_plain_text MAX_DOCUMENT_NAME name) × IsUtf8 name)
    × (IsTrue (is_plain_text MAX_DOCUMENT_MEDIA media) × IsUtf8 media) × IsBytes bytes

-- texts, references, names and bytes in their forms
abbrev pub IsForeign : ForeignRecord → Type 0
IsForeign (starts body) = IsUtf8 body
IsForeign (puts reference checksum bytes) = IsReference reference × IsChecksum checksum × IsBytes bytes
IsForeign (finishes reference) = IsReference reference
IsForeign (start_replies bill text) = IsBillName bill × IsUtf8 text
IsForeign (finish_replies bill text) = IsBillName bill × IsUtf8 text

abbrev pub IsEvent : EventRecord → Type 0
IsEvent (commands at party now deed) = IsCode at × IsParty party × IsMoment now × IsDeed deed
IsEvent (delivers number at) = IsNumber number × IfSome at IsCode
IsEvent (restarts at) = IsCode at
IsEvent (resends at bill) = IsCode at × IsBillName bill
IsEvent (asks at bill) = IsCode at × IsBillName bill
IsEvent (receives at bytes) = IsCode at × IsForeign bytes
IsEvent (shows number) = IsNumber number
