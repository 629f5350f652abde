-- Which commands the form allows.
use Rattle.std.specs.Prelude.{◌≡◌, false, IfSome, IsTrue}
use Rattle.std.specs.Str.{IsUtf8}
use Rattle.ebl_base.specs.declared.limits.TheConstants.{MAX_DOCUMENT_MEDIA, MAX_DOCUMENT_NAME}
use Rattle.base64.specs.GeneralPurpose.{IsBytes}
use Rattle.canonical_json.specs.Lawful.{IsLawful, HasTexts}
use Rattle.document_checksum.specs.Digest.{IsChecksum}
use Rattle.ebl_base.specs.Party.{IsParty}
use Rattle.envelope_manifest.specs.Piece.{is_plain_text}
use Rattle.holder_commands.specs.Command.{CommandRecord, signs, acts, attaches}
use Rattle.holder_commands.specs.Reading.{begins_a_bill}

-- a document that may be written as JSON; a bill's name, any kind except SIGN, and a party if there is one; a bill's
-- name, a name of 1 to 128 bytes, a media type of 1 to 64, and any bytes
abbrev pub IsCommand : CommandRecord → Type 0
IsCommand (signs document) = IsLawful document × HasTexts document
IsCommand (acts bill kind recipient) =
    IsChecksum bill × (begins_a_bill kind ≡ false) × IfSome recipient IsParty
IsCommand (attaches bill name media bytes) =
    IsChecksum bill × (IsTrue (is_plain_text MAX_DOCUMENT_NAME name) × IsUtf8 name)
    × (IsTrue (is_plain_text MAX_DOCUMENT_MEDIA media) × IsUtf8 media) × IsBytes bytes
