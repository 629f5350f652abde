-- An additional document as a manifest lists it: which JSON values are one, and how one is written.
use Rattle.std.specs.Prelude.{ℕ, ◌≤◌, List, Bool, not, ◌&&◌, ◌||◌, ◌==◌, IsTrue, Option, Some, None, Result, Ok, codes, length, nat_lt, nat_le, option_and_then, if◌then◌else◌}
use Rattle.std.specs.List.{list_all}
use Rattle.std.specs.Str.{IsUtf8, chars}
use Rattle.canonical_json.specs.Value.{Value, text, object, no_members, member}
use Rattle.canonical_json.specs.Field.{text_of}
use Rattle.document_checksum.specs.Digest.{IsChecksum}
use Rattle.json_forms.specs.Reading.{required_number, required_checksum, required}
use Rattle.json_forms.specs.Writing.{number_value, checksum_value}
use Rattle.ebl_base.specs.declared.checksum.Checksum.{Checksum}
use Rattle.ebl_base.specs.declared.limits.TheConstants.{MAX_DOCUMENT_MEDIA, MAX_DOCUMENT_NAME, MAX_DOCUMENT_SIZE}
use Rattle.envelope_manifest.specs.declared.fault.ManifestField.{ManifestField}
use Rattle.envelope_manifest.specs.declared.fault.ManifestField.TheVariants.{Documents}
use Rattle.envelope_manifest.specs.declared.piece.Piece.{Piece}

-- a character below U+0020, or U+007F
abbrev pub is_control : ℕ → Bool
is_control c = nat_lt c 0x20 || (c == 0x7F)

-- no character is a control character
abbrev pub has_no_control : List ℕ → Bool
has_no_control t = list_all (λ c. not (is_control c)) (chars t)

-- 1 to `most` bytes of UTF-8, and no control character
abbrev pub is_plain_text : ℕ → List ℕ → Bool
is_plain_text most t = nat_le 1 (length t) && nat_le (length t) most && has_no_control t

-- the text, where it is of that form
abbrev pub plain_text : ℕ → List ℕ → Option (List ℕ)
plain_text most t = if is_plain_text most t then Some t else None

-- the text of that form that the member of that name is
abbrev pub required_plain_text : List ℕ → ℕ → Value → Option (List ℕ)
required_plain_text name most v = option_and_then (plain_text most) (text_of name v)

-- the document with these members, where each has its form
abbrev pub piece_with : Option (List ℕ) → Option (List ℕ) → Option ℕ → Option Checksum → Option Piece
piece_with None media size checksum = None
piece_with (Some name) None size checksum = None
piece_with (Some name) (Some media) None checksum = None
piece_with (Some name) (Some media) (Some size) None = None
piece_with (Some name) (Some media) (Some size) (Some checksum) =
    Some (record { name = name; media = media; size = size; checksum = checksum })

-- the document that a value lists: a name of at most 128 bytes, a media type of at most 64, a size of at most
-- 2,097,152 bytes, and a checksum
abbrev pub piece_in : Value → Option Piece
piece_in v =
    piece_with (required_plain_text (codes "name") MAX_DOCUMENT_NAME v)
    (required_plain_text (codes "media") MAX_DOCUMENT_MEDIA v)
    (required_number (codes "size") 0 MAX_DOCUMENT_SIZE v) (required_checksum (codes "checksum") v)

-- the same, where another value is a fault of the list of documents
abbrev pub piece_of : Value → Result Piece ManifestField
piece_of v = required Documents (piece_in v) Ok

-- a listed document that is well-formed
pub record IsPiece (piece : Piece) : Type 0 where
  pub name : IsTrue (is_plain_text MAX_DOCUMENT_NAME piece.name)
  pub name_utf8 : IsUtf8 piece.name
  pub media : IsTrue (is_plain_text MAX_DOCUMENT_MEDIA piece.media)
  pub media_utf8 : IsUtf8 piece.media
  pub size : piece.size ≤ MAX_DOCUMENT_SIZE
  pub checksum : IsChecksum piece.checksum

-- the written form, with the names in order
abbrev pub piece_value : Piece → Value
piece_value piece =
    object (member (codes "checksum") (checksum_value piece.checksum)
    (member (codes "media") (text piece.media)
    (member (codes "name") (text piece.name)
    (member (codes "size") (number_value piece.size) no_members))))
