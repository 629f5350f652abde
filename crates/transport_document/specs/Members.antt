-- The members of a transport document that have a form of their own.
use Rattle.std.specs.Prelude.{ℕ, ◌&&◌, Bool, true, false, List, Option, Some, None, codes, length, nat_le, option_and_then, bytes_eq, if◌then◌else◌}
use Rattle.std.specs.Str.{chars}
use Rattle.ebl_base.specs.declared.limits.TheConstants.{MAX_DOCUMENT_REFERENCE}
use Rattle.canonical_json.specs.Value.{Value}
use Rattle.canonical_json.specs.Field.{text_of}

-- a text of 1 to 20 characters
abbrev pub reference_of : List ℕ → Option (List ℕ)
reference_of text =
    if nat_le 1 (length (chars text)) && nat_le (length (chars text)) MAX_DOCUMENT_REFERENCE then Some text else None

-- whether a type's text gives title: a bill of lading, `BOL`, does, and a sea waybill, `SWB`, doesn't
abbrev pub gives_title : List ℕ → Option Bool
gives_title text =
    if bytes_eq text (codes "BOL") then Some true else if bytes_eq text (codes "SWB") then Some false else None

-- the reference under its name
abbrev pub required_reference : Value → Option (List ℕ)
required_reference v = option_and_then reference_of (text_of (codes "transportDocumentReference") v)

-- the same of the type under its name
abbrev pub required_title : Value → Option Bool
required_title v = option_and_then gives_title (text_of (codes "transportDocumentTypeCode") v)
