-- The body in which a bill is sent: which JSON texts are one, and how one is written.
use Rattle.std.specs.Prelude.{◌≡◌, ◌⊎◌, ℕ, List, [], ◌∷◌, Option, Some, None, Result, Ok, Err, codes, option_map, option_and_then}
use Rattle.std.specs.Str.{IsUtf8}
use Rattle.canonical_json.specs.Value.{Value, null, flag, int, decimal, text, list, object, Members, no_members, member}
use Rattle.canonical_json.specs.View.{view}
use Rattle.canonical_json.specs.Field.{as_list, under}
use Rattle.canonical_json.specs.Lawful.{IsLawful, HasTexts}
use Rattle.canonical_json.specs.Reading.{IsUnread, Reads, value_in}
use Rattle.canonical_json.specs.declared.fault.ReadError.{ReadError}
use Rattle.json_forms.specs.Reading.{all_of, required, signed_in}
use Rattle.json_forms.specs.Writing.{each_written, signed_value}
use Rattle.ebl_base.specs.declared.signed_text.SignedText.{SignedText}
use Rattle.envelope_manifest.specs.declared.body.Body.{Body}
use Rattle.envelope_manifest.specs.declared.fault.BodyField.{BodyField}
use Rattle.envelope_manifest.specs.declared.fault.BodyField.TheVariants as fields
use Rattle.envelope_manifest.specs.declared.fault.BodyFault.{BodyFault}
use Rattle.envelope_manifest.specs.declared.fault.BodyFault.TheVariants.{BodyForm, NoMemory}

-- a document, the manifest's text, and the texts of the chain
pub record BodyRecord : Type 0 where
  pub document : Value
  pub manifest : SignedText
  pub chain : List SignedText

-- how contracts see a body
abbrev pub body_view : Body → BodyRecord
body_view body = record { document = view body.document; manifest = body.manifest; chain = body.chain }

-- the members of a value that is an object
abbrev pub members_in : Value → Option Members
members_in null = None
members_in (flag b) = None
members_in (int z) = None
members_in (decimal z s) = None
members_in (text t) = None
members_in (list vs) = None
members_in (object ms) = Some ms

-- a value that is an object
abbrev pub object_in : Value → Option Value
object_in v = option_map object (members_in v)

-- those that a list is
abbrev pub all_signed_in : Value → Option (List SignedText)
all_signed_in v = option_and_then (all_of signed_in) (as_list v)

-- the body with these members, or the first of them that is absent or malformed
abbrev pub parts_of : Members → Result BodyRecord BodyField
parts_of ms =
    required fields.Document (option_and_then object_in (under (codes "document") ms)) (λ document.
    required fields.Manifest (option_and_then signed_in (under (codes "manifest") ms)) (λ manifest.
    required fields.Chain (option_and_then all_signed_in (under (codes "chain") ms)) (λ chain.
    Ok (record { document = document; manifest = manifest; chain = chain }))))

-- the body that a value is, or the first part that is wrong: before its members, that the value is no object
abbrev pub body_of : Value → Result BodyRecord BodyField
body_of v = required fields.Json (members_in v) parts_of

-- the body that a reading gives; bytes that have no value are wrong before all members
abbrev pub body_of_reading : Result Value ReadError → Result BodyRecord BodyField
body_of_reading (Ok v) = body_of v
body_of_reading (Err fault) = Err fields.Json

-- the body that bytes are, or the first part that is wrong
abbrev pub body_in : List ℕ → Result BodyRecord BodyField
body_in bytes = body_of_reading (value_in bytes)

-- the bytes are a text of JSON, and its value is the body
abbrev pub ReadsAs : List ℕ → BodyRecord → Type 0
ReadsAs bytes body = (v : Value) × Reads bytes v × (body_of v ≡ Ok body)

-- the first wrong part of bytes that are no body: they are no such text, or their value is wrong there
abbrev pub IsWrongAt : List ℕ → BodyField → Type 0
IsWrongAt bytes field =
    ((field ≡ fields.Json) × IsUnread bytes) ⊎ ((v : Value) × Reads bytes v × (body_of v ≡ Err field))

-- the fault is the first wrong part, or memory ran out
abbrev pub IsBodyFault : List ℕ → BodyFault → Type 0
IsBodyFault bytes (BodyForm field) = IsWrongAt bytes field
IsBodyFault bytes NoMemory = Unit {0}

-- the same of the reading of a value
abbrev pub IsPartFault : Result BodyRecord BodyField → BodyFault → Type 0
IsPartFault read (BodyForm field) = read ≡ Err field
IsPartFault read NoMemory = Unit {0}

-- each text is UTF-8
abbrev pub AreUtf8 : List SignedText → Type 0
AreUtf8 [] = Unit {0}
AreUtf8 (t ∷ ts) = IsUtf8 t.0 × AreUtf8 ts

-- a well-formed body: its document is an object that may be written, and its texts are UTF-8
pub record IsBody (body : BodyRecord) : Type 0 where
  pub object : object_in body.document ≡ Some body.document
  pub lawful : IsLawful body.document
  pub texts : HasTexts body.document
  pub manifest : IsUtf8 body.manifest.0
  pub chain : AreUtf8 body.chain

-- the written form, with the names in order
abbrev pub body_value : BodyRecord → Value
body_value body =
    object (member (codes "chain") (list (each_written signed_value body.chain))
    (member (codes "document") body.document
    (member (codes "manifest") (signed_value body.manifest) no_members)))
