-- The answer that an upload has started: which JSON texts are one, and how one is written.
use Rattle.std.specs.Prelude.{◌≡◌, ℕ, ◌≤◌, List, [], ◌∷◌, Option, Some, None, codes, length, option_and_then}
use Rattle.canonical_json.specs.Value.{Value, text, object, no_members, member}
use Rattle.canonical_json.specs.Field.{text_of}
use Rattle.canonical_json.specs.Reading.{Reads}
use Rattle.canonical_json.specs.declared.fault.ReadError.{ReadError}
use Rattle.canonical_json.specs.declared.fault.ReadError.TheVariants as error
use Rattle.document_checksum.specs.Digest.{IsChecksum}
use Rattle.json_forms.specs.Reading.{required_items, all_of, checksum_in}
use Rattle.json_forms.specs.Writing.{checksums_value}
use Rattle.ebl_base.specs.declared.checksum.Checksum.{Checksum}
use Rattle.ebl_base.specs.declared.limits.TheConstants.{MAX_DOCUMENTS}
use Rattle.ebl_base.specs.declared.reference.Reference.{Reference}
use Rattle.upload_state.specs.declared.started.Started.{Started}
use Rattle.upload_state.specs.declared.started.StartedFault.{StartedFault}
use Rattle.upload_state.specs.declared.started.StartedFault.TheVariants.{Form, NoMemory}
use Rattle.upload_state.specs.Reference.{IsReference, reference_in, reference_text}

-- the answer with these members, where each has its form
abbrev pub started_with : Option Reference → Option (List Checksum) → Option Started
started_with None missing = None
started_with (Some reference) None = None
started_with (Some reference) (Some missing) = Some (record { reference = reference; missing = missing })

-- the answer that a value is: a reference, and 1 to 16 checksums
abbrev pub started_of : Value → Option Started
started_of v =
    started_with (option_and_then reference_in (text_of (codes "reference") v))
    (option_and_then (all_of checksum_in) (required_items (codes "missing") 1 MAX_DOCUMENTS v))

-- the bytes are a text of JSON, and its value is the answer
abbrev pub ReadsAs : List ℕ → Started → Type 0
ReadsAs bytes started = (v : Value) × Reads bytes v × (started_of v ≡ Some started)

-- the bytes are no text of an answer, or memory ran out
abbrev pub IsFault : List ℕ → StartedFault → Type 0
IsFault bytes Form = (started : Started) → ¬ ReadsAs bytes started
IsFault bytes NoMemory = Unit {0}

-- the same of the reading of a value
abbrev pub IsMalformed : Option Started → StartedFault → Type 0
IsMalformed read Form = read ≡ None
IsMalformed read NoMemory = Unit {0}

-- why a text that isn't read is no answer
abbrev pub fault_of : ReadError → StartedFault
fault_of error.NotJson = Form
fault_of error.Repeated = Form
fault_of error.Fraction = Form
fault_of error.Range = Form
fault_of error.NoMemory = NoMemory

-- each is a checksum
abbrev pub AreChecksums : List Checksum → Type 0
AreChecksums [] = Unit {0}
AreChecksums (checksum ∷ checksums) = IsChecksum checksum × AreChecksums checksums

-- a well-formed answer
pub record IsStarted (started : Started) : Type 0 where
  pub reference : IsReference started.reference
  pub least : 1 ≤ length started.missing
  pub most : length started.missing ≤ MAX_DOCUMENTS
  pub missing : AreChecksums started.missing

-- the written form, with the names in order
abbrev pub started_value : Started → Value
started_value started =
    object (member (codes "missing") (checksums_value started.missing)
    (member (codes "reference") (text (reference_text started.reference)) no_members))
