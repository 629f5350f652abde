-- What `canon` writes: a value's canonical text and its checksum, each in a line.
use Rattle.std.specs.Prelude.{◌≡◌, ◌⊎◌, ℕ, List, [], ◌∷◌, ◌++◌}
use Rattle.canonical_json.specs.Value.{Value}
use Rattle.canonical_json.specs.Canon.{canon}
use Rattle.canonical_json.specs.Reading.{Reads, IsFault}
use Rattle.canonical_json.specs.declared.fault.ReadError.{ReadError}
use Rattle.canonical_json.specs.declared.fault.ReadError.TheVariants.{NoMemory}
use Rattle.document_checksum.specs.Digest.{checksum_of}
use Rattle.document_checksum.specs.Text.{checksum_text}
use Rattle.ebl_run.specs.Output.{Output, complete, bad_json, stopped}

-- the canonical text and its checksum, each ended by a line feed
abbrev pub canonical_lines : Value → List ℕ
canonical_lines v = canon v ++ 10 ∷ [] ++ checksum_text (checksum_of (canon v)) ++ 10 ∷ []

-- why a text has no value; that memory ran out is no reason
abbrev pub IsRefusal : List ℕ → ReadError → Type 0
IsRefusal text NoMemory = ⊥
IsRefusal text fault = IsFault text fault

-- the lines of the text's value, or why it has none; memory may run out before it writes
abbrev pub Canonizes : List ℕ → Output → Type 0
Canonizes text out =
    (out ≡ record { text = []; end = stopped })
    ⊎ (((v : Value) × Reads text v × (out ≡ record { text = canonical_lines v; end = complete }))
    ⊎ ((fault : ReadError) × IsRefusal text fault × (out ≡ record { text = []; end = bad_json fault })))
