-- What a command writes, and how it ends; and what of it stands in the sink.
use Rattle.std.specs.Prelude.{◌≡◌, ℕ, List, ◌++◌, Option}
use Rattle.std.specs.Io.KnownBytes.{Appends}
use Rattle.ebl_edge.specs.Sink.{AppendsFirst}
use Rattle.canonical_json.specs.declared.fault.ReadError.{ReadError}

-- how it ends
pub data OutputEnd : Type 0 where
  -- everything is written
  complete : OutputEnd
  -- the line of this number is the first outside the grammar
  bad_line : ℕ → OutputEnd
  -- the text has no value, and why
  bad_json : ReadError → OutputEnd
  -- before a line, where memory or the sink fails
  stopped : OutputEnd

pub record Output : Type 0 where
  pub text : List ℕ
  pub end : OutputEnd

-- with this text in front
abbrev pub after_text : List ℕ → Output → Output
after_text front out = record { text = front ++ out.text; end = out.end }

-- an output that ends so was written whole
abbrev pub Wrote : (Output → Type 0) → OutputEnd → Option (List ℕ) → Option (List ℕ) → Type 0
Wrote IsOutput end old new = (out : Output) × IsOutput out × (out.end ≡ end) × Appends old new out.text

-- a first part of some output was written, and nothing else
abbrev pub WroteFirst : (Output → Type 0) → Option (List ℕ) → Option (List ℕ) → Type 0
WroteFirst IsOutput old new = (out : Output) × IsOutput out × AppendsFirst old new out.text
