-- What a command signs.
use Rattle.std.specs.Prelude.{ℕ, List}
use Rattle.canonical_json.specs.Reading.{Reads}
use Rattle.holder_commands.specs.Command.{CommandRecord, signs}

-- the command signs the document that the text reads as
abbrev pub SignsText : List ℕ → CommandRecord → Type 0
SignsText text (signs document) = Reads text document
SignsText text command = ⊥
