-- The bytes of a text that is lent or made.
use Rattle.std.specs.Prelude.{ℕ, List}
use Rattle.closed_family.specs.declared.texts.Text.{Text}
use Rattle.closed_family.specs.declared.texts.Text.TheVariants.{Lent, Made}

-- what stands in a record, or what was written out of one
abbrev pub bytes_of : Text → List ℕ
bytes_of (Lent bytes) = bytes.now
bytes_of (Made bytes) = bytes
