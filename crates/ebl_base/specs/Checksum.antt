-- Whether two checksums are one, and which of two comes first.
use Rattle.std.specs.Prelude.{Bool}
use Rattle.std.specs.Str.{bytes_eq}
use Rattle.std.specs.declared.cmp.Ordering.{Ordering}
use Rattle.std.specs.Ordering.{nat_cmp}
use Rattle.std.specs.Cmp.Lexicographic.{slice_cmp}
use Rattle.ebl_base.specs.declared.checksum.Checksum.{Checksum}

-- whether two checksums are one
abbrev pub checksum_eq : Checksum → Checksum → Bool
checksum_eq a b = bytes_eq a.0 b.0

-- which of two checksums comes first, by their bytes from the front
abbrev pub checksum_cmp : Checksum → Checksum → Ordering
checksum_cmp a b = slice_cmp nat_cmp a.0 b.0
