-- The reference of an envelope, which its bill and the last entry of its chain fix.
use Rattle.std.specs.Prelude.{◌++◌, take, drop}
use Rattle.ebl_base.specs.declared.checksum.Checksum.{Checksum}
use Rattle.ebl_base.specs.declared.reference.Reference.{Reference}

-- byte 0 of the bill's name, then bytes 1 to 15 of the entry's
abbrev pub reference_of : Checksum → Checksum → Reference
reference_of bill entry = record { 0 = take 1 bill.0 ++ drop 1 (take 16 entry.0) }
