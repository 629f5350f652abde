-- The SHA-256 checksum of a text, which is the text's name.
use Rattle.std.specs.Prelude.{◌≡◌, ℕ, List, length}
use Rattle.hex.specs.Hex.{IsBytes}
use Rattle.sha2.specs.Sha256.{sha256}
use Rattle.ebl_base.specs.declared.checksum.Checksum.{Checksum}

-- the checksum of a text is its digest (FIPS 180-4, section 6.2)
abbrev pub checksum_of : List ℕ → Checksum
checksum_of text = record { 0 = sha256 text }

-- a checksum has 32 bytes
pub record IsChecksum (checksum : Checksum) : Type 0 where
  pub size : length checksum.0 ≡ 32
  pub bytes : IsBytes checksum.0
