-- The text of a checksum: 64 hexadecimal digits in lower case.
use Rattle.std.specs.Prelude.{ℕ, Bool, List, Option, Some, None, Result, Ok, Err, ◌&&◌, ◌||◌, nat_le, if◌then◌else◌}
use Rattle.std.specs.List.{list_all}
use Rattle.hex.specs.Hex.{encode_lower, decode_sized}
use Rattle.hex.specs.declared.error.FromHexError.{FromHexError}
use Rattle.ebl_base.specs.declared.checksum.Checksum.{Checksum}

-- a digit, or a letter a to f
abbrev pub is_lower_digit : ℕ → Bool
is_lower_digit c = (nat_le 48 c && nat_le c 57) || (nat_le 97 c && nat_le c 102)

-- the text of a checksum: two digits for each byte, the high four bits first
abbrev pub checksum_text : Checksum → List ℕ
checksum_text checksum = encode_lower checksum.0

-- the checksum of these bytes, if there are any
abbrev pub checksum_from : Result (List ℕ) FromHexError → Option Checksum
checksum_from (Ok bytes) = Some (record { 0 = bytes })
checksum_from (Err fault) = None

-- the checksum with this text: the 32 bytes that the digits spell, where none is in upper case
abbrev pub checksum_of_text : List ℕ → Option Checksum
checksum_of_text text = if list_all is_lower_digit text then checksum_from (decode_sized text 32) else None
