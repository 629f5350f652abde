-- The code of a carrier in the list of a provider: 1 to 4 characters A to Z or 0 to 9.
use Rattle.std.specs.Prelude.{◌≡◌, ℕ, ◌-◌, Bool, List, ◌++◌, Option, Some, None, length, ◌&&◌, nat_le, if◌then◌else◌, replicate, take_while}
use Rattle.std.specs.List.{list_all}
use Rattle.std.specs.Str.{bytes_eq}
use Rattle.ebl_base.specs.PlatformCode.{is_code_character}
use Rattle.ebl_base.specs.declared.carrier_code.CarrierCode.{CarrierCode}

-- 1 to 4 capital letters or digits
abbrev pub is_carrier_code : List ℕ → Bool
is_carrier_code text = nat_le 1 (length text) && nat_le (length text) 4 && list_all is_code_character text

-- the code with this text, with zeros behind it
abbrev pub carrier_code_of : List ℕ → Option CarrierCode
carrier_code_of text =
    if is_carrier_code text then Some (record { bytes = text ++ replicate (4 - length text) 0 }) else None

-- the text of a code: its leading code characters
abbrev pub carrier_code_text : CarrierCode → List ℕ
carrier_code_text code = take_while is_code_character code.bytes

-- the code has its form: its text is the code's
abbrev pub IsCarrierCode : CarrierCode → Type 0
IsCarrierCode code = carrier_code_of (carrier_code_text code) ≡ Some code

-- whether two codes are one
abbrev pub carrier_code_eq : CarrierCode → CarrierCode → Bool
carrier_code_eq a b = bytes_eq a.bytes b.bytes
