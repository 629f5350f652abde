-- The code of a title platform: four characters A to Z or 0 to 9.
use Rattle.std.specs.Prelude.{◌≡◌, ℕ, Bool, List, Option, Some, None, length, ◌&&◌, ◌||◌, ◌==◌, nat_le, if◌then◌else◌, take_while}
use Rattle.std.specs.List.{list_all}
use Rattle.std.specs.Str.{bytes_eq}
use Rattle.ebl_base.specs.declared.platform_code.PlatformCode.{PlatformCode}

-- a capital letter or a digit
abbrev pub is_code_character : ℕ → Bool
is_code_character c = (nat_le 65 c && nat_le c 90) || (nat_le 48 c && nat_le c 57)

-- four such characters
abbrev pub is_code : List ℕ → Bool
is_code text = (length text == 4) && list_all is_code_character text

-- the code with this text
abbrev pub code_of : List ℕ → Option PlatformCode
code_of text = if is_code text then Some (record { bytes = text }) else None

-- the text of a code: its leading code characters
abbrev pub code_text : PlatformCode → List ℕ
code_text code = take_while is_code_character code.bytes

-- the code has its form: its text is the code's
abbrev pub IsCode : PlatformCode → Type 0
IsCode code = code_of (code_text code) ≡ Some code

-- whether two codes are one
abbrev pub code_eq : PlatformCode → PlatformCode → Bool
code_eq a b = bytes_eq a.bytes b.bytes
