-- The name of a party on its platform: 1 to 35 characters A to Z, 0 to 9, hyphen or low line.
use Rattle.std.specs.Prelude.{◌≡◌, ℕ, ◌-◌, Bool, List, ◌++◌, Option, Some, None, length, ◌&&◌, ◌||◌, ◌==◌, nat_le, if◌then◌else◌, replicate, take_while}
use Rattle.std.specs.List.{list_all}
use Rattle.std.specs.Str.{bytes_eq}
use Rattle.ebl_base.specs.PlatformCode.{is_code_character}
use Rattle.ebl_base.specs.declared.name35.Name35.{Name35}

-- a capital letter, a digit, a hyphen or a low line
abbrev pub is_name_character : ℕ → Bool
is_name_character c = is_code_character c || (c == 45) || (c == 95)

-- 1 to 35 such characters
abbrev pub is_name : List ℕ → Bool
is_name text = nat_le 1 (length text) && nat_le (length text) 35 && list_all is_name_character text

-- the name with this text, with zeros behind it
abbrev pub name_of : List ℕ → Option Name35
name_of text = if is_name text then Some (record { bytes = text ++ replicate (35 - length text) 0 }) else None

-- the text of a name: its leading name characters
abbrev pub name_text : Name35 → List ℕ
name_text name = take_while is_name_character name.bytes

-- the name has its form: its text is the name's
abbrev pub IsName35 : Name35 → Type 0
IsName35 name = name_of (name_text name) ≡ Some name

-- whether two names are one
abbrev pub name_eq : Name35 → Name35 → Bool
name_eq a b = bytes_eq a.bytes b.bytes
