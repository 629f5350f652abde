-- The fields of a head: pairs of a name and a value. Names are compared without the case of letters.
use Rattle.std.specs.Prelude.{ℕ, ◌==◌, nat_le, Bool, true, false, not, ◌&&◌, List, [], ◌∷◌, map, length, codes, Option, Some, None, if◌then◌else◌}
use Rattle.std.specs.List.{list_all, list_any}
use Rattle.std.specs.Char.{is_ascii_digit, to_ascii_lowercase}
use Rattle.std.specs.Str.{bytes_eq}

abbrev pub Fields : Type 0
Fields = List (List ℕ × List ℕ)

-- the same bytes
abbrev pub is_text : List ℕ → List ℕ → Bool
is_text a b = bytes_eq a b

-- the same, whatever the case of letters
abbrev pub is_name : List ℕ → List ℕ → Bool
is_name a b = bytes_eq (map to_ascii_lowercase a) (map to_ascii_lowercase b)

-- the values of the fields of this name, in order
abbrev pub values : List ℕ → Fields → List (List ℕ)
values name [] = []
values name (f ∷ fields) = if is_name name f.0 then f.1 ∷ values name fields else values name fields

abbrev pub first_of : List (List ℕ) → Option (List ℕ)
first_of [] = None
first_of (v ∷ vs) = Some v

abbrev pub has_one : List (List ℕ) → Bool
has_one [] = false
has_one (v ∷ vs) = true

-- a header Connection is `close`
abbrev pub closes : Fields → Bool
closes fields = list_any (is_name (codes "close")) (values (codes "connection") fields)

-- after the reply the link may stay open: HTTP/1.1, and no header says that it is to be closed
abbrev pub keeps_open : ℕ → Fields → Bool
keeps_open minor fields = (minor == 1) && not (closes fields)

-- the text of a length: 1 to 19 digits
abbrev pub is_length : List ℕ → Bool
is_length value = nat_le 1 (length value) && (nat_le (length value) 19 && list_all is_ascii_digit value)
