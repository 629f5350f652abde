-- Looking into a value by the name of a member.
use Rattle.std.specs.Prelude.{ℕ, ℤ, List, Bool, Option, Some, None, option_and_then, bytes_eq, if◌then◌else◌}
use Rattle.canonical_json.specs.Value.{Value, null, flag, int, decimal, text, list, object, Values, Members, no_members, member}

-- what stands under the name among the members
abbrev pub under : List ℕ → Members → Option Value
under name no_members = None
under name (member other v ms) = if bytes_eq other name then Some v else under name ms

-- the member of that name, of an object
abbrev pub member_of : List ℕ → Value → Option Value
member_of name null = None
member_of name (flag b) = None
member_of name (int z) = None
member_of name (decimal z s) = None
member_of name (text s) = None
member_of name (list vs) = None
member_of name (object ms) = under name ms

abbrev pub as_text : Value → Option (List ℕ)
as_text null = None
as_text (flag b) = None
as_text (int z) = None
as_text (decimal z s) = None
as_text (text s) = Some s
as_text (list vs) = None
as_text (object ms) = None

abbrev pub as_int : Value → Option ℤ
as_int null = None
as_int (flag b) = None
as_int (int z) = Some z
as_int (decimal z s) = None
as_int (text s) = None
as_int (list vs) = None
as_int (object ms) = None

-- its digits with their sign, and its scale
abbrev pub as_decimal : Value → Option (ℤ × ℕ)
as_decimal null = None
as_decimal (flag b) = None
as_decimal (int z) = None
as_decimal (decimal z s) = Some (z, s)
as_decimal (text s) = None
as_decimal (list vs) = None
as_decimal (object ms) = None

abbrev pub as_flag : Value → Option Bool
as_flag null = None
as_flag (flag b) = Some b
as_flag (int z) = None
as_flag (decimal z s) = None
as_flag (text s) = None
as_flag (list vs) = None
as_flag (object ms) = None

abbrev pub as_list : Value → Option Values
as_list null = None
as_list (flag b) = None
as_list (int z) = None
as_list (decimal z s) = None
as_list (text s) = None
as_list (list vs) = Some vs
as_list (object ms) = None

-- the member of that name, where it is a text, a whole number, a decimal, a truth value, a list
abbrev pub text_of : List ℕ → Value → Option (List ℕ)
text_of name v = option_and_then as_text (member_of name v)

abbrev pub int_of : List ℕ → Value → Option ℤ
int_of name v = option_and_then as_int (member_of name v)

abbrev pub decimal_of : List ℕ → Value → Option (ℤ × ℕ)
decimal_of name v = option_and_then as_decimal (member_of name v)

abbrev pub flag_of : List ℕ → Value → Option Bool
flag_of name v = option_and_then as_flag (member_of name v)

abbrev pub list_of : List ℕ → Value → Option Values
list_of name v = option_and_then as_list (member_of name v)
