-- What a JSON value is: RFC 8259 with whole numbers and decimals, and with texts as their UTF-8 bytes.
use Rattle.std.specs.Prelude.{ℕ, ℤ, suc, max, List, Bool}

mutual
  pub data Value : Type 0 where
    null : Value
    flag : Bool → Value
    int : ℤ → Value
    -- the digits with their sign, and how many of them stand behind the full stop
    decimal : ℤ → ℕ → Value
    text : List ℕ → Value
    list : Values → Value
    object : Members → Value

  -- the values of a list, in their order
  pub data Values : Type 0 where
    no_values : Values
    item : Value → Values → Values

  -- the members of an object, in their order
  pub data Members : Type 0 where
    no_members : Members
    member : List ℕ → Value → Members → Members

-- how deep lists and objects nest
abbrev mutual
  pub depth : Value → ℕ
  depth null = 0
  depth (flag b) = 0
  depth (int z) = 0
  depth (decimal z s) = 0
  depth (text s) = 0
  depth (list vs) = suc (values_depth vs)
  depth (object ms) = suc (members_depth ms)

  pub values_depth : Values → ℕ
  values_depth no_values = 0
  values_depth (item v vs) = max (depth v) (values_depth vs)

  pub members_depth : Members → ℕ
  members_depth no_members = 0
  members_depth (member name v ms) = max (depth v) (members_depth ms)
