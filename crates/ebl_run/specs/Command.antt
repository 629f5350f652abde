-- The commands that the program's words name.
use Rattle.std.specs.Prelude.{◌≤◌, ℕ, ◌+◌, ◌-◌, ◌*◌, Bool, true, false, not, ◌&&◌, ◌==◌, List, [], ◌∷◌, Option, Some, None, String, bytes_eq, codes, fold, nat_le, if◌then◌else◌}
use Rattle.std.specs.declared.alloc.Global.{Global}
use Rattle.std.specs.Char.{is_ascii_digit}
use Rattle.std.specs.List.{list_all}
use Rattle.std.specs.String.{string_bytes}
use Rattle.rehearsal.specs.declared.run.TheConstants.{MOST_BILLS, MOST_STEPS}
use Rattle.ebl_run.specs.declared.command.Command.{Command}
use Rattle.ebl_run.specs.declared.command.Command.TheVariants.{Drive, Canon, Rehearse}

-- ---- numbers

-- there is a first digit, and it is no zero in front of another
abbrev pub has_first : List ℕ → Bool
has_first [] = false
has_first (digit ∷ []) = true
has_first (digit ∷ digits) = not (digit == 48)

-- decimal digits
abbrev pub is_number : List ℕ → Bool
is_number text = list_all is_ascii_digit text && has_first text

-- the number that digits spell
abbrev pub value_of : List ℕ → ℕ
value_of digits = fold (λ n digit. 10 * n + (digit - 48)) 0 digits

-- the number, if it lies in this range
abbrev pub within : ℕ → ℕ → ℕ → Option ℕ
within least most number = if nat_le least number && nat_le number most then Some number else None

-- the number that a text is, if it lies in this range
abbrev pub number_in : ℕ → ℕ → List ℕ → Option ℕ
number_in least most text = if is_number text then within least most (value_of text) else None

-- ---- commands

-- a seed below 2^63, 1 to 1,000 bills, and 1 to 20,000 steps
abbrev pub rehearse_of : Option ℕ → Option ℕ → Option ℕ → Option Command
rehearse_of (Some seed) (Some bills) (Some steps) = Some (Rehearse seed bills steps)
rehearse_of seed bills steps = None

-- `drive` or `canon` alone, or `rehearse` with its three numbers
abbrev pub command_of : List (String Global) → Option Command
command_of (word ∷ []) =
    if bytes_eq (string_bytes word) (codes "drive") then Some Drive else
    if bytes_eq (string_bytes word) (codes "canon") then Some Canon else None
command_of (word ∷ seed ∷ bills ∷ steps ∷ []) =
    if bytes_eq (string_bytes word) (codes "rehearse")
    then rehearse_of (number_in 0 9223372036854775807 (string_bytes seed))
    (number_in 1 MOST_BILLS (string_bytes bills)) (number_in 1 MOST_STEPS (string_bytes steps))
    else None
command_of words = None

-- whether a command reads the source
abbrev pub reads_source : Command → Bool
reads_source Drive = true
reads_source Canon = true
reads_source (Rehearse seed bills steps) = false

-- the numbers of a rehearsal lie in their ranges
abbrev pub IsInRange : Command → Type 0
IsInRange (Rehearse seed bills steps) = (1 ≤ bills) × (bills ≤ MOST_BILLS) × (steps ≤ MOST_STEPS)
IsInRange command = Unit {0}
