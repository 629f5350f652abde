-- The numbers of the bills that a script signed, at hand.
use Rattle.std.specs.Prelude.{◌≡◌, ℕ, List, Option, Some, None, if◌then◌else◌}
use Rattle.std.specs.BTreeMap.{BTreeMap, get}
use Rattle.ebl_base.specs.Checksum.{checksum_cmp, checksum_eq}
use Rattle.ebl_base.specs.declared.checksum.Checksum.{Checksum}
use Rattle.world_events.specs.Numbers.{number_from}

-- each bill of the list is found under its number, and no other one
abbrev pub AreNumbered : List Checksum → BTreeMap Checksum ℕ → Type 0
AreNumbered bills numbers = (bill : Checksum) → get checksum_cmp numbers bill ≡ number_from 1 bill bills

-- the number of another bill, once a bill has this number unless it had one before
abbrev pub numbered_too : Checksum → ℕ → Checksum → Option ℕ → Option ℕ
numbered_too bill number other (Some n) = Some n
numbered_too bill number other None = if checksum_eq bill other then Some number else None
