-- How a known chain goes on in a later one.
use Rattle.std.specs.Prelude.{◌≡◌, List, ◌++◌, Option, Some, None}
use Rattle.ebl_base.specs.declared.checksum.Checksum.{Checksum}
use Rattle.ebl_base.specs.declared.chain.ChainLink.{ChainLink}
use Rattle.bill_chain.specs.Chain.{names_of}

-- what was known goes on: the names of its entries stand in front of the later ones
abbrev pub GoesOnIn : Option (List ChainLink) → Option (List ChainLink) → Type 0
GoesOnIn None later = Unit {0}
GoesOnIn (Some chain) None = ⊥
GoesOnIn (Some chain) (Some later) = (rest : List Checksum) × (names_of later ≡ names_of chain ++ rest)
