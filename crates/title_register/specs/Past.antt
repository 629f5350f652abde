-- What is kept of a bill so that its records needn't be gone over when a frame is reserved.
use Rattle.std.specs.Prelude.{Bool, true, false, not, List, [], ◌∷◌, ◌++◌, filter}
use Rattle.std.specs.List.{list_any}
use Rattle.std.specs.Option.{option_map_or}
use Rattle.ebl_base.specs.Checksum.{checksum_eq}
use Rattle.ebl_base.specs.declared.checksum.Checksum.{Checksum}
use Rattle.bill_chain.specs.Chain.{names_of}
use Rattle.bill_diary.specs.declared.record.Record.{Record}
use Rattle.bill_diary.specs.declared.record.Record.TheVariants.{Signed, Parted, Settled, Taken}
use Rattle.bill_diary.specs.Known.{taken_chain}

-- whether a name is among some
abbrev pub is_among : List Checksum → Checksum → Bool
is_among names name = list_any (λ other. checksum_eq other name) names

-- some names, followed by those of others that aren't among them
abbrev pub with_names : List Checksum → List Checksum → List Checksum
with_names names others = names ++ filter (λ name. not (is_among names name)) others

-- the names of the entries of a Taken's chain
abbrev pub taken_names : Checksum → List Record → List Checksum
taken_names entry before = option_map_or names_of (taken_chain entry before) []

-- the names of all entries that came with a Taken
abbrev pub arrived : List Record → List Checksum
arrived [] = []
arrived (Taken bill entry ∷ h) = with_names (arrived h) (taken_names entry h)
arrived (r ∷ h) = arrived h

-- whether no record told a chain since the last Parted: then the chain that is known was known at that Parted
abbrev pub is_fresh : List Record → Bool
is_fresh [] = false
is_fresh (Parted bill link manifest manifest_text ∷ h) = true
is_fresh (Signed bill document transaction ∷ h) = false
is_fresh (Settled bill entry ∷ h) = false
is_fresh (Taken bill entry ∷ h) = false
is_fresh (r ∷ h) = is_fresh h
