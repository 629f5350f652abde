-- The chains that a bill's records tell, as a pass from the oldest record keeps them.
use Rattle.std.specs.Prelude.{◌≡◌, List, [], ◌∷◌, ◌++◌, Option, Some, None, find, map, option_and_then, option_map, reverse}
use Rattle.ebl_base.specs.Checksum.{checksum_eq}
use Rattle.ebl_base.specs.declared.checksum.Checksum.{Checksum}
use Rattle.ebl_base.specs.declared.chain.ChainLink.{ChainLink}
use Rattle.bill_diary.specs.declared.record.Record.{Record}
use Rattle.bill_diary.specs.declared.record.Record.TheVariants.{Parted, Begun}
use Rattle.bill_diary.specs.declared.known_chains.PartedEntry.{PartedEntry}
use Rattle.bill_diary.specs.declared.known_chains.KnownChains.{KnownChains}
use Rattle.bill_diary.specs.Known.{known, longer}

-- the chains that came with a Begun, newest first
abbrev pub begun_chains : List Record → List (List ChainLink)
begun_chains [] = []
begun_chains (Begun bill chain manifest body ∷ h) = chain ∷ begun_chains h
begun_chains (r ∷ h) = begun_chains h

-- the entries that were parted, newest first, each with the chain that its Settled would tell
abbrev pub parted_entries : List Record → List PartedEntry
parted_entries [] = []
parted_entries (Parted bill link manifest manifest_text ∷ h) =
    record { entry = link.name; chain = option_map (λ chain. chain ++ link ∷ []) (known h) } ∷ parted_entries h
parted_entries (r ∷ h) = parted_entries h

-- the chain of a Settled, by the entries that were parted, the newest at the end
abbrev pub settled_among : Checksum → List PartedEntry → Option (List ChainLink)
settled_among entry parted =
    option_and_then (λ departure. departure.chain)
    (find (λ departure. checksum_eq departure.entry entry) (reverse parted))

-- the known chain where one more is recorded, if any is
abbrev pub known_with : Option (List ChainLink) → Option (List ChainLink) → Option (List ChainLink)
known_with None known1 = known1
known_with (Some chain) known1 = Some (longer chain known1)

-- what a pass has kept is what these records tell
pub record IsToldBy (h : List Record) (told : KnownChains) : Type 0 where
  pub known_is : told.known ≡ known h
  pub begun_is : map (λ chain. chain.now) (reverse told.begun.items) ≡ begun_chains h
  pub parted_is : reverse told.parted.items ≡ parted_entries h
