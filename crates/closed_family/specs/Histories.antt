-- What one history of a bill has of its entries: whether it was signed, what was parted and on which known chain.
use Rattle.std.specs.Prelude.{◌≡◌, ◌⊎◌, Bool, true, false, List, [], ◌∷◌, ◌++◌, Some}
use Rattle.std.specs.List.{list_any}
use Rattle.ebl_base.specs.Checksum.{checksum_eq}
use Rattle.ebl_base.specs.declared.checksum.Checksum.{Checksum}
use Rattle.ebl_base.specs.declared.chain.ChainLink.{ChainLink}
use Rattle.bill_diary.specs.declared.record.Record.{Record}
use Rattle.bill_diary.specs.declared.record.Record.TheVariants.{Signed, Parted, Begun}
use Rattle.bill_diary.specs.Known.{known}
use Rattle.bill_diary.specs.Place.{taken_chains}
use Rattle.closed_family.specs.Chains.{IsAmong, IsPrefix}

-- whether a record is the Signed of the bill
abbrev pub signs : Record → Bool
signs (Signed bill document transaction) = true
signs r = false

-- whether the bill was signed on the platform
abbrev pub is_signed : List Record → Bool
is_signed h = list_any signs h

-- whether a record is a Parted of this entry
abbrev pub parts_entry : Checksum → Record → Bool
parts_entry name (Parted bill link manifest manifest_text) = checksum_eq link.name name
parts_entry name r = false

-- whether the entry was parted on the platform
abbrev pub is_parted : Checksum → List Record → Bool
is_parted name h = list_any (parts_entry name) h

-- an entry was parted when this was the known chain
abbrev pub PartedOn : List ChainLink → ChainLink → List Record → Type 0
PartedOn before entry [] = ⊥
PartedOn before entry (Parted bill link manifest manifest_text ∷ h) =
    ((link ≡ entry) × (known h ≡ Some before)) ⊎ PartedOn before entry h
PartedOn before entry (r ∷ h) = PartedOn before entry h

-- a chain was accepted on the platform: the empty one where the bill was signed there, or one that was taken there
abbrev pub WasAccepted : List ChainLink → List Record → Type 0
WasAccepted chain h = ((chain ≡ []) × (is_signed h ≡ true)) ⊎ IsAmong chain (taken_chains h)

-- the links of a history: those that parted here, and those of the chains that came here
abbrev pub links_of : List Record → List ChainLink
links_of [] = []
links_of (Parted bill link manifest manifest_text ∷ h) = link ∷ links_of h
links_of (Begun bill chain manifest body ∷ h) = chain ++ links_of h
links_of (r ∷ h) = links_of h

-- a chain is known that begins with this one
abbrev pub ExtendsKnown : List ChainLink → List Record → Type 0
ExtendsKnown before h = (K : List ChainLink) × (known h ≡ Some K) × IsPrefix before K
