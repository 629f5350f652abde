-- The accepted chains of a bill in one order, and the longest of them.
use Rattle.std.specs.Prelude.{◌≡◌, ◌⊎◌, Bool, false, List, [], ◌∷◌, filter, map, reverse, unwrap_or}
use Rattle.std.specs.List.{flat_map}
use Rattle.std.specs.Option.{option_map_or}
use Rattle.ebl_base.specs.PlatformCode.{code_eq}
use Rattle.ebl_base.specs.declared.chain.ChainLink.{ChainLink}
use Rattle.ebl_base.specs.declared.checksum.Checksum.{Checksum}
use Rattle.ebl_base.specs.declared.platform_code.PlatformCode.{PlatformCode}
use Rattle.bill_chain.specs.Chain.{destination}
use Rattle.bill_diary.specs.Known.{longest}
use Rattle.bill_diary.specs.Place.{taken_chains}
use Rattle.closed_family.specs.declared.family.Member.{Member}
use Rattle.closed_family.specs.Chains.{IsAmong}
use Rattle.closed_family.specs.Closed.{Histories}
use Rattle.closed_family.specs.Family.{histories_of}

-- whether a chain moves possession to this platform
abbrev pub ends_on : PlatformCode → List ChainLink → Bool
ends_on p chain = option_map_or (λ to. code_eq to p) (destination chain) false

-- the chains that were taken on the platform where they end, from the earliest on
abbrev pub accepted_on : Histories → PlatformCode → List (List ChainLink)
accepted_on at p = filter (ends_on p) (reverse (taken_chains (at p)))

-- the accepted chains of a bill that was signed: the empty one, and then those of the platforms, in their order
abbrev pub accepted_chains : Histories → List PlatformCode → List (List ChainLink)
accepted_chains at platforms = [] ∷ flat_map (accepted_on at) platforms

-- the longest of them; of equally long ones the first
abbrev pub longest_accepted : Histories → List PlatformCode → List ChainLink
longest_accepted at platforms = unwrap_or (longest (accepted_chains at platforms)) []

-- no other platform has a record of the bill
abbrev pub HaveAllRecords : Histories → List PlatformCode → Type 0
HaveAllRecords at platforms = (p : PlatformCode) → IsAmong p platforms ⊎ (at p ≡ [])

-- the longest accepted chain of a bill in a family, with the platforms in its order
abbrev pub longest_in : List Member → Checksum → List ChainLink
longest_in family bill = longest_accepted (histories_of bill family) (map (λ member. member.platform) family)
