-- When an ordered set or map of std finds what stands in a list.
use Rattle.std.specs.Prelude.{◌≡◌, List}
use Rattle.std.specs.declared.cmp.Ordering.{Ordering}
use Rattle.std.specs.Ordering.{nat_cmp, ordering_then}
use Rattle.std.specs.Cmp.Lexicographic.{slice_cmp}
use Rattle.std.specs.BTreeSet.{BTreeSet, contains}
use Rattle.std.specs.Set.{is_member}
use Rattle.ebl_base.specs.Party.{party_eq}
use Rattle.std.specs.BTreeMap.{BTreeMap, get}
use Rattle.ebl_base.specs.declared.party.Party.{Party}
use Rattle.ebl_base.specs.declared.provider.Provider.{Provider}
use Rattle.ebl_base.specs.contracts.provider.ProviderOrd.TheImpl.{ghosts}
use Rattle.ebl_base.specs.declared.carrier_code.CarrierCode.{CarrierCode}
use Rattle.party_roster.specs.declared.carrier.Carrier.{Carrier}
use Rattle.party_roster.specs.RosterRecord.{party_for}

-- parties by their platforms, and then by their names
abbrev pub party_cmp : Party → Party → Ordering
party_cmp a b =
    ordering_then (slice_cmp nat_cmp a.platform.bytes b.platform.bytes)
    (slice_cmp nat_cmp a.code.bytes b.code.bytes)

-- the set has the parties of the list, and no other
abbrev pub AreIn : List Party → BTreeSet Party → Type 0
AreIn parties known = (party : Party) → contains party_cmp known party ≡ is_member party_eq parties party

-- providers in the order of their declaration
abbrev pub provider_cmp : Provider → Provider → Ordering
provider_cmp = ghosts.cmp

-- carriers by their providers, and then by their codes
abbrev pub carrier_cmp : Provider × CarrierCode → Provider × CarrierCode → Ordering
carrier_cmp a b = ordering_then (provider_cmp a.0 b.0) (slice_cmp nat_cmp a.1.bytes b.1.bytes)

-- the map has the parties of the carriers under their providers and codes, and no other
abbrev pub AreUnder : List Carrier → BTreeMap (Provider × CarrierCode) Party → Type 0
AreUnder carriers parties = (provider : Provider) (code : CarrierCode)
    → get carrier_cmp parties (provider, code) ≡ party_for carriers provider code
