-- The roster of a rehearsal: three platforms, two parties on each, and one carrier.
use Rattle.std.specs.Prelude.{ℕ, ◌-◌, List, [], ◌∷◌, ◌++◌, codes, length, replicate, slice_index_or}
use Rattle.ebl_base.specs.declared.name35.Name35.{Name35}
use Rattle.ebl_base.specs.declared.party.Party.{Party}
use Rattle.ebl_base.specs.declared.platform_code.PlatformCode.{PlatformCode}
use Rattle.ebl_base.specs.declared.provider.Provider.TheVariants.{Nmfta}
use Rattle.party_roster.specs.declared.carrier.Carrier.{Carrier}
use Rattle.party_roster.specs.RosterRecord.{RosterRecord}

abbrev pub alph : PlatformCode
alph = record { bytes = codes "ALPH" }

abbrev pub beta : PlatformCode
beta = record { bytes = codes "BETA" }

abbrev pub gamm : PlatformCode
gamm = record { bytes = codes "GAMM" }

-- a name, with zeros behind it
abbrev pub name : List ℕ → Name35
name text = record { bytes = text ++ replicate (35 - length text) 0 }

-- the first and the second party of a platform
abbrev pub one : PlatformCode → Party
one platform = record { platform = platform; code = name (codes "ONE") }

abbrev pub two : PlatformCode → Party
two platform = record { platform = platform; code = name (codes "TWO") }

-- the carrier OCNL of NMFTA
abbrev pub carrier : Carrier
carrier = record { provider = Nmfta; code = record { bytes = codes "OCNL" }; party = one alph }

unfoldable pub made_roster : RosterRecord
made_roster = record {
  platforms = alph ∷ beta ∷ gamm ∷ [];
  parties = one alph ∷ two alph ∷ one beta ∷ two beta ∷ one gamm ∷ two gamm ∷ [];
  carriers = carrier ∷ [];
}

-- the platform and the party of this number, from 0
abbrev pub platform_at : ℕ → PlatformCode
platform_at i = slice_index_or made_roster.platforms i alph

abbrev pub party_at : ℕ → Party
party_at i = slice_index_or made_roster.parties i (one alph)
