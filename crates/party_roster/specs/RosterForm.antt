-- Which rosters are well-formed.
use Rattle.std.specs.Prelude.{◌≡◌, true, List, Some}
use Rattle.std.specs.Set.{is_member}
use Rattle.ebl_base.specs.PlatformCode.{code_eq, code_of, code_text}
use Rattle.ebl_base.specs.Party.{party_eq, party_of, party_text}
use Rattle.ebl_base.specs.Provider.{provider_of, provider_text}
use Rattle.ebl_base.specs.CarrierCode.{carrier_code_of, carrier_code_text}
use Rattle.ebl_base.specs.declared.limits.TheConstants.{MAX_ROSTER_CARRIERS, MAX_ROSTER_PARTIES, MAX_ROSTER_PLATFORMS}
use Rattle.ebl_base.specs.declared.platform_code.PlatformCode.{PlatformCode}
use Rattle.ebl_base.specs.declared.party.Party.{Party}
use Rattle.party_roster.specs.declared.carrier.Carrier.{Carrier}
use Rattle.party_roster.specs.Distinct.{IsDistinctList}
use Rattle.party_roster.specs.RosterRecord.{RosterRecord, same_carrier}

-- a platform code, which its text stands for
abbrev pub IsPlatform : PlatformCode → Type 0
IsPlatform platform = code_of (code_text platform) ≡ Some platform

-- a party on a listed platform
pub record IsListedParty (platforms : List PlatformCode) (party : Party) : Type 0 where
  pub form : party_of (party_text party) ≡ Some party
  pub platform : is_member code_eq platforms party.platform ≡ true

-- a carrier with a listed party
pub record IsListedCarrier (parties : List Party) (carrier : Carrier) : Type 0 where
  pub provider : provider_of (provider_text carrier.provider) ≡ Some carrier.provider
  pub code : carrier_code_of (carrier_code_text carrier.code) ≡ Some carrier.code
  pub form : party_of (party_text carrier.party) ≡ Some carrier.party
  pub party : is_member party_eq parties carrier.party ≡ true

-- 1 to 8 distinct platforms; 1 to 1,024 distinct parties on them; 1 to 64 carriers with listed parties, distinct by
-- provider and code
pub record IsRoster (roster : RosterRecord) : Type 0 where
  pub platforms : IsDistinctList IsPlatform code_eq MAX_ROSTER_PLATFORMS roster.platforms
  pub parties : IsDistinctList (IsListedParty roster.platforms) party_eq MAX_ROSTER_PARTIES roster.parties
  pub carriers : IsDistinctList (IsListedCarrier roster.parties) same_carrier MAX_ROSTER_CARRIERS roster.carriers
