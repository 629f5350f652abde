-- Which JSON values are rosters, and the first place where another value isn't as a roster's.
use Rattle.std.specs.Prelude.{◌≡◌, List, Option, Some, None, Result, Ok, Err, codes, if◌then◌else◌}
use Rattle.std.specs.Set.{is_member}
use Rattle.canonical_json.specs.Value.{Value, Values}
use Rattle.ebl_base.specs.PlatformCode.{code_eq}
use Rattle.ebl_base.specs.Party.{party_eq}
use Rattle.ebl_base.specs.declared.limits.TheConstants.{MAX_ROSTER_CARRIERS, MAX_ROSTER_PARTIES, MAX_ROSTER_PLATFORMS}
use Rattle.ebl_base.specs.declared.platform_code.PlatformCode.{PlatformCode}
use Rattle.ebl_base.specs.declared.party.Party.{Party}
use Rattle.ebl_base.specs.declared.provider.Provider.{Provider}
use Rattle.ebl_base.specs.declared.carrier_code.CarrierCode.{CarrierCode}
use Rattle.party_roster.specs.declared.carrier.Carrier.{Carrier}
use Rattle.party_roster.specs.declared.fault.RosterPlace.{RosterPlace}
use Rattle.party_roster.specs.declared.fault.RosterPlace.TheVariants.{Whole, Platform, Parties, PartyAt, Carriers, CarrierAt}
use Rattle.party_roster.specs.declared.fault.RosterFault.{RosterFault}
use Rattle.party_roster.specs.declared.fault.RosterFault.TheVariants.{RosterForm, NoMemory}
use Rattle.json_forms.specs.Reading.{then_read, platform_in, party_in, required_party, required_provider, required_carrier_code, required_items, each}
use Rattle.party_roster.specs.Distinct.{distinct}
use Rattle.party_roster.specs.RosterRecord.{RosterRecord, same_carrier}

-- what the values of a list read as; the place outside the list where there is no such list
abbrev pub list_read : {T : Type 0} → RosterPlace → (Values → Result (List T) RosterPlace) → Option Values
    → Result (List T) RosterPlace
list_read outside read None = Err outside
list_read outside read (Some values) = read values

-- distinct platform codes
abbrev pub distinct_platforms : Values → Result (List PlatformCode) RosterPlace
distinct_platforms values = distinct code_eq Platform (each platform_in values)

-- 1 to 8 of them
abbrev pub platforms_of : Value → Result (List PlatformCode) RosterPlace
platforms_of v = list_read Whole distinct_platforms (required_items (codes "platforms") 1 MAX_ROSTER_PLATFORMS v)

-- the party, where its platform is listed
abbrev pub on_listed : List PlatformCode → Option Party → Option Party
on_listed platforms None = None
on_listed platforms (Some party) = if is_member code_eq platforms party.platform then Some party else None

-- the party on a listed platform that a value is
abbrev pub listed_party : List PlatformCode → Value → Option Party
listed_party platforms v = on_listed platforms (party_in v)

-- distinct parties, each on a listed platform
abbrev pub distinct_parties : List PlatformCode → Values → Result (List Party) RosterPlace
distinct_parties platforms values = distinct party_eq PartyAt (each (listed_party platforms) values)

-- 1 to 1,024 of them
abbrev pub parties_of : List PlatformCode → Value → Result (List Party) RosterPlace
parties_of platforms v =
    list_read Parties (distinct_parties platforms) (required_items (codes "parties") 1 MAX_ROSTER_PARTIES v)

-- the carrier with these parts, where each has its form
abbrev pub carrier_with : Option Provider → Option CarrierCode → Option Party → Option Carrier
carrier_with None code party = None
carrier_with (Some provider) None party = None
carrier_with (Some provider) (Some code) None = None
carrier_with (Some provider) (Some code) (Some party) =
    Some (record { provider = provider; code = code; party = party })

-- the carrier that an object is
abbrev pub carrier_in : Value → Option Carrier
carrier_in v =
    carrier_with (required_provider (codes "provider") v) (required_carrier_code (codes "code") v)
    (required_party (codes "party") v)

-- the carrier, where its party is listed
abbrev pub of_listed : List Party → Option Carrier → Option Carrier
of_listed parties None = None
of_listed parties (Some carrier) = if is_member party_eq parties carrier.party then Some carrier else None

-- the carrier with a listed party that a value is
abbrev pub listed_carrier : List Party → Value → Option Carrier
listed_carrier parties v = of_listed parties (carrier_in v)

-- carriers that are distinct by provider and code, each party listed
abbrev pub distinct_carriers : List Party → Values → Result (List Carrier) RosterPlace
distinct_carriers parties values = distinct same_carrier CarrierAt (each (listed_carrier parties) values)

-- 1 to 64 of them
abbrev pub carriers_of : List Party → Value → Result (List Carrier) RosterPlace
carriers_of parties v =
    list_read Carriers (distinct_carriers parties) (required_items (codes "carriers") 1 MAX_ROSTER_CARRIERS v)

-- the roster that a value is, or the first wrong place: of the platforms, then of the parties, then of the carriers
abbrev pub roster_of : Value → Result RosterRecord RosterPlace
roster_of v =
    then_read (platforms_of v) (λ platforms.
    then_read (parties_of platforms v) (λ parties.
    then_read (carriers_of parties v) (λ carriers.
    Ok (record { platforms = platforms; parties = parties; carriers = carriers }))))

-- the fault is the wrong place that was found, or memory ran out
abbrev pub IsFault : {A : Type 0} → Result A RosterPlace → RosterFault → Type 0
IsFault read (RosterForm place) = read ≡ Err place
IsFault read NoMemory = Unit {0}
