-- What is read is a roster.
use Rattle.std.proofs.Common.{◌≡◌, ◌≤◌, ℕ, suc, Bool, true, false, ◌&&◌, nat_le, List, [], ◌∷◌, Option, Some, None, Result, Ok, Err, codes, cond, map, length, refl, sym, ap, ◌∙◌, subst, arith}
use Rattle.std.specs.Prelude.{All, option_and_then}
use Rattle.std.specs.Set.{is_member}
use Rattle.canonical_json.specs.Value.{Value}
use Rattle.canonical_json.specs.Field.{as_text, text_of, list_of}
use Rattle.ebl_base.specs.PlatformCode.{code_eq, code_of, code_text}
use Rattle.ebl_base.specs.Party.{party_eq, party_of, party_text}
use Rattle.ebl_base.specs.Provider.{provider_of, provider_text}
use Rattle.ebl_base.specs.CarrierCode.{carrier_code_of, carrier_code_text}
use Rattle.ebl_base.specs.declared.platform_code.PlatformCode.{PlatformCode}
use Rattle.ebl_base.specs.declared.party.Party.{Party}
use Rattle.ebl_base.specs.declared.provider.Provider.{Provider}
use Rattle.ebl_base.specs.declared.carrier_code.CarrierCode.{CarrierCode}
use Rattle.ebl_base.proofs.TextLemmas.{code_text-code_of, party_text-party_of, provider_text-provider_of, carrier_code_text-carrier_code_of}
use Rattle.party_roster.specs.declared.carrier.Carrier.{Carrier}
use Rattle.party_roster.specs.declared.fault.RosterPlace.{RosterPlace}
use Rattle.party_roster.specs.declared.fault.RosterPlace.TheVariants.{Whole, Platform, Parties, PartyAt, Carriers, CarrierAt}
use Rattle.json_forms.specs.Reading.{then_read, platform_in, party_in, required_party, required_provider, required_carrier_code}
use Rattle.json_forms.specs.Writing.{platform_value, party_value}
use Rattle.json_forms.proofs.RoundTrips.{again, kept}
use Rattle.party_roster.specs.RosterRecord.{RosterRecord, same_carrier}
use Rattle.party_roster.specs.RosterForm.{IsPlatform, IsListedParty, IsListedCarrier, IsRoster}
use Rattle.party_roster.specs.Reading.{platforms_of, on_listed, listed_party, parties_of, carrier_with, carrier_in, of_listed, listed_carrier, carriers_of, roster_of}
use Rattle.json_forms.proofs.ReadForms.{then_read-parts}
use Rattle.party_roster.proofs.ListLemmas.{list-form}

-- ---- items

-- a listed party is there and its platform is listed
on_listed-parts : (platforms : List PlatformCode) (o : Option Party) (x : Party)
    → on_listed platforms o ≡ Some x → (o ≡ Some x) × (is_member code_eq platforms x.platform ≡ true)
on_listed-parts platforms None x h = cc
on_listed-parts platforms (Some y) x h =
    let both = kept (is_member code_eq platforms y.platform) y x h in
    (ap Some both.1, ap (λ (p : Party). is_member code_eq platforms p.platform) (sym both.1) ∙ both.0)

-- the parts of a carrier that is there
record Parts (provider : Option Provider) (code : Option CarrierCode) (party : Option Party) (x : Carrier) :
    Type 0 where
  in_provider : provider ≡ Some x.provider
  in_code : code ≡ Some x.code
  in_party : party ≡ Some x.party

carrier_with-parts : (provider : Option Provider) (code : Option CarrierCode) (party : Option Party) (x : Carrier)
    → carrier_with provider code party ≡ Some x → Parts provider code party x
carrier_with-parts None code party x h = cc
carrier_with-parts (Some provider) None party x h = cc
carrier_with-parts (Some provider) (Some code) None x h = cc
carrier_with-parts (Some provider) (Some code) (Some party) x h =
    let made : Carrier = record { provider = provider; code = code; party = party } in
    let same : made ≡ x = (kept true made x h).1 in
    record {
      in_provider = ap (λ (c : Carrier). Some c.provider) same;
      in_code = ap (λ (c : Carrier). Some c.code) same;
      in_party = ap (λ (c : Carrier). Some c.party) same;
    }

of_listed-parts : (parties : List Party) (o : Option Carrier) (x : Carrier) → of_listed parties o ≡ Some x
    → (o ≡ Some x) × (is_member party_eq parties x.party ≡ true)
of_listed-parts parties None x h = cc
of_listed-parts parties (Some y) x h =
    let both = kept (is_member party_eq parties y.party) y x h in
    (ap Some both.1, ap (λ (c : Carrier). is_member party_eq parties c.party) (sym both.1) ∙ both.0)

-- ---- the items of a roster

platform_form : (v : Value) (x : PlatformCode) → platform_in v ≡ Some x → IsPlatform x
platform_form v x h = again code_of code_text code_text-code_of (as_text v) x h

party_form : (platforms : List PlatformCode) (v : Value) (x : Party) → listed_party platforms v ≡ Some x
    → IsListedParty platforms x
party_form platforms v x h =
    let parts = on_listed-parts platforms (party_in v) x h in
    record { form = again party_of party_text party_text-party_of (as_text v) x parts.0; platform = parts.1 }

carrier_form : (parties : List Party) (v : Value) (x : Carrier) → listed_carrier parties v ≡ Some x
    → IsListedCarrier parties x
carrier_form parties v x h =
    let listed = of_listed-parts parties (carrier_in v) x h in
    let parts =
    carrier_with-parts (required_provider (codes "provider") v) (required_carrier_code (codes "code") v)
    (required_party (codes "party") v) x listed.0 in
    record {
      provider = again provider_of provider_text provider_text-provider_of (text_of (codes "provider") v) x.provider parts.in_provider;
      code = again carrier_code_of carrier_code_text carrier_code_text-carrier_code_of (text_of (codes "code") v) x.code parts.in_code;
      form = again party_of party_text party_text-party_of (text_of (codes "party") v) x.party parts.in_party;
      party = listed.1;
    }

-- ---- the roster

-- the three lists of a roster that was read
record Lists (v : Value) (roster : RosterRecord) : Type 0 where
  platforms : platforms_of v ≡ Ok roster.platforms
  parties : parties_of roster.platforms v ≡ Ok roster.parties
  carriers : carriers_of roster.parties v ≡ Ok roster.carriers

roster_of-lists : (v : Value) (roster : RosterRecord) → roster_of v ≡ Ok roster → Lists v roster
roster_of-lists v roster h =
    let first = then_read-parts (platforms_of v) _ roster h in
    let second = then_read-parts (parties_of first.0 v) _ roster first.2 in
    let third = then_read-parts (carriers_of second.0 v) _ roster second.2 in
    let made : RosterRecord = record { platforms = first.0; parties = second.0; carriers = third.0 } in
    let outcome : RosterRecord → Result RosterRecord RosterPlace = Ok in
    let same : made ≡ roster = cc in
    lists made roster same first.1 second.1 third.1
  where
    lists : (made whole_roster : RosterRecord) → made ≡ whole_roster → platforms_of v ≡ Ok made.platforms
        → parties_of made.platforms v ≡ Ok made.parties → carriers_of made.parties v ≡ Ok made.carriers
        → Lists v whole_roster
    lists made whole_roster same a b c =
        subst (Lists v) same (record { platforms = a; parties = b; carriers = c })

-- what was read is a roster
pub roster_form : (v : Value) (roster : RosterRecord) → roster_of v ≡ Ok roster → IsRoster roster
roster_form v roster h =
    let lists = roster_of-lists v roster h in
    record {
      platforms = list-form code_eq platform_in IsPlatform platform_form Whole Platform 8 (list_of (codes "platforms") v)
          roster.platforms lists.platforms;
      parties = list-form party_eq (listed_party roster.platforms) (IsListedParty roster.platforms)
          (party_form roster.platforms) Parties PartyAt 1024 (list_of (codes "parties") v) roster.parties lists.parties;
      carriers = list-form same_carrier (listed_carrier roster.parties) (IsListedCarrier roster.parties)
          (carrier_form roster.parties) Carriers CarrierAt 64 (list_of (codes "carriers") v) roster.carriers
          lists.carriers;
    }
