-- A roster is read as it is written.
use Rattle.std.proofs.Common.{◌≡◌, ◌≤◌, ℕ, suc, Bool, true, false, ◌&&◌, nat_le, List, [], ◌∷◌, Option, Some, None, Result, Ok, Err, codes, cond, map, length, refl, sym, ap, ◌∙◌, subst, arith}
use Rattle.std.specs.Prelude.{All, option_and_then}
use Rattle.std.specs.Set.{is_member}
use Rattle.canonical_json.specs.Value.{Value}
use Rattle.canonical_json.specs.Field.{as_text, text_of, list_of}
use Rattle.ebl_base.specs.PlatformCode.{code_eq, code_of, code_text}
use Rattle.ebl_base.specs.Party.{party_eq, party_of, party_text}
use Rattle.ebl_base.specs.Provider.{provider_of, provider_text}
use Rattle.ebl_base.specs.CarrierCode.{carrier_code_of, carrier_code_text}
use Rattle.ebl_base.specs.declared.platform_code.PlatformCode.{PlatformCode}
use Rattle.ebl_base.specs.declared.party.Party.{Party}
use Rattle.ebl_base.specs.declared.provider.Provider.{Provider}
use Rattle.ebl_base.specs.declared.carrier_code.CarrierCode.{CarrierCode}
use Rattle.ebl_base.proofs.TextLemmas.{code_text-code_of, party_text-party_of, provider_text-provider_of, carrier_code_text-carrier_code_of}
use Rattle.party_roster.specs.declared.carrier.Carrier.{Carrier}
use Rattle.party_roster.specs.declared.fault.RosterPlace.{RosterPlace}
use Rattle.party_roster.specs.declared.fault.RosterPlace.TheVariants.{Whole, Platform, Parties, PartyAt, Carriers, CarrierAt}
use Rattle.json_forms.specs.Reading.{then_read, platform_in, party_in, required_party, required_provider, required_carrier_code}
use Rattle.json_forms.specs.Writing.{platform_value, party_value}
use Rattle.json_forms.proofs.RoundTrips.{again, kept}
use Rattle.party_roster.specs.RosterRecord.{RosterRecord, same_carrier}
use Rattle.party_roster.specs.RosterForm.{IsPlatform, IsListedParty, IsListedCarrier, IsRoster}
use Rattle.party_roster.specs.Reading.{platforms_of, on_listed, listed_party, parties_of, carrier_with, carrier_in, of_listed, listed_carrier, carriers_of, roster_of}
use Rattle.std.specs.Str.{chars}
use Rattle.canonical_json.specs.Name.{name_cmp}
use Rattle.canonical_json.specs.Lawful.{IsLawful, are_lawful, is_lawful}
use Rattle.json_forms.specs.Writing.{each_written}
use Rattle.party_roster.specs.Writing.{carrier_value, roster_value}
use Rattle.party_roster.proofs.ListLemmas.{list-reads_back}

party-reads_back : (platforms : List PlatformCode) (x : Party) → IsListedParty platforms x
    → listed_party platforms (party_value x) ≡ Some x
party-reads_back platforms x is =
    ap (on_listed platforms) is.form ∙ ap (λ b. cond b (Some x) None) is.platform

carrier-reads_back : (parties : List Party) (x : Carrier) → IsListedCarrier parties x
    → listed_carrier parties (carrier_value x) ≡ Some x
carrier-reads_back parties x is =
    ap (λ p. of_listed parties (carrier_with p (carrier_code_of (carrier_code_text x.code)) (party_of (party_text x.party))))
    is.provider
    ∙ ap (λ c. of_listed parties (carrier_with (Some x.provider) c (party_of (party_text x.party)))) is.code
    ∙ ap (λ p. of_listed parties (carrier_with (Some x.provider) (Some x.code) p)) is.form
    ∙ ap (λ b. cond b (Some x) None) is.party

-- a roster is read as it is written
pub roster-reads_back : (roster : RosterRecord) → IsRoster roster → roster_of (roster_value roster) ≡ Ok roster
roster-reads_back roster is =
    let written = roster_value roster in
    let platforms : platforms_of written ≡ Ok roster.platforms =
    list-reads_back code_eq platform_in platform_value IsPlatform (λ x form. form) Whole Platform 8 roster.platforms
    is.platforms in
    let parties : parties_of roster.platforms written ≡ Ok roster.parties =
    list-reads_back party_eq (listed_party roster.platforms) party_value (IsListedParty roster.platforms)
    (party-reads_back roster.platforms) Parties PartyAt 1024 roster.parties is.parties in
    let carriers : carriers_of roster.parties written ≡ Ok roster.carriers =
    list-reads_back same_carrier (listed_carrier roster.parties) carrier_value (IsListedCarrier roster.parties)
    (carrier-reads_back roster.parties) Carriers CarrierAt 64 roster.carriers is.carriers in
    ap (λ r. then_read r (λ ps. then_read (parties_of ps written) (λ qs. then_read (carriers_of qs written)
    (λ cs. Ok (record { platforms = ps; parties = qs; carriers = cs }))))) platforms
    ∙ ap (λ r. then_read r (λ qs. then_read (carriers_of qs written)
    (λ cs. Ok (record { platforms = roster.platforms; parties = qs; carriers = cs })))) parties
    ∙ ap (λ r. then_read r
    (λ cs. Ok (record { platforms = roster.platforms; parties = roster.parties; carriers = cs }))) carriers

-- ---- one text, one roster

are_lawful-written : {T : Type 0} (write : T → Value) → ((x : T) → is_lawful (write x) ≡ true) → (xs : List T)
    → are_lawful (each_written write xs) ≡ true
are_lawful-written write lawful [] = refl
are_lawful-written write lawful (x ∷ xs) = rw (lawful x, are_lawful-written write lawful xs) refl

carrier-lawful : (x : Carrier) → is_lawful (carrier_value x) ≡ true
unfolding name_cmp chars
carrier-lawful x = refl

-- the written form may be written as JSON
pub roster-lawful : (roster : RosterRecord) → IsLawful (roster_value roster)
unfolding name_cmp chars
roster-lawful roster =
    rw (
      are_lawful-written carrier_value carrier-lawful roster.carriers,
      are_lawful-written party_value (λ x. refl) roster.parties,
      are_lawful-written platform_value (λ x. refl) roster.platforms,
    ) refl

pub one_roster : (a b : RosterRecord) → IsRoster a → IsRoster b → roster_value a ≡ roster_value b → a ≡ b
one_roster a b first second same =
    let ends : Ok a ≡ Ok b = sym (roster-reads_back a first) ∙ ap roster_of same ∙ roster-reads_back b second in
    cc
