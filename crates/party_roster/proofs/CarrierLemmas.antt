-- The carriers of a roster are listed parties on listed platforms.
use Rattle.std.proofs.Common.{◌≡◌, Bool, true, false, ◌&&◌, ◌||◌, List, [], ◌∷◌, Option, Some, None, cond, refl, sym, ap, ◌∙◌, subst}
use Rattle.std.specs.Prelude.{All}
use Rattle.std.specs.Set.{is_member}
use Rattle.std.proofs.lemmas.List.Elements.{All-head, All-tail}
use Rattle.ebl_base.specs.PlatformCode.{code_eq}
use Rattle.ebl_base.specs.Party.{party_eq}
use Rattle.ebl_base.specs.Provider.{provider_eq}
use Rattle.ebl_base.specs.CarrierCode.{carrier_code_eq}
use Rattle.ebl_base.specs.declared.platform_code.PlatformCode.{PlatformCode}
use Rattle.ebl_base.specs.declared.party.Party.{Party}
use Rattle.ebl_base.specs.declared.provider.Provider.{Provider}
use Rattle.ebl_base.specs.declared.carrier_code.CarrierCode.{CarrierCode}
use Rattle.ebl_base.proofs.SameLemmas.{party_eq-Decides}
use Rattle.party_roster.specs.declared.carrier.Carrier.{Carrier}
use Rattle.party_roster.specs.RosterForm.{IsListedCarrier, IsListedParty, IsRoster}
use Rattle.party_roster.specs.RosterRecord.{RosterRecord, carrier, has_platform, knows, party_for}

-- the party that is found is listed
found_listed : (parties : List Party) (carriers : List Carrier) (provider : Provider) (code : CarrierCode) (party : Party)
    → All (IsListedCarrier parties) carriers → party_for carriers provider code ≡ Some party
    → is_member party_eq parties party ≡ true
found_listed parties [] provider code party all h = cc
found_listed parties (c ∷ carriers) provider code party all h =
    by_test (found_listed parties carriers provider code party (All-tail (IsListedCarrier parties) c carriers all))
    (provider_eq provider c.provider && carrier_code_eq code c.code) h
  where
    by_test : (party_for carriers provider code ≡ Some party → is_member party_eq parties party ≡ true) → (b : Bool)
        → cond b (Some c.party) (party_for carriers provider code) ≡ Some party
        → is_member party_eq parties party ≡ true
    by_test behind true e =
        let same : c.party ≡ party = cc in
        let first = All-head (IsListedCarrier parties) c carriers all in
        ap (is_member party_eq parties) (sym same) ∙ first.party
    by_test behind false e = behind e

-- and a listed party's platform is
platform_listed : (platforms : List PlatformCode) (parties : List Party) (party : Party)
    → All (IsListedParty platforms) parties → is_member party_eq parties party ≡ true
    → is_member code_eq platforms party.platform ≡ true
platform_listed platforms [] party all h = cc
platform_listed platforms (p ∷ parties) party all h =
    by_test (platform_listed platforms parties party (All-tail (IsListedParty platforms) p parties all))
    (party_eq party p) refl h
  where
    by_test : (is_member party_eq parties party ≡ true → is_member code_eq platforms party.platform ≡ true)
        → (b : Bool) → party_eq party p ≡ b → (b || is_member party_eq parties party) ≡ true
        → is_member code_eq platforms party.platform ≡ true
    by_test behind true e g =
        let same : party ≡ p = (party_eq-Decides party p).0 e in
        let first = All-head (IsListedParty platforms) p parties all in
        ap (λ (q : Party). is_member code_eq platforms q.platform) same ∙ first.platform
    by_test behind false e g = behind g

pub carrier_listed : (roster : RosterRecord) (provider : Provider) (code : CarrierCode) (party : Party) → IsRoster roster
    → carrier roster provider code ≡ Some party → knows roster party ≡ true
carrier_listed roster provider code party is h =
    found_listed roster.parties roster.carriers provider code party is.carriers.each h

pub party_on_listed : (roster : RosterRecord) (party : Party) → IsRoster roster → knows roster party ≡ true
    → has_platform roster party.platform ≡ true
party_on_listed roster party is h = platform_listed roster.platforms roster.parties party is.parties.each h
