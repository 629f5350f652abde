-- What a roster is: its platforms, its parties and its carriers, in their order.
use Rattle.std.specs.Prelude.{Bool, ◌&&◌, List, [], ◌∷◌, Option, Some, None, if◌then◌else◌}
use Rattle.std.specs.Set.{is_member}
use Rattle.ebl_base.specs.PlatformCode.{code_eq}
use Rattle.ebl_base.specs.Party.{party_eq}
use Rattle.ebl_base.specs.Provider.{provider_eq}
use Rattle.ebl_base.specs.CarrierCode.{carrier_code_eq}
use Rattle.ebl_base.specs.declared.platform_code.PlatformCode.{PlatformCode}
use Rattle.ebl_base.specs.declared.party.Party.{Party}
use Rattle.ebl_base.specs.declared.provider.Provider.{Provider}
use Rattle.ebl_base.specs.declared.carrier_code.CarrierCode.{CarrierCode}
use Rattle.party_roster.specs.declared.carrier.Carrier.{Carrier}

pub record RosterRecord : Type 0 where
  pub platforms : List PlatformCode
  pub parties : List Party
  pub carriers : List Carrier

-- the platform is listed
abbrev pub has_platform : RosterRecord → PlatformCode → Bool
has_platform roster platform = is_member code_eq roster.platforms platform

-- the party is listed
abbrev pub knows : RosterRecord → Party → Bool
knows roster party = is_member party_eq roster.parties party

-- whether two carriers have one provider and one code
abbrev pub same_carrier : Carrier → Carrier → Bool
same_carrier a b = provider_eq a.provider b.provider && carrier_code_eq a.code b.code

-- the party of the first carrier with this provider and this code
abbrev pub party_for : List Carrier → Provider → CarrierCode → Option Party
party_for [] provider code = None
party_for (c ∷ carriers) provider code =
    if provider_eq provider c.provider && carrier_code_eq code c.code then Some c.party else party_for
    carriers provider code

-- the party of the carrier with this provider and this code
abbrev pub carrier : RosterRecord → Provider → CarrierCode → Option Party
carrier roster provider code = party_for roster.carriers provider code
