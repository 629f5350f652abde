-- The written form of a roster: the one value without further members.
use Rattle.std.specs.Prelude.{codes}
use Rattle.canonical_json.specs.Value.{Value, text, list, object, no_members, member}
use Rattle.ebl_base.specs.Provider.{provider_text}
use Rattle.ebl_base.specs.CarrierCode.{carrier_code_text}
use Rattle.json_forms.specs.Writing.{each_written, platform_value, party_value}
use Rattle.party_roster.specs.declared.carrier.Carrier.{Carrier}
use Rattle.party_roster.specs.RosterRecord.{RosterRecord}

-- a carrier, with the names in order
abbrev pub carrier_value : Carrier → Value
carrier_value carrier =
    object (member (codes "code") (text (carrier_code_text carrier.code))
    (member (codes "party") (party_value carrier.party)
    (member (codes "provider") (text (provider_text carrier.provider)) no_members)))

-- the three lists, with the names in order
abbrev pub roster_value : RosterRecord → Value
roster_value roster =
    object (member (codes "carriers") (list (each_written carrier_value roster.carriers))
    (member (codes "parties") (list (each_written party_value roster.parties))
    (member (codes "platforms") (list (each_written platform_value roster.platforms)) no_members)))
