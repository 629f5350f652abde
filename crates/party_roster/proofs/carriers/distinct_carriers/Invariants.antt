use Rattle.std.proofs.Common.{◌≡◌, drop}
use Rattle.canonical_json.specs.View.{items_view}
use Rattle.party_roster.specs.declared.fault.RosterPlace.TheVariants.{CarrierAt}
use Rattle.json_forms.specs.Reading.{each}
use Rattle.party_roster.specs.Distinct.{distinct}
use Rattle.party_roster.specs.RosterRecord.{same_carrier}
use Rattle.party_roster.specs.Reading.{listed_carrier}
use Rattle.party_roster.proofs.DistinctLemmas.{goes_on}
use Rattle.party_roster.proofs.carriers.distinct_carriers.Given as goal

abbrev pub invariant-loop-item : goal.invariant-loop-item
invariant-loop-item l =
    goes_on same_carrier CarrierAt l.list
    (each (listed_carrier l.parties) (items_view (drop l.item-index l.items)))
    ≡ distinct same_carrier CarrierAt (each (listed_carrier l.parties) (items_view l.items))
