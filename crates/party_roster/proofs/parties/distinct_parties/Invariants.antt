use Rattle.std.proofs.Common.{◌≡◌, drop}
use Rattle.canonical_json.specs.View.{items_view}
use Rattle.ebl_base.specs.Party.{party_eq}
use Rattle.party_roster.specs.declared.fault.RosterPlace.TheVariants.{PartyAt}
use Rattle.json_forms.specs.Reading.{each}
use Rattle.party_roster.specs.Distinct.{distinct}
use Rattle.party_roster.specs.Reading.{listed_party}
use Rattle.party_roster.proofs.DistinctLemmas.{goes_on}
use Rattle.party_roster.proofs.parties.distinct_parties.Given as goal

abbrev pub invariant-loop-item : goal.invariant-loop-item
invariant-loop-item l =
    goes_on party_eq PartyAt l.list (each (listed_party l.platforms) (items_view (drop l.item-index l.items)))
    ≡ distinct party_eq PartyAt (each (listed_party l.platforms) (items_view l.items))
