use Rattle.std.proofs.Common.{◌≡◌, drop}
use Rattle.canonical_json.specs.View.{items_view}
use Rattle.ebl_base.specs.PlatformCode.{code_eq}
use Rattle.party_roster.specs.declared.fault.RosterPlace.TheVariants.{Platform}
use Rattle.json_forms.specs.Reading.{platform_in, each}
use Rattle.party_roster.specs.Distinct.{distinct}
use Rattle.party_roster.proofs.DistinctLemmas.{goes_on}
use Rattle.party_roster.proofs.platforms.distinct_platforms.Given as goal

abbrev pub invariant-loop-item : goal.invariant-loop-item
invariant-loop-item l =
    goes_on code_eq Platform l.platforms.items (each platform_in (items_view (drop l.item-index l.items)))
    ≡ distinct code_eq Platform (each platform_in (items_view l.items))
