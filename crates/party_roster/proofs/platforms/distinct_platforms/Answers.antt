use Rattle.canonical_json.specs.View.{items_view}
use Rattle.ebl_base.specs.PlatformCode.{code_eq}
use Rattle.party_roster.specs.declared.fault.RosterPlace.TheVariants.{Platform}
use Rattle.json_forms.specs.Reading.{each, platform_in}
use Rattle.party_roster.proofs.DistinctLemmas.{goes_on-start}
use Rattle.party_roster.proofs.platforms.distinct_platforms.Goals as goal

pub loop-item-init : goal.loop-item-init
loop-item-init c =
    let start = goes_on-start code_eq Platform (each platform_in (items_view c.args.items.now)) in
    rw (c.in_ok-platforms.ensures.items) start
