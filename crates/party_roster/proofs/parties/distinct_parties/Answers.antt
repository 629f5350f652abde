use Rattle.std.proofs.Common.{◌+◌, drop, ap, ◌∙◌}
use Rattle.canonical_json.specs.View.{items_view}
use Rattle.ebl_base.specs.Party.{party_eq}
use Rattle.party_roster.specs.declared.fault.RosterPlace.TheVariants.{PartyAt}
use Rattle.json_forms.specs.Reading.{each}
use Rattle.party_roster.specs.Reading.{listed_party}
use Rattle.party_roster.proofs.DistinctLemmas.{goes_on, goes_on-start, goes_on-item}
use Rattle.party_roster.proofs.parties.distinct_parties.Goals as goal

pub loop-item-init : goal.loop-item-init
loop-item-init c =
    let start = goes_on-start party_eq PartyAt (each (listed_party c.args.platforms.now) (items_view c.args.items.now)) in
    rw (c.new-list.ensures) start

pub loop-item-preserved : goal.loop-item-preserved
loop-item-preserved c =
    let rest =
    each (listed_party c.args.platforms.now)
    (items_view (drop (c.loop-item.item-index + 1) c.args.items.now)) in
    ap (λ taken. goes_on party_eq PartyAt taken rest) c.in_ok-list.ensures
    ∙ goes_on-item party_eq PartyAt (listed_party c.args.platforms.now) c.args.items.now
    c.loop-item.item-index c.item-item.result c.loop-item.list c.in-Some.party c.loop-item-test.true
    c.item-item.is c.in-Some.ensures
    ∙ c.loop-item.invariant
