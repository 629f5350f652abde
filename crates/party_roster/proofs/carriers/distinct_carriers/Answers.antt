use Rattle.std.proofs.Common.{◌+◌, drop, ap, ◌∙◌, sym}
use Rattle.canonical_json.specs.View.{view, items_view}
use Rattle.party_roster.specs.declared.fault.RosterPlace.TheVariants.{CarrierAt}
use Rattle.json_forms.specs.Reading.{each}
use Rattle.party_roster.specs.RosterRecord.{same_carrier}
use Rattle.party_roster.specs.Reading.{listed_carrier}
use Rattle.party_roster.proofs.DistinctLemmas.{goes_on, goes_on-start, goes_on-item, fresh-is_member}
use Rattle.party_roster.proofs.carriers.distinct_carriers.Goals as goal

pub loop-item-init : goal.loop-item-init
loop-item-init c =
    let start =
    goes_on-start same_carrier CarrierAt (each (listed_carrier c.args.parties.now) (items_view c.args.items.now)) in
    rw (c.new-list.ensures) start

pub with-requires : goal.with-requires
with-requires c =
    fresh-is_member same_carrier c.loop-item.list
    (listed_carrier c.args.parties.now (view c.item-item.result)) c.in-Some.carrier (sym c.in-Some.ensures)

pub loop-item-preserved : goal.loop-item-preserved
loop-item-preserved c =
    let rest =
    each (listed_carrier c.args.parties.now)
    (items_view (drop (c.loop-item.item-index + 1) c.args.items.now)) in
    ap (λ taken. goes_on same_carrier CarrierAt taken rest) c.in_ok-list.ensures
    ∙ goes_on-item same_carrier CarrierAt (listed_carrier c.args.parties.now) c.args.items.now
    c.loop-item.item-index c.item-item.result c.loop-item.list c.in-Some.carrier c.loop-item-test.true
    c.item-item.is c.in-Some.ensures
    ∙ c.loop-item.invariant
