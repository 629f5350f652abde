use Rattle.std.proofs.Common.{◌≡◌, false}
use Rattle.std.specs.Set.{is_member}
use Rattle.party_roster.specs.RosterRecord.{same_carrier}
use Rattle.party_roster.proofs.IndexLemmas.{AreUnder-push}
use Rattle.party_roster.proofs.carriers.CarrierList.with.Goals as goal

pub invariant_of-result : goal.invariant_of-result
invariant_of-result c =
    let absent : is_member same_carrier c.self.inside.carriers.items c.args.carrier
    ≡ false = rw c.self.view_is c.requires in
    rw c.in_ok-push.ensures.items (AreUnder-push c.self.inside.carriers.items c.args.carrier c.self.inside.parties c.insert.new.self absent c.self.invariant c.in_ok-insert.ensures.updates)
