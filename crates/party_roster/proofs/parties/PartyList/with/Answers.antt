use Rattle.party_roster.proofs.IndexLemmas.{AreIn-push}
use Rattle.party_roster.proofs.parties.PartyList.with.Goals as goal

pub invariant_of-result : goal.invariant_of-result
invariant_of-result c =
    rw c.in_ok-push.ensures.items (AreIn-push c.self.inside.parties.items c.args.party c.self.inside.known c.insert.new.self c.self.invariant c.in_ok-insert.ensures.updates)
