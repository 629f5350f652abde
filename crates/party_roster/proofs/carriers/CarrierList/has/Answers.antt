use Rattle.std.proofs.Common.{is_some, ap, ◌∙◌}
use Rattle.party_roster.proofs.IndexLemmas.{is_some-party_for}
use Rattle.party_roster.proofs.carriers.CarrierList.has.Goals as goal

pub returns : goal.returns
returns c = c.is_some.ensures ∙ ap is_some c.party_for.ensures
    ∙ is_some-party_for c.args.self.now c.args.carrier
