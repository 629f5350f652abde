use Rattle.std.proofs.Common.{Option, find, sym, ap, ◌∙◌}
use Rattle.std.specs.Prelude.{unwrap_or}
use Rattle.ebl_base.specs.Party.{party_eq}
use Rattle.ebl_base.specs.declared.party.Party.{Party}
use Rattle.party_roster.specs.RosterRecord.{RosterRecord}
use Rattle.rehearsal.specs.Events.{listed_or_carrier}
use Rattle.rehearsal.specs.Roster.{made_roster}
use Rattle.rehearsal.proofs.events.listed_or_carrier.Goals as goal

pub returns-in-Some : goal.returns-in-Some
returns-in-Some c =
    c.unwrap_or.ensures
    ∙ ap (λ (o : Option Party). unwrap_or o c.carrier.result)
    (c.listed.ensures
    ∙ ap (λ (r : RosterRecord). find (λ q. party_eq q c.in-Some.party) r.parties) c.requires)
    ∙ ap (unwrap_or (find (λ q. party_eq q c.in-Some.party) made_roster.parties)) c.carrier.ensures
    ∙ sym (ap listed_or_carrier c.in-Some.is)
