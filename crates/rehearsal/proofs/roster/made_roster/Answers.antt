use Rattle.std.proofs.Common.{sym, ap, ◌∙◌}
use Rattle.party_roster.specs.Reading.{roster_of}
use Rattle.rehearsal.proofs.Listed.{roster_reads}
use Rattle.rehearsal.proofs.roster.made_roster.Goals as goal

pub returns-in-Ok-clause-roster : goal.returns-in-Ok-clause-roster
returns-in-Ok-clause-roster c =
    let read = sym c.in-Ok.ensures.ok ∙ ap roster_of c.in_ok-json.ensures ∙ roster_reads in cc
