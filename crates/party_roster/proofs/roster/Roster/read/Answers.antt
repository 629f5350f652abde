use Rattle.std.proofs.Common.{rules}
use Rattle.canonical_json.specs.View.{view}
use Rattle.party_roster.specs.RosterRecord.{RosterRecord}
use Rattle.party_roster.proofs.FormLemmas.{roster_form}
use Rattle.party_roster.proofs.roster.Roster.read.Goals as goal

pub returns-clause-form : goal.returns-clause-form
returns-clause-form c =
    let roster : RosterRecord = record {
      platforms = c.in_ok-platforms.platforms;
      parties = c.in_ok-parties.parties;
      carriers = c.in_ok-carriers.carriers;
    } in
    roster_form (view c.args.json.now) roster (search rules)
