use Rattle.std.proofs.Common.{sym, subst}
use Rattle.world_script.specs.Event.{event_view}
use Rattle.party_roster.specs.RosterRecord.{RosterRecord}
use Rattle.platform_world.specs.State.{world_of}
use Rattle.rehearsal.specs.Events.{Made}
use Rattle.rehearsal.specs.Progress.{MayCome}
use Rattle.rehearsal.specs.Roster.{made_roster}
use Rattle.platform_world.proofs.Counts.{none_rose}
use Rattle.rehearsal.proofs.Going.{happened, on_ok}
use Rattle.rehearsal.proofs.May.{happening_comes}
use Rattle.rehearsal.proofs.run.Rehearsal.happen.Goals as goal

pub take-requires-clause-may : goal.take-requires-clause-may
take-requires-clause-may g c =
    subst (λ (r : RosterRecord). MayCome r (event_view c.in_ok-event.event)) (sym c.requires.roster)
    (subst (λ (next : Made). MayCome made_roster next.event) (sym c.in_ok-event.ensures.made)
    (happening_comes c.args.bills (world_of g.M.Machine.seen c.args.self.now.world) c.args.self.now.draws.state
    c.requires.some c.requires.bills c.in_ok-event.ensures.few))

pub returns-clause-takes : goal.returns-clause-takes
returns-clause-takes g c =
    on_ok c.take.result (happened g.M.Machine.seen g.M.Machine.faults c.args.bills _ _ _ _ _ _ c.in_ok-event.ensures.made) c.take.ensures.takes

pub returns-in_err-event-clause-disks : goal.returns-in_err-event-clause-disks
returns-in_err-event-clause-disks g c = none_rose g.M.Machine.faults.disk c.args.self.now.world.platforms.shards

pub returns-in_err-event-clause-rings : goal.returns-in_err-event-clause-rings
returns-in_err-event-clause-rings g c = none_rose g.M.Machine.faults.ring c.args.self.now.world.platforms.shards
