use Rattle.std.proofs.Common.{sym, subst, ◌∙◌, arith}
use Rattle.world_script.specs.Event.{EventRecord, event_view}
use Rattle.party_roster.specs.RosterRecord.{RosterRecord}
use Rattle.rehearsal.specs.Events.{Made}
use Rattle.rehearsal.specs.Progress.{MayCome}
use Rattle.rehearsal.specs.Roster.{made_roster}
use Rattle.platform_world.proofs.Counts.{later_then, none_rose}
use Rattle.rehearsal.proofs.Going.{began, on_ok}
use Rattle.rehearsal.proofs.May.{issuing_comes, signing_comes}
use Rattle.rehearsal.proofs.run.Rehearsal.begin_bill.Goals as goal

pub take-requires-clause-may : goal.take-requires-clause-may
take-requires-clause-may g c =
    subst (λ (r : RosterRecord). MayCome r (event_view c.in_ok-signing.signing)) (sym c.requires.roster)
    (subst (λ (event : EventRecord). MayCome made_roster event) (sym c.in_ok-signing.ensures)
    (signing_comes c.args.number (omega arith)))

pub take-requires-2-clause-may : goal.take-requires-2-clause-may
take-requires-2-clause-may g c =
    subst (λ (r : RosterRecord). MayCome r (event_view c.issue-issuing.result))
    (sym (c.take.ensures.roster ∙ c.requires.roster))
    (subst (λ (next : Made). MayCome made_roster next.event) (sym c.issue-issuing.ensures)
    (issuing_comes c.args.number _ c.requires.first c.requires.last))

pub returns-clause-takes : goal.returns-clause-takes
returns-clause-takes g c =
    on_ok c.take-2.result
    (began g.M.Machine.seen g.M.Machine.faults c.args.number _ _ _ _ _ _ _ _ _ _ c.in_ok-signing.ensures c.issue-issuing.ensures
    c.in_ok-take.ensures.takes)
    c.take-2.ensures.takes

pub returns-in_err-signing-clause-disks : goal.returns-in_err-signing-clause-disks
returns-in_err-signing-clause-disks g c = none_rose g.M.Machine.faults.disk c.args.self.now.world.platforms.shards

pub returns-clause-disks : goal.returns-clause-disks
returns-clause-disks g c = later_then g.M.Machine.faults.disk (λ k. 0) _ _ _ c.take.ensures.disks c.take-2.ensures.disks

pub returns-in_err-signing-clause-rings : goal.returns-in_err-signing-clause-rings
returns-in_err-signing-clause-rings g c = none_rose g.M.Machine.faults.ring c.args.self.now.world.platforms.shards

pub returns-clause-rings : goal.returns-clause-rings
returns-clause-rings g c = later_then g.M.Machine.faults.ring (λ k. 0) _ _ _ c.take.ensures.rings c.take-2.ensures.rings
