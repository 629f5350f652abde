-- So many bills were begun.
use Rattle.std.proofs.Common.{◌≡◌, ◌*◌, length, map}
use Rattle.std.specs.List.{flat_map, range_with_len}
use Rattle.platform_world.specs.Platforms.{EachRose}
use Rattle.rehearsal.specs.Events.{begin_bill}
use Rattle.rehearsal.specs.Progress.{TakesAll, progress}
use Rattle.rehearsal.specs.Roster.{made_roster}
use Rattle.rehearsal.proofs.run.Rehearsal.begin_bills.Given as goal

abbrev pub invariant-loop-i : goal.invariant-loop-i
invariant-loop-i g l = record {
  takes : TakesAll g.M.Machine.seen g.M.Machine.faults l.bills (flat_map begin_bill (range_with_len 1 l.i))
      (progress l.initial.self.world l.initial.self.draws.state (map (λ a. a.now) l.initial.self.answers.items))
      (progress l.self.world l.self.draws.state (map (λ a. a.now) l.self.answers.items));
  events : length l.self.world.fates ≡ 2 * l.i;
  roster : l.self.world.platforms.roster ≡ made_roster;
  spare : l.self.world.platforms.spare ≡ l.initial.self.world.platforms.spare;
  disks : EachRose g.M.Machine.faults.disk (λ k. 0) l.initial.self.world.platforms.shards l.self.world.platforms.shards;
  rings : EachRose g.M.Machine.faults.ring (λ k. 0) l.initial.self.world.platforms.shards l.self.world.platforms.shards;
}
