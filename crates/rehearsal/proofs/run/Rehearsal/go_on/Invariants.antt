-- So many things happened.
use Rattle.std.proofs.Common.{◌≡◌, ◌+◌, length, map, replicate}
use Rattle.platform_world.specs.Platforms.{EachRose}
use Rattle.rehearsal.specs.Events.{happen}
use Rattle.rehearsal.specs.Progress.{TakesAll, progress}
use Rattle.rehearsal.specs.Roster.{made_roster}
use Rattle.rehearsal.proofs.run.Rehearsal.go_on.Given as goal

abbrev pub invariant-loop-step : goal.invariant-loop-step
invariant-loop-step g l = record {
  takes : TakesAll g.M.Machine.seen g.M.Machine.faults l.bills (replicate l.step happen)
      (progress l.initial.self.world l.initial.self.draws.state (map (λ a. a.now) l.initial.self.answers.items))
      (progress l.self.world l.self.draws.state (map (λ a. a.now) l.self.answers.items));
  events : length l.self.world.fates ≡ length l.initial.self.world.fates + l.step;
  roster : l.self.world.platforms.roster ≡ made_roster;
  spare : l.self.world.platforms.spare ≡ l.initial.self.world.platforms.spare;
  disks : EachRose g.M.Machine.faults.disk (λ k. 0) l.initial.self.world.platforms.shards l.self.world.platforms.shards;
  rings : EachRose g.M.Machine.faults.ring (λ k. 0) l.initial.self.world.platforms.shards l.self.world.platforms.shards;
}
