use Rattle.std.proofs.Common.{◌++◌, Err, ℕ, List, [], ap, append_assoc, subst, sym, ◌∙◌, arith}
use Rattle.std.proofs.lemmas.List.{append-nil}
use Rattle.party_roster.specs.RosterRecord.{RosterRecord}
use Rattle.platform_world.specs.declared.fate.FateEnd.TheVariants.{Whole}
use Rattle.platform_world.specs.Platforms.{states_of}
use Rattle.platform_world.specs.Shard.{kept_at}
use Rattle.platform_world.specs.Start.{AreReadAgain}
use Rattle.platform_world.proofs.Counts.{later_then, then_later}
use Rattle.platform_world.proofs.Starting.{all_read, read_step, stopped_disks, stopped_so}
use Rattle.platform_world.proofs.platforms.Platforms.start_again.Goals as goal

pub loop-shard-preserved : goal.loop-shard-preserved
loop-shard-preserved g c =
    let i = c.loop-shard.shard in
    let here = c.in-Ok.here in
    let old = c.loop-shard.invariant in
    record {
      read = λ end behind after goes.
          subst (λ (xs : List ℕ). AreReadAgain c.args.at 0 16 (states_of g.M.Machine.seen c.args.self.now) end xs after)
          (sym (ap (λ (ks : List ℕ). ks ++ behind) c.note.ensures.items
          ∙ append_assoc c.loop-shard.kept.items (kept_at here i) behind))
          (old.read end (kept_at here i ++ behind) after
          (read_step c.args.at i c.loop-shard-test.true (states_of g.M.Machine.seen c.loop-shard.self)
          (states_of g.M.Machine.seen c.reopen.new.self) here after end behind c.in-Ok.ensures.read goes));
      few = omega (arith, c.note.ensures.len, old.few);
      room = omega (arith, c.note.ensures.capacity, old.room);
      disks = later_then g.M.Machine.faults.disk (λ k. 0) c.args.self.now.shards c.loop-shard.self.shards
          c.reopen.new.self.shards old.disks c.reopen.ensures.disks;
      rings = later_then g.M.Machine.faults.ring (λ k. 0) c.args.self.now.shards c.loop-shard.self.shards
          c.reopen.new.self.shards old.rings c.reopen.ensures.rings;
      roster = c.reopen.ensures.roster ∙ old.roster;
      spare = c.reopen.ensures.spare ∙ old.spare;
    }

pub returns-in-Err-clause-read : goal.returns-in-Err-clause-read
returns-in-Err-clause-read g c =
    stopped_so c.args.at c.loop-shard.shard c.loop-shard-test.true (states_of g.M.Machine.seen c.args.self.now)
    (states_of g.M.Machine.seen c.loop-shard.self) (states_of g.M.Machine.seen c.reopen.new.self)
    (states_of g.M.Machine.seen c.cut_off-end.new.self) c.loop-shard.kept.items c.from_vec.result c.cut_off-end.result
    c.loop-shard.invariant.read c.in-Err.ensures.loose c.from_vec.ensures c.in-Err.why c.cut_off-end.ensures.disk
    c.cut_off-end.ensures.short

pub returns-in-Err-clause-disks : goal.returns-in-Err-clause-disks
returns-in-Err-clause-disks g c =
    stopped_disks g.M.Machine.faults.disk c.args.self.now.roster.platforms c.loop-shard.self.roster.platforms c.args.at
    c.loop-shard.shard c.args.self.now.shards c.loop-shard.self.shards c.reopen.new.self.shards
    c.cut_off-end.new.self.shards c.cut_off-end.result c.in-Err.why
    (ap (λ (r : RosterRecord). r.platforms) c.loop-shard.invariant.roster) c.loop-shard.invariant.disks
    c.reopen.ensures.disks (λ is. c.in-Err.ensures.failed (ap Err is)) c.cut_off-end.ensures.disks
    (λ is. (c.cut_off-end.ensures.disk is).0) (λ is. (c.cut_off-end.ensures.short is).0)

pub returns-in-Err-clause-rings : goal.returns-in-Err-clause-rings
returns-in-Err-clause-rings g c =
    then_later g.M.Machine.faults.ring (λ k. 0) c.args.self.now.shards c.reopen.new.self.shards
    c.cut_off-end.new.self.shards
    (later_then g.M.Machine.faults.ring (λ k. 0) c.args.self.now.shards c.loop-shard.self.shards
    c.reopen.new.self.shards c.loop-shard.invariant.rings c.reopen.ensures.rings) c.cut_off-end.ensures.rings

pub returns-clause-read : goal.returns-clause-read
returns-clause-read g c =
    let now = states_of g.M.Machine.seen c.loop-shard.self in
    subst (λ (xs : List ℕ). AreReadAgain c.args.at 0 16 (states_of g.M.Machine.seen c.args.self.now) Whole xs now)
    (append-nil c.loop-shard.kept.items ∙ sym c.from_vec-2.ensures)
    (c.loop-shard.invariant.read Whole [] now (all_read c.args.at c.loop-shard.shard now c.loop-shard-test.false))
