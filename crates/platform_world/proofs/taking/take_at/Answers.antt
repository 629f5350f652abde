use Rattle.std.proofs.Common.{inr, subst, sym, ◌∙◌}
use Rattle.ebl_base.specs.declared.platform_code.PlatformCode.{PlatformCode}
use Rattle.party_roster.specs.RosterRecord.{RosterRecord}
use Rattle.platform_requests.specs.Request.{request_view}
use Rattle.platform_world.specs.declared.fate.FateEnd.{FateEnd}
use Rattle.platform_world.specs.Machine.{end_by, shard_state}
use Rattle.platform_world.specs.Shard.{EndsAs}
use Rattle.platform_world.proofs.taking.take_at.Goals as goal

pub returns-in-Ok-clause-taken : goal.returns-in-Ok-clause-taken
returns-in-Ok-clause-taken g c =
    let m = c.args.machine.now in
    let settled = c.settle.new.self in
    let found = shard_state (g.M.Machine.seen settled) in
    let after = shard_state (g.M.Machine.seen c.take-outcome.new.self) in
    let request = request_view c.args.request in
    let out = c.take-outcome.result in
    inr (record {
      kept = c.in-Ok.kept;
      found = found;
      resolved = c.in-Ok.ensures.found;
      kept_are = c.from_vec.ensures ∙ c.kept_at.ensures;
      may = c.requires.asked c.in-Ok.kept found c.in-Ok.ensures.found;
      ends = subst (λ (end : FateEnd). EndsAs (g.M.Machine.seen m).roster (g.M.Machine.seen m).me found c.args.now
          request end out after) (sym c.end_by.ensures)
          (subst (λ (r : RosterRecord). EndsAs r (g.M.Machine.seen m).me found c.args.now request (end_by out.reply) out after)
          c.settle.ensures.same.roster
          (subst (λ (p : PlatformCode). EndsAs (g.M.Machine.seen settled).roster p found c.args.now request (end_by out.reply) out after)
          c.settle.ensures.same.me c.take-outcome.ensures.ends));
    })
