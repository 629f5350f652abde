use Rattle.std.proofs.Common.{◌∙◌, inl, inr, ⊎_elim, ap, subst, sym}
use Rattle.disk_model.proofs.Moments.{LeavesOnly-trans, LeavesOnly-weaker}
use Rattle.platform_requests.specs.Request.{request_view}
use Rattle.platform_requests.specs.declared.outcome.Outcome.{Outcome}
use Rattle.signed_envelope.specs.KeyRing.{Keys}
use Rattle.journaled_shard.specs.Shard.{IsLegalWith, IsTaken}
use Rattle.journaled_shard.specs.View.{written_view}
use Rattle.journaled_shard.specs.Written.{HasDiary, IsLeft}
use Rattle.journaled_shard.proofs.ShardLemmas.{left_before, no_full_reading, taken_full, taken_legal, taken_read, taken_room}
use Rattle.journaled_shard.proofs.shard.take_by.Goals as goal

pub returns-in-Ok-clause-taken : goal.returns-in-Ok-clause-taken
returns-in-Ok-clause-taken g c = inr (record {
  found = written_view c.settle.new.self;
  kept = c.in-Ok.ensures.found;
  untouched = c.settle.ensures.untouched;
  judged = c.judge_by.ensures.judged;
})

pub returns-in-Ok-clause-order : goal.returns-in-Ok-clause-order
returns-in-Ok-clause-order g c =
    let roster = c.args.roster.now in
    let keys = g.G.KeyRing.keys c.args.ring.now in
    let me = c.args.me in
    let before = written_view c.args.written.now in
    let after = written_view c.judge_by.new.written in
    let request = request_view c.args.request in
    let taken : IsTaken roster keys me before c.args.now request c.judge_by.result after = inr (record {
      found = written_view c.settle.new.self;
      kept = c.in-Ok.ensures.found;
      untouched = c.settle.ensures.untouched;
      judged = c.judge_by.ensures.judged;
    }) in
    let legal : IsLegalWith roster keys me after.diary after.loose =
    taken_legal roster keys me before after c.args.now request c.judge_by.result
    (λ diary step legal asked steps. c.steps_keep_a_diary_legal.ensures roster keys me diary c.args.now request step
    c.requires.form legal asked steps) c.requires.asked c.requires.order.legal taken in
    record {
      legal = subst (λ (k : Keys). IsLegalWith roster k me after.diary after.loose) (sym c.judge_by.ensures.keys) legal;
      room = taken_room roster keys me before after c.args.now request c.judge_by.result c.requires.order.room taken;
      named = c.judge_by.ensures.named (c.settle.ensures.named c.requires.order.named);
      read = taken_read roster keys me before after c.args.now request c.judge_by.result taken;
      on_disk = λ tells.
          let tells_then = sym c.judge_by.ensures.told ∙ tells in
          let tells_first = sym c.settle.ensures.told ∙ tells_then in
          c.judge_by.ensures.on_disk tells_then
          (c.settle.ensures.on_disk tells_first (c.requires.order.on_disk tells_first));
    }

pub returns-in-Ok-clause-full : goal.returns-in-Ok-clause-full
returns-in-Ok-clause-full g c = λ full.
    let roster = c.args.roster.now in
    let keys = g.G.KeyRing.keys c.args.ring.now in
    let me = c.args.me in
    let before = written_view c.args.written.now in
    let after = written_view c.judge_by.new.written in
    let request = request_view c.args.request in
    let taken : IsTaken roster keys me before c.args.now request c.judge_by.result after = inr (record {
      found = written_view c.settle.new.self;
      kept = c.in-Ok.ensures.found;
      untouched = c.settle.ensures.untouched;
      judged = c.judge_by.ensures.judged;
    }) in
    taken_full roster keys me c.args.now request before after c.judge_by.result
    (λ diary step. c.steps_reply_no_failure.ensures roster keys me diary c.args.now request step)
    (λ diary step legal asked steps. c.steps_keep_a_diary_legal.ensures roster keys me diary c.args.now request step
    c.requires.form legal asked steps) c.requires.asked c.requires.order.legal c.requires.order.room full taken

-- a reading doesn't answer so
pub returns-in-Err-clause-full : goal.returns-in-Err-clause-full
returns-in-Err-clause-full g c = λ full.
    no_full_reading c.in-Err.fault
    (sym c.reply_for.ensures ∙ sym (ap (λ (o : Outcome). o.reply) c.refusal.ensures) ∙ full)

pub returns-in-Ok-clause-any_moment : goal.returns-in-Ok-clause-any_moment
returns-in-Ok-clause-any_moment g c = λ tells.
    let before = written_view c.args.written.now in
    let found = written_view c.settle.new.self in
    let after = written_view c.judge_by.new.written in
    let on = c.requires.order.on_disk tells in
    let first = LeavesOnly-weaker g.D.Disk.moment g.D.Disk.left_since before.journal.disk found.journal.disk
    (HasDiary before.diary before.loose) (IsLeft before after) (λ file has. inl has)
    (c.settle.ensures.any_moment tells on) in
    let second = LeavesOnly-weaker g.D.Disk.moment g.D.Disk.left_since found.journal.disk after.journal.disk
    (IsLeft found after) (IsLeft before after)
    (λ file left. ⊎_elim (λ has. inl (left_before before.diary found.diary before.loose found.loose file
    c.in-Ok.ensures.found c.in-Ok.ensures.read.nothing_loose has)) (λ has. inr has) left)
    (c.judge_by.ensures.any_moment (c.settle.ensures.told ∙ tells) (c.settle.ensures.on_disk tells on)) in
    LeavesOnly-trans g.D.Disk.moment g.D.Disk.left_since before.journal.disk found.journal.disk after.journal.disk
    (IsLeft before after) first second
