use Rattle.std.proofs.Common.{◌≡◌, ◌∷◌, ◌+◌, ◌∙◌, Some, None, length, refl, sym, ap, arith}
use Rattle.ebl_base.specs.Segments.{segments_of}
use Rattle.ebl_run.proofs.RunLemmas.{Reached, answered_at, begins, cut_at, ends_cut, ends_last, ends_outside, ends_too_many, ends_torn, first_bad_behind, goes_on_behind}
use Rattle.ebl_run.proofs.drive.run_events.Goals as goal

pub loop-line-init : goal.loop-line-init
loop-line-init g c =
    let roster = c.args.world.now.platforms.roster in
    record {
      reached = begins g.M.Machine.seen g.M.Machine.faults roster (segments_of 10 c.args.lines.now) c.args.world.now (g.K.Sink.written c.args.sink.now);
      left = refl;
      numbered = omega arith;
      counted = ap (λ fates. length fates + 1) c.requires;
      same_roster = refl;
      spare = refl;
      later = omega arith;
    }

pub returns-then-n-ge-MOST_LINES-clause-ran : goal.returns-then-n-ge-MOST_LINES-clause-ran
returns-then-n-ge-MOST_LINES-clause-ran g c =
    let seen = g.M.Machine.seen in
    let faults = g.M.Machine.faults in
    let roster = c.args.world.now.platforms.roster in
    let written = g.K.Sink.written in
    let reached : Reached seen faults roster (segments_of 10 c.args.lines.now) c.args.world.now (c.in-Some.line.now ∷ segments_of 10 c.in-Some.after.now) c.loop-line.n c.loop-line.world (written c.args.sink.now) (written c.loop-line.sink) =
    rw c.in-Some.ensures.first at c.loop-line.invariant.reached in
    rw c.from.ensures (ends_too_many seen faults roster (segments_of 10 c.args.lines.now) c.args.world.now c.in-Some.line.now
    (segments_of 10 c.in-Some.after.now) c.loop-line.world c.loop-line.n (written c.args.sink.now) (written c.loop-line.sink)
    reached c.if-n-ge-MOST_LINES.true)

pub returns-in-Err-put-clause-ran : goal.returns-in-Err-put-clause-ran
returns-in-Err-put-clause-ran g c =
    let seen = g.M.Machine.seen in
    let faults = g.M.Machine.faults in
    let roster = c.args.world.now.platforms.roster in
    let written = g.K.Sink.written in
    let reached : Reached seen faults roster (segments_of 10 c.args.lines.now) c.args.world.now (c.in-Some.line.now ∷ segments_of 10 c.in-Some.after.now) c.loop-line.n c.loop-line.world (written c.args.sink.now) (written c.loop-line.sink) =
    rw c.in-Some.ensures.first at c.loop-line.invariant.reached in
    let answered = answered_at seen faults c.loop-line.world.platforms.roster roster c.in-Some.line.now c.loop-line.world
    (Some c.in-Ok-Some.answer) c.answer_of_line.new.world c.loop-line.invariant.same_roster
    (rw (c.in-Ok-Some.field-0-is) at c.in-Ok-Some.ensures.answered) in
    let counts = rw (c.in-Ok-Some.field-0-is) at c.in-Ok-Some.ensures.counts in
    let counted : length c.answer_of_line.new.world.fates ≡ c.loop-line.n =
    omega (arith, counts, c.loop-line.invariant.counted) in
    let first = rw c.as_slice.ensures at c.in-Err-put.ensures.failed in
    ends_torn seen faults roster (segments_of 10 c.args.lines.now) c.args.world.now c.in-Some.line.now
    (segments_of 10 c.in-Some.after.now) c.loop-line.world c.loop-line.n (written c.args.sink.now) (written c.loop-line.sink)
    reached c.answer_of_line.new.world c.in-Ok-Some.answer (written c.put.new.self) c.if-n-ge-MOST_LINES.false counted
    answered first

pub returns-in-Ok-None-clause-ran : goal.returns-in-Ok-None-clause-ran
returns-in-Ok-None-clause-ran g c =
    let seen = g.M.Machine.seen in
    let faults = g.M.Machine.faults in
    let roster = c.args.world.now.platforms.roster in
    let written = g.K.Sink.written in
    let reached : Reached seen faults roster (segments_of 10 c.args.lines.now) c.args.world.now (c.in-Some.line.now ∷ segments_of 10 c.in-Some.after.now) c.loop-line.n c.loop-line.world (written c.args.sink.now) (written c.loop-line.sink) =
    rw c.in-Some.ensures.first at c.loop-line.invariant.reached in
    let outside = answered_at seen faults c.loop-line.world.platforms.roster roster c.in-Some.line.now c.loop-line.world
    None c.answer_of_line.new.world c.loop-line.invariant.same_roster
    (rw (c.in-Ok-None.field-0-is) at c.in-Ok-None.ensures.answered) in
    rw outside.1
    (rw c.from-in-Ok-None.ensures (ends_outside seen faults roster (segments_of 10 c.args.lines.now) c.args.world.now c.in-Some.line.now
    (segments_of 10 c.in-Some.after.now) c.loop-line.world c.loop-line.n (written c.args.sink.now) (written c.loop-line.sink)
    reached c.if-n-ge-MOST_LINES.false outside.0))

pub returns-in-Err-clause-ran : goal.returns-in-Err-clause-ran
returns-in-Err-clause-ran g c =
    let seen = g.M.Machine.seen in
    let faults = g.M.Machine.faults in
    let roster = c.args.world.now.platforms.roster in
    let written = g.K.Sink.written in
    let reached : Reached seen faults roster (segments_of 10 c.args.lines.now) c.args.world.now (c.in-Some.line.now ∷ segments_of 10 c.in-Some.after.now) c.loop-line.n c.loop-line.world (written c.args.sink.now) (written c.loop-line.sink) =
    rw c.in-Some.ensures.first at c.loop-line.invariant.reached in
    ends_cut seen faults roster (segments_of 10 c.args.lines.now) c.args.world.now c.in-Some.line.now
    (segments_of 10 c.in-Some.after.now) c.loop-line.world c.loop-line.n (written c.args.sink.now) (written c.loop-line.sink)
    reached c.answer_of_line.new.world c.if-n-ge-MOST_LINES.false
    (cut_at seen faults c.loop-line.world.platforms.roster roster c.in-Some.line.now c.loop-line.world
    c.answer_of_line.new.world c.loop-line.invariant.same_roster c.in-Err.ensures.short)

pub loop-line-preserved : goal.loop-line-preserved
loop-line-preserved g c =
    let seen = g.M.Machine.seen in
    let faults = g.M.Machine.faults in
    let roster = c.args.world.now.platforms.roster in
    let written = g.K.Sink.written in
    let reached : Reached seen faults roster (segments_of 10 c.args.lines.now) c.args.world.now (c.in-Some.line.now ∷ segments_of 10 c.in-Some.after.now) c.loop-line.n c.loop-line.world (written c.args.sink.now) (written c.loop-line.sink) =
    rw c.in-Some.ensures.first at c.loop-line.invariant.reached in
    let answered = answered_at seen faults c.loop-line.world.platforms.roster roster c.in-Some.line.now c.loop-line.world
    (Some c.in-Ok-Some.answer) c.answer_of_line.new.world c.loop-line.invariant.same_roster
    (rw (c.in-Ok-Some.field-0-is) at c.in-Ok-Some.ensures.answered) in
    let counts = rw (c.in-Ok-Some.field-0-is) at c.in-Ok-Some.ensures.counts in
    let counted : length c.answer_of_line.new.world.fates ≡ c.loop-line.n =
    omega (arith, counts, c.loop-line.invariant.counted) in
    let wrote = rw c.as_slice.ensures at c.in-Ok.ensures.ok in
    let later = c.in-Ok.ensures.cause.later in
    record {
      reached = goes_on_behind seen faults roster (segments_of 10 c.args.lines.now) c.args.world.now c.in-Some.line.now
          (segments_of 10 c.in-Some.after.now) c.loop-line.world c.answer_of_line.new.world c.loop-line.n c.in-Ok-Some.answer
          (written c.args.sink.now) (written c.loop-line.sink) (written c.put.new.self) reached
          c.if-n-ge-MOST_LINES.false counted answered wrote;
      left = sym (first_bad_behind roster c.loop-line.n c.in-Some.line.now (segments_of 10 c.in-Some.after.now) answered.0
          c.if-n-ge-MOST_LINES.false answered.1) ∙ (rw c.in-Some.ensures.first at c.loop-line.invariant.left);
      numbered = omega (arith, c.if-n-ge-MOST_LINES.false);
      counted = omega (arith, counts, c.loop-line.invariant.counted);
      same_roster = c.in-Ok-Some.ensures.roster ∙ c.loop-line.invariant.same_roster;
      spare = c.in-Ok-Some.ensures.spare ∙ c.loop-line.invariant.spare;
      later = omega (arith, later);
    }

pub returns-clause-ran : goal.returns-clause-ran
returns-clause-ran g c =
    let written = g.K.Sink.written in
    let reached = rw c.in_default.ensures.first at c.loop-line.invariant.reached in
    ends_last g.M.Machine.seen g.M.Machine.faults c.args.world.now.platforms.roster (segments_of 10 c.args.lines.now)
    c.args.world.now c.loop-line.world c.loop-line.n c.put_bill_lines.result (written c.args.sink.now)
    (written c.loop-line.sink) (written c.put_bill_lines.new.sink) reached c.put_bill_lines.ensures.ends
