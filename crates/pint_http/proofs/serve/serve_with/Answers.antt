use Rattle.std.proofs.Common.{◌≡◌, [], false, true, Some, None, arith, refl, ap, ◌∙◌, length, drop, length-drop, rules}
use Rattle.http_heads.specs.declared.status.Status.TheVariants.{BadRequest}
use Rattle.http_requests.specs.Asked.{asked_view}
use Rattle.http_requests.specs.declared.end.LinkEnd.TheVariants.{Closed}
use Rattle.pint_http.specs.Session.{GoesOn}
use Rattle.pint_http.proofs.SessionLemmas.{goes_on-nil, goes_on-trans, progress_at_start, progress_at, fills_at, next_formed, progress_over, served_at_stop, served_status, served_no_memory, served_last, served_at_limit, answered_known, fault_may_end}
use Rattle.pint_http.proofs.serve.serve_with.Goals as goal

pub loop-count-init : goal.loop-count-init
loop-count-init g c =
    let desk = c.args.desk.now in
    record {
      progress = progress_at _ _ _ _ _ _ _ [] c.new-buffer.result.items _ _ 0 refl c.new-buffer.ensures.items
          (progress_at_start (g.L.Link.left c.args.link.now) (g.L.Link.written c.args.link.now) (g.C.Clock.given c.args.clock.now) (g.K.Desk.known desk) (λ calls. GoesOn g.K.Desk.run desk calls desk) (goes_on-nil g.K.Desk.run desk));
      room = rw c.new-buffer.ensures.items (omega arith);
      known = λ party. refl;
      later = omega arith;
    }

pub returns-in-Err-clause-served : goal.returns-in-Err-clause-served
returns-in-Err-clause-served g c =
    served_at_stop c.in-Err.e _ _ _ _ _ _ _ _ _ _ _ _
    (progress_at _ _ _ _ _ _ _ _ c.loop-count.buffer.items _ _ _ c.in-Err.ensures.written refl c.loop-count.invariant.progress) c.in-Err.ensures.read c.in-Err.ensures.stop

pub returns-in-Refused-clause-served : goal.returns-in-Refused-clause-served
returns-in-Refused-clause-served g c =
    let most = rw c.in-Refused.is at c.in-Ok.ensures.most in
    let room = c.loop-count.invariant.room in
    served_status c.refuse.result _ _ _ _ _ _ _ _ _ _ _ _ _ c.in-Refused.status
    (progress_at _ _ _ _ _ _ _ _ c.loop-count.buffer.items _ _ _ c.in-Ok.ensures.written refl c.loop-count.invariant.progress)
    (fills_at _ _ _ _ _ c.refuse.ensures.left c.in-Ok.ensures.filled) (rw c.in-Refused.is at c.in-Ok.ensures.front) (λ other. omega (arith, most, room)) c.refuse.ensures.ends c.refuse.ensures.wrote

pub returns-in-Ok-None-clause-served : goal.returns-in-Ok-None-clause-served
returns-in-Ok-None-clause-served g c =
    let filled = c.await_next.new.buffer.items in
    let front = rw c.in-Whole.is at c.in-Ok.ensures.front in
    let value = rw (c.in-Ok-None.field-0-is, c.deref.ensures.value) at c.in-Ok-None.ensures.value in
    let next = next_formed filled (drop c.in-Whole.end filled) _ None c.in-Whole.keeps value front in
    served_status c.refuse-in-Ok-None.result _ _ _ _ _ _ _ _ _ _ _ _ _ BadRequest
    (progress_at _ _ _ _ _ _ _ _ c.loop-count.buffer.items _ _ _ c.in-Ok.ensures.written refl c.loop-count.invariant.progress)
    (fills_at _ _ _ _ _ c.refuse-in-Ok-None.ensures.left c.in-Ok.ensures.filled) next (λ other. absurd (other refl)) c.refuse-in-Ok-None.ensures.ends c.refuse-in-Ok-None.ensures.wrote

pub returns-in-Err-asked_of-clause-served : goal.returns-in-Err-asked_of-clause-served
returns-in-Err-asked_of-clause-served g c =
    served_no_memory _ _ _ _ _ _ _ _ _ _ _ _
    (progress_at _ _ _ _ _ _ _ _ c.loop-count.buffer.items _ _ _ c.in-Ok.ensures.written refl c.loop-count.invariant.progress) c.in-Ok.ensures.filled

pub returns-in-Err-answer-clause-served : goal.returns-in-Err-answer-clause-served
returns-in-Err-answer-clause-served g c =
    let filled = c.await_next.new.buffer.items in
    let front = rw c.in-Whole.is at c.in-Ok.ensures.front in
    let value = rw (c.in-Ok-Some.field-0-is, c.deref.ensures.value) at c.in-Ok-Some.ensures.value in
    let next = next_formed filled (drop c.in-Whole.end filled) _ (Some (asked_view c.in-Ok-Some.asked)) c.in-Whole.keeps value front in
    served_last c.in-Err-answer.e c.in-Whole.keeps _ _ _ _ _ _ _ _ _ _ _ _ _ _ _ _ _ _ (goes_on-trans g.K.Desk.run c.args.desk.now _ _)
    (progress_at _ _ _ _ _ _ _ _ c.loop-count.buffer.items _ _ _ c.in-Ok.ensures.written refl c.loop-count.invariant.progress)
    (fills_at _ _ _ _ _ c.in-Err-answer.ensures.left c.in-Ok.ensures.filled) next refl (fault_may_end c.in-Err-answer.e c.in-Whole.keeps c.in-Err-answer.ensures.fails)
    (answered_known c.in-Err-answer.e _ _ _ _ _ _ _ _ c.loop-count.invariant.known c.in-Err-answer.ensures.err)

pub returns-then-not-keeps-clause-served : goal.returns-then-not-keeps-clause-served
returns-then-not-keeps-clause-served g c =
    let filled = c.await_next.new.buffer.items in
    let front = rw c.in-Whole.is at c.in-Ok.ensures.front in
    let value = rw (c.in-Ok-Some.field-0-is, c.deref.ensures.value) at c.in-Ok-Some.ensures.value in
    let next = next_formed filled (drop c.in-Whole.end filled) _ (Some (asked_view c.in-Ok-Some.asked)) c.in-Whole.keeps value front in
    let closes : c.in-Whole.keeps ≡ false = search rules in
    served_last Closed false _ _ _ _ _ _ _ _ _ _ _ _ _ _ _ _ _ _ (goes_on-trans g.K.Desk.run c.args.desk.now _ _)
    (progress_at _ _ _ _ _ _ _ _ c.loop-count.buffer.items _ _ _ c.in-Ok.ensures.written refl c.loop-count.invariant.progress)
    (fills_at _ _ _ _ _ c.in-Ok-answer.ensures.left c.in-Ok.ensures.filled) next closes refl
    (answered_known Closed _ _ _ _ _ _ _ _ c.loop-count.invariant.known c.in-Ok-answer.ensures.ok)

pub loop-count-preserved : goal.loop-count-preserved
loop-count-preserved g c =
    let filled = c.await_next.new.buffer.items in
    let front = rw c.in-Whole.is at c.in-Ok.ensures.front in
    let value = rw (c.in-Ok-Some.field-0-is, c.deref.ensures.value) at c.in-Ok-Some.ensures.value in
    let next = next_formed filled (drop c.in-Whole.end filled) _ (Some (asked_view c.in-Ok-Some.asked)) c.in-Whole.keeps value front in
    let keeps : c.in-Whole.keeps ≡ true = search rules in
    let read = c.in-Ok.ensures.later in
    let wrote = c.in-Ok-answer.ensures.later in
    let before = c.loop-count.invariant.later in
    let most = rw c.in-Whole.is at c.in-Ok.ensures.most in
    let room = c.loop-count.invariant.room in
    record {
      progress = progress_at _ _ _ _ _ _ _ _ c.drop_front.new.buffer.items _ _ _ refl c.drop_front.ensures
          (progress_over _ _ _ _ _ _ _ _ _ _ _ _ _ _ _ _ _ _ (goes_on-trans g.K.Desk.run c.args.desk.now _ _)
          (progress_at _ _ _ _ _ _ _ _ c.loop-count.buffer.items _ _ _ c.in-Ok.ensures.written refl c.loop-count.invariant.progress)
          (fills_at _ _ _ _ _ c.in-Ok-answer.ensures.left c.in-Ok.ensures.filled) next keeps
          (answered_known Closed _ _ _ _ _ _ _ _ c.loop-count.invariant.known c.in-Ok-answer.ensures.ok));
      room = omega (arith, most, room, ap length c.drop_front.ensures, length-drop c.in-Whole.end filled);
      known = λ party. c.in-Ok-answer.ensures.known party ∙ c.loop-count.invariant.known party;
      later = omega (arith, read, wrote, before);
    }

pub returns-clause-served : goal.returns-clause-served
returns-clause-served g c =
    served_at_limit _ _ _ _ _ _ _ _ _ c.loop-count._count (omega (arith, c.loop-count-test.false, c.loop-count.auto._count-end)) c.loop-count.invariant.progress
