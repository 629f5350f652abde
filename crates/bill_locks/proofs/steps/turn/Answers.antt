use Rattle.std.proofs.Common.{◌∙◌, List, sym, ap, subst, take}
use Rattle.std.specs.Prelude.{Option, Some}
use Rattle.atomic_table.specs.Table.{Me}
use Rattle.bill_locks.specs.declared.view.View.{View}
use Rattle.bill_locks.specs.declared.job.Told.{Told}
use Rattle.bill_locks.specs.View.{mark_at, opened_at, with_mark}
use Rattle.bill_locks.specs.Steps.{after_turn}
use Rattle.bill_locks.proofs.IdleLemmas.{holding_mark, held_grown, TurnResult, turn_result}
use Rattle.bill_locks.proofs.steps.turn.Goals as goal

pub give-requires-clause-held : goal.give-requires-clause-held
give-requires-clause-held g c =
    ap (λ (m : Me (Option g.row.T.Denot) (View g.row.T-Frame.Denot g.row.T-Fixed.Denot)). (mark_at c.args.at m.0).held)
    c.in-Some.ensures.turn.0
    ∙ ap (λ m. m.held)
    (holding_mark g.T.Grows.fixed g.T.Grows.list g.T.Grows.loose g.T.Grows.disk g.T.Grows.ring c.args.at c.args.seat.now.me.0
    c.in-Some.value)

pub give-requires-clause-fixed : goal.give-requires-clause-fixed
give-requires-clause-fixed g c =
    ap (λ (m : Me (Option g.row.T.Denot) (View g.row.T-Frame.Denot g.row.T-Fixed.Denot)). (opened_at c.args.at m.0).fixed)
    c.in-Some.ensures.turn.0
    ∙ (c.in-Some.ensures.turn.2 ∙ ap Some (sym c.run-answer.ensures.fixed))

pub give-requires-clause-grown : goal.give-requires-clause-grown
give-requires-clause-grown g c =
    let r = c.run-answer.ensures in
    held_grown g.T.Grows.fixed g.T.Grows.list g.T.Grows.loose g.T.Grows.disk g.T.Grows.ring c.args.at c.args.seat.now.me.0
    c.in-Some.value (g.J.Job.tells c.run-answer.result) c.run-answer.new.value _ _
    (ap (λ (m : Me (Option g.row.T.Denot) (View g.row.T-Frame.Denot g.row.T-Fixed.Denot)). m.0) c.in-Some.ensures.turn.0)
    c.told-told.ensures
    record {
      grows = r.grows;
      before = r.before;
      after = r.after;
      one = r.one;
      loose_only = r.loose;
      disk_later =
          r.disk;
      ring_later = r.ring;
      failed = r.failed;
      unsigned = r.unsigned;
    }

result : (g : _) (c : goal.After-give g)
    → TurnResult g.T.Grows.fixed g.T.Grows.list g.T.Grows.loose g.T.Grows.disk g.T.Grows.ring c.args.at c.args.seat.now.me.0
    c.in-Some.value
    (g.J.Job.tells c.run-answer.result) c.run-answer.new.value c.give.new.seat.me.0
result g c =
    let r = c.run-answer.ensures in
    turn_result g.T.Grows.fixed g.T.Grows.list g.T.Grows.loose g.T.Grows.disk g.T.Grows.ring c.args.at c.args.seat.now.me.0
    c.in-Some.value (g.J.Job.tells c.run-answer.result) c.run-answer.new.value
    c.begin.new.seat.me.0 c.give.new.seat.me.0
    (ap (λ (m : Me (Option g.row.T.Denot) (View g.row.T-Frame.Denot g.row.T-Fixed.Denot)). m.0) c.in-Some.ensures.turn.0)
    (ap (λ (m : Me (Option g.row.T.Denot) (View g.row.T-Frame.Denot g.row.T-Fixed.Denot)). m.0) c.give.ensures.given
    ∙ ap (λ (t : Told). with_mark c.args.at
    (after_turn (mark_at c.args.at c.begin.new.seat.me.0) (g.T.Grows.list c.run-answer.new.value) t)
    c.begin.new.seat.me.0) c.told-told.ensures)
    c.in-Some.ensures.turn.1
    record {
      grows = r.grows;
      before = r.before;
      after = r.after;
      one = r.one;
      loose_only = r.loose;
      disk_later =
          r.disk;
      ring_later = r.ring;
      failed = r.failed;
      unsigned = r.unsigned;
    }

pub returns-clause-rests : goal.returns-clause-rests
returns-clause-rests g c = record {
  hand = ap (λ (m : Me (Option g.row.T.Denot) (View g.row.T-Frame.Denot g.row.T-Fixed.Denot)). m.1) c.give.ensures.given;
  idle = (result g c).idle c.requires.rests.idle;
}

pub returns-clause-turned : goal.returns-clause-turned
returns-clause-turned g c = (result g c).turned

pub returns-clause-seen : goal.returns-clause-seen
returns-clause-seen g c = (result g c).seen

pub returns-clause-does : goal.returns-clause-does
returns-clause-does g c = (
  g.T.Grows.fixed c.in-Some.value,
  c.in-Some.ensures.turn.2,
  subst
      (λ (xs : List g.row.T-Frame.Denot). g.J.Job.does c.args.job (g.T.Grows.fixed c.in-Some.value)
      (take (g.J.Job.tells c.run-answer.result).before xs) xs c.run-answer.result)
      (sym (result g c).front) c.run-answer.ensures.does,
)
