use Rattle.std.proofs.Common.{◌≡◌, [], ◌∷◌, ℕ, List, ap, subst, sym, ◌∙◌, arith}
use Rattle.std.specs.Prelude.{Option, Some}
use Rattle.atomic_table.specs.Table.{Me, rest}
use Rattle.bill_locks.specs.declared.view.View.{View}
use Rattle.bill_locks.specs.View.{mark_at, opened_at}
use Rattle.bill_locks.specs.Steps.{Grown}
use Rattle.bill_locks.proofs.TurnSteps.{gives_turn}
use Rattle.bill_locks.proofs.steps.give.Goals as goal

pub swap-requires : goal.swap-requires
swap-requires g c =
    let e = c.exchange-emptied.ensures in
    let p = c.requires.place in
    let n = c.requires.sized in
    let view : c.exchange-emptied.new.seat.me.0 ≡ c.args.seat.now.me.0 =
    ap (λ (m : Me (Option g.row.T.Denot) (View g.row.T-Frame.Denot g.row.T-Fixed.Denot)). m.0) e.3 in
    let hand : c.exchange-emptied.new.seat.me.1 ≡ (c.args.at, Some c.args.value) ∷ [] =
    ap (λ (m : Me (Option g.row.T.Denot) (View g.row.T-Frame.Denot g.row.T-Fixed.Denot)). m.1) e.3
    ∙ ap (λ (l : List (ℕ × Option g.row.T.Denot)). (c.args.at, Some c.args.value) ∷ rest l) c.requires.hand in (
      e.0 ∙ c.requires.of,
      omega arith,
      gives_turn g.T.Grows.fixed g.T.Grows.list g.T.Grows.loose g.T.Grows.disk g.T.Grows.ring _ _ _ _ _ c.requires.place g.D.Deed.told
          c.args.value _
          (let r = c.frames-word.ensures.count in omega arith)
          hand
          (ap (λ (v : View g.row.T-Frame.Denot g.row.T-Fixed.Denot). (mark_at c.args.at v).held) view ∙ c.requires.held)
          (ap (λ (v : View g.row.T-Frame.Denot g.row.T-Fixed.Denot). v.alone) view ∙ c.requires.not_alone)
          (ap (λ (v : View g.row.T-Frame.Denot g.row.T-Fixed.Denot). (opened_at c.args.at v).fixed) view ∙ c.requires.fixed)
          (subst (λ (v : View g.row.T-Frame.Denot g.row.T-Fixed.Denot). Grown g.T.Grows.list g.T.Grows.loose g.T.Grows.disk g.T.Grows.ring
          (mark_at c.args.at v) g.D.Deed.told c.args.value) (sym view)
          (subst (λ t. Grown g.T.Grows.list g.T.Grows.loose g.T.Grows.disk g.T.Grows.ring
          (mark_at c.args.at c.args.seat.now.me.0) t c.args.value) (sym c.requires.told) c.requires.grown)),
    )
