use Rattle.std.proofs.Common.{◌≡◌, [], ◌∷◌, ℕ, List, ap, sym, ◌∙◌, arith}
use Rattle.std.specs.Prelude.{Option, Some}
use Rattle.atomic_table.specs.Table.{rest}
use Rattle.bill_locks.proofs.TurnSteps.{tries}
use Rattle.bill_locks.proofs.steps.begin.Goals as goal

pub fetch_or-found-requires : goal.fetch_or-found-requires
fetch_or-found-requires g c =
    let p = c.requires.place in
    let n = c.requires.sized in
    let idle = c.requires.rests.idle in (
      c.requires.of,
      omega arith,
      tries g.T.Grows.fixed g.T.Grows.list g.T.Grows.loose g.T.Grows.disk g.T.Grows.ring _ _ _ _ _ c.requires.place idle.is_out
          (idle.no_turn c.args.at) idle.not_alone,
    )

pub exchange-requires : goal.exchange-requires
exchange-requires g c =
    let e = c.fetch_or-found.ensures in
    let t = e.2.free c.if-found-ne0.false in
    let behind : List (ℕ × Option g.row.T.Denot) → List (ℕ × Option g.row.T.Denot) = λ l. (c.args.at, Some t.0) ∷ l in
    let hand : c.fetch_or-found.new.seat.me.1 ≡ (c.args.at, Some t.0) ∷ [] = t.1.hand
    ∙ ap behind c.requires.rests.hand in
    (e.0 ∙ c.requires.of, (Some t.0, hand ∙ ap behind (sym (ap rest hand))))
