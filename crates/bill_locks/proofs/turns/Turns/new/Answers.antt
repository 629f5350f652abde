use Rattle.std.proofs.Common.{◌≡◌, false, ℕ, ◌++◌, ◌∷◌, [], List, ap, sym, subst, ◌∙◌}
use Rattle.std.specs.Prelude.{Option}
use Rattle.atomic_table.specs.Table.{Me, opening}
use Rattle.bill_locks.specs.declared.view.View.{View}
use Rattle.bill_locks.specs.View.{first_view}
use Rattle.bill_locks.specs.Rule.{Turning, openings}
use Rattle.bill_locks.proofs.CloseLemmas.{words_of, opens, get_or_at}
use Rattle.bill_locks.proofs.Totals.{at_within}
use Rattle.bill_locks.proofs.IdleLemmas.{idle_of, idle_first}
use Rattle.bill_locks.proofs.turns.Turns.new.Goals as goal

pub new-requires : goal.new-requires
new-requires g c =
    let fixed = g.T.Grows.fixed in
    let list = g.T.Grows.list in
    let loose = g.T.Grows.loose in
    let disk = g.T.Grows.disk in
    let ring = g.T.Grows.ring in
    let xs : List g.row.T.Denot = c.args.values.items in
    subst (λ (ys : List g.row.T.Denot). Turning fixed list loose disk ring (openings fixed list loose disk ring ys)
    (opening c.as_slice.result.now c.in_ok-slots.slots.items (first_view (openings fixed list loose disk ring ys))))
    (sym (ap (λ v. v.items) c.of-opened.ensures))
    (subst (λ (ws : List ℕ). Turning fixed list loose disk ring (openings fixed list loose disk ring xs)
    (opening ws c.in_ok-slots.slots.items (first_view (openings fixed list loose disk ring xs))))
    (sym (c.as_slice.ensures.value ∙ c.in_ok-words.ensures))
    (subst (λ (ss : List (Option g.row.T.Denot)). Turning fixed list loose disk ring (openings fixed list loose disk ring xs)
    (opening (words_of fixed list loose disk ring xs ++ 1 ∷ []) ss (first_view (openings fixed list loose disk ring xs))))
    (sym c.in_ok-slots.ensures)
    (opens fixed list loose disk ring xs
    (λ k x at. subst (λ (y : g.row.T.Denot). loose y ≡ false) (get_or_at xs k x x at)
    (c.requires.firm k x (at_within xs k x at))))))

pub invariant_of-result-2 : goal.invariant_of-result-2
invariant_of-result-2 g c = let e = c.in-Ok.ensures.ok.4 in (
  ap (λ (m : Me (Option g.row.T.Denot) (View g.row.T-Frame.Denot g.row.T-Fixed.Denot)). m.1) e,
  ap (λ (m : Me (Option g.row.T.Denot) (View g.row.T-Frame.Denot g.row.T-Fixed.Denot)). m.0.stands) e,
  idle_of _ c.in-Ok.seat.me.0 (ap (λ (m : Me (Option g.row.T.Denot) (View g.row.T-Frame.Denot g.row.T-Fixed.Denot)). m.0) e) (idle_first _),
)
