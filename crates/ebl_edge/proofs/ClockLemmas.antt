-- The moments of a clock, call by call.
use Rattle.std.proofs.Common.{◌≡◌, ℕ, ◌+◌, ◌-◌, ◌^◌, ◌<◌, ◌≤◌, Bool, true, false, cond, min, nat_lt, List, [], ◌∷◌, ◌++◌, Option, Some, None, refl, sym, ap, ◌∙◌, append_assoc, append-nil, replicate, arith, true≢false, ltb-true, lt-ltb}
use Rattle.std.proofs.lemmas.List.{replicate-append-replicate}
use Rattle.ebl_base.specs.declared.moment.Moment.{Moment}
use Rattle.ebl_edge.specs.Clock.{Gives}

-- no call gives no moment
pub Gives-nil : (a : Option (List Moment)) → Gives a [] a
Gives-nil None = tt
Gives-nil (Some x) = sym (append-nil x)

-- some calls, and then more
pub Gives-trans : (a b c : Option (List Moment)) (xs ys : List Moment) → Gives a xs b → Gives b ys c → Gives a (xs ++ ys) c
Gives-trans a b None xs ys p q = tt
Gives-trans a None (Some z) xs ys p q = absurd q
Gives-trans None (Some y) (Some z) xs ys p q = absurd p
Gives-trans (Some x) (Some y) (Some z) xs ys p q = q ∙ ap (λ l. l ++ ys) p ∙ append_assoc x xs ys

Gives-again : (told tells : Bool) (m n : ℕ) (moment : Moment) → (tells ≡ true → told ≡ true) → (tells ≡ true → n ≡ m + 1)
    → Gives (cond told (Some (replicate m moment)) None) (moment ∷ []) (cond tells (Some (replicate n moment)) None)
Gives-again told false m n moment before next = tt
Gives-again true true m n moment before next =
    ap (λ k. replicate k moment) (next refl) ∙ sym (replicate-append-replicate m 1 moment)
Gives-again false true m n moment before next = absurd (true≢false (sym (before refl)))

-- a clock in memory tells one call more, as long as it tells
pub clock-tells : (m n : ℕ) (moment : Moment) → n ≡ min (m + 1) (2 ^ 64 - 1)
    → Gives (cond (nat_lt m (2 ^ 64 - 1)) (Some (replicate m moment)) None) (moment ∷ []) (cond (nat_lt n (2 ^ 64 - 1)) (Some (replicate n moment)) None)
clock-tells m n moment same =
    Gives-again (nat_lt m (2 ^ 64 - 1)) (nat_lt n (2 ^ 64 - 1)) m n moment
    (λ told. let below : n < 2 ^ 64 - 1 = ltb-true n (2 ^ 64 - 1) told in lt-ltb m (2 ^ 64 - 1) (omega arith))
    (λ told. let below : n < 2 ^ 64 - 1 = ltb-true n (2 ^ 64 - 1) told in omega arith)
