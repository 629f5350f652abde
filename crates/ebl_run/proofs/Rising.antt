-- Counts that rise from event to event add up.
use Rattle.std.proofs.Common.{◌≡◌, ◌<◌, ◌≤◌, ◌-◌, ◌^◌, ℕ, zero, suc, ◌+◌, List, [], ◌∷◌, ◌++◌, Some, length, min, refl, sym, subst, ◌∙◌, arith}
use Rattle.std.specs.Prelude.{Option, slice_get}
use Rattle.std.proofs.lemmas.Option.{slice_get_within}
use Rattle.ebl_base.specs.Faults.{RoseBy}
use Rattle.world_events.specs.Happening.{comes_to}
use Rattle.platform_world.specs.Platforms.{EachRose, times_at}
use Rattle.platform_world.specs.Run.{Happened, disk_answers, sign_answers}
use Rattle.platform_world.specs.Step.{disk_failed_at, ring_failed_at}

-- ---- one count

rises_not : (a top : ℕ) → min (a + 0) top ≤ a
rises_not a top = omega arith

pub rises_more : (a m b n c top : ℕ) → min (a + m) top ≤ b → min (b + n) top ≤ c → min (a + (m + n)) top ≤ c
rises_more a m b n c top one two = omega (arith, one, two)

pub rises_from : (a b n c top : ℕ) → a ≤ b → min (b + n) top ≤ c → min (a + n) top ≤ c
rises_from a b n c top one two = omega (arith, one, two)

pub rises_at_all : (a n b top : ℕ) → min (a + n) top ≤ b → min (a + 0) top ≤ b
rises_at_all a n b top one = omega (arith, one)

pub later_rises : (a b top : ℕ) → a ≤ b → min (a + 0) top ≤ b
later_rises a b top one = omega (arith, one)

-- ---- the counts of a list

pub there : {X : Type 0} (xs : List X) (k : ℕ) → k < length xs → (x : X) × (slice_get xs k ≡ Some x)
there [] k within = absurd (omega (arith, within))
there (x ∷ xs) zero within = (x, refl)
there (x ∷ xs) (suc k) within = there xs k (omega (arith, within))

pub same_there : {X : Type 0} (o : Option X) (x y : X) → o ≡ Some x → o ≡ Some y → x ≡ y
same_there o x y one two = let both : Some x ≡ Some y = sym one ∙ two in cc both

module _ {M : Type 0} (faults : M → ℕ) where
  pub stays : (xs : List M) → EachRose faults (λ k. 0) xs xs
  stays xs = record {
    length_is = refl;
    each = λ k old new was is. subst (λ (m : M). RoseBy (faults old) 0 (faults m))
        (same_there (slice_get xs k) old new was is) (rises_not (faults old) (2 ^ 64 - 1));
  }

  pub and_then : (f g : ℕ → ℕ) (xs ys zs : List M) → EachRose faults f xs ys → EachRose faults g ys zs
      → EachRose faults (λ k. f k + g k) xs zs
  and_then f g xs ys zs one two = record {
    length_is = two.length_is ∙ one.length_is;
    each = λ k old new was is.
        let within : k < length ys = omega (arith, slice_get_within xs k old was, one.length_is) in
        let between = there ys k within in
        rises_more (faults old) (f k) (faults between.0) (g k) (faults new) (2 ^ 64 - 1)
        (one.each k old between.0 was between.1) (two.each k between.0 new between.1 is);
  }

  pub by_times : (f g : ℕ → ℕ) (xs ys : List M) → ((k : ℕ) → f k ≡ g k) → EachRose faults f xs ys
      → EachRose faults g xs ys
  by_times f g xs ys same rose = record {
    length_is = rose.length_is;
    each = λ k old new was is. subst (λ (n : ℕ). RoseBy (faults old) n (faults new)) (same k) (rose.each k old new was is);
  }

-- ---- the events of a run

plus_more : (t a b c : ℕ) → c ≡ a + b → t + c ≡ (t + a) + b
plus_more t a b c same = omega (arith, same)

pub disk_answers_more : (k : ℕ) (hs more : List Happened)
    → disk_answers k hs + disk_answers k more ≡ disk_answers k (hs ++ more)
disk_answers_more k [] more = let none : 0 + disk_answers k more ≡ disk_answers k more = omega arith in none
disk_answers_more k (h ∷ hs) more =
    sym (plus_more
    (times_at h.before.roster.platforms (disk_failed_at (comes_to h.before.signed h.before.sent h.event) h.fate.end) k)
    (disk_answers k hs) (disk_answers k more) (disk_answers k (hs ++ more)) (sym (disk_answers_more k hs more)))

pub sign_answers_more : (k : ℕ) (hs more : List Happened)
    → sign_answers k hs + sign_answers k more ≡ sign_answers k (hs ++ more)
sign_answers_more k [] more = let none : 0 + sign_answers k more ≡ sign_answers k more = omega arith in none
sign_answers_more k (h ∷ hs) more =
    sym (plus_more
    (times_at h.before.roster.platforms (ring_failed_at (comes_to h.before.signed h.before.sent h.event) h.fate.end) k)
    (sign_answers k hs) (sign_answers k more) (sign_answers k (hs ++ more)) (sym (sign_answers_more k hs more)))

-- of one event
pub one_time : (n : ℕ) → n ≡ n + 0
one_time n = omega arith
