-- One piece after another, and first parts of them. (`Appends-nil` and `Appends-trans` stand in std's `KnownBytes`.)
use Rattle.std.proofs.Common.{◌≡◌, ℕ, ◌+◌, ◌-◌, ◌≤◌, List, [], ◌++◌, Option, Result, Ok, Err, OnErr, refl, ap, ◌∙◌, sym, subst, length, take, drop, take-append-drop, length-take, arith}
use Rattle.std.proofs.lemmas.List.{take-take, length-take-le}
use Rattle.std.proofs.Math.Seq.{take-append-add}
use Rattle.std.specs.Io.KnownBytes.{Appends}
use Rattle.std.proofs.KnownBytes.{Appends-nil, Appends-trans}
use Rattle.ebl_edge.specs.Sink.{AppendsFirst}

-- nothing is a first part
pub AppendsFirst-nil : (a : Option (List ℕ)) (text : List ℕ) → AppendsFirst a a text
AppendsFirst-nil a text = record { front = []; back = text; parts = refl; wrote = Appends-nil a }

-- the first n bytes are a first part
pub AppendsFirst-take : (a b : Option (List ℕ)) (n : ℕ) (text : List ℕ) → Appends a b (take n text) → AppendsFirst a b text
AppendsFirst-take a b n text p = record { front = take n text; back = drop n text; parts = take-append-drop n text; wrote = p }

-- a front, and more of what stands behind it
pub take-add : (m n : ℕ) (text : List ℕ) → m ≤ length text → take (m + n) text ≡ take m text ++ take n (drop m text)
take-add m n text le =
    sym (ap (take (m + n)) (take-append-drop m text)) ∙ ap (λ k. take (k + n) (take m text ++ drop m text)) (sym (length-take-le m text le))
    ∙ take-append-add (take m text) (drop m text) n

-- the first m bytes were written, and then n more of the rest
pub Appends-on : (a b c : Option (List ℕ)) (text : List ℕ) (m n : ℕ) → m ≤ length text → n ≤ length (take (length text - m) (drop m text))
    → Appends a b (take m text) → Appends b c (take n (take (length text - m) (drop m text))) → (m + n ≤ length text) × Appends a c (take (m + n) text)
Appends-on a b c text m n front within p q =
    let room : n ≤ length text - m = omega (arith, within, length-take (length text - m) (drop m text)) in
    let more : take n (take (length text - m) (drop m text)) ≡ take n (drop m text) = take-take n (length text - m) (drop m text) room in (
      omega arith,
      subst (λ (l : List ℕ). Appends a c l) (ap (λ l. take m text ++ l) more ∙ sym (take-add m n text front)) (Appends-trans a b c _ _ p q),
    )

-- a failed call of one that answers more
pub OnErr-fact : {T E P : Type 0} (r : Result T E) → P → OnErr r P
OnErr-fact (Ok x) p = tt
OnErr-fact (Err e) p = p
