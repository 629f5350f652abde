-- What the steps of a reading hand on.
use Rattle.std.proofs.lemmas.Bool.Decides.{nat_tests}
use Rattle.std.proofs.Common.{◌≡◌, ◌==◌, ℕ, List, [], ◌∷◌, length, arith, Bool, true, false, Option, Some, None, Result, Ok, Err, IsTrue, IfOk, IfNone, MatchOption, refl, sym, subst, ◌∙◌}
use Rattle.record_bytes.specs.Reading.{Finds}

-- nothing was found, where a function answers none
pub if_none : {T : Type 0} (o : Option T) (P : Type 0) → P → IfNone o P
if_none None P p = p
if_none (Some x) P p = tt

-- where none was found, nothing passes
pub not_found : {T : Type 0} (P : T → Type 0) (o : Option T) → ((x : T) → o ≡ Some x → ⊥) → Finds P o → (x : T) → ¬ P x
not_found P None never found = found
not_found P (Some x) never found = absurd (never x refl)

-- what passes one test passes the other, and the other way round
pub finds : {T : Type 0} (P Q : T → Type 0) → ((x : T) → P x → Q x) → ((x : T) → Q x → P x) → (o : Option T)
    → Finds P o → Finds Q o
finds P Q to from None none = λ x q. none x (from x q)
finds P Q to from (Some x) p = to x p

-- the same of an answer
pub if_finds : {T E : Type 0} (P Q : T → Type 0) → ((x : T) → P x → Q x) → ((x : T) → Q x → P x)
    → (r : Result (Option T) E) → IfOk r (Finds P) → IfOk r (Finds Q)
if_finds P Q to from (Ok o) found = finds P Q to from o found
if_finds P Q to from (Err e) found = tt

-- what holds where a function answers none, once it did
pub from_none : {T : Type 0} (o : Option T) (P : Type 0) → ((x : T) → o ≡ Some x → ⊥) → IfNone o P → P
from_none None P never p = p
from_none (Some x) P never p = absurd (never x refl)

-- what a test that failed would have shown
pub isnt : (b : Bool) (P : Type 0) → b ≡ false → (P → IsTrue b) → P → ⊥
isnt b P failed shown p = let clash : true ≡ false = sym (shown p) ∙ failed in cc clash

-- what none stands for, and what some value does
pub unfound : {T : Type 0} (P : Type 0) (Q : T → Type 0) (o : Option T) → o ≡ None → MatchOption o P Q → P
unfound P Q None is p = p
unfound P Q (Some x) is p = cc is

pub found_some : {T : Type 0} (P : Type 0) (Q : T → Type 0) (o : Option T) (x : T) → o ≡ Some x → MatchOption o P Q → Q x
found_some {T = T} P Q o x is found =
    let here : MatchOption (Some x) P Q = subst (λ (z : Option T). MatchOption z P Q) is found in here

-- where none was found, nothing passes
pub none_found : {T : Type 0} (P : T → Type 0) (o : Option T) → o ≡ None → Finds P o → (x : T) → ¬ P x
none_found P o is found = let here : Finds P None = subst (Finds P) is found in here

-- what was found passes
pub found_is : {T : Type 0} (P : T → Type 0) (o : Option T) (x : T) → o ≡ Some x → Finds P o → P x
found_is P o x is found = let here : Finds P (Some x) = subst (Finds P) is found in here
