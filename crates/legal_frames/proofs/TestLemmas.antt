-- What a test that failed or passed says.
use Rattle.std.proofs.Common.{◌≡◌, Bool, true, false, Result, Ok, Err, IsTrue, IfOk, ◌↔◌, sym, subst, ◌∙◌}
use Rattle.ebl_base.specs.declared.no_memory.NoMemory.{NoMemory}

-- a test that fails decides what can't be
pub never : {P : Type 0} → (P → ⊥) → (IsTrue false ↔ P)
never cant = (λ t. cc t, λ p. absurd (cant p))

-- a test that failed decides against what it decides
pub isnt : {P : Type 0} (b : Bool) → b ≡ false → (IsTrue b ↔ P) → P → ⊥
isnt b failed decides p = let clash : true ≡ false = sym (decides.1 p) ∙ failed in cc clash

-- what a test decides, where two facts come to the same
pub through : {P Q : Type 0} (b : Bool) → (IsTrue b ↔ P) → (P → Q) → (Q → P) → (IsTrue b ↔ Q)
through b decides to from = (λ t. to (decides.0 t), λ q. decides.1 (from q))

-- the same of an answer
pub if_through : {P Q : Type 0} (answer : Result Bool NoMemory) → (P → Q) → (Q → P)
    → IfOk answer (λ b. IsTrue b ↔ P) → IfOk answer (λ b. IsTrue b ↔ Q)
if_through (Ok b) to from decides = through b decides to from
if_through (Err e) to from decides = tt

-- what is refused, unless memory ran out, can't be
pub if_refused : (P Q : Type 0) (answer : Result Bool NoMemory) → IfOk answer (λ so. (so ≡ false) × Q)
    → (Q → P → ⊥) → IfOk answer (λ so. IsTrue so ↔ P)
if_refused P Q (Ok b) is cant = subst (λ (x : Bool). IsTrue x ↔ P) (sym is.0) (never (cant is.1))
if_refused P Q (Err e) is cant = tt
