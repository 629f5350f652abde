-- Marks are read where they were put, and each elsewhere stays.
use Rattle.std.proofs.Common.{◌≡◌, ◌≢◌, ℕ, zero, suc, List, [], ◌∷◌, map, refl, sym, ap, ◌∙◌}
use Rattle.bill_locks.specs.declared.view.Mark.{Mark}
use Rattle.bill_locks.specs.View.{blank, look, put, merged, both_marks}

module _ {F : Type 0} where
  pub look_here : (k : ℕ) (m : Mark F) (ms : List (Mark F)) → look k (put k m ms) ≡ m
  unfolding look put
  look_here zero m [] = refl
  look_here (suc k) m [] = look_here k m []
  look_here zero m (x ∷ xs) = refl
  look_here (suc k) m (x ∷ xs) = look_here k m xs

  past : (j : ℕ) → look {F = F} j [] ≡ blank
  unfolding look
  past zero = refl
  past (suc j) = refl

  pub look_else : (j k : ℕ) (m : Mark F) (ms : List (Mark F)) → j ≢ k → look j (put k m ms) ≡ look j ms
  unfolding look put
  look_else zero zero m ms n = absurd (n refl)
  look_else (suc j) zero m [] n = past j
  look_else (suc j) zero m (x ∷ xs) n = refl
  look_else zero (suc k) m [] n = refl
  look_else zero (suc k) m (x ∷ xs) n = refl
  look_else (suc j) (suc k) m [] n = look_else j k m [] (λ e. n (ap suc e)) ∙ past j
  look_else (suc j) (suc k) m (x ∷ xs) n = look_else j k m xs (λ e. n (ap suc e))

  pub put_put : (k : ℕ) (a b : Mark F) (ms : List (Mark F)) → put k a (put k b ms) ≡ put k a ms
  unfolding put
  put_put zero a b [] = refl
  put_put (suc k) a b [] = ap (λ (l : List (Mark F)). blank ∷ l) (put_put k a b [])
  put_put zero a b (x ∷ xs) = refl
  put_put (suc k) a b (x ∷ xs) = ap (λ (l : List (Mark F)). x ∷ l) (put_put k a b xs)

  pub look_nothing : (k : ℕ) → look {F = F} k [] ≡ blank
  look_nothing k = past k

  pub look_map : (f : Mark F → Mark F) → f blank ≡ blank → (k : ℕ) (ms : List (Mark F))
      → look k (map f ms) ≡ f (look k ms)
  unfolding look
  look_map f e k [] = past k ∙ (sym e ∙ ap f (sym (past k)))
  look_map f e zero (m ∷ ms) = refl
  look_map f e (suc k) (m ∷ ms) = look_map f e k ms

  pub look_merged : (k : ℕ) (ms ns : List (Mark F)) → look k (merged ms ns) ≡ both_marks (look k ms) (look k ns)
  unfolding look merged
  look_merged k [] ns = look_map (λ n. both_marks blank n) refl k ns
      ∙ ap (λ (m : Mark F). both_marks m (look k ns)) (sym (past k))
  look_merged k (m ∷ ms) [] = look_map (λ n. both_marks n blank) refl k (m ∷ ms)
      ∙ ap (λ (n : Mark F). both_marks (look k (m ∷ ms)) n) (sym (past k))
  look_merged zero (m ∷ ms) (n ∷ ns) = refl
  look_merged (suc k) (m ∷ ms) (n ∷ ns) = look_merged k ms ns
