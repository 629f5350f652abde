-- What reads one after another hand out. (`Consumes-nil`, `Consumes-trans` and `Consumes-kept` stand in std's `KnownBytes`.)
use Rattle.std.proofs.Common.{◌≡◌, ℕ, ◌+◌, ◌-◌, List, [], ◌++◌, ap, ◌∙◌, sym, length, take, drop, length-drop, arith}
use Rattle.std.proofs.lemmas.List.{drop-drop, take_all}
use Rattle.std.proofs.Math.Seq.{drop-nil}

-- what is left at a place, of which the front was handed out
pub moved_on : (bytes now left front : List ℕ) (at n : ℕ) → drop at bytes ≡ now → left ≡ drop at bytes → left ≡ front ++ drop n left
    → now ≡ front ++ drop (at + n) bytes
moved_on bytes now left front at n seen same moved =
    sym seen ∙ sym same ∙ moved ∙ ap (λ l. front ++ drop n l) same ∙ ap (λ l. front ++ l) (drop-drop n at bytes)

-- behind the end nothing is left
pub drop-at_end : (bytes left : List ℕ) (at n : ℕ) → left ≡ drop at bytes → left ≡ [] → drop (at + n) bytes ≡ []
drop-at_end bytes left at n same none = sym (drop-drop n at bytes) ∙ ap (drop n) (sym same ∙ none) ∙ drop-nil n

-- a slice from a place on is all that stands behind the place
pub take-rest : (slice bytes : List ℕ) (at : ℕ) → slice ≡ bytes → take (length slice - at) (drop at slice) ≡ drop at bytes
take-rest slice bytes at same = take_all (length slice - at) (drop at slice) (omega (arith, length-drop at slice)) ∙ ap (drop at) same
