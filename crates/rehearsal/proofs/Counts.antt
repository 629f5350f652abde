-- Counts of words, and sums over bill lines.
use Rattle.std.proofs.Common.{◌≡◌, ◌<◌, ℕ, ◌+◌, Bool, List, [], ◌∷◌, ◌++◌, get_or, length, map, min, take, refl, sym, ◌∙◌, ap, arith, append-nil}
use Rattle.std.specs.Prelude.{codes, fold, sum_by, ◌||◌}
use Rattle.std.specs.List.{flat_map, list_any}
use Rattle.std.proofs.lemmas.Grind.{flat_map-append}
use Rattle.std.proofs.lemmas.List.{map-append, take_more}
use Rattle.std.proofs.lemmas.List.Sums.{sum_by-append}
use Rattle.canonical_json.specs.Value.{Value, flag, object}
use Rattle.canonical_json.specs.View.{Entry, members_of}
use Rattle.ebl_base.specs.declared.checksum.Checksum.{Checksum}
use Rattle.json_forms.specs.Writing.{capped_value, number_value}
use Rattle.bill_lines.specs.declared.standing.Standing.{Standing}
use Rattle.platform_world.specs.Standing.{standing_in}
use Rattle.platform_world.specs.World.{WorldRecord}
use Rattle.rehearsal.specs.Summary.{counted, entries_in, forks_in, replies_of, summary_members, times, totals_members}

-- one word more
pub one_word_more : {X : Type 0} (f : List ℕ → List Entry) (g : X → List ℕ) (xs : List X) (i : ℕ) (d : X)
    → i < length xs
    → flat_map f (map g (take (i + 1) xs)) ≡ flat_map f (map g (take i xs)) ++ f (g (get_or xs i d))
one_word_more {X} f g xs i d within =
    ap (λ (ys : List X). flat_map f (map g ys)) (take_more xs i d within)
    ∙ ap (flat_map f) (map-append g (take i xs) (get_or xs i d ∷ []))
    ∙ flat_map-append f (map g (take i xs)) (g (get_or xs i d) ∷ [])
    ∙ ap (λ (es : List Entry). flat_map f (map g (take i xs)) ++ es) (append-nil (f (g (get_or xs i d))))

-- the members of one word more
pub count_more : {X : Type 0} (answers : List (List ℕ)) (g : X → List ℕ) (xs : List X) (i : ℕ) (d : X) (n : ℕ)
    (before after : List Entry) → i < length xs
    → before ≡ flat_map (λ word. counted word (times answers word)) (map g (take i xs))
    → n ≡ times answers (g (get_or xs i d)) → after ≡ before ++ counted (g (get_or xs i d)) n
    → after ≡ flat_map (λ word. counted word (times answers word)) (map g (take (i + 1) xs))
count_more answers g xs i d n before after within so_far is_count put =
    let f : List ℕ → List Entry = λ word. counted word (times answers word) in
    put ∙ ap (λ (es : List Entry). es ++ counted (g (get_or xs i d)) n) so_far
    ∙ ap (λ (k : ℕ). flat_map f (map g (take i xs)) ++ counted (g (get_or xs i d)) k) is_count
    ∙ sym (one_word_more f g xs i d within)

-- ---- sums

-- one bill more, where a sum past the greatest number stays there
pub sum_more : {X : Type 0} (f : X → ℕ) (xs : List X) (i : ℕ) (d : X) (t e greatest : ℕ) → i < length xs
    → e ≡ f (get_or xs i d) → t ≡ min (sum_by f (take i xs)) greatest
    → min (t + e) greatest ≡ min (sum_by f (take (i + 1) xs)) greatest
sum_more f xs i d t e greatest within is_one is_sum =
    let more : sum_by f (take (i + 1) xs) ≡ sum_by f (take i xs) + f (get_or xs i d) =
    ap (sum_by f) (take_more xs i d within) ∙ sum_by-append f (take i xs) (get_or xs i d ∷ [])
    ∙ ap (λ (n : ℕ). sum_by f (take i xs) + n) (let e : 0 + f (get_or xs i d) ≡ f (get_or xs i d) = omega arith in e) in
    omega arith

-- it is written alike
pub capped_alike : (n : ℕ) → capped_value (min n 18446744073709551615) ≡ capped_value n
capped_alike n =
    ap number_value (let e : min (min n 18446744073709551615) 9007199254740991 ≡ min n 9007199254740991 = omega arith in e)

-- ---- the line's members

sum_from : (f : Standing → ℕ) (g : Checksum → Standing) (start : ℕ) (xs : List Checksum)
    → fold (λ a s. a + f s) start (map g xs) ≡ fold (λ a x. a + f (g x)) start xs
sum_from f g start [] = refl
sum_from f g start (x ∷ xs) = sum_from f g (start + f (g x)) xs

any_from : (f : Standing → Bool) (g : Checksum → Standing) (xs : List Checksum)
    → list_any f (map g xs) ≡ list_any (λ x. f (g x)) xs
any_from f g [] = refl
any_from f g (x ∷ xs) = ap (λ (b : Bool). f (g x) || b) (any_from f g xs)

-- the members, by what the code found
pub summed : (bills : ℕ) (w : WorldRecord) (answers : List (List ℕ)) (entries count : ℕ) (forked : Bool)
    (replies : Value) (standings : List Standing) → standings ≡ map (standing_in w) w.signed
    → capped_value entries ≡ capped_value (sum_by (λ s. s.entries) standings) → count ≡ length answers
    → forked ≡ list_any (λ s. s.forked) standings → replies ≡ object (members_of (replies_of answers))
    → (totals_members bills entries count ++ (codes "forked", flag forked) ∷ []) ++ (codes "replies", replies) ∷ []
    ≡ summary_members bills w answers
summed bills w answers entries count forked replies standings are is_sum is_count is_forked is_replies =
    let row : Value → ℕ → Bool → Value → List Entry = λ sum n forks told.
    (codes "bills", capped_value bills) ∷ (codes "entries", sum) ∷ (codes "events", capped_value n)
    ∷ (codes "forked", flag forks) ∷ (codes "replies", told) ∷ [] in
    ap (λ (v : Value). row v count forked replies)
    (is_sum
    ∙ ap capped_value (ap (sum_by (λ (s : Standing). s.entries)) are ∙ sum_from (λ s. s.entries) (standing_in w) 0 w.signed))
    ∙ ap (λ (n : ℕ). row (capped_value (entries_in w)) n forked replies) is_count
    ∙ ap (λ (b : Bool). row (capped_value (entries_in w)) (length answers) b replies)
    (is_forked ∙ ap (list_any (λ (s : Standing). s.forked)) are ∙ any_from (λ s. s.forked) (standing_in w) w.signed)
    ∙ ap (row (capped_value (entries_in w)) (length answers) (forks_in w)) is_replies
