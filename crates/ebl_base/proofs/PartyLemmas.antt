-- The characters that stand in front where one text was written behind another.
use Rattle.std.proofs.Common.{◌≡◌, ℕ, zero, suc, ◌+◌, ◌-◌, ◌≤◌, Bool, true, false, cond, List, [], ◌∷◌, ◌++◌, length, take, drop, refl, sym, ap, ◌∙◌, append_assoc, arith, length-append}
use Rattle.std.proofs.Math.Bool.{◌&&◌, ◌||◌}
use Rattle.std.proofs.Math.ListN.{replicate}
use Rattle.std.proofs.Math.Seq.{take-append_seam}
use Rattle.std.specs.Prelude.{nat_eq}
use Rattle.std.specs.List.{prefix_len, take_while, list_all}
use Rattle.std.proofs.lemmas.List.{drop-replicate}
use Rattle.std.proofs.lemmas.List.Sums.{take_while-cons}
use Rattle.std.proofs.lemmas.Slice.{drop-append-drop}
use Rattle.ebl_base.specs.PlatformCode.{is_code_character}
use Rattle.ebl_base.specs.Name35.{is_name_character}
use Rattle.ebl_base.specs.Party.{is_party_character}

-- ---- fronts

front_step : (p q : ℕ → Bool) (x : ℕ) (xs : List ℕ) (b : Bool) → (b ≡ true → q x ≡ true) → list_all q (take_while p xs) ≡ true
    → list_all q (cond b (x ∷ take_while p xs) []) ≡ true
front_step p q x xs false here rest = refl
front_step p q x xs true here rest = rw (here refl) rest

-- what passes a test in front passes each wider test
pub front_passes : (p q : ℕ → Bool) → ((c : ℕ) → p c ≡ true → q c ≡ true) → (xs : List ℕ) → list_all q (take_while p xs) ≡ true
front_passes p q wider [] = refl
front_passes p q wider (x ∷ xs) = rw take_while-cons (front_step p q x xs (p x) (wider x) (front_passes p q wider xs))

first_true : (a b : Bool) → (a && b) ≡ true → a ≡ true
first_true true b h = refl
first_true false b h = h

second_true : (a b : Bool) → (a && b) ≡ true → b ≡ true
second_true true b h = h
second_true false true h = refl
second_true false false h = h

-- a list that passes stands in front where nothing behind it passes at once
pub whole_front : (q : ℕ → Bool) (xs ys : List ℕ) → list_all q xs ≡ true → prefix_len q ys ≡ 0 → take_while q (xs ++ ys) ≡ xs
whole_front q [] ys all none = ap (λ n. take n ys) none
whole_front q (x ∷ xs) ys all none =
    let here : q x ≡ true = first_true (q x) (list_all q xs) all in
    let rest : take_while q (xs ++ ys) ≡ xs = whole_front q xs ys (second_true (q x) (list_all q xs) all) none in
    take_while-cons q x (xs ++ ys) ∙ ap (λ b. cond b (x ∷ take_while q (xs ++ ys)) []) here ∙ ap (λ l. x ∷ l) rest

zeros_fail : (n : ℕ) → prefix_len is_party_character (replicate n 0) ≡ 0
zeros_fail zero = refl
zeros_fail (suc n) = refl

all_append : (q : ℕ → Bool) (xs ys : List ℕ) → list_all q xs ≡ true → list_all q ys ≡ true → list_all q (xs ++ ys) ≡ true
all_append q [] ys all more = more
all_append q (x ∷ xs) ys all more = rw (first_true (q x) (list_all q xs) all) (all_append q xs ys (second_true (q x) (list_all q xs) all) more)

-- ---- characters

or_first : (a b : Bool) → a ≡ true → (a || b) ≡ true
or_first true b h = refl
or_first false true h = refl
or_first false false h = h

pub name_is_party : (c : ℕ) → is_name_character c ≡ true → is_party_character c ≡ true
name_is_party c h = or_first (is_name_character c) (nat_eq c 47) h

pub code_is_party : (c : ℕ) → is_code_character c ≡ true → is_party_character c ≡ true
code_is_party c h = name_is_party c (or_first (is_code_character c || nat_eq c 45) (nat_eq c 95) (or_first (is_code_character c) (nat_eq c 45) h))

-- ---- a party's text

-- the front of a text of which the length is known
front_of : (n : ℕ) (xs ys : List ℕ) → length xs ≡ n → take n (xs ++ ys) ≡ xs
front_of n xs ys len = ap (λ k. take k (xs ++ ys)) (sym len) ∙ take-append_seam xs ys

-- a code, a slash and a name, written one behind the other over zeros
pub written_party : (code name one two three : List ℕ)
    → list_all is_party_character code ≡ true → list_all is_party_character name ≡ true
    → one ≡ code ++ drop (0 + length code) (replicate 40 0)
    → two ≡ (take (length code) one ++ 47 ∷ []) ++ drop (length code + 1) one
    → three ≡ (take (length code + 1) two ++ name) ++ drop (length code + 1 + length name) two
    → take_while is_party_character three ≡ code ++ 47 ∷ name
written_party code name one two three code_passes name_passes first second third =
    let n = length code in
    let k = length code + 1 + length name in
    let begun = code ++ 47 ∷ [] in
    let body = begun ++ name in
    let no_offset : 0 + n ≡ n = omega arith in
    let code_first : one ≡ code ++ drop n (replicate 40 0) = first ∙ ap (λ m. code ++ drop m (replicate 40 0)) no_offset in
    let head : take n one ≡ code = ap (take n) code_first ∙ front_of n code (drop n (replicate 40 0)) refl in
    let begun_first : two ≡ begun ++ drop (n + 1) one = second ∙ ap (λ l. (l ++ 47 ∷ []) ++ drop (n + 1) one) head in
    let begun_len : length begun ≡ n + 1 = length-append code (47 ∷ []) in
    let front : take (n + 1) two ≡ begun = ap (take (n + 1)) begun_first ∙ front_of (n + 1) begun (drop (n + 1) one) begun_len in
    let past_code : n ≤ k = omega arith in
    let past_begun : n + 1 ≤ k = omega arith in
    let zeros : drop k two ≡ replicate (40 - k) 0 =
    ap (drop k) begun_first ∙ drop-append-drop (n + 1) one begun k past_begun begun_len
    ∙ ap (drop k) code_first ∙ drop-append-drop n (replicate 40 0) code k past_code refl
    ∙ drop-replicate k 40 0 in
    let whole : three ≡ body ++ replicate (40 - k) 0 =
    third ∙ ap (λ l. (l ++ name) ++ drop k two) front ∙ ap (λ l. body ++ l) zeros in
    let passes : list_all is_party_character body ≡ true =
    all_append is_party_character begun name (all_append is_party_character code (47 ∷ []) code_passes refl) name_passes in
    ap (take_while is_party_character) whole
    ∙ whole_front is_party_character body (replicate (40 - k) 0) passes (zeros_fail (40 - k))
    ∙ append_assoc code (47 ∷ []) name
