-- What two lists of names are by how many they have in common in front.
use Rattle.std.proofs.Common.{◌≡◌, ◌≢◌, ◌+◌, ◌<◌, ◌≤◌, ℕ, Bool, true, false, cond, List, [], ◌∷◌, ◌++◌, length, refl, sym, ap, ◌∙◌, arith, append-nil, length-append}
use Rattle.std.specs.Bool.{Decides}
use Rattle.std.specs.List.{common_prefix_len}
use Rattle.std.proofs.lemmas.List.{length-map}
use Rattle.ebl_base.specs.Checksum.{checksum_eq}
use Rattle.ebl_base.specs.declared.chain.ChainLink.{ChainLink}
use Rattle.ebl_base.specs.declared.checksum.Checksum.{Checksum}
use Rattle.ebl_base.proofs.ChecksumLemmas.{checksum_eq-Decides}
use Rattle.bill_chain.specs.Chain.{common_front, names_of}
use Rattle.transfer_chain.specs.Meeting.{IsFront, PartAt}

-- two lists that don't begin with one name
abbrev BeginApart : List Checksum → List Checksum → Type 0
BeginApart (x ∷ xs) (y ∷ ys) = x ≢ y
BeginApart xs ys = Unit {0}

-- the names in common, and what is left of each list
record Split (a b : List Checksum) (place : ℕ) : Type 0 where
  front : List Checksum
  first : List Checksum
  second : List Checksum
  of_a : a ≡ front ++ first
  of_b : b ≡ front ++ second
  far : length front ≡ place
  apart : BeginApart first second

split_on : (x y : Checksum) (a b : List Checksum) (place : ℕ) (same : Bool) → Decides same (x ≡ y)
    → Split a b place → Split (x ∷ a) (y ∷ b) (cond same (1 + place) 0)
split_on x y a b place true decides split =
    let far = split.far in
    record {
      front = x ∷ split.front;
      first = split.first;
      second = split.second;
      of_a = ap (λ l. x ∷ l) split.of_a;
      of_b = ap (λ l. y ∷ l) split.of_b ∙ ap (λ z. z ∷ (split.front ++ split.second)) (sym (decides.0 refl));
      far = omega (arith, far);
      apart = split.apart;
    }
split_on x y a b place false decides split =
    record {
      front = [];
      first = x ∷ a;
      second = y ∷ b;
      of_a = refl;
      of_b = refl;
      far = refl;
      apart = λ e. let no : false ≡ true = decides.1 e in cc;
    }

split : (a b : List Checksum) → Split a b (common_prefix_len checksum_eq a b)
split [] b = record { front = []; first = []; second = b; of_a = refl; of_b = refl; far = refl; apart = tt }
split (x ∷ a) [] = record { front = []; first = x ∷ a; second = []; of_a = refl; of_b = refl; far = refl; apart = tt }
split (x ∷ a) (y ∷ b) =
    split_on x y a b (common_prefix_len checksum_eq a b) (checksum_eq x y) (checksum_eq-Decides x y) (split a b)

-- ---- by what is left of each

-- a whole is as long as its front and its rest
len_of : (a front rest : List Checksum) → a ≡ front ++ rest → length a ≡ length front + length rest
len_of a front rest is = ap length is ∙ length-append front rest

parts : (a b front first second : List Checksum) (place : ℕ) → a ≡ front ++ first → b ≡ front ++ second
    → length front ≡ place → BeginApart first second → place < length a → place < length b → PartAt a b place
parts a b front [] second place of_a of_b far apart more_a more_b =
    let len = len_of a front [] of_a in
    absurd (omega (arith, len))
parts a b front (x ∷ xs) [] place of_a of_b far apart more_a more_b =
    let len = len_of b front [] of_b in
    absurd (omega (arith, len))
parts a b front (x ∷ xs) (y ∷ ys) place of_a of_b far apart more_a more_b =
    record {
      front = front;
      x = x;
      xs = xs;
      y = y;
      ys = ys;
      first = of_a;
      second = of_b;
      place = far;
      differ = apart;
    }

-- the first list ends there
is_front : (a b front second : List Checksum) → a ≡ front → b ≡ front ++ second → length a < length b → IsFront a b
is_front a b front [] of_a of_b more =
    let len_a = ap length of_a in
    let len_b = len_of b front [] of_b in
    absurd (omega (arith, len_a, len_b))
is_front a b front (y ∷ ys) of_a of_b more = (y, ys, of_b ∙ ap (λ l. l ++ y ∷ ys) (sym of_a))

ends : (a front first : List Checksum) → a ≡ front ++ first → length a ≤ length front → a ≡ front
ends a front [] of_a within = of_a ∙ append-nil front
ends a front (x ∷ xs) of_a within =
    let len = len_of a front (x ∷ xs) of_a in
    absurd (omega (arith, len))

-- ---- chains

pub chains_part : (a b : List ChainLink) → common_front a b < length a → common_front a b < length b
    → PartAt (names_of a) (names_of b) (common_front a b)
chains_part a b more_a more_b =
    let names : ChainLink → Checksum = λ link. link.name in
    let is = split (names_of a) (names_of b) in
    let len_a = length-map a names in
    let len_b = length-map b names in
    parts (names_of a) (names_of b) is.front is.first is.second (common_front a b) is.of_a is.of_b is.far is.apart
    (omega (arith, len_a)) (omega (arith, len_b))

pub first_is_front : (a b : List ChainLink) → length a ≤ common_front a b → length a < length b
    → IsFront (names_of a) (names_of b)
first_is_front a b ended more =
    let names : ChainLink → Checksum = λ link. link.name in
    let is = split (names_of a) (names_of b) in
    let len_a = length-map a names in
    let len_b = length-map b names in
    let far = is.far in
    is_front (names_of a) (names_of b) is.front is.second
    (ends (names_of a) is.front is.first is.of_a (omega (arith, len_a, far))) is.of_b (omega (arith, len_a, len_b))

pub second_is_front : (a b : List ChainLink) → length b ≤ common_front a b → length b < length a
    → IsFront (names_of b) (names_of a)
second_is_front a b ended more =
    let names : ChainLink → Checksum = λ link. link.name in
    let is = split (names_of a) (names_of b) in
    let len_a = length-map a names in
    let len_b = length-map b names in
    let far = is.far in
    is_front (names_of b) (names_of a) is.front is.first
    (ends (names_of b) is.front is.second is.of_b (omega (arith, len_b, far))) is.of_a (omega (arith, len_a, len_b))

pub both_end : (a b : List ChainLink) → length a ≤ common_front a b → length b ≤ common_front a b
    → names_of a ≡ names_of b
both_end a b ended_a ended_b =
    let names : ChainLink → Checksum = λ link. link.name in
    let is = split (names_of a) (names_of b) in
    let len_a = length-map a names in
    let len_b = length-map b names in
    let far = is.far in
    ends (names_of a) is.front is.first is.of_a (omega (arith, len_a, far))
    ∙ sym (ends (names_of b) is.front is.second is.of_b (omega (arith, len_b, far)))
