-- Names compared a character at a time, as the loop over both does.
use Rattle.std.proofs.Common.{◌≡◌, ℕ, ◌+◌, ◌-◌, ◌/◌, ◌%◌, ◌<◌, ◌≤◌, true, List, [], ◌∷◌, ◌++◌, length, IsUtf8, Ordering, Less, Equal, Greater, nat_cmp, refl, sym, ap, ap₂, ◌∙◌, subst, inl, inr, ◌⊎◌, arith, flat_map}
use Rattle.std.proofs.lemmas.Bool.{cases_lt, cases_eq, ne_eqb, le-ltb, lt-ltb, and_parts}
use Rattle.std.proofs.lemmas.Str.{chars_past_char, cons_from_encodes}
use Rattle.std.specs.Ordering.{ordering_then}
use Rattle.std.specs.Cmp.Lexicographic.{slice_cmp}
use Rattle.std.specs.Char.Escape.{encode_utf16}
use Rattle.std.specs.Str.{chars}
use lib.Utf8.{encode, encodes, scalar, scalars, scalar_cases}
use Rattle.canonical_json.specs.Name.{units, units_rank, name_cmp}

-- ---- numbers

pub nat_cmp_less : (x y : ℕ) → x < y → nat_cmp x y ≡ Less
nat_cmp_less x y h = rw (lt-ltb x y h)

pub nat_cmp_greater : (x y : ℕ) → y < x → nat_cmp x y ≡ Greater
nat_cmp_greater x y h = let ge : y ≤ x = omega arith in rw (le-ltb x y ge, ne_eqb x y (λ e. omega arith))

pub nat_cmp_equal : (x : ℕ) → nat_cmp x x ≡ Equal
nat_cmp_equal x = let ge : x ≤ x = omega arith in grind arith

-- ---- where a character stands

pub rank_low : (c : ℕ) → c < 57344 → units_rank c ≡ c
rank_low c h = grind arith

pub rank_middle : (c : ℕ) → 57344 ≤ c → c < 65536 → units_rank c ≡ c + 1114112
rank_middle c h k = grind arith

pub rank_high : (c : ℕ) → 65536 ≤ c → units_rank c ≡ c
rank_high c h = grind arith

-- ---- one character more

both_ranks : (x y a b : ℕ) → units_rank x ≡ a → units_rank y ≡ b → (x < y → a < b) → (x ≡ y → a ≡ b) → (y < x → b < a) → nat_cmp x y ≡ nat_cmp (units_rank x) (units_rank y)
both_ranks x y a b p q less equal greater = rw (p, q) (by (cases_lt x y) (cases_eq x y))
  where
    by : (x < y) ⊎ (y ≤ x) → (x ≡ y) ⊎ (x ≡ y → ⊥) → nat_cmp x y ≡ nat_cmp a b
    by (inl h) e = nat_cmp_less x y h ∙ sym (nat_cmp_less a b (less h))
    by (inr h) (inl e) = subst (λ n. nat_cmp x n ≡ nat_cmp a b) e (nat_cmp_equal x ∙ sym (subst (λ n. nat_cmp a n ≡ Equal) (equal e) (nat_cmp_equal a)))
    by (inr h) (inr ne) = let h' : y < x = omega arith in nat_cmp_greater x y h' ∙ sym (nat_cmp_greater a b (greater h'))

one_unit : (c : ℕ) → c < 65536 → encode_utf16 c ≡ c ∷ []
one_unit c h = rw (lt-ltb c 65536 h)

two_units : (c : ℕ) → 65536 ≤ c → encode_utf16 c ≡ (55296 + (c - 65536) / 1024) ∷ (56320 + (c - 65536) % 1024) ∷ []
two_units c h = rw (le-ltb c 65536 h)

-- both below U+10000
low_low : (x y : ℕ) → x < 65536 → y < 65536 → nat_cmp x y ≡ nat_cmp (units_rank x) (units_rank y)
low_low x y h k = by (cases_lt x 57344) (cases_lt y 57344)
  where
    by : (x < 57344) ⊎ (57344 ≤ x) → (y < 57344) ⊎ (57344 ≤ y) → nat_cmp x y ≡ nat_cmp (units_rank x) (units_rank y)
    by (inl a) (inl b) = both_ranks x y x y (rank_low x a) (rank_low y b) (λ p. p) (λ p. p) (λ p. p)
    by (inl a) (inr b) = both_ranks x y x (y + 1114112) (rank_low x a) (rank_middle y b k) (λ p. omega arith) (λ p. omega arith) (λ p. omega arith)
    by (inr a) (inl b) = both_ranks x y (x + 1114112) y (rank_middle x a h) (rank_low y b) (λ p. omega arith) (λ p. omega arith) (λ p. omega arith)
    by (inr a) (inr b) = both_ranks x y (x + 1114112) (y + 1114112) (rank_middle x a h) (rank_middle y b k) (λ p. omega arith) (λ p. omega arith) (λ p. omega arith)

-- a character below U+10000 beside the first unit of one above
low_high : (x y : ℕ) → scalar x ≡ true → x < 65536 → 65536 ≤ y → y < 1114112 → nat_cmp x (55296 + (y - 65536) / 1024) ≡ nat_cmp (units_rank x) (units_rank y)
low_high x y s h k m = by (scalar_cases x s)
  where
    by : (x < 55296) ⊎ ((57344 ≤ x) × (x < 1114112)) → nat_cmp x (55296 + (y - 65536) / 1024) ≡ nat_cmp (units_rank x) (units_rank y)
    by (inl a) = let b : x < y = omega arith in let d : x < 55296 + (y - 65536) / 1024 = omega arith in rw (rank_low x (omega arith), rank_high y k) (nat_cmp_less _ _ d ∙ sym (nat_cmp_less x y b))
    by (inr a) =
        let b : y < x + 1114112 = omega arith in
        let d : 55296 + (y - 65536) / 1024 < x = omega arith in
        rw (rank_middle x a.0 h, rank_high y k) (nat_cmp_greater _ _ d ∙ sym (nat_cmp_greater (x + 1114112) y b))

high_low : (x y : ℕ) → scalar y ≡ true → 65536 ≤ x → x < 1114112 → y < 65536 → nat_cmp (55296 + (x - 65536) / 1024) y ≡ nat_cmp (units_rank x) (units_rank y)
high_low x y s k m h = by (scalar_cases y s)
  where
    by : (y < 55296) ⊎ ((57344 ≤ y) × (y < 1114112)) → nat_cmp (55296 + (x - 65536) / 1024) y ≡ nat_cmp (units_rank x) (units_rank y)
    by (inl a) = let b : y < x = omega arith in let d : y < 55296 + (x - 65536) / 1024 = omega arith in rw (rank_low y (omega arith), rank_high x k) (nat_cmp_greater _ _ d ∙ sym (nat_cmp_greater x y b))
    by (inr a) =
        let b : x < y + 1114112 = omega arith in
        let d : 55296 + (x - 65536) / 1024 < y = omega arith in
        rw (rank_middle y a.0 h, rank_high x k) (nat_cmp_less _ _ d ∙ sym (nat_cmp_less x (y + 1114112) b))

-- two numbers of two digits in base 1024
two_digits : (x y : ℕ) (o : Ordering) → ordering_then (nat_cmp (55296 + x / 1024) (55296 + y / 1024)) (ordering_then (nat_cmp (56320 + x % 1024) (56320 + y % 1024)) o) ≡ ordering_then (nat_cmp x y) o
two_digits x y o = by (cases_lt x y) (cases_eq x y)
  where
    less : (x y : ℕ) → x < y → (x / 1024 < y / 1024) ⊎ (x / 1024 ≡ y / 1024) → (e : Ordering) → ordering_then (nat_cmp (55296 + x / 1024) (55296 + y / 1024)) (ordering_then (nat_cmp (56320 + x % 1024) (56320 + y % 1024)) e) ≡ Less
    less x y h (inl k) e = rw (nat_cmp_less (55296 + x / 1024) (55296 + y / 1024) (omega arith))
    less x y h (inr k) e = rw (k, nat_cmp_equal (55296 + y / 1024), nat_cmp_less (56320 + x % 1024) (56320 + y % 1024) (omega arith))

    more : (x y : ℕ) → y < x → (y / 1024 < x / 1024) ⊎ (y / 1024 ≡ x / 1024) → (e : Ordering) → ordering_then (nat_cmp (55296 + x / 1024) (55296 + y / 1024)) (ordering_then (nat_cmp (56320 + x % 1024) (56320 + y % 1024)) e) ≡ Greater
    more x y h (inl k) e = rw (nat_cmp_greater (55296 + x / 1024) (55296 + y / 1024) (omega arith))
    more x y h (inr k) e = rw (k, nat_cmp_equal (55296 + x / 1024), nat_cmp_greater (56320 + x % 1024) (56320 + y % 1024) (omega arith))

    digits : (x y : ℕ) → x < y → (x / 1024 < y / 1024) ⊎ (x / 1024 ≡ y / 1024)
    digits x y h = elim (cases_lt (x / 1024) (y / 1024)) [ inl k ↦ inl k | inr k ↦ inr (omega arith) ]

    by : (x < y) ⊎ (y ≤ x) → (x ≡ y) ⊎ (x ≡ y → ⊥) → ordering_then (nat_cmp (55296 + x / 1024) (55296 + y / 1024)) (ordering_then (nat_cmp (56320 + x % 1024) (56320 + y % 1024)) o) ≡ ordering_then (nat_cmp x y) o
    by (inl h) e = less x y h (digits x y h) o ∙ sym (ap (λ c. ordering_then c o) (nat_cmp_less x y h))
    by (inr h) (inl e) = rw (e, nat_cmp_equal (55296 + y / 1024), nat_cmp_equal (56320 + y % 1024), nat_cmp_equal y)
    by (inr h) (inr ne) = let h' : y < x = omega arith in more x y h' (digits y x h') o ∙ sym (ap (λ c. ordering_then c o) (nat_cmp_greater x y h'))

high_high : (x y : ℕ) (o : Ordering) → 65536 ≤ x → 65536 ≤ y
    → ordering_then (nat_cmp (55296 + (x - 65536) / 1024) (55296 + (y - 65536) / 1024)) (ordering_then (nat_cmp (56320 + (x - 65536) % 1024) (56320 + (y - 65536) % 1024)) o) ≡ ordering_then (nat_cmp (units_rank x) (units_rank y)) o
high_high x y o h k =
    two_digits (x - 65536) (y - 65536) o
    ∙ ap (λ c. ordering_then c o) (both_ranks' (x - 65536) (y - 65536) x y (omega arith) (omega arith) ∙ sym (ap₂ nat_cmp (rank_high x h) (rank_high y k)))
  where
    both_ranks' : (a b c d : ℕ) → a + 65536 ≡ c → b + 65536 ≡ d → nat_cmp a b ≡ nat_cmp c d
    both_ranks' a b c d p q = by (cases_lt a b) (cases_eq a b)
      where
        by : (a < b) ⊎ (b ≤ a) → (a ≡ b) ⊎ (a ≡ b → ⊥) → nat_cmp a b ≡ nat_cmp c d
        by (inl l) e = nat_cmp_less a b l ∙ sym (nat_cmp_less c d (omega arith))
        by (inr l) (inl e) = let f : c ≡ d = omega arith in rw (e, f, nat_cmp_equal b, nat_cmp_equal d)
        by (inr l) (inr ne) = nat_cmp_greater a b (omega arith) ∙ sym (nat_cmp_greater c d (omega arith))

-- the first characters decide, by where their code units stand, and else what follows
pub first_units : (x y : ℕ) (r s : List ℕ) → scalar x ≡ true → scalar y ≡ true
    → slice_cmp nat_cmp (encode_utf16 x ++ r) (encode_utf16 y ++ s) ≡ ordering_then (nat_cmp (units_rank x) (units_rank y)) (slice_cmp nat_cmp r s)
first_units x y r s p q = by (cases_lt x 65536) (cases_lt y 65536)
  where
    within : (c : ℕ) → scalar c ≡ true → c < 1114112
    within c h = elim (scalar_cases c h) [ inl a ↦ omega arith | inr a ↦ a.1 ]

    unequal : (a b : ℕ) → (a ≡ b → ⊥) → (d e : Ordering) → ordering_then (nat_cmp a b) d ≡ ordering_then (nat_cmp a b) e
    unequal a b ne d e = elim (cases_lt a b) [ inl l ↦ rw (nat_cmp_less a b l) | inr l ↦ rw (nat_cmp_greater a b (omega arith)) ]

    by : (x < 65536) ⊎ (65536 ≤ x) → (y < 65536) ⊎ (65536 ≤ y)
        → slice_cmp nat_cmp (encode_utf16 x ++ r) (encode_utf16 y ++ s) ≡ ordering_then (nat_cmp (units_rank x) (units_rank y)) (slice_cmp nat_cmp r s)
    by (inl h) (inl k) =
        ap₂ (λ (a b : List ℕ). slice_cmp nat_cmp (a ++ r) (b ++ s)) (one_unit x h) (one_unit y k)
        ∙ ap (λ c. ordering_then c (slice_cmp nat_cmp r s)) (low_low x y h k)
    by (inl h) (inr k) =
        ap₂ (λ (a b : List ℕ). slice_cmp nat_cmp (a ++ r) (b ++ s)) (one_unit x h) (two_units y k)
        ∙ unequal x (55296 + (y - 65536) / 1024) (λ e. elim (scalar_cases x p) [ inl a ↦ omega arith | inr a ↦ let m = within y q in omega arith ]) _ _
        ∙ ap (λ c. ordering_then c (slice_cmp nat_cmp r s)) (low_high x y p h k (within y q))
    by (inr h) (inl k) =
        ap₂ (λ (a b : List ℕ). slice_cmp nat_cmp (a ++ r) (b ++ s)) (two_units x h) (one_unit y k)
        ∙ unequal (55296 + (x - 65536) / 1024) y (λ e. elim (scalar_cases y q) [ inl a ↦ omega arith | inr a ↦ let m = within x p in omega arith ]) _ _
        ∙ ap (λ c. ordering_then c (slice_cmp nat_cmp r s)) (high_low x y q h (within x p) k)
    by (inr h) (inr k) =
        ap₂ (λ (a b : List ℕ). slice_cmp nat_cmp (a ++ r) (b ++ s)) (two_units x h) (two_units y k)
        ∙ high_high x y (slice_cmp nat_cmp r s) h k

-- ---- names

empty : (bs : List ℕ) → length bs ≡ 0 → bs ≡ []
empty [] e = refl
empty (b ∷ bs) e = absurd (omega arith)

units_nil : units [] ≡ []
unfolding chars
units_nil = refl

units_past : (bs rest : List ℕ) (c : ℕ) → IsUtf8 bs → bs ≡ encode c ++ rest → units bs ≡ encode_utf16 c ++ units rest
units_past bs rest c u e = ap (flat_map encode_utf16) (chars_past_char bs rest c u e)

scalar_first : (bs rest : List ℕ) (c : ℕ) → IsUtf8 bs → bs ≡ encode c ++ rest → scalar c ≡ true
scalar_first bs rest c u e =
    let first = cons_from_encodes u.0 rest c (u.1.1 ∙ e) in
    (and_parts (scalar c) (scalars first.0) (ap scalars (sym first.1) ∙ u.1.0)).0

units_some : (c : ℕ) (r : List ℕ) → (x : ℕ) × (xs : List ℕ) × (encode_utf16 c ++ r ≡ x ∷ xs)
units_some c r = elim (cases_lt c 65536) [
  | inl h ↦ (c, r, ap (λ l. l ++ r) (one_unit c h))
  | inr h ↦ (_, _, ap (λ l. l ++ r) (two_units c h))
]

pub name_cmp_Equal : (a b : List ℕ) → length a ≡ 0 → length b ≡ 0 → name_cmp a b ≡ Equal
unfolding name_cmp chars
name_cmp_Equal a b p q = ap₂ (λ (x y : List ℕ). slice_cmp nat_cmp (units x) (units y)) (empty a p) (empty b q)

pub name_cmp_Less : (a b rest : List ℕ) (c : ℕ) → length a ≡ 0 → IsUtf8 b → b ≡ encode c ++ rest → name_cmp a b ≡ Less
unfolding name_cmp
name_cmp_Less a b rest c p u e =
    let some = units_some c (units rest) in
    ap₂ (λ (x y : List ℕ). slice_cmp nat_cmp x y) (ap units (empty a p) ∙ units_nil) (units_past b rest c u e ∙ some.2)

pub name_cmp_Greater : (a b rest : List ℕ) (c : ℕ) → length b ≡ 0 → IsUtf8 a → a ≡ encode c ++ rest → name_cmp a b ≡ Greater
unfolding name_cmp
name_cmp_Greater a b rest c p u e =
    let some = units_some c (units rest) in
    ap₂ (λ (x y : List ℕ). slice_cmp nat_cmp x y) (units_past a rest c u e ∙ some.2) (ap units (empty b p) ∙ units_nil)

pub name_cmp_past : (a b r s : List ℕ) (x y : ℕ) → IsUtf8 a → IsUtf8 b → a ≡ encode x ++ r → b ≡ encode y ++ s
    → name_cmp a b ≡ ordering_then (nat_cmp (units_rank x) (units_rank y)) (name_cmp r s)
unfolding name_cmp
name_cmp_past a b r s x y u v p q =
    ap₂ (λ (l m : List ℕ). slice_cmp nat_cmp l m) (units_past a r x u p) (units_past b s y v q)
    ∙ first_units x y (units r) (units s) (scalar_first a r x u p) (scalar_first b s y v q)

pub rank_apart : (x y : ℕ) → scalar x ≡ true → scalar y ≡ true → units_rank x ≡ units_rank y → x ≡ y
rank_apart x y p q e = by (cases_lt x 57344) (cases_lt x 65536) (cases_lt y 57344) (cases_lt y 65536)
  where
    within : (c : ℕ) → scalar c ≡ true → c < 1114112
    within c h = elim (scalar_cases c h) [ inl a ↦ omega arith | inr a ↦ a.1 ]

    xs : x < 1114112
    xs = within x p

    ys : y < 1114112
    ys = within y q

    by : (x < 57344) ⊎ (57344 ≤ x) → (x < 65536) ⊎ (65536 ≤ x) → (y < 57344) ⊎ (57344 ≤ y) → (y < 65536) ⊎ (65536 ≤ y) → x ≡ y
    by (inl a) b (inl d) f = sym (rank_low x a) ∙ e ∙ rank_low y d
    by (inl a) b (inr d) (inl f) = let k = sym (rank_low x a) ∙ e ∙ rank_middle y d f in absurd (omega arith)
    by (inl a) b (inr d) (inr f) = sym (rank_low x a) ∙ e ∙ rank_high y f
    by (inr a) (inl b) (inl d) f = let k = sym (rank_middle x a b) ∙ e ∙ rank_low y d in absurd (omega arith)
    by (inr a) (inl b) (inr d) (inl f) = let k = sym (rank_middle x a b) ∙ e ∙ rank_middle y d f in omega arith
    by (inr a) (inl b) (inr d) (inr f) = let k = sym (rank_middle x a b) ∙ e ∙ rank_high y f in let m = ys in absurd (omega arith)
    by (inr a) (inr b) (inl d) f = sym (rank_high x b) ∙ e ∙ rank_low y d
    by (inr a) (inr b) (inr d) (inl f) = let k = sym (rank_high x b) ∙ e ∙ rank_middle y d f in let m = xs in absurd (omega arith)
    by (inr a) (inr b) (inr d) (inr f) = sym (rank_high x b) ∙ e ∙ rank_high y f

-- ---- two names with the same code units are one

both_equal : (o p : Ordering) → ordering_then o p ≡ Equal → (o ≡ Equal) × (p ≡ Equal)
both_equal Less p e = absurd (cc)
both_equal Equal p e = (refl, e)
both_equal Greater p e = absurd (cc)

nat_cmp_same : (x y : ℕ) → nat_cmp x y ≡ Equal → x ≡ y
nat_cmp_same x y e = by (cases_lt x y) (cases_eq x y)
  where
    by : (x < y) ⊎ (y ≤ x) → (x ≡ y) ⊎ (x ≡ y → ⊥) → x ≡ y
    by (inl h) q = let no : Less ≡ Equal = sym (nat_cmp_less x y h) ∙ e in absurd (cc)
    by (inr h) (inl same) = same
    by (inr h) (inr other) = let no : Greater ≡ Equal = sym (nat_cmp_greater x y (omega arith)) ∙ e in absurd (cc)

spelled_same : (cs ds : List ℕ) → scalars cs ≡ true → scalars ds ≡ true → name_cmp (encodes cs) (encodes ds) ≡ Equal → cs ≡ ds
spelled_same [] [] p q e = refl
spelled_same [] (d ∷ ds) p q e = let no : Less ≡ Equal = sym (name_cmp_Less [] (encodes (d ∷ ds)) (encodes ds) d refl (d ∷ ds, (q, refl)) refl) ∙ e in absurd (cc)
spelled_same (c ∷ cs) [] p q e = let no : Greater ≡ Equal = sym (name_cmp_Greater (encodes (c ∷ cs)) [] (encodes cs) c refl (c ∷ cs, (p, refl)) refl) ∙ e in absurd (cc)
spelled_same (c ∷ cs) (d ∷ ds) p q e =
    let left = and_parts (scalar c) (scalars cs) p in
    let right = and_parts (scalar d) (scalars ds) q in
    let both = both_equal _ _ (sym (name_cmp_past (encodes (c ∷ cs)) (encodes (d ∷ ds)) (encodes cs) (encodes ds) c d (c ∷ cs, (p, refl)) (d ∷ ds, (q, refl)) refl refl) ∙ e) in
    ap₂ (λ x (xs : List ℕ). x ∷ xs) (rank_apart c d left.0 right.0 (nat_cmp_same _ _ both.0)) (spelled_same cs ds left.1 right.1 both.1)

pub name_cmp_same_name : (a b : List ℕ) → IsUtf8 a → IsUtf8 b → name_cmp a b ≡ Equal → a ≡ b
name_cmp_same_name a b u v e =
    sym u.1.1 ∙ ap encodes (spelled_same u.0 v.0 u.1.0 v.1.0 (ap₂ name_cmp u.1.1 v.1.1 ∙ e)) ∙ v.1.1
