-- Names compared a byte at a time, by where the bytes stand.
use Rattle.std.proofs.Common.{◌≡◌, ◌≢◌, ℕ, zero, suc, ◌+◌, ◌/◌, ◌%◌, ◌<◌, ◌≤◌, true, List, [], ◌∷◌, ◌++◌, length, take, drop, slice_index, IsUtf8, Ordering, Less, Greater, nat_cmp, refl, sym, ap, ap₂, ◌∙◌, subst, inl, inr, ◌⊎◌, arith}
use Rattle.std.proofs.lemmas.Bool.{cases_lt, cases_eq, le-ltb, lt-ltb, ne_eqb, and_parts}
use Rattle.std.specs.Ordering.{ordering_then}
use Rattle.std.specs.Cmp.Lexicographic.{slice_cmp}
use lib.Utf8.{encode, encodes, scalar, scalars, scalar_cases}
use Rattle.canonical_json.specs.Name.{units_rank, byte_rank, name_cmp}
use Rattle.canonical_json.proofs.Units.{nat_cmp_less, nat_cmp_greater, nat_cmp_equal, rank_low, rank_middle, rank_high, rank_apart, name_cmp_Equal, name_cmp_Less, name_cmp_Greater, name_cmp_past}

-- which of two bytes comes first
abbrev pub byte_cmp : ℕ → ℕ → Ordering
byte_cmp b c = nat_cmp (byte_rank b) (byte_rank c)

-- ---- where a byte stands

byte_low : (b : ℕ) → b < 238 → byte_rank b ≡ b
byte_low b h = rw (ne_eqb b 238 (λ e. omega arith), ne_eqb b 239 (λ e. omega arith))

byte_high : (b : ℕ) → 240 ≤ b → byte_rank b ≡ b
byte_high b h = rw (ne_eqb b 238 (λ e. omega arith), ne_eqb b 239 (λ e. omega arith))

byte_last : (b : ℕ) → 238 ≤ b → b < 240 → byte_rank b ≡ b + 256
byte_last b h k = elim (cases_eq b 238) [
  | inl e ↦ rw e refl
  | inr n ↦ let e : b ≡ 239 = omega arith in rw e refl
]

pub byte_rank-apart : (b c : ℕ) → b < 256 → c < 256 → byte_rank b ≡ byte_rank c → b ≡ c
byte_rank-apart b c h k e = by (cases_lt b 238) (cases_lt b 240) (cases_lt c 238) (cases_lt c 240)
  where
    by : (b < 238) ⊎ (238 ≤ b) → (b < 240) ⊎ (240 ≤ b) → (c < 238) ⊎ (238 ≤ c) → (c < 240) ⊎ (240 ≤ c) → b ≡ c
    by (inl p) q (inl r) s = sym (byte_low b p) ∙ e ∙ byte_low c r
    by (inl p) q (inr r) (inl s) = let f = sym (byte_low b p) ∙ e ∙ byte_last c r s in absurd (omega arith)
    by (inl p) q (inr r) (inr s) = sym (byte_low b p) ∙ e ∙ byte_high c s
    by (inr p) (inl q) (inl r) s = let f = sym (byte_last b p q) ∙ e ∙ byte_low c r in absurd (omega arith)
    by (inr p) (inl q) (inr r) (inl s) = let f = sym (byte_last b p q) ∙ e ∙ byte_last c r s in omega arith
    by (inr p) (inl q) (inr r) (inr s) = let f = sym (byte_last b p q) ∙ e ∙ byte_high c s in absurd (omega arith)
    by (inr p) (inr q) (inl r) s = sym (byte_high b q) ∙ e ∙ byte_low c r
    by (inr p) (inr q) (inr r) (inl s) = let f = sym (byte_high b q) ∙ e ∙ byte_last c r s in absurd (omega arith)
    by (inr p) (inr q) (inr r) (inr s) = sym (byte_high b q) ∙ e ∙ byte_high c s

-- ---- the first byte, and what follows it

-- xs comes before ys, and ys after xs
abbrev Before : List ℕ → List ℕ → Type 0
Before xs ys = (slice_cmp byte_cmp xs ys ≡ Less) × (slice_cmp byte_cmp ys xs ≡ Greater)

differ : (b c : ℕ) (xs ys : List ℕ) → byte_rank b < byte_rank c → Before (b ∷ xs) (c ∷ ys)
differ b c xs ys h =
    (ap (λ o. ordering_then o (slice_cmp byte_cmp xs ys)) (nat_cmp_less (byte_rank b) (byte_rank c) h), ap (λ o. ordering_then o (slice_cmp byte_cmp ys xs)) (nat_cmp_greater (byte_rank c) (byte_rank b) h))

level : (b : ℕ) (xs ys : List ℕ) → slice_cmp byte_cmp (b ∷ xs) (b ∷ ys) ≡ slice_cmp byte_cmp xs ys
level b xs ys = ap (λ o. ordering_then o (slice_cmp byte_cmp xs ys)) (nat_cmp_equal (byte_rank b))

alike : (b c : ℕ) (xs ys : List ℕ) → b ≡ c → Before xs ys → Before (b ∷ xs) (c ∷ ys)
alike b c xs ys e before = subst (λ d. Before (b ∷ xs) (d ∷ ys)) e (level b xs ys ∙ before.0, level b ys xs ∙ before.1)

-- a byte that isn't the first of a character
inner : (m n : ℕ) (xs ys : List ℕ) → m < 64 → n < 64 → m < n → Before ((128 + m) ∷ xs) ((128 + n) ∷ ys)
inner m n xs ys h k l = differ (128 + m) (128 + n) xs ys (rw (byte_low (128 + m) (omega arith), byte_low (128 + n) (omega arith)) (omega arith))

-- ---- how a character is spelled

one_byte : (c : ℕ) → c < 128 → encode c ≡ c ∷ []
unfolding encode
one_byte c h = rw (lt-ltb c 128 h)

two_bytes : (c : ℕ) → 128 ≤ c → c < 2048 → encode c ≡ (192 + c / 64) ∷ (128 + c % 64) ∷ []
unfolding encode
two_bytes c h k = rw (le-ltb c 128 h, lt-ltb c 2048 k)

three_bytes : (c : ℕ) → 2048 ≤ c → c < 65536 → encode c ≡ (224 + c / 4096) ∷ (128 + c / 64 % 64) ∷ (128 + c % 64) ∷ []
unfolding encode
three_bytes c h k = rw (le-ltb c 128 (omega arith), le-ltb c 2048 h, lt-ltb c 65536 k)

four_bytes : (c : ℕ) → 65536 ≤ c → encode c ≡ (240 + c / 262144) ∷ (128 + c / 4096 % 64) ∷ (128 + c / 64 % 64) ∷ (128 + c % 64) ∷ []
unfolding encode
four_bytes c h = rw (le-ltb c 128 (omega arith), le-ltb c 2048 (omega arith), le-ltb c 65536 h)

-- characters by where they stand
data Kind (c : ℕ) : Type 0 where
  one : c < 128 → Kind c
  two : 128 ≤ c → c < 2048 → Kind c
  three : 2048 ≤ c → c < 55296 → Kind c
  four : 65536 ≤ c → c < 1114112 → Kind c
  late : 57344 ≤ c → c < 65536 → Kind c

kind_of : (c : ℕ) → scalar c ≡ true → Kind c
kind_of c s = by (scalar_cases c s) (cases_lt c 128) (cases_lt c 2048) (cases_lt c 65536)
  where
    by : (c < 55296) ⊎ ((57344 ≤ c) × (c < 1114112)) → (c < 128) ⊎ (128 ≤ c) → (c < 2048) ⊎ (2048 ≤ c) → (c < 65536) ⊎ (65536 ≤ c) → Kind c
    by (inl h) (inl a) p q = one a
    by (inl h) (inr a) (inl b) q = two a b
    by (inl h) (inr a) (inr b) q = three b h
    by (inr h) a p (inl b) = late h.0 b
    by (inr h) a p (inr b) = four b h.1

-- the first byte, and how its rank lies
abbrev first_byte : (c : ℕ) → Kind c → ℕ
first_byte c (one h) = c
first_byte c (two h k) = 192 + c / 64
first_byte c (three h k) = 224 + c / 4096
first_byte c (four h k) = 240 + c / 262144
first_byte c (late h k) = 224 + c / 4096

abbrev rest_bytes : (c : ℕ) → Kind c → List ℕ
rest_bytes c (one h) = []
rest_bytes c (two h k) = (128 + c % 64) ∷ []
rest_bytes c (three h k) = (128 + c / 64 % 64) ∷ (128 + c % 64) ∷ []
rest_bytes c (four h k) = (128 + c / 4096 % 64) ∷ (128 + c / 64 % 64) ∷ (128 + c % 64) ∷ []
rest_bytes c (late h k) = (128 + c / 64 % 64) ∷ (128 + c % 64) ∷ []

spelled : (c : ℕ) (kind : Kind c) → encode c ≡ first_byte c kind ∷ rest_bytes c kind
spelled c (one h) = one_byte c h
spelled c (two h k) = two_bytes c h k
spelled c (three h k) = three_bytes c h (omega arith)
spelled c (four h k) = four_bytes c h
spelled c (late h k) = three_bytes c (omega arith) k

-- the rank of the first byte
abbrev first_rank : (c : ℕ) → Kind c → ℕ
first_rank c (one h) = c
first_rank c (two h k) = 192 + c / 64
first_rank c (three h k) = 224 + c / 4096
first_rank c (four h k) = 240 + c / 262144
first_rank c (late h k) = 480 + c / 4096

first_rank-is : (c : ℕ) (kind : Kind c) → byte_rank (first_byte c kind) ≡ first_rank c kind
first_rank-is c (one h) = byte_low c (omega arith)
first_rank-is c (two h k) = byte_low (192 + c / 64) (omega arith)
first_rank-is c (three h k) = byte_low (224 + c / 4096) (omega arith)
first_rank-is c (four h k) = byte_high (240 + c / 262144) (omega arith)
first_rank-is c (late h k) = byte_last (224 + c / 4096) (omega arith) (omega arith) ∙ omega arith

-- where the character stands
abbrev char_rank : (c : ℕ) → Kind c → ℕ
char_rank c (one h) = c
char_rank c (two h k) = c
char_rank c (three h k) = c
char_rank c (four h k) = c
char_rank c (late h k) = c + 1114112

char_rank-is : (c : ℕ) (kind : Kind c) → units_rank c ≡ char_rank c kind
char_rank-is c (one h) = rank_low c (omega arith)
char_rank-is c (two h k) = rank_low c (omega arith)
char_rank-is c (three h k) = rank_low c (omega arith)
char_rank-is c (four h k) = rank_high c h
char_rank-is c (late h k) = rank_middle c h k

-- ---- the character that stands first has the bytes that come first

digits_2 : (x y : ℕ) (r s : List ℕ) → x < y → x / 64 ≡ y / 64 → Before ((128 + x % 64) ∷ r) ((128 + y % 64) ∷ s)
digits_2 x y r s h e = inner (x % 64) (y % 64) r s (omega arith) (omega arith) (omega arith)

digits_3 : (x y : ℕ) (r s : List ℕ) → x < y → x / 4096 ≡ y / 4096 → Before ((128 + x / 64 % 64) ∷ (128 + x % 64) ∷ r) ((128 + y / 64 % 64) ∷ (128 + y % 64) ∷ s)
digits_3 x y r s h e = elim (cases_lt (x / 64) (y / 64)) [
  | inl l ↦ inner (x / 64 % 64) (y / 64 % 64) ((128 + x % 64) ∷ r) ((128 + y % 64) ∷ s) (omega arith) (omega arith) (omega arith)
  | inr g ↦
      let same : x / 64 ≡ y / 64 = omega arith in
      alike (128 + x / 64 % 64) (128 + y / 64 % 64) ((128 + x % 64) ∷ r) ((128 + y % 64) ∷ s) (ap (λ q. 128 + q % 64) same) (digits_2 x y r s h same)
]

digits_4 : (x y : ℕ) (r s : List ℕ) → x < y → x / 262144 ≡ y / 262144
    → Before ((128 + x / 4096 % 64) ∷ (128 + x / 64 % 64) ∷ (128 + x % 64) ∷ r) ((128 + y / 4096 % 64) ∷ (128 + y / 64 % 64) ∷ (128 + y % 64) ∷ s)
digits_4 x y r s h e = elim (cases_lt (x / 4096) (y / 4096)) [
  | inl l ↦ inner (x / 4096 % 64) (y / 4096 % 64) ((128 + x / 64 % 64) ∷ (128 + x % 64) ∷ r) ((128 + y / 64 % 64) ∷ (128 + y % 64) ∷ s) (omega arith) (omega arith) (omega arith)
  | inr g ↦
      let same : x / 4096 ≡ y / 4096 = omega arith in
      alike (128 + x / 4096 % 64) (128 + y / 4096 % 64) ((128 + x / 64 % 64) ∷ (128 + x % 64) ∷ r) ((128 + y / 64 % 64) ∷ (128 + y % 64) ∷ s) (ap (λ q. 128 + q % 64) same) (digits_3 x y r s h same)
]

module _ (x y : ℕ) (r s : List ℕ) where
  from_spelled : (k : Kind x) (l : Kind y) → Before (first_byte x k ∷ (rest_bytes x k ++ r)) (first_byte y l ∷ (rest_bytes y l ++ s)) → Before (encode x ++ r) (encode y ++ s)
  from_spelled k l b =
      subst (λ xs. Before (xs ++ r) (encode y ++ s)) (sym (spelled x k)) (subst (λ ys. Before ((first_byte x k ∷ rest_bytes x k) ++ r) (ys ++ s)) (sym (spelled y l)) b)

  by_first : (k : Kind x) (l : Kind y) → first_rank x k < first_rank y l → Before (encode x ++ r) (encode y ++ s)
  by_first k l h = from_spelled k l (differ (first_byte x k) (first_byte y l) (rest_bytes x k ++ r) (rest_bytes y l ++ s) (rw (first_rank-is x k, first_rank-is y l) h))

  comes_first : (k : Kind x) (l : Kind y) → char_rank x k < char_rank y l → Before (encode x ++ r) (encode y ++ s)
  comes_first (one a) (one c) h = by_first (one a) (one c) (omega arith)
  comes_first (one a) (two c d) h = by_first (one a) (two c d) (omega arith)
  comes_first (one a) (three c d) h = by_first (one a) (three c d) (omega arith)
  comes_first (one a) (four c d) h = by_first (one a) (four c d) (omega arith)
  comes_first (one a) (late c d) h = by_first (one a) (late c d) (omega arith)
  comes_first (two a b) (one c) h = absurd (omega arith)
  comes_first (two a b) (two c d) h = elim (cases_lt (x / 64) (y / 64)) [
    | inl l ↦ by_first (two a b) (two c d) (omega arith)
    | inr g ↦
        let same : x / 64 ≡ y / 64 = omega arith in
        from_spelled (two a b) (two c d) (alike (192 + x / 64) (192 + y / 64) (rest_bytes x (two a b) ++ r) (rest_bytes y (two c d) ++ s) (ap (λ q. 192 + q) same) (digits_2 x y r s (omega arith) same))
  ]
  comes_first (two a b) (three c d) h = by_first (two a b) (three c d) (omega arith)
  comes_first (two a b) (four c d) h = by_first (two a b) (four c d) (omega arith)
  comes_first (two a b) (late c d) h = by_first (two a b) (late c d) (omega arith)
  comes_first (three a b) (one c) h = absurd (omega arith)
  comes_first (three a b) (two c d) h = absurd (omega arith)
  comes_first (three a b) (three c d) h = elim (cases_lt (x / 4096) (y / 4096)) [
    | inl l ↦ by_first (three a b) (three c d) (omega arith)
    | inr g ↦
        let same : x / 4096 ≡ y / 4096 = omega arith in
        from_spelled (three a b) (three c d) (alike (224 + x / 4096) (224 + y / 4096) (rest_bytes x (three a b) ++ r) (rest_bytes y (three c d) ++ s) (ap (λ q. 224 + q) same) (digits_3 x y r s (omega arith) same))
  ]
  comes_first (three a b) (four c d) h = by_first (three a b) (four c d) (omega arith)
  comes_first (three a b) (late c d) h = by_first (three a b) (late c d) (omega arith)
  comes_first (four a b) (one c) h = absurd (omega arith)
  comes_first (four a b) (two c d) h = absurd (omega arith)
  comes_first (four a b) (three c d) h = absurd (omega arith)
  comes_first (four a b) (four c d) h = elim (cases_lt (x / 262144) (y / 262144)) [
    | inl l ↦ by_first (four a b) (four c d) (omega arith)
    | inr g ↦
        let same : x / 262144 ≡ y / 262144 = omega arith in
        from_spelled (four a b) (four c d) (alike (240 + x / 262144) (240 + y / 262144) (rest_bytes x (four a b) ++ r) (rest_bytes y (four c d) ++ s) (ap (λ q. 240 + q) same) (digits_4 x y r s (omega arith) same))
  ]
  comes_first (four a b) (late c d) h = by_first (four a b) (late c d) (omega arith)
  comes_first (late a b) (one c) h = absurd (omega arith)
  comes_first (late a b) (two c d) h = absurd (omega arith)
  comes_first (late a b) (three c d) h = absurd (omega arith)
  comes_first (late a b) (four c d) h = absurd (omega arith)
  comes_first (late a b) (late c d) h = elim (cases_lt (x / 4096) (y / 4096)) [
    | inl l ↦ by_first (late a b) (late c d) (omega arith)
    | inr g ↦
        let same : x / 4096 ≡ y / 4096 = omega arith in
        from_spelled (late a b) (late c d) (alike (224 + x / 4096) (224 + y / 4096) (rest_bytes x (late a b) ++ r) (rest_bytes y (late c d) ++ s) (ap (λ q. 224 + q) same) (digits_3 x y r s (omega arith) same))
  ]

pub char_before : (x y : ℕ) (r s : List ℕ) → scalar x ≡ true → scalar y ≡ true → units_rank x < units_rank y → Before (encode x ++ r) (encode y ++ s)
char_before x y r s p q h =
    let k = kind_of x p in
    let l = kind_of y q in
    let a = char_rank-is x k in
    let b = char_rank-is y l in
    comes_first x y r s k l (omega arith)

same_front : (bs r s : List ℕ) → slice_cmp byte_cmp (bs ++ r) (bs ++ s) ≡ slice_cmp byte_cmp r s
same_front [] r s = refl
same_front (b ∷ bs) r s = level b (bs ++ r) (bs ++ s) ∙ same_front bs r s

first_bytes : (x y : ℕ) (r s : List ℕ) → scalar x ≡ true → scalar y ≡ true
    → slice_cmp byte_cmp (encode x ++ r) (encode y ++ s) ≡ ordering_then (nat_cmp (units_rank x) (units_rank y)) (slice_cmp byte_cmp r s)
first_bytes x y r s p q = by (cases_lt (units_rank x) (units_rank y)) (cases_eq (units_rank x) (units_rank y))
  where
    by : (units_rank x < units_rank y) ⊎ (units_rank y ≤ units_rank x) → (units_rank x ≡ units_rank y) ⊎ (units_rank x ≡ units_rank y → ⊥)
        → slice_cmp byte_cmp (encode x ++ r) (encode y ++ s) ≡ ordering_then (nat_cmp (units_rank x) (units_rank y)) (slice_cmp byte_cmp r s)
    by (inl h) e = (char_before x y r s p q h).0 ∙ sym (ap (λ o. ordering_then o (slice_cmp byte_cmp r s)) (nat_cmp_less (units_rank x) (units_rank y) h))
    by (inr h) (inl e) =
        ap (λ c. slice_cmp byte_cmp (encode x ++ r) (encode c ++ s)) (sym (rank_apart x y p q e)) ∙ same_front (encode x) r s
        ∙ sym (ap (λ o. ordering_then o (slice_cmp byte_cmp r s)) (ap (nat_cmp (units_rank x)) (sym e) ∙ nat_cmp_equal (units_rank x)))
    by (inr h) (inr n) =
        let g : units_rank y < units_rank x = omega arith in
        (char_before y x s r q p g).1 ∙ sym (ap (λ o. ordering_then o (slice_cmp byte_cmp r s)) (nat_cmp_greater (units_rank x) (units_rank y) g))

some_bytes : (c : ℕ) (r : List ℕ) → scalar c ≡ true → (b : ℕ) × (bs : List ℕ) × (encode c ++ r ≡ b ∷ bs)
some_bytes c r s = let k = kind_of c s in (first_byte c k, rest_bytes c k ++ r, ap (λ l. l ++ r) (spelled c k))

spelled_by_bytes : (cs ds : List ℕ) → scalars cs ≡ true → scalars ds ≡ true → slice_cmp byte_cmp (encodes cs) (encodes ds) ≡ name_cmp (encodes cs) (encodes ds)
spelled_by_bytes [] [] p q = sym (name_cmp_Equal [] [] refl refl)
spelled_by_bytes [] (d ∷ ds) p q =
    let some = some_bytes d (encodes ds) (and_parts (scalar d) (scalars ds) q).0 in
    ap (slice_cmp byte_cmp []) some.2 ∙ sym (name_cmp_Less [] (encodes (d ∷ ds)) (encodes ds) d refl (d ∷ ds, (q, refl)) refl)
spelled_by_bytes (c ∷ cs) [] p q =
    let some = some_bytes c (encodes cs) (and_parts (scalar c) (scalars cs) p).0 in
    ap (λ l. slice_cmp byte_cmp l []) some.2 ∙ sym (name_cmp_Greater (encodes (c ∷ cs)) [] (encodes cs) c refl (c ∷ cs, (p, refl)) refl)
spelled_by_bytes (c ∷ cs) (d ∷ ds) p q =
    let left = and_parts (scalar c) (scalars cs) p in
    let right = and_parts (scalar d) (scalars ds) q in
    first_bytes c d (encodes cs) (encodes ds) left.0 right.0
    ∙ ap (ordering_then (nat_cmp (units_rank c) (units_rank d))) (spelled_by_bytes cs ds left.1 right.1)
    ∙ sym (name_cmp_past (encodes (c ∷ cs)) (encodes (d ∷ ds)) (encodes cs) (encodes ds) c d (c ∷ cs, (p, refl)) (d ∷ ds, (q, refl)) refl refl)

-- names are in the order of their bytes
pub name_cmp-bytes : (a b : List ℕ) → IsUtf8 a → IsUtf8 b → name_cmp a b ≡ slice_cmp byte_cmp a b
name_cmp-bytes a b u v = sym (ap₂ name_cmp u.1.1 v.1.1) ∙ sym (spelled_by_bytes u.0 v.0 u.1.0 v.1.0) ∙ ap₂ (slice_cmp byte_cmp) u.1.1 v.1.1

-- ---- past what two have in common

pub by_byte : (n : ℕ) (a b : List ℕ) → n < length a → n < length b → take n a ≡ take n b → (byte_rank (slice_index a n) ≢ byte_rank (slice_index b n))
    → byte_cmp (slice_index a n) (slice_index b n) ≡ slice_cmp byte_cmp a b
by_byte zero [] b h k e other = absurd (omega arith)
by_byte zero (x ∷ xs) [] h k e other = absurd (omega arith)
by_byte zero (x ∷ xs) (y ∷ ys) h k e other = elim (cases_lt (byte_rank x) (byte_rank y)) [
  | inl l ↦ nat_cmp_less (byte_rank x) (byte_rank y) l ∙ sym (differ x y xs ys l).0
  | inr g ↦ let l : byte_rank y < byte_rank x = omega (arith, other) in nat_cmp_greater (byte_rank x) (byte_rank y) l ∙ sym (differ y x ys xs l).1
]
by_byte (suc n) [] b h k e other = absurd (omega arith)
by_byte (suc n) (x ∷ xs) [] h k e other = absurd (omega arith)
by_byte (suc n) (x ∷ xs) (y ∷ ys) h k e other =
    let first : x ≡ y = ap (λ l. slice_index l 0) e in
    by_byte n xs ys (omega arith) (omega arith) (ap (drop 1) e) other ∙ sym (ap (λ z. slice_cmp byte_cmp (x ∷ xs) (z ∷ ys)) (sym first) ∙ level x xs ys)

pub by_length : (n : ℕ) (a b : List ℕ) → n ≤ length a → n ≤ length b → take n a ≡ take n b → (length a ≡ n) ⊎ (length b ≡ n) → nat_cmp (length a) (length b) ≡ slice_cmp byte_cmp a b
by_length zero [] [] h k e end = nat_cmp_equal 0
by_length zero [] (y ∷ ys) h k e end = nat_cmp_less 0 (length (y ∷ ys)) (omega arith)
by_length zero (x ∷ xs) [] h k e end = nat_cmp_greater (length (x ∷ xs)) 0 (omega arith)
by_length zero (x ∷ xs) (y ∷ ys) h k e (inl f) = absurd (omega arith)
by_length zero (x ∷ xs) (y ∷ ys) h k e (inr f) = absurd (omega arith)
by_length (suc n) [] b h k e end = absurd (omega arith)
by_length (suc n) (x ∷ xs) [] h k e end = absurd (omega arith)
by_length (suc n) (x ∷ xs) (y ∷ ys) h k e end =
    let first : x ≡ y = ap (λ l. slice_index l 0) e in
    more (length xs) (length ys) ∙ by_length n xs ys (omega arith) (omega arith) (ap (drop 1) e) (elim end [ inl l ↦ inl (omega arith) | inr l ↦ inr (omega arith) ])
    ∙ sym (ap (λ z. slice_cmp byte_cmp (x ∷ xs) (z ∷ ys)) (sym first) ∙ level x xs ys)
  where
    more : (m k : ℕ) → nat_cmp (suc m) (suc k) ≡ nat_cmp m k
    more m k = by (cases_lt m k) (cases_eq m k)
      where
        by : (m < k) ⊎ (k ≤ m) → (m ≡ k) ⊎ (m ≡ k → ⊥) → nat_cmp (suc m) (suc k) ≡ nat_cmp m k
        by (inl l) e = nat_cmp_less (suc m) (suc k) (omega arith) ∙ sym (nat_cmp_less m k l)
        by (inr g) (inl e) = rw (e, nat_cmp_equal k, nat_cmp_equal (suc k)) refl
        by (inr g) (inr n) = nat_cmp_greater (suc m) (suc k) (omega arith) ∙ sym (nat_cmp_greater m k (omega arith))
