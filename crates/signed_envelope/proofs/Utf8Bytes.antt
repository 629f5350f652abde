-- UTF-8 is bytes.
use Rattle.std.proofs.Common.{◌≡◌, ℕ, zero, suc, ◌+◌, ◌/◌, ◌<◌, Bool, true, false, cond, nat_lt, ltb-true, List, [], ◌∷◌, ◌++◌, inl, inr, refl, arith}
use Rattle.std.proofs.lemmas.Bool.{and_parts}
use Rattle.std.specs.Str.{IsUtf8}
use Rattle.base64.specs.GeneralPurpose.{IsBytes}
use lib.Utf8.{encode, encodes, next, scalar, scalar_cases, scalars}

IsBytes-nil : IsBytes []
IsBytes-nil i = omega arith

-- a byte in front of bytes
IsBytes-cons : (b : ℕ) (bs : List ℕ) → b < 256 → IsBytes bs → IsBytes (b ∷ bs)
IsBytes-cons b bs h hs zero = h
IsBytes-cons b bs h hs (suc i) = hs i

-- bytes after bytes
IsBytes-append : (xs ys : List ℕ) → IsBytes xs → IsBytes ys → IsBytes (xs ++ ys)
IsBytes-append [] ys hx hy i = hy i
IsBytes-append (x ∷ xs) ys hx hy zero = hx 0
IsBytes-append (x ∷ xs) ys hx hy (suc i) = IsBytes-append xs ys (λ k. hx (suc k)) hy i

-- the bytes of one of two texts
IsBytes-cond : (b : Bool) (xs ys : List ℕ) → (b ≡ true → IsBytes xs) → (b ≡ false → IsBytes ys) → IsBytes (cond b xs ys)
IsBytes-cond true xs ys hx hy = hx refl
IsBytes-cond false xs ys hx hy = hy refl

-- a byte that goes on
next_small : (n : ℕ) → next n < 256
next_small n = omega arith

-- a scalar value is below 0x110000
scalar_small : (c : ℕ) → scalar c ≡ true → c < 1114112
scalar_small c h = elim (scalar_cases c h) [ inl low ↦ omega arith | inr high ↦ omega arith ]

-- the bytes of a character
IsBytes-encode : (c : ℕ) → scalar c ≡ true → IsBytes (encode c)
unfolding encode
IsBytes-encode c h =
    let small = scalar_small c h in
    let one = IsBytes-cons (next c) [] (next_small c) IsBytes-nil in
    let two = IsBytes-cons (next (c / 64)) (next c ∷ []) (next_small (c / 64)) one in
    let three = IsBytes-cons (next (c / 4096)) (next (c / 64) ∷ next c ∷ []) (next_small (c / 4096)) two in
    IsBytes-cond (nat_lt c 128) _ _ (λ e. let lt = ltb-true c 128 e in IsBytes-cons c [] (omega (arith, lt)) IsBytes-nil)
    (λ _. IsBytes-cond (nat_lt c 2048) _ _ (λ e. let lt = ltb-true c 2048 e in
    IsBytes-cons (192 + c / 64) (next c ∷ []) (omega (arith, lt)) one)
    (λ _. IsBytes-cond (nat_lt c 65536) _ _ (λ e. let lt = ltb-true c 65536 e in
    IsBytes-cons (224 + c / 4096) (next (c / 64) ∷ next c ∷ []) (omega (arith, lt)) two)
    (λ _. IsBytes-cons (240 + c / 262144) (next (c / 4096) ∷ next (c / 64) ∷ next c ∷ []) (omega (arith, small)) three)))

-- the bytes of characters
IsBytes-encodes : (cs : List ℕ) → scalars cs ≡ true → IsBytes (encodes cs)
IsBytes-encodes [] h = IsBytes-nil
IsBytes-encodes (c ∷ cs) h =
    let parts = and_parts (scalar c) (scalars cs) h in
    IsBytes-append (encode c) (encodes cs) (IsBytes-encode c parts.0) (IsBytes-encodes cs parts.1)

-- the bytes of a text
pub IsBytes-utf8 : (text : List ℕ) → IsUtf8 text → IsBytes text
IsBytes-utf8 text h = rw (← h.1.1) (IsBytes-encodes h.0 h.1.0)
