-- Bytes that are compared by the bits in which they differ.
use Rattle.std.proofs.Common.{◌≡◌, ℕ, ◌+◌, ◌<◌, List, length, take, slice_index, bit_or, bit_xor, refl, sym, ap, ◌∙◌, arith}
use Rattle.std.specs.Prelude.{◌↔◌}
use Rattle.std.specs.Int.{bit_at}
use Rattle.std.specs.Int.Bits.{xor_self}
use Rattle.std.proofs.lemmas.Nat.Bits.{bit_at-lt, bit_at-zero, bit_at_or, bit_at_xor, same_from_bits}
use Rattle.std.proofs.lemmas.List.{get_or-take, take-take, take_more}

-- numbers of which no bit is set in either
or_none : (a b : ℕ) → bit_or a b ≡ 0 → (a ≡ 0) × (b ≡ 0)
or_none a b h =
    let both = λ (i : ℕ). sym (bit_at_or a b i) ∙ ap (λ n. bit_at n i) h ∙ bit_at-zero i in (
      same_from_bits a 0 (λ i. let e = both i in let z = bit_at-zero i in omega (arith, e, z)),
      same_from_bits b 0 (λ i. let e = both i in let z = bit_at-zero i in omega (arith, e, z)),
    )

-- numbers that differ in no bit
xor_none : (a b : ℕ) → bit_xor a b ≡ 0 → a ≡ b
xor_none a b h = same_from_bits a b (λ i.
    let e = sym (bit_at_xor a b i) ∙ ap (λ n. bit_at n i) h ∙ bit_at-zero i in
    let small_a = bit_at-lt a i in
    let small_b = bit_at-lt b i in
    omega (arith, e, small_a, small_b))

-- one place more is compared
pub difference_more : (difference i : ℕ) (xs ys : List ℕ) → i < length xs → i < length ys
    → (difference ≡ 0) ↔ (take i xs ≡ take i ys)
    → (bit_or difference (bit_xor (slice_index xs i) (slice_index ys i)) ≡ 0) ↔ (take (i + 1) xs ≡ take (i + 1) ys)
difference_more difference i xs ys within_x within_y so_far = (
  λ h.
      let parts = or_none difference (bit_xor (slice_index xs i) (slice_index ys i)) h in
      let here = xor_none (slice_index xs i) (slice_index ys i) parts.1 in
      rw (take_more xs i 0 within_x, take_more ys i 0 within_y, so_far.0 parts.0, here) refl,
  λ e.
      let front : take i xs ≡ take i ys =
      sym (take-take i (i + 1) xs (omega arith)) ∙ ap (take i) e ∙ take-take i (i + 1) ys (omega arith) in
      let here : slice_index xs i ≡ slice_index ys i =
      sym (get_or-take (i + 1) xs i 0 (omega arith)) ∙ ap (λ zs. slice_index zs i) e ∙ get_or-take (i + 1) ys i 0 (omega arith) in
      rw (so_far.1 front, here, xor_self) refl,
)
