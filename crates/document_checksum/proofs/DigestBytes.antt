-- The digest of a text is bytes.
use Rattle.std.proofs.Common.{ℕ, zero, suc, List, [], ◌∷◌, ◌++◌, slice_index, arith}
use Rattle.std.specs.Int.{to_be_bytes, w32}
use Rattle.hex.specs.Hex.{IsBytes}
use Rattle.sha2.specs.Sha256.{digest_bytes, sha256}

-- bytes after bytes
IsBytes-append : (xs ys : List ℕ) → IsBytes xs → IsBytes ys → IsBytes (xs ++ ys)
IsBytes-append [] ys hx hy i = hy i
IsBytes-append (x ∷ xs) ys hx hy zero = hx 0
IsBytes-append (x ∷ xs) ys hx hy (suc i) = IsBytes-append xs ys (λ k. hx (suc k)) hy i

-- the bytes of a word
IsBytes-to_be_bytes : (n : ℕ) → IsBytes (to_be_bytes w32 n)
IsBytes-to_be_bytes n zero = omega arith
IsBytes-to_be_bytes n (suc zero) = omega arith
IsBytes-to_be_bytes n (suc (suc zero)) = omega arith
IsBytes-to_be_bytes n (suc (suc (suc zero))) = omega arith
IsBytes-to_be_bytes n (suc (suc (suc (suc i)))) = omega arith

-- the bytes of a hash value
IsBytes-digest_bytes : (h : List ℕ) (n : ℕ) → IsBytes (digest_bytes h n)
unfolding digest_bytes
IsBytes-digest_bytes h zero = λ i. omega arith
IsBytes-digest_bytes h (suc n) =
    IsBytes-append (digest_bytes h n) (to_be_bytes w32 (slice_index h n)) (IsBytes-digest_bytes h n)
    (IsBytes-to_be_bytes (slice_index h n))

-- a digest is bytes
pub IsBytes-sha256 : (text : List ℕ) → IsBytes (sha256 text)
unfolding sha256
IsBytes-sha256 text = IsBytes-digest_bytes _ 8
