-- How the segments of a text go on behind its first segment.
use Rattle.std.proofs.Common.{◌≡◌, ℕ, ◌+◌, Bool, true, false, cond, List, [], ◌∷◌, nat_eq, suc, length, take, drop, drop-drop, refl, sym, ap, ◌∙◌, arith}
use Rattle.std.proofs.Math.Bool.{not}
use Rattle.std.specs.List.{position_or_len}
use Rattle.ebl_base.specs.Segments.{segments_of, onto_first}

-- how many bytes the first segment has
abbrev pub segment_len : ℕ → List ℕ → ℕ
segment_len end text = position_or_len (λ b. nat_eq b end) text

-- what `segments_of` gives for a text that begins with b, where c says whether b is an end
abbrev IsCutAt : ℕ → ℕ → List ℕ → Bool → Type 0
IsCutAt end b bs c = cond c ([] ∷ segments_of end bs) (onto_first b (segments_of end bs))
    ≡ take (cond (not c) (1 + segment_len end bs) 0) (b ∷ bs) ∷ segments_of end (drop (cond (not c) (1 + segment_len end bs) 0 + 1) (b ∷ bs))

last_cut : (end b : ℕ) (c : Bool) → IsCutAt end b [] c
last_cut end b true = refl
last_cut end b false = refl

more_cut : (end b d : ℕ) (ds : List ℕ) → segments_of end (d ∷ ds) ≡ take (segment_len end (d ∷ ds)) (d ∷ ds) ∷ segments_of end (drop (segment_len end (d ∷ ds) + 1) (d ∷ ds))
    → (c : Bool) → IsCutAt end b (d ∷ ds) c
more_cut end b d ds more true = refl
more_cut end b d ds more false =
    let q = segment_len end (d ∷ ds) in
    let front : 1 + q ≡ suc q = omega arith in
    let back : suc q + 1 ≡ suc (q + 1) = omega arith in
    ap (onto_first b) more ∙ sym (rw (front, back) refl)

-- the first segment, and the segments of what stands behind its end
pub segments_of-first : (end b : ℕ) (bs : List ℕ)
    → segments_of end (b ∷ bs) ≡ take (segment_len end (b ∷ bs)) (b ∷ bs) ∷ segments_of end (drop (segment_len end (b ∷ bs) + 1) (b ∷ bs))
segments_of-first end b [] = last_cut end b (nat_eq b end)
segments_of-first end b (d ∷ ds) = more_cut end b d ds (segments_of-first end d ds) (nat_eq b end)

-- what stands behind a first segment, with its end or without one
pub segments_of-cut : (end : ℕ) (text : List ℕ) → (length text ≡ 0 → ⊥)
    → segments_of end text ≡ take (segment_len end text) text ∷ segments_of end (drop 1 (drop (segment_len end text) text))
segments_of-cut end [] some = absurd (some refl)
segments_of-cut end (b ∷ bs) some =
    let n = segment_len end (b ∷ bs) in
    segments_of-first end b bs ∙ ap (λ rest. take n (b ∷ bs) ∷ segments_of end rest) (sym (drop-drop 1 n (b ∷ bs)))
