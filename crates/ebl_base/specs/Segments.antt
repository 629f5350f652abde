-- The segments of a text that a byte ends, as the lines of a file.
use Rattle.std.specs.Prelude.{ℕ, List, [], ◌∷◌, ◌==◌, if◌then◌else◌}

-- the byte goes onto the first segment
abbrev pub onto_first : ℕ → List (List ℕ) → List (List ℕ)
onto_first b [] = (b ∷ []) ∷ []
onto_first b (segment ∷ segments) = (b ∷ segment) ∷ segments

-- the segments in their order, without their ends; the last end may be missing
abbrev pub segments_of : ℕ → List ℕ → List (List ℕ)
segments_of end [] = []
segments_of end (b ∷ bs) = if b == end then [] ∷ segments_of end bs else onto_first b (segments_of end bs)
