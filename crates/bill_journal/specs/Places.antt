-- The frames of a journal with their places.
use Rattle.std.specs.Prelude.{◌≡◌, ℕ, ◌+◌, List, [], ◌∷◌, length, map}
use Rattle.bill_journal.specs.declared.frame_at.FrameAt.{FrameAt}
use Rattle.bill_journal.specs.Frames.{front_of, StandsFor}

-- the contents of some frames
abbrev pub contents_of : List FrameAt → List (List ℕ)
contents_of frames = map (λ f. f.content) frames

-- frames with these contents one behind the other, the first one's gate at this place
abbrev pub frames_from : ℕ → List (List ℕ) → List FrameAt
frames_from place [] = []
frames_from place (x ∷ xs) = record { place = place; content = x } ∷ frames_from (place + 5 + length x) xs

-- what a reading gives: frames whose places are those of their gates, and the place of the gate that ends them
pub record IsRead (frames : List FrameAt) (end : ℕ) : Type 0 where
  pub places : frames ≡ frames_from 1 (contents_of frames)
  pub ends : end ≡ length (front_of (contents_of frames))

-- and the bytes stand for their contents
pub record ReadsAs (file : List ℕ) (frames : List FrameAt) (end : ℕ) : Type 0 where
  pub read : IsRead frames end
  pub stands : StandsFor file (contents_of frames)
