-- How a frame that is ready for an append keeps its content.
use Rattle.std.specs.Prelude.{◌≡◌, ℕ, ◌-◌, ◌≤◌, List, length, take, drop}
use Rattle.ebl_base.specs.declared.limits.TheConstants.{MAX_FRAME_CONTENT}
use Rattle.bill_journal.specs.Frames.{framed}

-- the content between its length and the gate
abbrev pub content : List ℕ → List ℕ
content bytes = take (length bytes - 5) (drop 4 bytes)

pub record IsFramed (bytes : List ℕ) : Type 0 where
  pub whole : bytes ≡ framed (content bytes)
  pub short : length (content bytes) ≤ MAX_FRAME_CONTENT
