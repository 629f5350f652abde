-- What a sink of fixed capacity shows.
use Rattle.std.specs.Prelude.{ℕ, List}

-- the bytes that were written, for how many it has room, and how often a piece was too long
pub record RoomRecord : Type 0 where
  pub written : List ℕ
  pub room : ℕ
  pub faults : ℕ
