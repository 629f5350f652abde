-- What links in memory show.
use Rattle.std.specs.Prelude.{ℕ, List, [], ◌∷◌, min, max}
use Rattle.ebl_edge.specs.MemorySink.{SinkRecord}
use Rattle.ebl_edge.specs.BoundedSink.{RoomRecord}

-- the bytes that are left, the most bytes of the next reads, and the sink, whose calls are those of both directions
pub record LinkRecord : Type 0 where
  pub left : List ℕ
  pub pieces : List ℕ
  pub sink : SinkRecord

-- how many bytes the next read has room for: at most as many as its piece, but at least one; after the last piece all
abbrev pub piece_room : List ℕ → ℕ → ℕ
piece_room [] room = room
piece_room (most ∷ pieces) room = min (max most 1) room

-- the same of a link whose writes have a fixed room
pub record BoundedLinkRecord : Type 0 where
  pub left : List ℕ
  pub sink : RoomRecord
