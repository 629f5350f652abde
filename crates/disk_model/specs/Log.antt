-- How a log keeps its events: a mark for each, and the bytes of all writes one behind the other.
use Rattle.std.specs.Prelude.{◌≡◌, ℕ, ◌+◌, List, [], ◌∷◌, length, take, drop}
use Rattle.disk_model.specs.declared.mark.Mark.{Mark}
use Rattle.disk_model.specs.declared.mark.Mark.TheVariants.{Write, Sync}
use Rattle.disk_model.specs.Event.{Event, write, synced, seen_after, BeginInside}

-- the events of some marks and of the bytes behind them
abbrev pub events_of : List Mark → List ℕ → List Event
events_of [] bytes = []
events_of (Write place len ∷ marks) bytes = write place (take len bytes) ∷ events_of marks (drop len bytes)
events_of (Sync ∷ marks) bytes = synced ∷ events_of marks bytes

-- how many bytes the marks stand for
abbrev pub marked : List Mark → ℕ
marked [] = 0
marked (Write place len ∷ marks) = len + marked marks
marked (Sync ∷ marks) = marked marks

-- the marks stand for all the bytes that were written, and the events lead from the start to what a read gives
pub record IsKept (start seen : List ℕ) (marks : List Mark) (bytes : List ℕ) : Type 0 where
  pub whole : marked marks ≡ length bytes
  pub replayed : seen ≡ seen_after start (events_of marks bytes)
  pub inside : BeginInside start (events_of marks bytes)
