-- What happens to the bytes of a disk in memory, in order, and what a crash may leave of it.
use Rattle.std.specs.Prelude.{◌≡◌, ℕ, ◌+◌, ◌≤◌, List, [], ◌∷◌, length, take}
use Rattle.std.proofs.Common.{sym, subst, arith}
use Rattle.std.proofs.lemmas.List.{take_all}
use Rattle.disk_model.specs.Disk.{written, Torn, Elapses}

-- bytes were written from a place on, or all that was written is on the disk
pub data Event : Type 0 where
  write : (place : ℕ) (bytes : List ℕ) → Event
  synced : Event

-- the bytes after the events
abbrev pub seen_after : List ℕ → List Event → List ℕ
seen_after file [] = file
seen_after file (write place bytes ∷ events) = seen_after (written file place bytes) events
seen_after file (synced ∷ events) = seen_after file events

-- what a crash after the events may leave, where before them, when a read gave the file, it could leave what has P
abbrev pub LeftAfter : (List ℕ → Type 0) → List ℕ → List Event → List ℕ → Type 0
LeftAfter P file [] c = P c
LeftAfter P file (write place bytes ∷ events) c =
    LeftAfter (λ d. (b : List ℕ) × P b × Torn place (length bytes) b d) (written file place bytes) events c
LeftAfter P file (synced ∷ events) c = LeftAfter (λ d. d ≡ file) file events c

-- what a crash may leave of a file that was on the disk before the events
abbrev pub MayLeave : List ℕ → List Event → List ℕ → Type 0
MayLeave start events c = LeftAfter (λ d. d ≡ start) start events c

-- what a crash at some moment might have left, when the number of events was t or more
abbrev pub LeftSince : List ℕ → List Event → ℕ → List ℕ → Type 0
LeftSince start events t c = (k : ℕ) × (t ≤ k) × (k ≤ length events) × MayLeave start (take k events) c

-- time goes on from some events to others
abbrev pub EventsElapse : List ℕ → List Event → List ℕ → List Event → Type 0
EventsElapse start events start_now now =
    Elapses (length events) (length now) (LeftSince start events) (LeftSince start_now now) (MayLeave start_now now)

-- each write begins inside the bytes, or at their end
abbrev pub BeginInside : List ℕ → List Event → Type 0
BeginInside file [] = Unit {0}
BeginInside file (write place bytes ∷ events) = (place ≤ length file) × BeginInside (written file place bytes) events
BeginInside file (synced ∷ events) = BeginInside file events

-- how many bytes the events wrote
abbrev pub bytes_written : List Event → ℕ
bytes_written [] = 0
bytes_written (write place bytes ∷ events) = length bytes + bytes_written events
bytes_written (synced ∷ events) = bytes_written events

-- ---- laws

-- this moment is one of those since an earlier one
pub counts_now : (start : List ℕ) (events : List Event) (t : ℕ) (c : List ℕ) → t ≤ length events
    → MayLeave start events c → LeftSince start events t c
counts_now start events t c le left = (
  length events,
  le,
  omega arith,
  subst (λ (l : List Event). MayLeave start l c)
      (sym (take_all (length events) events (omega arith))) left,
)

-- since this moment there is no other
pub only_now : (start : List ℕ) (events : List Event) (c : List ℕ) → LeftSince start events (length events) c
    → MayLeave start events c
only_now start events c left = subst (λ (l : List Event). MayLeave start l c) (take_all left.0 events left.1) left.3
