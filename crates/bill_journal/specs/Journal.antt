-- What a journal's disk stands for, now and after a crash.
use Rattle.std.specs.Prelude.{◌≡◌, ◌⊎◌, ℕ, Bool, List, [], ◌∷◌, ◌++◌, length, if◌then◌else◌}
use Rattle.ebl_base.specs.declared.limits.TheConstants.{MAX_JOURNAL, MAX_JOURNAL_UNSETTLED}
use Rattle.disk_model.specs.Disk.{Only, Torn}
use Rattle.bill_journal.specs.Frames.{front_of, StandsFor}

-- a journal: its disk, the place of the gate that ends its frames, and whether it has to be read again
pub record JournalRecord (D : Type 0) : Type 0 where
  pub disk : D
  pub end : ℕ
  pub loose : Bool

-- how long a journal may be with a frame more, which settles a bill that is parting or not
abbrev pub room_for : Bool → ℕ
room_for settling = if settling then MAX_JOURNAL else MAX_JOURNAL_UNSETTLED

-- the disk stands for these contents, of which the gate at this place is the end, and so does whatever a crash leaves
pub record IsSettled (file : List ℕ) (may_leave : List ℕ → Type 0) (end : ℕ) (h : List (List ℕ)) : Type 0 where
  pub stands : StandsFor file h
  pub place : end ≡ length (front_of h)
  pub durable : Only file may_leave

-- the journal is settled, and these are its contents
abbrev pub HasContents : {D : Type 0} → (D → List ℕ) → (D → List ℕ → Type 0) → JournalRecord D → List (List ℕ) → Type 0
HasContents seen may_leave journal h = IsSettled (seen journal.disk) (may_leave journal.disk) journal.end h

-- with one content more, or without it
abbrev pub WithOrWithout : List (List ℕ) → List ℕ → List ℕ → Type 0
WithOrWithout h x file = StandsFor file h ⊎ StandsFor file (h ++ x ∷ [])

-- the disk has the contents, with the loose one or without it, and so has whatever a crash leaves
pub record MayHave (file : List ℕ) (may_leave : List ℕ → Type 0) (h : List (List ℕ)) (x : List ℕ) : Type 0 where
  pub now : WithOrWithout h x file
  pub crash : (c : List ℕ) → may_leave c → WithOrWithout h x c

-- what a crash may leave of some outcomes, when n bytes from a place on were torn
abbrev pub TornFrom : (place n : ℕ) → (List ℕ → Type 0) → List ℕ → Type 0
TornFrom place n outcomes c = (d : List ℕ) × outcomes d × Torn place n d c
