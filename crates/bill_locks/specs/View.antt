-- What a pass knows, as plain data: a mark for each value, read and written by the value's place.
use Rattle.std.specs.Prelude.{ℕ, zero, suc, ◌+◌, ◌-◌, ◌/◌, ◌^◌, Bool, true, false, List, [], ◌∷◌, ◌++◌, length, map, slice_index_or, max, None, if◌then◌else◌, nat_lt, ◌==◌}
use Rattle.bill_locks.specs.declared.view.Mark.{Mark}
use Rattle.bill_locks.specs.declared.view.Opened.{Opened}
use Rattle.bill_locks.specs.declared.view.View.{View}

-- 1 if the test is true
abbrev pub one_if : Bool → ℕ
one_if true = 1
one_if false = 0

-- how often a number is in a list of numbers
abbrev pub times : ℕ → List ℕ → ℕ
times p [] = 0
times p (q ∷ qs) = one_if (q == p) + times p qs

-- a value at whose place nothing was opened
abbrev pub unopened : {X : Type 0} → Opened X
unopened = record { fixed = None; frames = 0; disk = 0; ring = 0 }

module _ {F : Type 0} where
  -- the mark of a value of which nothing is known
  abbrev pub blank : Mark F
  blank = record {
    held = false;
    front = [];
    absorbed = [];
    numbers = [];
    failed = 0;
    unsigned = 0;
    loose = false;
    disk = 0;
    ring = 0;
  }

  -- the mark at a place
  unfoldable pub look : ℕ → List (Mark F) → Mark F
  look k [] = blank
  look zero (m ∷ ms) = m
  look (suc k) (m ∷ ms) = look k ms

  -- the marks with this one at a place
  unfoldable pub put : ℕ → Mark F → List (Mark F) → List (Mark F)
  put zero m [] = m ∷ []
  put (suc k) m [] = blank ∷ put k m []
  put zero m (x ∷ xs) = m ∷ xs
  put (suc k) m (x ∷ xs) = x ∷ put k m xs

module _ {F X : Type 0} where
  -- the value at k at the opening
  abbrev pub opened_at : ℕ → View F X → Opened X
  opened_at k v = slice_index_or v.opened k unopened

  -- a view's mark of the value at k
  abbrev pub mark_at : ℕ → View F X → Mark F
  mark_at k v = look k v.marks

  -- the view with this mark of the value at k
  abbrev pub with_mark : ℕ → Mark F → View F X → View F X
  with_mark k m v = record v { marks = put k m v.marks }

module _ {F : Type 0} where
  -- the longer of two lists, the first where they are as long
  abbrev pub longer : List F → List F → List F
  longer xs ys = if nat_lt (length xs) (length ys) then ys else xs

  -- the other one
  abbrev pub shorter : List F → List F → List F
  shorter xs ys = if nat_lt (length xs) (length ys) then xs else ys

  -- what a new pass knows of a value: the front of the pass that made it
  abbrev pub fresh : Mark F → Mark F
  fresh m = record blank { front = m.front }

  -- what two passes together know of a value and did there
  abbrev pub both_marks : Mark F → Mark F → Mark F
  both_marks m n = record {
    held = m.held;
    front = longer m.front n.front;
    absorbed = shorter m.front n.front;
    numbers = m.numbers ++ n.numbers;
    failed = m.failed + n.failed;
    unsigned = m.unsigned + n.unsigned;
    loose = m.loose;
    disk = m.disk;
    ring = m.ring;
  }

  -- the same at each place
  unfoldable pub merged : List (Mark F) → List (Mark F) → List (Mark F)
  merged [] ns = map (λ n. both_marks blank n) ns
  merged (m ∷ ms) [] = map (λ a. both_marks a blank) (m ∷ ms)
  merged (m ∷ ms) (n ∷ ns) = both_marks m n ∷ merged ms ns

-- the whole table, of which each pass has a share
abbrev pub whole : ℕ
whole = 2 ^ 63

module _ {F X : Type 0} where
  -- the first pass at the opening
  abbrev pub first_view : List (Opened X) → View F X
  first_view os = record { marks = []; opened = os; stands = 1; known = 1; share = whole; alone = false }

  -- a pass that was joined to another
  abbrev pub spent : View F X
  spent = record { marks = []; opened = []; stands = 0; known = 0; share = 0; alone = false }

  -- it knows of a pass more than it stands for
  abbrev pub knows_of_another : View F X → View F X
  knows_of_another v = record v { known = max v.known (v.stands + 1) }

  -- it knows of a new pass, one more than it knew of and than it stood for, and stands for it
  abbrev pub counted : View F X → View F X
  counted v = record v { stands = v.stands + 1; known = max v.known v.stands + 1 }

  -- what is left of a view of which a pass was cut off, with half of the share
  abbrev pub left_of : View F X → View F X
  left_of v = record v { stands = v.stands - 1; share = v.share - v.share / 2 }

  -- the pass that was cut off, with the other half
  abbrev pub right_of : View F X → View F X
  right_of v = record {
    marks = map fresh v.marks;
    opened = v.opened;
    stands = 1;
    known = v.known;
    share = v.share / 2;
    alone = false;
  }

  -- two passes in one
  abbrev pub both_views : View F X → View F X → View F X
  both_views v w = record {
    marks = merged v.marks w.marks;
    opened = v.opened;
    stands = v.stands + w.stands;
    known = max v.known w.known;
    share = v.share + w.share;
    alone = false;
  }
