-- One event more, and what a crash may leave then.
use Rattle.std.proofs.Common.{◌≡◌, inl, inr, ◌⊎◌, ℕ, ◌+◌, ◌<◌, ◌≤◌, List, [], ◌∷◌, ◌++◌, Result, Ok, Err, OnOk, OnErr, length, take, drop, refl, sym, ◌∙◌, ap, subst, arith, append_assoc, length-append, length-drop}
use Rattle.std.proofs.lemmas.Bool.{cases_lt}
use Rattle.std.proofs.lemmas.List.{take_at, drop_at, take-append-le, take_all, length-take-le}
use Rattle.disk_model.specs.Disk.{written, Torn, Follows, NoneNew, Only, Elapses}
use Rattle.disk_model.specs.Event.{Event, write, synced, seen_after, LeftAfter, MayLeave, LeftSince, BeginInside, bytes_written}

pub length-written : (old : List ℕ) (place : ℕ) (bytes : List ℕ) → place ≤ length old
    → length (written old place bytes) ≡ place + (length bytes + length (drop (place + length bytes) old))
length-written old place bytes le =
    omega (
      arith,
      length-take-le place old le,
      length-append (take place old) bytes,
      length-append (take place old ++ bytes) (drop (place + length bytes) old),
    )

-- nothing was done
pub Torn-same : (place n : ℕ) (old : List ℕ) → Torn place n old old
Torn-same place n old = record { before = refl; after = refl; no_shorter = omega arith; no_longer = omega arith }

-- all was done
pub Torn-written : (old : List ℕ) (place : ℕ) (bytes : List ℕ) → place ≤ length old
    → Torn place (length bytes) old (written old place bytes)
Torn-written old place bytes le =
    let rest = drop (place + length bytes) old in
    let front : length (take place old) ≡ place = length-take-le place old le in
    let through : length (take place old ++ bytes) ≡ place + length bytes = omega
    (arith, front, length-append (take place old) bytes) in
    record {
      before = ap (take place) (append_assoc (take place old) bytes rest)
          ∙ take_at (take place old) (bytes ++ rest) place front;
      after = drop_at (take place old ++ bytes) rest (place + length bytes) through;
      no_shorter = omega (arith, length-written old place bytes le, length-drop (place + length bytes) old);
      no_longer = omega (arith, length-written old place bytes le, length-drop (place + length bytes) old);
    }

pub seen_after-write : (file : List ℕ) (events : List Event) (place : ℕ) (bytes : List ℕ)
    → seen_after file (events ++ write place bytes ∷ []) ≡ written (seen_after file events) place bytes
seen_after-write file [] place bytes = refl
seen_after-write file (write p b ∷ events) place bytes = seen_after-write (written file p b) events place bytes
seen_after-write file (synced ∷ events) place bytes = seen_after-write file events place bytes

pub seen_after-synced : (file : List ℕ) (events : List Event)
    → seen_after file (events ++ synced ∷ []) ≡ seen_after file events
seen_after-synced file [] = refl
seen_after-synced file (write p b ∷ events) = seen_after-synced (written file p b) events
seen_after-synced file (synced ∷ events) = seen_after-synced file events

pub BeginInside-write : (file : List ℕ) (events : List Event) (place : ℕ) (bytes : List ℕ) → BeginInside file events
    → place ≤ length (seen_after file events)
    → BeginInside file (events ++ write place bytes ∷ [])
BeginInside-write file [] place bytes in_order le = (le, tt)
BeginInside-write file (write p b ∷ events) place bytes in_order le =
    (in_order.0, BeginInside-write (written file p b) events place bytes in_order.1 le)
BeginInside-write file (synced ∷ events) place bytes in_order le = BeginInside-write file events place bytes in_order le

pub BeginInside-synced : (file : List ℕ) (events : List Event) → BeginInside file events
    → BeginInside file (events ++ synced ∷ [])
BeginInside-synced file [] in_order = tt
BeginInside-synced file (write p b ∷ events) in_order =
    (in_order.0, BeginInside-synced (written file p b) events in_order.1)
BeginInside-synced file (synced ∷ events) in_order = BeginInside-synced file events in_order

-- no more bytes are there than at the start and from writes
pub length-seen_after : (file : List ℕ) (events : List Event) → BeginInside file events
    → length (seen_after file events) ≤ length file + bytes_written events
length-seen_after file [] in_order = omega arith
length-seen_after file (write p b ∷ events) in_order =
    omega (
      arith,
      length-seen_after (written file p b) events in_order.1,
      length-written file p b in_order.0,
      length-drop (p + length b) file,
    )
length-seen_after file (synced ∷ events) in_order = length-seen_after file events in_order

-- a write more may tear what was left before
LeftAfter-write : (P : List ℕ → Type 0) (file : List ℕ) (events : List Event) (place : ℕ) (bytes c : List ℕ)
    → LeftAfter P file (events ++ write place bytes ∷ []) c
    → (d : List ℕ) × LeftAfter P file events d × Torn place (length bytes) d c
LeftAfter-write P file [] place bytes c left = left
LeftAfter-write P file (write p b ∷ events) place bytes c left = LeftAfter-write
    (λ d. (e : List ℕ) × P e × Torn p (length b) e d) (written file p b) events place bytes c left
LeftAfter-write P file (synced ∷ events) place bytes c left = LeftAfter-write
    (λ d. d ≡ file) file events place bytes c left

-- after a sync only what a read gives is left
LeftAfter-synced : (P : List ℕ → Type 0) (file : List ℕ) (events : List Event) (c : List ℕ)
    → LeftAfter P file (events ++ synced ∷ []) c → c ≡ seen_after file events
LeftAfter-synced P file [] c left = left
LeftAfter-synced P file (write p b ∷ events) c left = LeftAfter-synced
    (λ d. (e : List ℕ) × P e × Torn p (length b) e d) (written file p b) events c left
LeftAfter-synced P file (synced ∷ events) c left = LeftAfter-synced (λ d. d ≡ file) file events c left

-- what a read gives may be left
LeftAfter-seen : (P : List ℕ → Type 0) (file : List ℕ) (events : List Event) → P file → BeginInside file events
    → LeftAfter P file events (seen_after file events)
LeftAfter-seen P file [] here in_order = here
LeftAfter-seen P file (write p b ∷ events) here in_order =
    LeftAfter-seen (λ d. (e : List ℕ) × P e × Torn p (length b) e d) (written file p b) events
    (file, here, Torn-written file p b in_order.0) in_order.1
LeftAfter-seen P file (synced ∷ events) here in_order = LeftAfter-seen (λ d. d ≡ file) file events refl in_order

-- ---- the clauses of a disk

pub Follows-write : (start : List ℕ) (events after : List Event) (place n : ℕ) (bytes : List ℕ) → length bytes ≡ n
    → after ≡ events ++ write place bytes ∷ []
    → Follows (Torn place n) (MayLeave start events) (MayLeave start after)
Follows-write start events after place n bytes len is c left =
    let last = LeftAfter-write (λ d. d ≡ start) start events place bytes c
    (subst (λ (l : List Event). MayLeave start l c) is left) in
    (last.0, last.1, subst (λ (m : ℕ). Torn place m last.0 c) len last.2)

pub Follows-same : (start : List ℕ) (events after : List Event) (place n : ℕ) → after ≡ events
    → Follows (Torn place n) (MayLeave start events) (MayLeave start after)
Follows-same start events after place n is c left = (
  c,
  subst (λ (l : List Event). MayLeave start l c) is left,
  Torn-same place n c,
)

pub Only-synced : (start : List ℕ) (events after : List Event) → after ≡ events ++ synced ∷ []
    → Only (seen_after start events) (MayLeave start after)
Only-synced start events after is c left = LeftAfter-synced (λ d. d ≡ start) start events c
    (subst (λ (l : List Event). MayLeave start l c) is left)

pub NoneNew-synced : (start : List ℕ) (events after : List Event) → BeginInside start events → after ≡ events
    ++ synced ∷ [] → NoneNew (MayLeave start events) (MayLeave start after)
NoneNew-synced start events after in_order is c left =
    let same = Only-synced start events after is c left in
    subst (λ (l : List ℕ). MayLeave start events l) (sym same)
    (LeftAfter-seen (λ d. d ≡ start) start events refl in_order)

pub Elapses-same : (start : List ℕ) (events after : List Event) → after ≡ events
    → Elapses (length events) (length after) (LeftSince start events) (LeftSince start after) (MayLeave start after)
Elapses-same start events after is =
    subst (λ (l : List Event). Elapses (length events) (length l) (LeftSince start events) (LeftSince start l)
    (MayLeave start l)) (sym is)
    record { later = omega arith; nothing_else = λ t c le left. inl left; keeps = λ t c le left. left }

Elapses-one : (start : List ℕ) (events : List Event) (e : Event)
    → Elapses (length events) (length (events ++ e ∷ [])) (LeftSince start events)
    (LeftSince start (events ++ e ∷ [])) (MayLeave start (events ++ e ∷ []))
Elapses-one start events e = record {
  later = omega (arith, long);
  nothing_else = λ t c le left. was t c left (cases_lt (length events) (left.0));
  keeps = λ t c le left. (
    left.0,
    left.1,
    omega (arith, long, left.2),
    subst (λ (l : List Event). MayLeave start l c)
        (sym (take-append-le left.0 events (e ∷ []) left.2)) left.3,
  );
}
  where
    long : length (events ++ e ∷ []) ≡ length events + 1
    long = length-append events (e ∷ [])

    was : (t : ℕ) (c : List ℕ) (left : LeftSince start (events ++ e ∷ []) t c) → (length events < left.0)
        ⊎ (left.0 ≤ length events)
        → LeftSince start events t c ⊎ MayLeave start (events ++ e ∷ []) c
    was t c left (inl last) = inr
        (subst (λ (l : List Event). MayLeave start l c)
        (take_all left.0 (events ++ e ∷ []) (omega (arith, long, last))) left.3)
    was t c left (inr past) = inl (
      left.0,
      left.1,
      past,
      subst (λ (l : List Event). MayLeave start l c)
          (take-append-le left.0 events (e ∷ []) past) left.3,
    )

pub Elapses-push : (start : List ℕ) (events after : List Event) (e : Event) → after ≡ events ++ e ∷ []
    → Elapses (length events) (length after) (LeftSince start events) (LeftSince start after) (MayLeave start after)
Elapses-push start events after e is =
    subst (λ (l : List Event). Elapses (length events) (length l) (LeftSince start events) (LeftSince start l)
    (MayLeave start l)) (sym is) (Elapses-one start events e)

-- ---- a write that was done or not, by its answer

module _ {E : Type 0} (start : List ℕ) (events after : List Event) (place : ℕ) (bytes : List ℕ) where
  pub Follows-written : (r : Result (Unit {0}) E) → OnOk r (after ≡ events ++ write place bytes ∷ [])
      → OnErr r (after ≡ events)
      → Follows (Torn place (length bytes)) (MayLeave start events) (MayLeave start after)
  Follows-written (Ok x) done undone = Follows-write start events after place (length bytes) bytes refl done
  Follows-written (Err e) done undone = Follows-same start events after place (length bytes) undone

  pub Elapses-written : (r : Result (Unit {0}) E) → OnOk r (after ≡ events ++ write place bytes ∷ [])
      → OnErr r (after ≡ events)
      → Elapses (length events) (length after) (LeftSince start events) (LeftSince start after) (MayLeave start after)
  Elapses-written (Ok x) done undone = Elapses-push start events after (write place bytes) done
  Elapses-written (Err e) done undone = Elapses-same start events after undone

pub Torn-by_answer : {E : Type 0} (r : Result (Unit {0}) E) (old new : List ℕ) (place : ℕ) (bytes : List ℕ)
    → place ≤ length old
    → OnOk r (new ≡ written old place bytes) → OnErr r (new ≡ old) → Torn place (length bytes) old new
Torn-by_answer (Ok x) old new place bytes le done undone = subst (Torn place (length bytes) old) (sym done)
    (Torn-written old place bytes le)
Torn-by_answer (Err e) old new place bytes le done undone = subst (Torn place (length bytes) old) (sym undone)
    (Torn-same place (length bytes) old)
