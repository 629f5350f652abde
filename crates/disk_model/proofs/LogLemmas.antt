-- One event more in a log.
use Rattle.std.proofs.Common.{◌≡◌, ℕ, ◌+◌, ◌≤◌, List, [], ◌∷◌, ◌++◌, length, take, drop, refl, sym, ◌∙◌, ap, subst, arith, length-append, length-drop}
use Rattle.std.proofs.lemmas.List.{take-append-le, drop-append-le, take_all, length-take-le}
use Rattle.disk_model.specs.declared.mark.Mark.{Mark}
use Rattle.disk_model.specs.declared.mark.Mark.TheVariants.{Write, Sync}
use Rattle.disk_model.specs.Disk.{written}
use Rattle.disk_model.specs.Event.{Event, write, synced, seen_after, BeginInside, bytes_written}
use Rattle.disk_model.specs.Log.{events_of, marked, IsKept}
use Rattle.disk_model.proofs.EventLemmas.{seen_after-write, seen_after-synced, BeginInside-write, BeginInside-synced}

marked-write : (marks : List Mark) (place n : ℕ) → marked (marks ++ Write place n ∷ []) ≡ marked marks + n
marked-write [] place n = omega arith
marked-write (Write p m ∷ marks) place n = omega (arith, marked-write marks place n)
marked-write (Sync ∷ marks) place n = marked-write marks place n

marked-sync : (marks : List Mark) → marked (marks ++ Sync ∷ []) ≡ marked marks
marked-sync [] = refl
marked-sync (Write p m ∷ marks) = ap (λ k. m + k) (marked-sync marks)
marked-sync (Sync ∷ marks) = marked-sync marks

pub length-events_of : (marks : List Mark) (bytes : List ℕ) → length (events_of marks bytes) ≡ length marks
length-events_of [] bytes = refl
length-events_of (Write p m ∷ marks) bytes = omega (arith, length-events_of marks (drop m bytes))
length-events_of (Sync ∷ marks) bytes = omega (arith, length-events_of marks bytes)

pub events_of-write : (marks : List Mark) (bytes piece : List ℕ) (place : ℕ) → marked marks ≡ length bytes
    → events_of (marks ++ Write place (length piece) ∷ []) (bytes ++ piece) ≡ events_of marks bytes
    ++ write place piece ∷ []
events_of-write [] [] piece place whole = ap (λ (l : List ℕ). write place l ∷ [])
    (take_all (length piece) piece (omega arith))
events_of-write [] (b ∷ bytes) piece place whole = absurd (omega arith)
events_of-write (Write p m ∷ marks) bytes piece place whole =
    let inside : m ≤ length bytes = omega arith in
    ap (λ (l : List ℕ). write p l ∷ events_of (marks ++ Write place (length piece) ∷ []) (drop m (bytes ++ piece)))
    (take-append-le m bytes piece inside)
    ∙ ap (λ (l : List ℕ). write p (take m bytes) ∷ events_of (marks ++ Write place (length piece) ∷ []) l)
    (drop-append-le m bytes piece inside)
    ∙ ap (λ (l : List Event). write p (take m bytes) ∷ l)
    (events_of-write marks (drop m bytes) piece place (omega (arith, length-drop m bytes)))
events_of-write (Sync ∷ marks) bytes piece place whole = ap (λ (l : List Event). synced ∷ l)
    (events_of-write marks bytes piece place whole)

pub events_of-sync : (marks : List Mark) (bytes : List ℕ)
    → events_of (marks ++ Sync ∷ []) bytes ≡ events_of marks bytes ++ synced ∷ []
events_of-sync [] bytes = refl
events_of-sync (Write p m ∷ marks) bytes = ap (λ (l : List Event). write p (take m bytes) ∷ l)
    (events_of-sync marks (drop m bytes))
events_of-sync (Sync ∷ marks) bytes = ap (λ (l : List Event). synced ∷ l) (events_of-sync marks bytes)

-- the marks stand for all the bytes
pub bytes_written-events_of : (marks : List Mark) (bytes : List ℕ) → marked marks ≡ length bytes
    → bytes_written (events_of marks bytes) ≡ length bytes
bytes_written-events_of [] bytes whole = whole
bytes_written-events_of (Write p m ∷ marks) bytes whole =
    omega (
      arith,
      length-take-le m bytes (omega arith),
      bytes_written-events_of marks (drop m bytes)
          (omega (arith, length-drop m bytes)),
      length-drop m bytes,
    )
bytes_written-events_of (Sync ∷ marks) bytes whole = bytes_written-events_of marks bytes whole

pub IsKept-write : (start seen bytes piece : List ℕ) (marks : List Mark) (place : ℕ) → IsKept start seen marks bytes
    → place ≤ length seen
    → IsKept start (written seen place piece) (marks ++ Write place (length piece) ∷ []) (bytes ++ piece)
IsKept-write start seen bytes piece marks place kept inside =
    let events = events_of-write marks bytes piece place kept.whole in
    record {
      whole = omega (arith, marked-write marks place (length piece), kept.whole, length-append bytes piece);
      replayed = ap (λ (l : List ℕ). written l place piece) kept.replayed
          ∙ sym (seen_after-write start (events_of marks bytes) place piece) ∙ ap (seen_after start) (sym events);
      inside = subst (BeginInside start) (sym events)
          (BeginInside-write start (events_of marks bytes) place piece kept.inside
          (subst (λ (l : List ℕ). place ≤ length l) kept.replayed inside));
    }

pub IsKept-sync : (start seen bytes : List ℕ) (marks : List Mark) → IsKept start seen marks bytes
    → IsKept start seen (marks ++ Sync ∷ []) bytes
IsKept-sync start seen bytes marks kept =
    let events = events_of-sync marks bytes in
    record {
      whole = marked-sync marks ∙ kept.whole;
      replayed = kept.replayed ∙ sym (seen_after-synced start (events_of marks bytes))
          ∙ ap (seen_after start) (sym events);
      inside = subst (BeginInside start) (sym events) (BeginInside-synced start (events_of marks bytes) kept.inside);
    }
