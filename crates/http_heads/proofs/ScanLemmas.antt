-- A scan that goes on.
use Rattle.std.proofs.Common.{◌≡◌, ℕ, ◌+◌, ◌≤◌, List, [], ◌∷◌, ◌++◌, refl, ap, sym, ◌∙◌, length, arith}
use Rattle.std.specs.Prelude.{◌≢◌, ◌<◌, Result, Ok, Err}
use Rattle.http_heads.specs.declared.scan.Scan.{Scan}
use Rattle.http_heads.specs.declared.scan.Scan.TheVariants.{Blank, BlankReturn, Text, Start, Return, End}
use Rattle.http_heads.specs.Scan.{step, scan, scan_on}

on-found : (k m : ℕ) (t : Scan) (r q : Result ℕ Scan) → (r ≡ Ok m → q ≡ Ok m) → scan_on k t r ≡ Ok m → scan_on k t q ≡ Ok m
on-found k m End r q goes h = h
on-found k m Blank r q goes h = goes h
on-found k m BlankReturn r q goes h = goes h
on-found k m Text r q goes h = goes h
on-found k m Start r q goes h = goes h
on-found k m Return r q goes h = goes h

-- an end that was found stays
pub scan-found : (n m : ℕ) (s : Scan) (a b : List ℕ) → scan n s a ≡ Ok m → scan n s (a ++ b) ≡ Ok m
scan-found n m s [] b found = grind arith
scan-found n m s (x ∷ a) b found = on-found (n + 1) m (step s x) _ _ (scan-found (n + 1) m (step s x) a b) found

on-goes : (k : ℕ) (t u : Scan) (r q w : Result ℕ Scan) → (r ≡ Err u → q ≡ w) → scan_on k t r ≡ Err u → scan_on k t q ≡ w
on-goes k End u r q w goes h = grind arith
on-goes k Blank u r q w goes h = goes h
on-goes k BlankReturn u r q w goes h = goes h
on-goes k Text u r q w goes h = goes h
on-goes k Start u r q w goes h = goes h
on-goes k Return u r q w goes h = goes h

-- a scan that found no end goes on where it stands
pub scan-goes_on : (n : ℕ) (s u : Scan) (a b : List ℕ) → scan n s a ≡ Err u → scan n s (a ++ b) ≡ scan (n + length a) u b
scan-goes_on n s u [] b h =
    let same : s ≡ u = grind arith in
    let none : n + 0 ≡ n = omega arith in
    rw (none, same) refl
scan-goes_on n s u (x ∷ a) b h =
    let count : n + 1 + length a ≡ n + length (x ∷ a) = omega arith in
    rw (sym count) (on-goes (n + 1) (step s x) u _ _ _ (scan-goes_on (n + 1) (step s x) u a b) h)

on-within : (k m high : ℕ) (t : Scan) (r : Result ℕ Scan) → k ≤ high → (r ≡ Ok m → m ≤ high) → scan_on k t r ≡ Ok m → m ≤ high
on-within k m high End r fits goes h = grind arith
on-within k m high Blank r fits goes h = goes h
on-within k m high BlankReturn r fits goes h = goes h
on-within k m high Text r fits goes h = goes h
on-within k m high Start r fits goes h = goes h
on-within k m high Return r fits goes h = goes h

pub scan-within : (n m : ℕ) (s : Scan) (a : List ℕ) → scan n s a ≡ Ok m → m ≤ n + length a
scan-within n m s [] h = grind arith
scan-within n m s (x ∷ a) h =
    let rest : scan (n + 1) (step s x) a ≡ Ok m → m ≤ n + length (x ∷ a) = λ g. let i = scan-within (n + 1) m (step s x) a g in omega (arith, i) in
    on-within (n + 1) m (n + length (x ∷ a)) (step s x) _ (omega arith) rest h
