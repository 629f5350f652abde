-- Where the end of a head is that a scan finds.
use Rattle.std.proofs.Common.{◌≡◌, ℕ, ◌+◌, List, [], ◌∷◌, arith}
use Rattle.std.specs.Prelude.{◌<◌, Result, Ok}
use Rattle.http_heads.specs.declared.scan.Scan.{Scan}
use Rattle.http_heads.specs.declared.scan.Scan.TheVariants.{Blank, BlankReturn, Text, Start, Return, End}
use Rattle.http_heads.specs.Scan.{step, scan, scan_on}

on-past : (k m low : ℕ) (t : Scan) (r : Result ℕ Scan) → low < k → (r ≡ Ok m → low < m) → scan_on k t r ≡ Ok m → low < m
on-past k m low End r fits goes h = grind arith
on-past k m low Blank r fits goes h = goes h
on-past k m low BlankReturn r fits goes h = goes h
on-past k m low Text r fits goes h = goes h
on-past k m low Start r fits goes h = goes h
on-past k m low Return r fits goes h = goes h

-- the end is behind the bytes that were there before
pub scan-past : (n m : ℕ) (s : Scan) (a : List ℕ) → scan n s a ≡ Ok m → n < m
scan-past n m s [] h = grind arith
scan-past n m s (x ∷ a) h =
    let rest : scan (n + 1) (step s x) a ≡ Ok m → n < m = λ g. let i = scan-past (n + 1) m (step s x) a g in omega (arith, i) in
    on-past (n + 1) m n (step s x) _ (omega arith) rest h
