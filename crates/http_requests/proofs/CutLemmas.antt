-- What stands at the front stays there when more bytes come.
use Rattle.std.proofs.Common.{◌≡◌, ℕ, suc, ◌+◌, ◌-◌, ◌≤◌, ◌<◌, Bool, true, false, List, [], ◌∷◌, ◌++◌, refl, ap, sym, ◌∙◌, subst, length, take, drop, arith, length-append, length-take, append-nil}
use Rattle.std.specs.Prelude.{◌≢◌, Option, Some, None, Result, Ok, Err, nat_le, if◌then◌else◌}
use Rattle.std.proofs.lemmas.List.{take-append-le, drop-append-le, take_all}
use Rattle.std.proofs.lemmas.Bool.{leb-true, leb-false, le-leb}
use lib.Dec.{leb}
use Rattle.http_heads.specs.declared.scan.Scan.{Scan}
use Rattle.http_heads.specs.declared.scan.Scan.TheVariants.{Blank}
use Rattle.http_heads.specs.declared.plan.Plan.{Plan}
use Rattle.http_heads.specs.declared.plan.Plan.TheVariants.{Refuse, Await}
use Rattle.http_heads.specs.declared.route.Route.{Route}
use Rattle.http_heads.specs.Scan.{scan, head_end}
use Rattle.http_heads.specs.Plan.{IsPlan}
use Rattle.http_heads.specs.declared.status.Status.TheVariants.{BadRequest}
use Rattle.http_requests.specs.Asked.{Asks, asks_of}
use Rattle.http_requests.specs.Next.{Incoming, Next, whole, refused, short, formed, next_by, OnHead, IsNext}
use Rattle.http_heads.proofs.ScanLemmas.{scan-found, scan-within}

take-append-length : (b more : List ℕ) (k : ℕ) → take (length b + k) (b ++ more) ≡ b ++ take k more
take-append-length [] more k = let none : 0 + k ≡ k = omega arith in rw none refl
take-append-length (x ∷ b) more k =
    let count : length (x ∷ b) + k ≡ suc (length b + k) = omega arith in
    rw count (ap (λ l. x ∷ l) (take-append-length b more k))

take-more_by : (fits : Bool) (n : ℕ) (b more : List ℕ) → leb n (length b) ≡ fits → (tail : List ℕ) × (take n (b ++ more) ≡ take n b ++ tail)
take-more_by true n b more test = ([], take-append-le n b more (leb-true n (length b) test) ∙ sym (append-nil (take n b)))
take-more_by false n b more test =
    let past : length b < n = leb-false n (length b) test in
    let count : length b + (n - length b) ≡ n = omega (arith, past) in
    let split : take (length b + (n - length b)) (b ++ more) ≡ b ++ take (n - length b) more = take-append-length b more (n - length b) in
    let whole_front : take n b ≡ b = take_all n b (omega (arith, past)) in
    (take (n - length b) more, rw (whole_front) (rw count at split))

take-more : (n : ℕ) (b more : List ℕ) → (tail : List ℕ) × (take n (b ++ more) ≡ take n b ++ tail)
take-more n b more = take-more_by (leb n (length b)) n b more refl

pub head_end-more : (n : ℕ) (b more : List ℕ) → head_end b ≡ Ok n → head_end (b ++ more) ≡ Ok n
head_end-more n b more h =
    let parts = take-more 16384 b more in
    rw parts.1 (scan-found 0 n Blank (take 16384 b) parts.0 h)

pub head_end-within : (n : ℕ) (b : List ℕ) → head_end b ≡ Ok n → n ≤ length b
head_end-within n b h =
    let fits = scan-within 0 n Blank (take 16384 b) h in
    omega (arith, fits, length-take 16384 b)

formed-more : (asked : Option Asks) (keeps : Bool) (a : Incoming) (after rest more : List ℕ)
    → formed asked keeps after ≡ whole a rest → formed asked keeps (after ++ more) ≡ whole a (rest ++ more)
formed-more None keeps a after rest more h = grind arith
formed-more (Some asked) keeps a after rest more h = grind arith

sized-more : (fits : Bool) (route : Route) (keeps : Bool) (n : ℕ) (a : Incoming) (after rest more : List ℕ) → nat_le n (length after) ≡ fits
    → (if fits then formed (asks_of route (take n after)) keeps (drop n after) else short) ≡ whole a rest
    → next_by (Await route n keeps) (after ++ more) ≡ whole a (rest ++ more)
sized-more true route keeps n a after rest more test h =
    let within : n ≤ length after = leb-true n (length after) test in
    let fits : nat_le n (length (after ++ more)) ≡ true = le-leb n (length (after ++ more)) (omega (arith, within, length-append after more)) in
    rw (fits, take-append-le n after more within, drop-append-le n after more within)
    (formed-more (asks_of route (take n after)) keeps a (drop n after) rest more h)
sized-more false route keeps n a after rest more test h = grind arith

next_by-more : (p : Plan) (a : Incoming) (after rest more : List ℕ) → next_by p after ≡ whole a rest → next_by p (after ++ more) ≡ whole a (rest ++ more)
next_by-more (Refuse status) a after rest more h = grind arith
next_by-more (Await route n keeps) a after rest more h = sized-more (nat_le n (length after)) route keeps n a after rest more refl h

no_head : (long : Bool) (a : Incoming) (rest : List ℕ) → whole a rest ≡ (if long then refused BadRequest else short) → ⊥
no_head true a rest h = grind arith
no_head false a rest h = grind arith

on_head : (r : Result ℕ Scan) (b more : List ℕ) (a : Incoming) (rest : List ℕ) → head_end b ≡ r → OnHead r b (whole a rest)
    → IsNext (b ++ more) (whole a (rest ++ more))
on_head (Err s) b more a rest ends h = absurd (no_head (nat_le 16384 (length b)) a rest h)
on_head (Ok n) b more a rest ends (p, plans, by) =
    let within = head_end-within n b ends in
    let front : IsPlan (take n (b ++ more)) p = rw (take-append-le n b more within) plans in
    let behind : whole a (rest ++ more) ≡ next_by p (drop n (b ++ more)) =
    rw (drop-append-le n b more within) (sym (next_by-more p a (drop n b) rest more (sym by))) in
    rw (head_end-more n b more ends) (p, front, behind)

-- a whole request at the front stays, and what came stands behind the rest
pub IsNext-more : (b more : List ℕ) (a : Incoming) (rest : List ℕ) → IsNext b (whole a rest) → IsNext (b ++ more) (whole a (rest ++ more))
IsNext-more b more a rest next = on_head (head_end b) b more a rest refl next
