-- What is left in a set of wanted checksums, and in which order it is listed.
use Rattle.std.proofs.Common.{◌≡◌, ℕ, suc, ◌+◌, ◌<◌, List, [], ◌∷◌, ◌++◌, length, Bool, true, false, ◌&&◌, ◌||◌, not, cond, get_or, drop, drop-cons, add-one, refl, sym, ap, ◌∙◌, append_assoc}
use Rattle.std.specs.Prelude.{filter}
use Rattle.std.specs.Ordering.{is_eq}
use Rattle.std.specs.Set.{is_member}
use Rattle.std.specs.BTreeSet.{BTreeSet}
use Rattle.std.proofs.lemmas.Bool.{and_parts}
use Rattle.std.proofs.lemmas.Bool.Decides.{same_from_decides, Decides-like}
use Rattle.std.proofs.lemmas.Map.Text.{is_eq-slice_cmp}
use Rattle.std.proofs.lemmas.Slice.Eq.{bytes_eq-Decides}
use Rattle.std.specs.Str.{bytes_eq}
use Rattle.ebl_base.specs.Checksum.{checksum_cmp, checksum_eq}
use Rattle.ebl_base.specs.declared.checksum.Checksum.{Checksum}
use Rattle.envelope_manifest.specs.declared.piece.Piece.{Piece}
use Rattle.envelope_manifest.specs.Manifest.{are_distinct, checksums_of}
use Rattle.upload_state.specs.Piece.{each_once, has, is_absent}

-- ---- checksums that are one

bytes_eq-turned : (a b : List ℕ) → bytes_eq a b ≡ bytes_eq b a
bytes_eq-turned a b =
    same_from_decides (bytes_eq a b) (bytes_eq b a) (bytes_eq-Decides a b)
    (Decides-like (bytes_eq b a) sym sym (bytes_eq-Decides b a))

checksum_eq-same : (c : Checksum) → checksum_eq c c ≡ true
checksum_eq-same c = (bytes_eq-Decides c.0 c.0).1 refl

-- the order of a set finds what is one
is_eq-checksum_cmp : (k q : Checksum) → is_eq (checksum_cmp k q) ≡ checksum_eq q k
is_eq-checksum_cmp k q = is_eq-slice_cmp k.0 q.0 ∙ bytes_eq-turned k.0 q.0

-- ---- a set after one checksum

pub has-inserted : (old new : BTreeSet Checksum) (k q : Checksum) (more : Bool)
    → ((q : Checksum) → has new q ≡ cond (is_eq (checksum_cmp k q)) true (has old q))
    → (has new q || more) ≡ (has old q || (checksum_eq q k || more))
has-inserted old new k q more updates =
    ap (λ b. b || more) (updates q ∙ ap (λ t. cond t true (has old q)) (is_eq-checksum_cmp k q))
    ∙ either (checksum_eq q k) (has old q) more
  where
    either : (e o m : Bool) → (cond e true o || m) ≡ (o || (e || m))
    either true true m = refl
    either true false m = refl
    either false true m = refl
    either false false m = refl

pub has-removed : (old new : BTreeSet Checksum) (k q : Checksum)
    → ((q : Checksum) → has new q ≡ cond (is_eq (checksum_cmp k q)) false (has old q))
    → has new q ≡ (not (checksum_eq q k) && has old q)
has-removed old new k q updates =
    updates q ∙ ap (λ t. cond t false (has old q)) (is_eq-checksum_cmp k q) ∙ either (checksum_eq q k)
  where
    either : (e : Bool) → cond e false (has old q) ≡ (not e && has old q)
    either true = refl
    either false = refl

pub has-removed_next : (old new : BTreeSet Checksum) (k q : Checksum) (rest : List Checksum)
    → ((q : Checksum) → has new q ≡ cond (is_eq (checksum_cmp k q)) false (has old q))
    → (has new q && is_absent rest q) ≡ (has old q && is_absent (k ∷ rest) q)
has-removed_next old new k q rest updates =
    ap (λ b. b && is_absent rest q) (has-removed old new k q updates)
    ∙ either (checksum_eq q k) (has old q) (is_member checksum_eq rest q)
  where
    either : (e o m : Bool) → ((not e && o) && not m) ≡ (o && not (e || m))
    either true true m = refl
    either true false m = refl
    either false true m = refl
    either false false m = refl

-- ---- lists that are filtered

filter-filter : (f g : Checksum → Bool) (xs : List Checksum) → filter f (filter g xs) ≡ filter (λ c. g c && f c) xs
filter-filter f g [] = refl
filter-filter f g (x ∷ xs) = by_test (filter-filter f g xs) (g x)
  where
    by_test : filter f (filter g xs) ≡ filter (λ c. g c && f c) xs → (b : Bool)
        → filter f (cond b (x ∷ filter g xs) (filter g xs))
        ≡ cond (b && f x) (x ∷ filter (λ c. g c && f c) xs) (filter (λ c. g c && f c) xs)
    by_test rest true = ap (λ ys. cond (f x) (x ∷ ys) ys) rest
    by_test rest false = rest

filter-same : (f g : Checksum → Bool) → ((c : Checksum) → f c ≡ g c) → (xs : List Checksum) → filter f xs ≡ filter g xs
filter-same f g same [] = refl
filter-same f g same (x ∷ xs) =
    ap (λ b. cond b (x ∷ filter f xs) (filter f xs)) (same x)
    ∙ ap (λ ys. cond (g x) (x ∷ ys) ys) (filter-same f g same xs)

-- ---- the list of what is wanted

-- what is left of the list after one checksum was removed
left : (old new : BTreeSet Checksum) (k : Checksum) (xs : List Checksum)
    → ((q : Checksum) → has new q ≡ cond (is_eq (checksum_cmp k q)) false (has old q))
    → filter (has new) xs ≡ filter (has old) (filter (λ c. not (checksum_eq c k)) xs)
left old new k xs updates =
    filter-same (has new) (λ c. not (checksum_eq c k) && has old c) (λ c. has-removed old new k c updates) xs
    ∙ sym (filter-filter (has old) (λ c. not (checksum_eq c k)) xs)

-- a wanted checksum is listed, and from then on not wanted
pub listed-wanted : (old new : BTreeSet Checksum) (k : Checksum) (list next rest : List Checksum)
    → ((q : Checksum) → has new q ≡ cond (is_eq (checksum_cmp k q)) false (has old q))
    → has old k ≡ true → next ≡ list ++ k ∷ []
    → next ++ filter (has new) (each_once rest) ≡ list ++ filter (has old) (each_once (k ∷ rest))
listed-wanted old new k list next rest updates wanted is =
    ap (λ xs. xs ++ filter (has new) (each_once rest)) is
    ∙ append_assoc list (k ∷ []) (filter (has new) (each_once rest))
    ∙ ap (λ xs. list ++ (k ∷ xs)) (left old new k (each_once rest) updates)
    ∙ ap (λ b. list ++ cond b (k ∷ filter (has old) (filter (λ c. not (checksum_eq c k)) (each_once rest)))
    (filter (has old) (filter (λ c. not (checksum_eq c k)) (each_once rest)))) (sym wanted)

-- another is left out
pub listed-other : (old new : BTreeSet Checksum) (k : Checksum) (list next rest : List Checksum)
    → ((q : Checksum) → has new q ≡ cond (is_eq (checksum_cmp k q)) false (has old q))
    → has old k ≡ false → next ≡ list
    → next ++ filter (has new) (each_once rest) ≡ list ++ filter (has old) (each_once (k ∷ rest))
listed-other old new k list next rest updates other is =
    ap (λ xs. xs ++ filter (has new) (each_once rest)) is
    ∙ ap (λ xs. list ++ xs) (left old new k (each_once rest) updates)
    ∙ ap (λ b. list ++ cond b (k ∷ filter (has old) (filter (λ c. not (checksum_eq c k)) (each_once rest)))
    (filter (has old) (filter (λ c. not (checksum_eq c k)) (each_once rest)))) (sym other)

-- a test that all members of a list pass selects nothing
all_pass : (f g : Checksum → Bool) (xs : List Checksum)
    → ((c : Checksum) → is_member checksum_eq xs c ≡ true → g c ≡ true)
    → filter (λ c. g c && f c) (each_once xs) ≡ filter f (each_once xs)
all_pass f g [] pass = refl
all_pass f g (x ∷ xs) pass =
    let keep : Checksum → Bool = λ c. not (checksum_eq c x) in
    let here : g x ≡ true = pass x (ap (λ b. b || is_member checksum_eq xs x) (checksum_eq-same x)) in
    let later : (c : Checksum) → is_member checksum_eq xs c ≡ true → g c ≡ true = λ c h.
    pass c (ap (λ b. checksum_eq c x || b) h ∙ or-true (checksum_eq c x)) in
    let rest : filter (λ c. g c && f c) (filter keep (each_once xs)) ≡ filter f (filter keep (each_once xs)) =
    filter-filter (λ c. g c && f c) keep (each_once xs)
    ∙ filter-same (λ c. keep c && (g c && f c)) (λ c. g c && (keep c && f c)) (λ c. swapped (keep c) (g c) (f c))
    (each_once xs)
    ∙ all_pass (λ c. keep c && f c) g xs later
    ∙ sym (filter-filter f keep (each_once xs)) in
    ap (λ b. cond (b && f x) (x ∷ filter (λ c. g c && f c) (filter keep (each_once xs)))
    (filter (λ c. g c && f c) (filter keep (each_once xs)))) here
    ∙ ap (λ ys. cond (f x) (x ∷ ys) ys) rest
  where
    or-true : (b : Bool) → (b || true) ≡ true
    or-true true = refl
    or-true false = refl

    swapped : (a b c : Bool) → (a && (b && c)) ≡ (b && (a && c))
    swapped true true c = refl
    swapped true false c = refl
    swapped false true c = refl
    swapped false false c = refl

-- what a set that began as the listed checksums has left of them is what isn't stored
pub wanted-absent : (began wanted : BTreeSet Checksum) (checksums stored : List Checksum)
    → ((q : Checksum) → has began q ≡ is_member checksum_eq checksums q)
    → ((q : Checksum) → has wanted q ≡ (has began q && is_absent stored q))
    → filter (has wanted) (each_once checksums) ≡ filter (is_absent stored) (each_once checksums)
wanted-absent began wanted checksums stored listed removed =
    filter-same (has wanted) (λ q. has began q && is_absent stored q) removed (each_once checksums)
    ∙ all_pass (is_absent stored) (has began) checksums (λ q h. listed q ∙ h)

-- ---- lists that are gone over

-- the checksum here, and then those behind it
pub checksums_of-drop : (pieces : List Piece) (i : ℕ) (piece : Piece) → i < length pieces
    → piece ≡ get_or pieces i piece
    → checksums_of (drop i pieces) ≡ piece.checksum ∷ checksums_of (drop (i + 1) pieces)
checksums_of-drop pieces i piece lt is =
    rw add-one (ap checksums_of (drop-cons pieces i piece lt ∙ ap (λ first. first ∷ drop (suc i) pieces) (sym is)))

-- distinct checksums are each there once
all_kept : (x : Checksum) (xs : List Checksum) → is_member checksum_eq xs x ≡ false
    → filter (λ c. not (checksum_eq c x)) xs ≡ xs
all_kept x [] absent = refl
all_kept x (y ∷ xs) absent = by_tests (all_kept x xs) (checksum_eq x y) (checksum_eq y x)
    (bytes_eq-turned x.0 y.0) absent
  where
    by_tests : (is_member checksum_eq xs x ≡ false → filter (λ c. not (checksum_eq c x)) xs ≡ xs) → (a b : Bool) → a ≡ b
        → (a || is_member checksum_eq xs x) ≡ false
        → cond (not b) (y ∷ filter (λ c. not (checksum_eq c x)) xs) (filter (λ c. not (checksum_eq c x)) xs) ≡ y ∷ xs
    by_tests rest true b e h = cc
    by_tests rest false true e h = cc
    by_tests rest false false e h = ap (λ ys. y ∷ ys) (rest h)

pub each_once-distinct : (xs : List Checksum) → are_distinct xs ≡ true → each_once xs ≡ xs
each_once-distinct [] h = refl
each_once-distinct (x ∷ xs) h =
    let parts = and_parts (not (is_member checksum_eq xs x)) (are_distinct xs) h in
    let rest = each_once-distinct xs parts.1 in
    ap (λ ys. x ∷ filter (λ c. not (checksum_eq c x)) ys) rest
    ∙ ap (λ ys. x ∷ ys) (all_kept x xs (false_from (is_member checksum_eq xs x) parts.0))
  where
    false_from : (b : Bool) → not b ≡ true → b ≡ false
    false_from true e = cc
    false_from false e = refl
