-- Lists of chains: the longest of them, those that end on a platform, those of Taken records, and whether one passes a
-- test.
use Rattle.std.proofs.Common.{◌≡◌, ℕ, Bool, true, false, not, ◌||◌, cond, List, [], ◌∷◌, ◌++◌, Option, Some, None, length, map, refl, ap, sym, ◌∙◌, arith, nat_le, nat_lt, nat_eq, reverse}
use Rattle.std.specs.Prelude.{filter, unwrap_or}
use Rattle.std.specs.List.{list_any}
use Rattle.std.specs.Option.{option_to_list}
use Rattle.std.proofs.lemmas.Bool.Decides.{nat_tests}
use Rattle.std.proofs.lemmas.List.{length-map, map-append, reverse-append}
use Rattle.ebl_base.specs.declared.checksum.Checksum.{Checksum}
use Rattle.ebl_base.specs.declared.chain.ChainLink.{ChainLink}
use Rattle.ebl_base.specs.declared.platform_code.PlatformCode.{PlatformCode}
use Rattle.bill_chain.specs.Chain.{common_front, names_of}
use Rattle.bill_chain.proofs.FrontLemmas.{starts-common}
use Rattle.bill_diary.specs.declared.record.Record.{Record}
use Rattle.bill_diary.specs.declared.record.Record.TheVariants.{Signed, Acted, Attached, Parted, Settled, Regained, Begun, Stored, Taken, Declined}
use Rattle.bill_diary.specs.History.{taken_entry}
use Rattle.bill_diary.specs.Known.{longer, longest, taken_chain}
use Rattle.bill_diary.specs.Place.{taken_chains}
use Rattle.closed_family.specs.Longest.{ends_on}
use Rattle.bill_lines.specs.Bills.{is_front, part_ways}

-- ---- the longest

-- the first of two chains, unless the second is longer
abbrev pub keep : List ChainLink → List ChainLink → List ChainLink
keep c other = cond (nat_le (length other) (length c)) c other

-- the longest of some chains and a last one
abbrev pub best_of : List (List ChainLink) → List ChainLink → List ChainLink
best_of [] best = best
best_of (c ∷ cs) best = keep c (best_of cs best)

pub best_of-push : (cs : List (List ChainLink)) (c best : List ChainLink)
    → best_of (cs ++ c ∷ []) best ≡ best_of cs (keep c best)
best_of-push [] c best = refl
best_of-push (x ∷ xs) c best = ap (keep x) (best_of-push xs c best)

le_zero : (n : ℕ) → nat_le 0 n ≡ true
le_zero n = grind (arith, nat_tests)

keep_none : (c : List ChainLink) → c ≡ keep c []
keep_none c = sym (ap (λ b. cond b c []) (le_zero (length c)))

le_not_lt : (m n : ℕ) → not (nat_lt m n) ≡ nat_le n m
le_not_lt m n = grind (arith, nat_tests)

flip : (a b : Bool) (c other : List ChainLink) → not a ≡ b → cond a other c ≡ cond b c other
flip true b c other h = ap (λ x. cond x c other) h
flip false b c other h = ap (λ x. cond x c other) h

longer_keeps : (c other : List ChainLink) → longer c (Some other) ≡ keep c other
longer_keeps c other =
    flip (nat_lt (length c) (length other)) (nat_le (length other) (length c)) c other
    (le_not_lt (length c) (length other))

on_longest : (c best : List ChainLink) (o : Option (List ChainLink)) → unwrap_or o [] ≡ best → longer c o ≡ keep c best
on_longest c best None h = keep_none c ∙ ap (keep c) h
on_longest c best (Some other) h = longer_keeps c other ∙ ap (keep c) h

pub longest-best : (cs : List (List ChainLink)) → unwrap_or (longest cs) [] ≡ best_of cs []
longest-best [] = refl
longest-best (c ∷ cs) = on_longest c (best_of cs []) (longest cs) (longest-best cs)

-- ---- those that end on a platform

pub ends_there : (p : PlatformCode) (cs : List (List ChainLink)) (c : List ChainLink) → ends_on p c ≡ true
    → filter (ends_on p) (reverse (cs ++ c ∷ [])) ≡ c ∷ filter (ends_on p) (reverse cs)
ends_there p cs c h =
    ap (filter (ends_on p)) (reverse-append cs (c ∷ []))
    ∙ ap (λ b. cond b (c ∷ filter (ends_on p) (reverse cs)) (filter (ends_on p) (reverse cs))) h

pub ends_elsewhere : (p : PlatformCode) (cs : List (List ChainLink)) (c : List ChainLink) → ends_on p c ≡ false
    → filter (ends_on p) (reverse (cs ++ c ∷ [])) ≡ filter (ends_on p) (reverse cs)
ends_elsewhere p cs c h =
    ap (filter (ends_on p)) (reverse-append cs (c ∷ []))
    ∙ ap (λ b. cond b (c ∷ filter (ends_on p) (reverse cs)) (filter (ends_on p) (reverse cs))) h

-- ---- those of Taken records

-- the chain of a Taken of this entry, if there is one
abbrev told : Option Checksum → List Record → List (List ChainLink)
told None h = []
told (Some entry) h = option_to_list (taken_chain entry h)

taken_chains-at : (r : Record) (h : List Record) → taken_chains (r ∷ h) ≡ told (taken_entry r) h ++ taken_chains h
taken_chains-at (Signed bill document transaction) h = refl
taken_chains-at (Acted bill transaction) h = refl
taken_chains-at (Attached bill piece bytes) h = refl
taken_chains-at (Parted bill link manifest manifest_text) h = refl
taken_chains-at (Settled bill entry) h = refl
taken_chains-at (Regained bill entry) h = refl
taken_chains-at (Begun bill chain manifest body) h = refl
taken_chains-at (Stored bill entry checksum bytes) h = refl
taken_chains-at (Taken bill entry) h = refl
taken_chains-at (Declined bill entry code reason evidence) h = refl

pub not_taken : (r : Record) (h : List Record) → taken_entry r ≡ None → taken_chains (r ∷ h) ≡ taken_chains h
not_taken r h none = taken_chains-at r h ∙ ap (λ o. told o h ++ taken_chains h) none

pub taken_without : (r : Record) (h : List Record) (entry : Checksum)
    → taken_entry r ≡ Some entry → taken_chain entry h ≡ None → taken_chains (r ∷ h) ≡ taken_chains h
taken_without r h entry is none =
    taken_chains-at r h ∙ ap (λ o. told o h ++ taken_chains h) is ∙ ap (λ o. option_to_list o ++ taken_chains h) none

pub taken_with : (r : Record) (h : List Record) (entry : Checksum) (chain : List ChainLink)
    → taken_entry r ≡ Some entry → taken_chain entry h ≡ Some chain → taken_chains (r ∷ h) ≡ chain ∷ taken_chains h
taken_with r h entry chain is some =
    taken_chains-at r h ∙ ap (λ o. told o h ++ taken_chains h) is ∙ ap (λ o. option_to_list o ++ taken_chains h) some

-- ---- whether one passes a test

any_seen : {X Y : Type 0} (see : X → Y) (test : Y → Bool) (xs : List X)
    → list_any (λ x. test (see x)) xs ≡ list_any test (map see xs)
any_seen see test [] = refl
any_seen see test (x ∷ xs) = ap (λ b. test (see x) || b) (any_seen see test xs)

any_same : {X : Type 0} (f g : X → Bool) → ((x : X) → f x ≡ g x) → (xs : List X) → list_any f xs ≡ list_any g xs
any_same f g same [] = refl
any_same f g same (x ∷ xs) = ap (λ b. b || list_any f xs) (same x) ∙ ap (λ b. g x || b) (any_same f g same xs)

-- two of some items part ways where two of the chains that are seen of them do
pub forks_seen : {X : Type 0} (see : X → List ChainLink) (xs : List X)
    → list_any (λ a. list_any (λ b. part_ways (see a) (see b)) xs) xs
    ≡ list_any (λ a. list_any (part_ways a) (map see xs)) (map see xs)
forks_seen see xs =
    any_same (λ a. list_any (λ b. part_ways (see a) (see b)) xs) (λ a. list_any (part_ways (see a)) (map see xs))
    (λ a. any_seen see (part_ways (see a)) xs) xs
    ∙ any_seen see (λ a. list_any (part_ways a) (map see xs)) xs

-- ---- fronts

pub is_front-common : (front chain : List ChainLink)
    → nat_eq (common_front front chain) (length front) ≡ is_front front chain
is_front-common front chain =
    ap (nat_eq (common_front front chain)) (sym (length-map front (λ (l : ChainLink). l.name)))
    ∙ sym (starts-common (names_of front) (names_of chain))

-- those that the functions of each kind need
pub ruleset chain_lists = (ends_there, ends_elsewhere, map-append)

pub ruleset taken_records = (not_taken, taken_without, taken_with, map-append)

pub ruleset longest_ones = (best_of-push, longest-best, map-append)

pub ruleset fronts = (is_front-common)
