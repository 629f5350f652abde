-- The known chain followed by the entry that is parting, without a copy: what it has in common with a chain that was
-- shown, and its entry at a place.
use Rattle.std.proofs.Common.{◌≡◌, ℕ, zero, suc, ◌+◌, ◌≤◌, ◌<◌, Bool, true, false, cond, ◌&&◌, nat_eq, nat_lt, List, [], ◌∷◌, ◌++◌, Option, Some, None, length, get_or, refl, ap, sym, ◌∙◌, arith, add-zero, zero-add, length-append}
use Rattle.std.specs.Prelude.{slice_get, option_map}
use Rattle.std.specs.Option.{option_or}
use Rattle.std.proofs.lemmas.Bool.Decides.{nat_tests}
use Rattle.std.proofs.lemmas.List.Sums.{common_prefix_len-le}
use Rattle.std.proofs.lemmas.List.{length-map}
use Rattle.std.proofs.lemmas.Option.{slice_get_past, slice_get-get_or}
use Rattle.ebl_base.specs.Checksum.{checksum_eq}
use Rattle.ebl_base.specs.declared.chain.ChainLink.{ChainLink}
use Rattle.bill_chain.specs.Chain.{common_front, goes_beyond, names_of}
use Rattle.bill_chain.proofs.ChainLemmas.{last_of-push}
use Rattle.bill_chain.proofs.FrontLemmas.{goes_beyond-common}
use Rattle.transfer_judge.specs.Dispute.{text_at}

-- ---- in common

below_one_more : (test : Bool) (n m length : ℕ) → (n < length → m ≡ n) → cond test (1 + n) 0 < suc length
    → cond test (1 + m) 0 ≡ cond test (1 + n) 0
below_one_more true n m length same below = ap (λ k. 1 + k) (same (omega arith))
below_one_more false n m length same below = refl

-- where the chains part before the entry, it adds nothing
front_before : (known shown : List ChainLink) (entry : ChainLink) → common_front known shown < length known
    → common_front (known ++ entry ∷ []) shown ≡ common_front known shown
front_before [] shown entry below = absurd (omega arith)
front_before (x ∷ xs) [] entry below = refl
front_before (x ∷ xs) (y ∷ ys) entry below =
    below_one_more (checksum_eq x.name y.name) (common_front xs ys) (common_front (xs ++ entry ∷ []) ys) (length xs)
    (front_before xs ys entry) below

-- how many entries this one and the one shown at its place have in common
abbrev one_in_common : ChainLink → Option ChainLink → ℕ
one_in_common entry None = 0
one_in_common entry (Some link) = cond (checksum_eq entry.name link.name) 1 0

whole_one_more : (test : Bool) (n m length more : ℕ) → (n ≡ length → m ≡ length + more)
    → cond test (1 + n) 0 ≡ suc length → cond test (1 + m) 0 ≡ suc length + more
whole_one_more true n m length more same whole =
    let here : m ≡ length + more = same (omega arith) in omega (arith, here)
whole_one_more false n m length more same whole = absurd (omega arith)

-- where the chain that was shown has the known one in front, the entry is compared with the one at its place
front_at : (known shown : List ChainLink) (entry : ChainLink) → common_front known shown ≡ length known
    → common_front (known ++ entry ∷ []) shown ≡ length known + one_in_common entry (slice_get shown (length known))
front_at [] [] entry whole = refl
front_at [] (y ∷ ys) entry whole = sym (zero-add (cond (checksum_eq entry.name y.name) 1 0))
front_at (x ∷ xs) [] entry whole = absurd (omega arith)
front_at (x ∷ xs) (y ∷ ys) entry whole =
    whole_one_more (checksum_eq x.name y.name) (common_front xs ys) (common_front (xs ++ entry ∷ []) ys) (length xs)
    (one_in_common entry (slice_get ys (length xs))) (front_at xs ys entry) whole

front_and : (known shown : List ChainLink) (entry : ChainLink) (front more : ℕ)
    → front ≡ common_front known shown → front ≡ length known → one_in_common entry (slice_get shown front) ≡ more
    → front + more ≡ common_front (known ++ entry ∷ []) shown
front_and known shown entry front more common whole is =
    ap (λ n. front + n) (sym is)
    ∙ ap (λ n. n + one_in_common entry (slice_get shown n)) whole
    ∙ sym (front_at known shown entry (sym common ∙ whole))

compared : (shown : List ChainLink) (entry link : ChainLink) (front : ℕ) (test : Bool) → front < length shown
    → checksum_eq entry.name (get_or shown front link).name ≡ test
    → one_in_common entry (slice_get shown front) ≡ cond test 1 0
compared shown entry link front test within is =
    ap (one_in_common entry) (slice_get-get_or shown front link within) ∙ ap (λ t. cond t 1 0) is

-- the entry that was shown at its place is the one that is parting
pub front_one_more : (known shown : List ChainLink) (entry link : ChainLink) (front : ℕ)
    → front ≡ common_front known shown → front ≡ length known → front < length shown
    → checksum_eq entry.name (get_or shown front link).name ≡ true
    → front + 1 ≡ common_front (known ++ entry ∷ []) shown
front_one_more known shown entry link front common whole within same =
    front_and known shown entry front 1 common whole (compared shown entry link front true within same)

-- it is another one
pub front_of_another : (known shown : List ChainLink) (entry link : ChainLink) (front : ℕ)
    → front ≡ common_front known shown → front ≡ length known → front < length shown
    → checksum_eq entry.name (get_or shown front link).name ≡ false
    → front ≡ common_front (known ++ entry ∷ []) shown
front_of_another known shown entry link front common whole within other =
    sym (add-zero front)
    ∙ front_and known shown entry front 0 common whole (compared shown entry link front false within other)

-- no entry was shown at its place
pub front_of_none : (known shown : List ChainLink) (entry : ChainLink) (front : ℕ)
    → front ≡ common_front known shown → front ≡ length known → length shown ≤ front
    → front ≡ common_front (known ++ entry ∷ []) shown
front_of_none known shown entry front common whole past =
    sym (add-zero front)
    ∙ front_and known shown entry front 0 common whole (ap (one_in_common entry) (slice_get_past shown front past))

-- the chains part before the entry
pub front_short : (known shown : List ChainLink) (entry : ChainLink) (front : ℕ)
    → front ≡ common_front known shown → (front ≡ length known → ⊥)
    → front ≡ common_front (known ++ entry ∷ []) shown
front_short known shown entry front common short =
    let (within, _) = common_prefix_len-le checksum_eq (names_of known) (names_of shown) in
    let names : length (names_of known) ≡ length known = length-map known (λ (l : ChainLink). l.name) in
    common ∙ sym (front_before known shown entry (omega (arith, within, names)))

-- ---- going on beyond both

length_of_both : (known : List ChainLink) (entry : ChainLink) → length (known ++ entry ∷ []) ≡ length known + 1
length_of_both known entry = length-append known (entry ∷ [])

front_within_both : (known shown : List ChainLink) (entry : ChainLink)
    → common_front (known ++ entry ∷ []) shown ≤ length known + 1
front_within_both known shown entry =
    let own = known ++ entry ∷ [] in
    let (within, _) = common_prefix_len-le checksum_eq (names_of own) (names_of shown) in
    let names : length (names_of own) ≡ length own = length-map own (λ (l : ChainLink). l.name) in
    omega (arith, within, names, length_of_both known entry)

tested_by_length : (front own known shown : ℕ) (beyond : Bool) → own ≡ known + 1 → front ≤ known + 1 → known < front
    → (nat_eq front own && nat_lt own shown) ≡ beyond → nat_lt front shown ≡ beyond
tested_by_length front own known shown beyond length_is within past is = grind (arith, nat_tests)

tested_short : (front own known shown : ℕ) (beyond : Bool) → own ≡ known + 1 → front ≤ known
    → (nat_eq front own && nat_lt own shown) ≡ beyond → nat_lt known front ≡ beyond
tested_short front own known shown beyond length_is within is = grind (arith, nat_tests)

-- a chain that has both in front goes on beyond them where it is longer
pub beyond_where_longer : (known shown : List ChainLink) (entry : ChainLink) (front : ℕ)
    → front ≡ common_front (known ++ entry ∷ []) shown → length known < front
    → nat_lt front (length shown) ≡ goes_beyond (known ++ entry ∷ []) shown
beyond_where_longer known shown entry front is past =
    let own = known ++ entry ∷ [] in
    let within : front ≤ length known + 1 = omega (arith, is, front_within_both known shown entry) in
    tested_by_length front (length own) (length known) (length shown) (goes_beyond own shown)
    (length_of_both known entry) within past
    (ap (λ n. nat_eq n (length own) && nat_lt (length own) (length shown)) is ∙ goes_beyond-common own shown)

-- one that has not both in front doesn't
pub beyond_needs_both : (known shown : List ChainLink) (entry : ChainLink) (front : ℕ)
    → front ≡ common_front (known ++ entry ∷ []) shown → front ≤ length known
    → nat_lt (length known) front ≡ goes_beyond (known ++ entry ∷ []) shown
beyond_needs_both known shown entry front is short =
    let own = known ++ entry ∷ [] in
    tested_short front (length own) (length known) (length shown) (goes_beyond own shown)
    (length_of_both known entry) short
    (ap (λ n. nat_eq n (length own) && nat_lt (length own) (length shown)) is ∙ goes_beyond-common own shown)

-- ---- the entry at an index

-- the known chain's entry at the index, or else the one that is parting
abbrev pub link_or : Option ChainLink → ChainLink → ChainLink
link_or (Some link) entry = link
link_or None entry = entry

own_link_at : (known : List ChainLink) (entry : ChainLink) (index : ℕ)
    → option_or (slice_get (known ++ entry ∷ []) index) (Some entry) ≡ Some (link_or (slice_get known index) entry)
own_link_at [] entry zero = refl
own_link_at [] entry (suc index) = refl
own_link_at (x ∷ xs) entry zero = refl
own_link_at (x ∷ xs) entry (suc index) = own_link_at xs entry index

pub own_text_at : (known : List ChainLink) (entry : ChainLink) (index : ℕ)
    → text_at index (known ++ entry ∷ []) ≡ Some (link_or (slice_get known index) entry).text
own_text_at known entry index =
    ap (λ last. option_map (λ (l : ChainLink). l.text) (option_or (slice_get (known ++ entry ∷ []) index) last))
    (last_of-push known entry)
    ∙ ap (option_map (λ (l : ChainLink). l.text)) (own_link_at known entry index)
