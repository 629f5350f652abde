-- The longest accepted chain: none is longer, and in a safe family it is the known chain where it ends.
use Rattle.std.proofs.Common.{◌≡◌, ◌≤◌, Bool, true, false, cond, List, [], ◌∷◌, Option, Some, None, filter, length, map, nat_lt, reverse, refl, sym, ap, subst, ◌∙◌, inl, inr, arith}
use Rattle.std.specs.Prelude.{◌⊎◌}
use Rattle.std.specs.List.{flat_map}
use Rattle.std.specs.Option.{option_map_or}
use Rattle.std.proofs.lemmas.Bool.Decides.{nat_tests}
use Rattle.ebl_base.specs.PlatformCode.{code_eq}
use Rattle.ebl_base.specs.declared.chain.ChainLink.{ChainLink}
use Rattle.ebl_base.specs.declared.checksum.Checksum.{Checksum}
use Rattle.ebl_base.specs.declared.platform_code.PlatformCode.{PlatformCode}
use Rattle.ebl_base.proofs.SameLemmas.{code_eq-Decides}
use Rattle.bill_chain.specs.Chain.{destination}
use Rattle.bill_diary.specs.declared.bill_place.BillPlace.{BillPlace}
use Rattle.bill_diary.specs.declared.bill_place.BillPlace.TheVariants.{Absent, Held, Parting, Gone}
use Rattle.bill_diary.specs.Known.{known, longer, longest}
use Rattle.bill_diary.specs.Place.{place_of, taken_chains}
use Rattle.bill_diary.proofs.PlaceLemmas.{stands}
use Rattle.closed_family.specs.declared.family.Member.{Member}
use Rattle.closed_family.specs.Chains.{IsAmong, IsPrefix}
use Rattle.closed_family.specs.Closed.{Histories}
use Rattle.closed_family.specs.Family.{histories_of, IsSafeFamily, IsSignedIn}
use Rattle.closed_family.specs.Histories.{is_signed}
use Rattle.closed_family.specs.Longest.{ends_on, accepted_on, accepted_chains, longest_accepted, longest_in, HaveAllRecords}
use Rattle.closed_family.specs.Safe.{IsAccepted, IsLine, IsSafe, StandsWith}
use Rattle.closed_family.proofs.Chains.{empty_prefix, prefix_whole}
use Rattle.closed_family.proofs.Families.{IsFrom, found}
use Rattle.closed_family.proofs.FamilyTexts.{among_flat, among_map, among_reverse, flat_among, reverse_among}

-- ---- the longest of some chains

-- it is one of them, and no other is longer
record IsLongest (chains : List (List ChainLink)) (chain : List ChainLink) : Type 0 where
  among : IsAmong chain chains
  above : (c : List ChainLink) → IsAmong c chains → length c ≤ length chain

longest-is : (chain : List ChainLink) (chains : List (List ChainLink))
    → IsLongest (chain ∷ chains) (longer chain (longest chains))
longest-is chain [] = record { among = inl refl; above = one }
  where
    one : (c : List ChainLink) → IsAmong c (chain ∷ []) → length c ≤ length chain
    one c (inl same) = let e = ap length same in omega arith
    one c (inr none) = absurd none
longest-is chain (next ∷ chains) =
    on_test (nat_lt (length chain) (length (longer next (longest chains)))) refl (longest-is next chains)
  where
    on_test : (b : Bool) → nat_lt (length chain) (length (longer next (longest chains))) ≡ b
        → IsLongest (next ∷ chains) (longer next (longest chains))
        → IsLongest (chain ∷ next ∷ chains) (cond b (longer next (longest chains)) chain)
    on_test true is rest = record { among = inr rest.among; above = above }
      where
        above : (c : List ChainLink) → IsAmong c (chain ∷ next ∷ chains)
            → length c ≤ length (longer next (longest chains))
        above c (inl same) = let e = ap length same in grind (arith, nat_tests, is, e)
        above c (inr later) = rest.above c later
    on_test false is rest = record { among = inl refl; above = above }
      where
        above : (c : List ChainLink) → IsAmong c (chain ∷ next ∷ chains) → length c ≤ length chain
        above c (inl same) = let e = ap length same in omega arith
        above c (inr later) = let e = rest.above c later in grind (arith, nat_tests, is, e)

-- ---- items that pass a test

among_filter : {X : Type 0} (test : X → Bool) (items : List X) (x : X) → IsAmong x items → test x ≡ true
    → IsAmong x (filter test items)
among_filter test [] x h passes = absurd h
among_filter {X} test (y ∷ items) x (inl same) passes =
    subst (λ (b : Bool). IsAmong x (cond b (y ∷ filter test items) (filter test items)))
    (sym (ap test same ∙ passes)) (inl same)
among_filter {X} test (y ∷ items) x (inr h) passes = on_test (test y) (among_filter test items x h passes)
  where
    on_test : (b : Bool) → IsAmong x (filter test items)
        → IsAmong x (cond b (y ∷ filter test items) (filter test items))
    on_test true there = inr there
    on_test false there = there

filter_among : {X : Type 0} (test : X → Bool) (items : List X) (x : X) → IsAmong x (filter test items)
    → IsAmong x items × (test x ≡ true)
filter_among test [] x h = absurd h
filter_among {X} test (y ∷ items) x h = on_test (test y) refl h (filter_among test items x)
  where
    on_test : (b : Bool) → test y ≡ b → IsAmong x (cond b (y ∷ filter test items) (filter test items))
        → (IsAmong x (filter test items) → IsAmong x items × (test x ≡ true))
        → IsAmong x (y ∷ items) × (test x ≡ true)
    on_test true is (inl same) further = (inl same, ap test (sym same) ∙ is)
    on_test true is (inr h) further = let (there, passes) = further h in (inr there, passes)
    on_test false is h further = let (there, passes) = further h in (inr there, passes)

-- ---- accepted chains

ends_on-destination : (p : PlatformCode) (chain : List ChainLink) → ends_on p chain ≡ true → destination chain ≡ Some p
ends_on-destination p chain h = by_destination (destination chain) h
  where
    by_destination : (o : Option PlatformCode) → option_map_or (λ to. code_eq to p) o false ≡ true → o ≡ Some p
    by_destination None h = cc h
    by_destination (Some to) h = ap Some ((code_eq-Decides to p).0 h)

destination-ends_on : (p : PlatformCode) (chain : List ChainLink) → destination chain ≡ Some p → ends_on p chain ≡ true
destination-ends_on p chain h =
    ap (λ (o : Option PlatformCode). option_map_or (λ to. code_eq to p) o false) h ∙ (code_eq-Decides p p).1 refl

listed_is_accepted : (at : Histories) (platforms : List PlatformCode) (c : List ChainLink)
    → IsAmong c (flat_map (accepted_on at) platforms) → IsAccepted at c
listed_is_accepted at platforms c h =
    let f = flat_among (accepted_on at) platforms c h in
    let (taken, ends) = filter_among (ends_on f.item) (reverse (taken_chains (at f.item))) c f.holds in
    inr (f.item, ends_on-destination f.item c ends, reverse_among (taken_chains (at f.item)) c taken)

accepted_is_listed : (at : Histories) (platforms : List PlatformCode) → HaveAllRecords at platforms
    → (c : List ChainLink) → IsAccepted at c → IsAmong c (accepted_chains at platforms)
accepted_is_listed at platforms all c (inl (none, signed)) = inl (sym none)
accepted_is_listed at platforms all c (inr (p, ends, taken)) = on_platform (all p)
  where
    on_platform : IsAmong p platforms ⊎ (at p ≡ []) → IsAmong c (accepted_chains at platforms)
    on_platform (inl listed) =
        inr (among_flat (accepted_on at) platforms p c listed
        (among_filter (ends_on p) (reverse (taken_chains (at p))) c (among_reverse (taken_chains (at p)) c taken)
        (destination-ends_on p c ends)))
    on_platform (inr none) = absurd (subst (λ h. IsAmong c (taken_chains h)) none taken)

-- ---- the line

pub longest_is_line : (at : Histories) (platforms : List PlatformCode) (p : PlatformCode)
    → HaveAllRecords at platforms → is_signed (at p) ≡ true → IsLine at (longest_accepted at platforms)
longest_is_line at platforms p all signed =
    let is = longest-is [] (flat_map (accepted_on at) platforms) in
    record {
      accepted = by_place is.among;
      longest = λ c accepted. is.above c (accepted_is_listed at platforms all c accepted);
    }
  where
    by_place : IsAmong (longest_accepted at platforms) (accepted_chains at platforms)
        → IsAccepted at (longest_accepted at platforms)
    by_place (inl none) = inl (sym none, (p, signed))
    by_place (inr later) = listed_is_accepted at platforms (longest_accepted at platforms) later

-- of a safe bill it is the line
longest_of_safe : (at : Histories) (platforms : List PlatformCode) (safe : IsSafe at)
    → HaveAllRecords at platforms → safe.line ≡ longest_accepted at platforms
longest_of_safe at platforms safe all =
    let is = longest-is [] (flat_map (accepted_on at) platforms) in
    by_place is.among (is.above safe.line (accepted_is_listed at platforms all safe.line safe.is_line.accepted))
  where
    by_place : IsAmong (longest_accepted at platforms) (accepted_chains at platforms)
        → length safe.line ≤ length (longest_accepted at platforms) → safe.line ≡ longest_accepted at platforms
    by_place (inl none) below =
        let short : length safe.line ≤ 0
        = subst (λ (c : List ChainLink). length safe.line ≤ length c) (sym none) below in
        sym (prefix_whole [] safe.line (empty_prefix safe.line) short) ∙ none
    by_place (inr later) below =
        let accepted = listed_is_accepted at platforms (longest_accepted at platforms) later in
        by_prefix below (safe.is_line.longest (longest_accepted at platforms) accepted)
        (safe.no_fork safe.line (longest_accepted at platforms) safe.is_line.accepted accepted)
      where
        by_prefix : length safe.line ≤ length (longest_accepted at platforms)
            → length (longest_accepted at platforms) ≤ length safe.line
            → IsPrefix safe.line (longest_accepted at platforms) ⊎ IsPrefix (longest_accepted at platforms) safe.line
            → safe.line ≡ longest_accepted at platforms
        by_prefix below above (inl front) = prefix_whole safe.line (longest_accepted at platforms) front above
        by_prefix below above (inr front) = sym (prefix_whole (longest_accepted at platforms) safe.line front below)

-- and known where it ends
line_is_known : (at : Histories) (safe : IsSafe at) → known (at safe.end) ≡ Some safe.line
line_is_known at safe = by_place (place_of (at safe.end)) refl safe.stands_there
  where
    by_place : (place : BillPlace) → place_of (at safe.end) ≡ place → StandsWith safe.line place
        → known (at safe.end) ≡ Some safe.line
    by_place Absent is none = absurd none
    by_place (Held chain made) is same = (stands (at safe.end) (Held chain made) is).known_is ∙ ap Some same
    by_place (Parting chain link) is same = (stands (at safe.end) (Parting chain link) is).known_is ∙ ap Some same
    by_place (Gone chain) is none = absurd none

-- ---- in a family

all_in_family : (family : List Member) (bill : Checksum)
    → HaveAllRecords (histories_of bill family) (map (λ member. member.platform) family)
all_in_family family bill p = on_found (found bill family p)
  where
    on_found : (histories_of bill family p ≡ []) ⊎ ((m : Member) × IsFrom bill family p m)
        → IsAmong p (map (λ (member : Member). member.platform) family) ⊎ (histories_of bill family p ≡ [])
    on_found (inl none) = inr none
    on_found (inr (m, from)) =
        inl (subst (λ (q : PlatformCode). IsAmong q (map (λ (member : Member). member.platform) family)) from.platform
        (among_map (λ (member : Member). member.platform) family m from.listed))

pub longest_in_safe : (family : List Member) (bill : Checksum) (safe : IsSafeFamily family)
    (signed : IsSignedIn family bill) → (safe.bills bill signed).line ≡ longest_in family bill
longest_in_safe family bill safe signed =
    longest_of_safe (histories_of bill family) (map (λ (member : Member). member.platform) family)
    (safe.bills bill signed) (all_in_family family bill)

pub longest_is_known : (family : List Member) (bill : Checksum) (safe : IsSafeFamily family)
    (signed : IsSignedIn family bill)
    → known (histories_of bill family (safe.bills bill signed).end) ≡ Some (longest_in family bill)
longest_is_known family bill safe signed =
    line_is_known (histories_of bill family) (safe.bills bill signed) ∙ ap Some (longest_in_safe family bill safe signed)
