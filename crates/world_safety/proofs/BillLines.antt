-- What bill lines say of a safe bill: its chains don't part ways, and whoever may act is where it ends.
use Rattle.std.proofs.Common.{◌≡◌, ◌⊎◌, inl, inr, Bool, true, false, not, ◌||◌, ◌&&◌, cond, List, [], ◌∷◌, ◌++◌, Option, Some, None, refl, sym, ap, subst, ◌∙◌}
use Rattle.std.specs.Prelude.{filter, find, map, reverse, unwrap_or}
use Rattle.std.specs.List.{flat_map, list_any, starts_with}
use Rattle.std.specs.Option.{option_map_or, option_or}
use Rattle.std.specs.Result.{result_ok}
use Rattle.ebl_base.specs.Checksum.{checksum_eq}
use Rattle.ebl_base.specs.PlatformCode.{code_eq}
use Rattle.ebl_base.proofs.SameLemmas.{code_eq-Decides}
use Rattle.ebl_base.specs.declared.chain.ChainLink.{ChainLink}
use Rattle.ebl_base.specs.declared.checksum.Checksum.{Checksum}
use Rattle.ebl_base.specs.declared.platform_code.PlatformCode.{PlatformCode}
use Rattle.ebl_base.specs.declared.transaction.Transaction.{Transaction}
use Rattle.title_fold.specs.declared.title.Title.{Title}
use Rattle.title_fold.specs.Fold.{Folded, fold}
use Rattle.bill_chain.specs.Chain.{names_of, destination, transactions_of}
use Rattle.bill_diary.specs.declared.bill_place.BillPlace.{BillPlace}
use Rattle.bill_diary.specs.declared.bill_place.BillPlace.TheVariants.{Absent, Held, Parting, Gone}
use Rattle.bill_diary.specs.Place.{taken_chains, may_act_by, place_of}
use Rattle.closed_family.specs.declared.family.Member.{Member}
use Rattle.closed_family.specs.Chains.{IsAmong, IsPrefix}
use Rattle.closed_family.specs.Closed.{Histories}
use Rattle.closed_family.specs.Family.{HasDistinctNames, IsClosedFamily, IsSignedIn, IsSoundFamily, histories_of}
use Rattle.closed_family.specs.Histories.{is_signed}
use Rattle.closed_family.specs.Longest.{accepted_chains, accepted_on, ends_on, longest_in}
use Rattle.closed_family.specs.Safe.{IsAccepted, IsEnd, IsSafe, StandsWith, front_of, transactions_at}
use Rattle.closed_family.proofs.Chains.{prefix_itself}
use Rattle.closed_family.proofs.Families.{IsFrom, are_closed, found}
use Rattle.closed_family.proofs.Names.{checksum_eq-itself}
use Rattle.closed_family.proofs.Records.{among_either}
use Rattle.bill_lines.specs.Bills.{acting, end_of, further_at, is_forked, is_front, is_same, part_ways, signed_on, title_of}
use Rattle.run_safety.proofs.Longer.{turned_back}

-- ---- items of lists

filtered : {X : Type 0} (test : X → Bool) (xs : List X) (x : X) → IsAmong x (filter test xs)
    → IsAmong x xs × (test x ≡ true)
filtered test [] x among = absurd among
filtered test (y ∷ ys) x among = on_test (test y) refl among (filtered test ys x)
  where
    on_test : (b : Bool) → test y ≡ b → IsAmong x (cond b (y ∷ filter test ys) (filter test ys))
        → (IsAmong x (filter test ys) → IsAmong x ys × (test x ≡ true)) → IsAmong x (y ∷ ys) × (test x ≡ true)
    on_test true passes (inl same) further = (inl same, ap test (sym same) ∙ passes)
    on_test true passes (inr later) further = let both = further later in (inr both.0, both.1)
    on_test false passes later further = let both = further later in (inr both.0, both.1)

from_flat : {X Y : Type 0} (f : X → List Y) (xs : List X) (y : Y) → IsAmong y (flat_map f xs)
    → (x : X) × IsAmong x xs × IsAmong y (f x)
from_flat f [] y among = absurd among
from_flat f (x ∷ xs) y among = on_place (among_either y (f x) (flat_map f xs) among) (from_flat f xs y)
  where
    on_place : IsAmong y (f x) ⊎ IsAmong y (flat_map f xs)
        → (IsAmong y (flat_map f xs) → (z : _) × IsAmong z xs × IsAmong y (f z))
        → (z : _) × IsAmong z (x ∷ xs) × IsAmong y (f z)
    on_place (inl here) further = (x, inl refl, here)
    on_place (inr later) further = let it = further later in (it.0, inr it.1, it.2)

none_passes : {X : Type 0} (test : X → Bool) (xs : List X) → ((x : X) → IsAmong x xs → test x ≡ false)
    → list_any test xs ≡ false
none_passes test [] each = refl
none_passes test (x ∷ xs) each =
    ap (λ (b : Bool). b || list_any test xs) (each x (inl refl)) ∙ none_passes test xs (λ y among. each y (inr among))

find_only : {X : Type 0} (test : X → Bool) (xs : List X) (x : X) → IsAmong x xs → test x ≡ true
    → ((y : X) → test y ≡ true → y ≡ x) → find test xs ≡ Some x
find_only test [] x among passes only = absurd among
find_only test (y ∷ ys) x among passes only = on_test (test y) refl (find_only test ys x)
  where
    behind : test y ≡ false → IsAmong x ys
    behind fails = on_place among
      where
        on_place : (y ≡ x) ⊎ IsAmong x ys → IsAmong x ys
        on_place (inl same) = absurd (let two : true ≡ false = sym passes ∙ ap test (sym same) ∙ fails in cc two)
        on_place (inr later) = later

    on_test : (b : Bool) → test y ≡ b
        → (IsAmong x ys → test x ≡ true → ((z : _) → test z ≡ true → z ≡ x) → find test ys ≡ Some x)
        → cond b (Some y) (find test ys) ≡ Some x
    on_test true is further = ap Some (only y is)
    on_test false is further = further (behind is) passes only

-- ---- fronts

front_so : (a rest : List ChainLink) → starts_with checksum_eq (names_of (a ++ rest)) (names_of a) ≡ true
front_so [] rest = refl
front_so (x ∷ xs) rest =
    ap (λ (b : Bool). b && starts_with checksum_eq (names_of (xs ++ rest)) (names_of xs)) (checksum_eq-itself x.name)
    ∙ front_so xs rest

prefix_front : (a b : List ChainLink) → IsPrefix a b → is_front a b ≡ true
prefix_front a b p = subst (λ (x : List ChainLink). is_front a x ≡ true) (sym p.parts) (front_so a p.rest)

either_front : (a b : Bool) → (a ≡ true) ⊎ (b ≡ true) → not (a || b) ≡ false
either_front true b h = refl
either_front false true h = refl
either_front false false (inl h) = absurd (let e : false ≡ true = h in cc)
either_front false false (inr h) = absurd (let e : false ≡ true = h in cc)

-- ---- a safe bill

module _ (at : Histories) (safe : IsSafe at) (p : PlatformCode) (signed : is_signed (at p) ≡ true)
    (platforms : List PlatformCode) where
  accepted_is : (c : List ChainLink) → IsAmong c (accepted_chains at platforms) → IsAccepted at c
  accepted_is c (inl none) = inl (sym none, (p, signed))
  accepted_is c (inr later) = on_platform (from_flat (accepted_on at) platforms c later)
    where
      on_end : (q : PlatformCode) (o : Option PlatformCode) → destination c ≡ o
          → option_map_or (λ (to : PlatformCode). code_eq to q) o false ≡ true → destination c ≡ Some q
      on_end q None is ends = absurd (let e : false ≡ true = ends in cc)
      on_end q (Some to) is ends = is ∙ ap Some ((code_eq-Decides to q).0 ends)

      on_platform : (q : PlatformCode) × IsAmong q platforms × IsAmong c (accepted_on at q) → IsAccepted at c
      on_platform (q, listed, there) =
          let both = filtered (ends_on q) (reverse (taken_chains (at q))) c there in
          inr (q, on_end q (destination c) refl both.1, turned_back c (taken_chains (at q)) both.0)

  one_front : (c d : List ChainLink) → IsPrefix c d ⊎ IsPrefix d c → (is_front c d ≡ true) ⊎ (is_front d c ≡ true)
  one_front c d (inl before) = inl (prefix_front c d before)
  one_front c d (inr behind) = inr (prefix_front d c behind)

  -- no two accepted chains part ways
  pub not_forked : is_forked at platforms ≡ false
  not_forked =
      none_passes (λ (c : List ChainLink). list_any (part_ways c) (accepted_chains at platforms))
      (accepted_chains at platforms)
      (λ c first. none_passes (part_ways c) (accepted_chains at platforms)
      (λ d second. either_front (is_front c d) (is_front d c)
      (one_front c d (safe.no_fork c d (accepted_is c first) (accepted_is d second)))))

  -- whoever may act is at the end
  pub acts_at_end : (q : PlatformCode) → IsAmong q (acting at platforms) → q ≡ safe.end
  acts_at_end q among = safe.acts_there_alone q (filtered (λ (x : PlatformCode). may_act_by (at x)) platforms q among).1

-- ---- a family

abbrev platforms_of : List Member → List PlatformCode
platforms_of family = map (λ (m : Member). m.platform) family

platform_among : (ms : List Member) (m : Member) → IsAmong m ms → IsAmong m.platform (platforms_of ms)
platform_among [] m among = absurd among
platform_among (x ∷ xs) m (inl same) = inl (ap (λ (y : Member). y.platform) same)
platform_among (x ∷ xs) m (inr later) = inr (platform_among xs m later)

signed_listed : (family : List Member) (bill : Checksum) (p : PlatformCode)
    → is_signed (histories_of bill family p) ≡ true → IsAmong p (platforms_of family)
signed_listed family bill p signed = on_found (found bill family p)
  where
    on_found : (histories_of bill family p ≡ []) ⊎ ((m : Member) × IsFrom bill family p m)
        → IsAmong p (platforms_of family)
    on_found (inl none) = absurd (let two = sym (ap is_signed none) ∙ signed in cc two)
    on_found (inr (m, from)) =
        subst (λ (q : PlatformCode). IsAmong q (platforms_of family)) from.platform
        (platform_among family m from.listed)

-- the end of a bill line is that of the safe bill
pub end_is : (family : List Member) → IsSoundFamily family → IsClosedFamily family → HasDistinctNames family
    → (bill : Checksum) (safe : IsSafe (histories_of bill family)) → safe.line ≡ longest_in family bill
    → end_of (histories_of bill family) (platforms_of family) ≡ Some safe.end
end_is family sound closed distinct bill safe line =
    ap (λ (c : List ChainLink). option_or (destination c) (signed_on (histories_of bill family) (platforms_of family)))
    (sym line)
    ∙ on_end safe.is_end
  where
    on_end : IsEnd (histories_of bill family) safe.line safe.end
        → option_or (destination safe.line) (signed_on (histories_of bill family) (platforms_of family)) ≡ Some safe.end
    on_end (inr goes) =
        ap (λ (o : Option PlatformCode). option_or o (signed_on (histories_of bill family) (platforms_of family))) goes
    on_end (inl (none, by)) =
        ap (λ (c : List ChainLink). option_or (destination c) (signed_on (histories_of bill family) (platforms_of family)))
        none
        ∙ find_only (λ (q : PlatformCode). is_signed (histories_of bill family q)) (platforms_of family) safe.end
        (signed_listed family bill safe.end by) by
        (λ q is. (are_closed family sound distinct bill closed).signed_on_one q safe.end is by)

-- whoever may act is at that end
pub acts_in : (family : List Member) → IsSoundFamily family → IsClosedFamily family → HasDistinctNames family
    → (bill : Checksum) (safe : IsSafe (histories_of bill family)) → safe.line ≡ longest_in family bill
    → (signed : IsSignedIn family bill) (platforms : List PlatformCode) (p : PlatformCode)
    → IsAmong p (acting (histories_of bill family) platforms)
    → end_of (histories_of bill family) (platforms_of family) ≡ Some p
acts_in family sound closed distinct bill safe line signed platforms p among =
    end_is family sound closed distinct bill safe line
    ∙ ap Some (sym (acts_at_end (histories_of bill family) safe signed.0 signed.1 platforms p among))

-- ---- the title

same_itself : (c : List ChainLink) → is_same c c ≡ true
same_itself c = let front = prefix_front c c (prefix_itself c) in rw front refl

-- what a bill line folds is what the safe bill has where it ends
further_is : (line : List ChainLink) (place : BillPlace) → StandsWith line place
    → transactions_of line ++ further_at line place ≡ transactions_at place
further_is line Absent stands = absurd stands
further_is line (Held known since) stands =
    subst (λ (c : List ChainLink). transactions_of c ++ further_at c (Held known since) ≡ transactions_of known ++ since)
    stands
    (ap (λ (b : Bool). transactions_of known ++ cond b since []) (same_itself known))
further_is line (Parting known link) stands =
    subst (λ (c : List ChainLink). transactions_of c ++ further_at c (Parting known link)
    ≡ transactions_of known ++ front_of link.entry.transactions) stands
    (ap (λ (b : Bool). transactions_of known ++ cond b (front_of link.entry.transactions) []) (same_itself known))
further_is line (Gone known) stands = absurd stands

-- the title by these transactions
abbrev titled : List Transaction → Option Title
titled ts = unwrap_or (result_ok (fold ts)) None

-- the title of a bill line is that of the safe bill
pub title_is : (family : List Member) → IsSoundFamily family → IsClosedFamily family → HasDistinctNames family
    → (bill : Checksum) (safe : IsSafe (histories_of bill family)) → safe.line ≡ longest_in family bill
    → title_of (histories_of bill family) (platforms_of family) ≡ Some safe.title_there.title
title_is family sound closed distinct bill safe line =
    ap (λ (c : List ChainLink). titled (transactions_of c ++ further_at c
    (place_of (option_map_or (histories_of bill family) (end_of (histories_of bill family) (platforms_of family)) []))))
    (sym line)
    ∙ ap (λ (o : Option PlatformCode). titled (transactions_of safe.line ++ further_at safe.line
    (place_of (option_map_or (histories_of bill family) o []))))
    (end_is family sound closed distinct bill safe line)
    ∙ ap titled (further_is safe.line (place_of (histories_of bill family safe.end)) safe.stands_there)
    ∙ ap (λ (f : Folded). unwrap_or (result_ok f) None) safe.title_there.folds
