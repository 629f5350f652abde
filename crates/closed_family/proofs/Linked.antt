-- Linked chains: each entry names the one before it, so that the name of the last entry fixes the whole chain.
use Rattle.std.proofs.Common.{◌≡◌, ◌<◌, true, false, List, [], ◌∷◌, ◌++◌, length, refl, sym, ap, subst, ◌∙◌, inl, inr}
use Rattle.std.specs.Prelude.{◌⊎◌, Some, None, nat_lt}
use Rattle.std.specs.List.{starts_with}
use Rattle.std.proofs.lemmas.List.{append_assoc}
use Rattle.ebl_base.specs.Checksum.{checksum_eq}
use Rattle.ebl_base.specs.declared.checksum.Checksum.{Checksum}
use Rattle.ebl_base.specs.declared.chain.ChainLink.{ChainLink}
use Rattle.bill_chain.specs.Chain.{last_name, names_of, has_entry, ends_in, goes_beyond, FollowEachOther, IsChainOfBill}
use Rattle.closed_family.specs.Chains.{IsAmong, IsPrefix, AreAmong, NamesDetermineLinks}
use borrow.Author.Tests.{ltb-true}
use Rattle.closed_family.proofs.Names.{checksum_eq-same, checksum_eq-itself, or_cases, or_left, or_right, and_both}
use Rattle.closed_family.proofs.Chains.{HasLast, from_the_end, last_of-push, last_name-push, not_empty, push_injective, append-none, prefix_of_push, empty_prefix}

-- each entry names the one before it
pub data IsLinked : List ChainLink → Type 0 where
  empty : IsLinked []
  one_more : {K : List ChainLink} → IsLinked K → (e : ChainLink) → e.entry.previous ≡ last_name K
      → IsLinked (K ++ e ∷ [])

-- ---- linked chains and their fronts

linked_after : (bill : Checksum) (front rest : List ChainLink)
    → IsLinked front → FollowEachOther bill front rest → IsLinked (front ++ rest)
linked_after bill front [] linked follow = subst IsLinked (sym (append-none front)) linked
linked_after bill front (e ∷ rest) linked follow =
    subst IsLinked (append_assoc front (e ∷ []) rest)
    (linked_after bill (front ++ e ∷ []) rest (one_more linked e follow.0.previous) follow.1)

-- a good chain is linked
pub good_is_linked : (bill : Checksum) (chain : List ChainLink) → IsChainOfBill bill chain → IsLinked chain
good_is_linked bill chain good = linked_after bill [] chain empty good

-- the front of a linked chain is linked, and the last entry names the front's last one
pub record LinkedFront (K : List ChainLink) (e : ChainLink) : Type 0 where
  pub front : IsLinked K
  pub previous : e.entry.previous ≡ last_name K

front_at : (c K : List ChainLink) (e : ChainLink) → IsLinked c → c ≡ K ++ e ∷ [] → LinkedFront K e
front_at c K e empty same = absurd (not_empty K e (sym same))
front_at c K e (one_more {K = J} linked f previous) same =
    let both = push_injective J K f e same in
    record {
      front = subst IsLinked both.0 linked;
      previous =
          sym (ap (λ (x : ChainLink). x.entry.previous) both.1) ∙ previous ∙ ap last_name both.0;
    }

pub linked_front : (K : List ChainLink) (e : ChainLink) → IsLinked (K ++ e ∷ []) → LinkedFront K e
linked_front K e linked = front_at (K ++ e ∷ []) K e linked refl

-- ---- chains among links

pub among_front : (a b links : List ChainLink) → AreAmong (a ++ b) links → AreAmong a links
among_front [] b links among = tt
among_front (x ∷ xs) b links among = (among.0, among_front xs b links among.1)

pub among_rest : (a b links : List ChainLink) → AreAmong (a ++ b) links → AreAmong b links
among_rest [] b links among = among
among_rest (x ∷ xs) b links among = among_rest xs b links among.1

pub among_last : (a : List ChainLink) (e : ChainLink) (links : List ChainLink) → AreAmong (a ++ e ∷ []) links
    → IsAmong e links
among_last a e links among = (among_rest a (e ∷ []) links among).0

pub among_append : (a b links : List ChainLink) → AreAmong a links → AreAmong b links → AreAmong (a ++ b) links
among_append [] b links p q = q
among_append (x ∷ xs) b links p q = (p.0, among_append xs b links p.1 q)

pub prefix_among : (a b links : List ChainLink) → IsPrefix a b → AreAmong b links → AreAmong a links
prefix_among a b links p among =
    among_front a p.rest links (subst (λ (x : List ChainLink). AreAmong x links) p.parts among)

pub among_each : (chain links : List ChainLink) (e : ChainLink) → AreAmong chain links → IsAmong e chain
    → IsAmong e links
among_each [] links e among h = absurd h
among_each (x ∷ xs) links e among (inl same) = subst (λ (y : ChainLink). IsAmong y links) same among.0
among_each (x ∷ xs) links e among (inr h) = among_each xs links e among.1 h

-- ---- the name of the last entry fixes a linked chain

none_is_not : {n : Checksum} → None ≡ Some n → ⊥
none_is_not h = cc

some_name : {a b : Checksum} → Some a ≡ Some b → a ≡ b
some_name h = cc

pub linked_same : (links : List ChainLink) → NamesDetermineLinks links → (c d : List ChainLink)
    → IsLinked c → IsLinked d → AreAmong c links → AreAmong d links
    → last_name c ≡ last_name d → c ≡ d
linked_same links named c d empty empty p q same = refl
linked_same links named c d empty (one_more {K = J} linked f previous) p q same =
    absurd (none_is_not (same ∙ last_name-push J f))
linked_same links named c d (one_more {K = K} linked e previous) empty p q same =
    absurd (none_is_not (sym same ∙ last_name-push K e))
linked_same links named c d (one_more {K = K} kinked e eprevious) (one_more {K = J} jinked f fprevious) p q same =
    let names : e.name ≡ f.name = some_name (sym (last_name-push K e) ∙ same ∙ last_name-push J f) in
    let links_same : e ≡ f = named.same e f (among_last K e links p) (among_last J f links q) names in
    let before : last_name K ≡ last_name J
    = sym eprevious ∙ ap (λ (x : ChainLink). x.entry.previous) links_same ∙ fprevious in
    let fronts : K ≡ J = linked_same links named K J kinked jinked
    (among_front K (e ∷ []) links p) (among_front J (f ∷ []) links q) before in
    ap (λ (x : List ChainLink). x ++ e ∷ []) fronts ∙ ap (λ (x : ChainLink). J ++ x ∷ []) links_same

-- ---- prefixes of linked chains

pub prefix_of_none : (a : List ChainLink) → IsPrefix a [] → a ≡ []
prefix_of_none a p = on_front a p.rest p.parts
  where
    on_front : (a rest : List ChainLink) → [] ≡ a ++ rest → a ≡ []
    on_front [] rest e = refl
    on_front (x ∷ xs) rest e = cc

pub linked_prefix : (a b : List ChainLink) → IsLinked b → IsPrefix a b → IsLinked a
linked_prefix a b empty p = subst IsLinked (sym (prefix_of_none a p)) empty
linked_prefix a b (one_more {K = K} linked e previous) p = on_front (prefix_of_push a K e p) (linked_prefix a K linked)
  where
    on_front : (a ≡ K ++ e ∷ []) ⊎ IsPrefix a K → (IsPrefix a K → IsLinked a) → IsLinked a
    on_front (inl same) further = subst IsLinked (sym same) (one_more linked e previous)
    on_front (inr shorter) further = further shorter

-- ---- entries of a chain

-- a chain has an entry of this name, behind a front
pub record HasEntry (name : Checksum) (chain : List ChainLink) : Type 0 where
  pub front : List ChainLink
  pub link : ChainLink
  pub there : IsPrefix (front ++ link ∷ []) chain
  pub named : link.name ≡ name

pub entry_of_chain : (name : Checksum) (chain : List ChainLink) → has_entry name chain ≡ true → HasEntry name chain
entry_of_chain name [] h = cc
entry_of_chain name (x ∷ xs) h = on_first (or_cases (checksum_eq x.name name) (has_entry name xs) h)
    (entry_of_chain name xs)
  where
    on_first : (checksum_eq x.name name ≡ true) ⊎ (has_entry name xs ≡ true)
        → (has_entry name xs ≡ true → HasEntry name xs) → HasEntry name (x ∷ xs)
    on_first (inl first) further = record {
      front = [];
      link = x;
      there = record { rest = xs; parts = refl };
      named = checksum_eq-same x.name name first;
    }
    on_first (inr later) further =
        let l = further later in
        record {
          front = x ∷ l.front;
          link = l.link;
          there = record { rest = l.there.rest; parts = ap (λ (ys : List ChainLink). x ∷ ys) l.there.parts };
          named = l.named;
        }

-- an entry on the way is an entry of the chain
pub has_entry-prefix : (front : List ChainLink) (e : ChainLink) (chain : List ChainLink)
    → IsPrefix (front ++ e ∷ []) chain → has_entry e.name chain ≡ true
has_entry-prefix front e chain p =
    subst (λ (x : List ChainLink). has_entry e.name x ≡ true) (sym p.parts) (on_front front p.rest)
  where
    on_front : (front rest : List ChainLink) → has_entry e.name (front ++ e ∷ [] ++ rest) ≡ true
    on_front [] rest = or_left (checksum_eq e.name e.name) (has_entry e.name rest) (checksum_eq-itself e.name)
    on_front (x ∷ xs) rest = or_right (checksum_eq x.name e.name) (has_entry e.name (xs ++ e ∷ [] ++ rest))
        (on_front xs rest)

-- a chain that ends in this name has a last entry of this name
pub record EndsIn (name : Checksum) (chain : List ChainLink) : Type 0 where
  pub front : List ChainLink
  pub link : ChainLink
  pub parts : chain ≡ front ++ link ∷ []
  pub named : link.name ≡ name

pub ends_in-last : (name : Checksum) (chain : List ChainLink) → ends_in name chain ≡ true → EndsIn name chain
ends_in-last name chain h = on_end (from_the_end chain)
  where
    on_end : (chain ≡ []) ⊎ HasLast chain → EndsIn name chain
    on_end (inl none) = absurd (wrong (subst (λ (c : List ChainLink). ends_in name c ≡ true) none h))
      where
        wrong : false ≡ true → ⊥
        wrong e = cc
    on_end (inr l) =
        let there = subst (λ (c : List ChainLink). ends_in name c ≡ true) l.parts h in
        record {
          front = l.front;
          link = l.last;
          parts = l.parts;
          named = checksum_eq-same l.last.name name (at_last l.front l.last there);
        }
      where
        at_last : (front : List ChainLink) (e : ChainLink) → ends_in name (front ++ e ∷ []) ≡ true
            → checksum_eq e.name name ≡ true
        at_last front e there = rw last_of-push at there

-- ---- going on beyond a chain

pub record GoesBeyond (before chain : List ChainLink) : Type 0 where
  pub prefix : IsPrefix before chain
  pub longer : length before < length chain

named_prefix : (links : List ChainLink) → NamesDetermineLinks links → (before chain : List ChainLink)
    → AreAmong before links → AreAmong chain links
    → starts_with checksum_eq (names_of chain) (names_of before) ≡ true
    → IsPrefix before chain
named_prefix links named [] chain p q h = empty_prefix chain
named_prefix links named (x ∷ xs) [] p q h = cc
named_prefix links named (x ∷ xs) (y ∷ ys) p q h =
    let both = and_both (checksum_eq x.name y.name) (starts_with checksum_eq (names_of ys) (names_of xs)) h in
    let first : x ≡ y = named.same x y p.0 q.0 (checksum_eq-same x.name y.name both.0) in
    let further = named_prefix links named xs ys p.1 q.1 both.1 in
    record { rest = further.rest; parts = cc further.parts }

-- what goes on beyond a chain by the names of the entries, does so
pub beyond : (links : List ChainLink) → NamesDetermineLinks links → (before chain : List ChainLink)
    → AreAmong before links → AreAmong chain links
    → goes_beyond before chain ≡ true
    → GoesBeyond before chain
beyond links named before chain p q h =
    let both = and_both (starts_with checksum_eq (names_of chain) (names_of before))
    (nat_lt (length before) (length chain)) h in
    record {
      prefix = named_prefix links named before chain p q both.0;
      longer = ltb-true (length before) (length chain) both.1;
    }
