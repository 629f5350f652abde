-- Entries that parted here: what their names tell.
use Rattle.std.proofs.Common.{◌≡◌, ℕ, ◌+◌, Bool, false, List, [], ◌∷◌, ◌++◌, length, sym, ap, subst, ◌∙◌, inl, inr, arith}
use Rattle.std.specs.Prelude.{◌⊎◌, Some}
use Rattle.std.specs.List.{list_any}
use Rattle.ebl_base.specs.declared.chain.ChainLink.{ChainLink}
use Rattle.ebl_base.specs.declared.platform_code.PlatformCode.{PlatformCode}
use Rattle.bill_chain.specs.Chain.{last_name, has_entry, destination}
use Rattle.bill_diary.specs.declared.record.Record.{Record}
use Rattle.bill_diary.specs.Place.{is_left, is_over, is_settled, is_regained, taken_chains}
use Rattle.closed_family.specs.Chains.{IsAmong, AreAmong, NamesDetermineLinks}
use Rattle.closed_family.specs.Histories.{is_signed, PartedOn}
use Rattle.closed_family.proofs.Names.{false_unless, none_of_three, Passes, passing_item}
use Rattle.closed_family.proofs.Chains.{HasLast, from_the_end, prefix_length, push_length, prefix_trans}
use Rattle.closed_family.proofs.Linked.{IsLinked, linked_front, linked_same, linked_prefix, among_front, among_last, prefix_among, HasEntry, entry_of_chain}
use Rattle.closed_family.proofs.Places.{left_push}
use Rattle.closed_family.proofs.Received.{IsReceived}
use Rattle.closed_family.proofs.Standing.{CameBy, HasLeft, SomeParted, StandsBy, attempts}

-- each of the taken chains was received
pub record AreReceived (links : List ChainLink) (me : PlatformCode) (taken : List (List ChainLink)) : Type 0 where
  pub each : (c : List ChainLink) → IsAmong c taken → IsReceived links me c

-- a linked chain of known links
pub record IsOurs (links : List ChainLink) (chain : List ChainLink) : Type 0 where
  pub linked : IsLinked chain
  pub among : AreAmong chain links

-- a chain by which a bill came is linked
pub came_ours : (links : List ChainLink) (me : PlatformCode) (signed : Bool) (taken : List (List ChainLink))
    (K : List ChainLink)
    → AreReceived links me taken → CameBy signed taken K → IsOurs links K
came_ours links me signed taken K received (inl (none, s)) =
    subst (IsOurs links) (sym none) (record { linked = IsLinked.empty; among = tt })
came_ours links me signed taken K received (inr k) =
    let r = received.each K k in
    record { linked = r.linked; among = r.among }

-- the name of an entry that parted fixes its front
pub one_front : (links : List ChainLink) (me : PlatformCode) (signed : Bool) (taken : List (List ChainLink)) (count : ℕ)
    → (J : List ChainLink) (f : ChainLink) (K : List ChainLink) (e : ChainLink)
    → NamesDetermineLinks links → AreReceived links me taken
    → HasLeft links me signed taken count J f
    → IsOurs links (K ++ e ∷ [])
    → f.name ≡ e.name
    → (J ≡ K) × (f ≡ e)
one_front links me signed taken count J f K e named received left ours names =
    let one : f ≡ e = named.same f e left.among (among_last K e links ours.among) names in
    let front = linked_front K e ours.linked in
    let mine = came_ours links me signed taken J received left.came in
    let before : last_name J ≡ last_name K
    = sym left.previous ∙ ap (λ (x : ChainLink). x.entry.previous) one ∙ front.previous in (
      linked_same links named J K mine.linked front.front mine.among
          (among_front K (e ∷ []) links ours.among) before,
      one,
    )

-- a chain that ends here isn't left
pub not_left : (links : List ChainLink) (me : PlatformCode) (h : List Record) (K : List ChainLink)
    → NamesDetermineLinks links → AreReceived links me (taken_chains h)
    → StandsBy links me h K
    → (c : List ChainLink) → IsReceived links me c
    → is_left c h ≡ false
not_left links me h K named received stands c r = on_end (from_the_end c)
  where
    settled_there : (front : List ChainLink) (e : ChainLink) → c ≡ front ++ e ∷ []
        → SomeParted e.name (λ (J : List ChainLink) (f : ChainLink). PartedOn J f h) → ⊥
    settled_there front e parts s =
        let left = stands.left s.before s.entry s.parted in
        let ours : IsOurs links (front ++ e ∷ [])
        = subst (IsOurs links) parts (record { linked = r.linked; among = r.among }) in
        let one = one_front links me (is_signed h) (taken_chains h) (attempts h) s.before s.entry front e
        named received left ours s.named in
        let whole : s.before ++ s.entry ∷ [] ≡ c
        = ap (λ (x : List ChainLink). x ++ s.entry ∷ []) one.0 ∙ ap (λ (x : ChainLink). front ++ x ∷ []) one.1
        ∙ sym parts in
        let there : Some left.to ≡ Some me = sym left.goes ∙ ap destination whole ∙ r.here in
        left.away (cc there)

    on_end : (c ≡ []) ⊎ HasLast c → is_left c h ≡ false
    on_end (inl none) = ap (λ (x : List ChainLink). is_left x h) none
    on_end (inr l) =
        ap (λ (x : List ChainLink). is_left x h) l.parts ∙ left_push l.front l.last h
        ∙ false_unless (is_settled l.last.name h)
        (λ yes_it_is. settled_there l.front l.last l.parts (stands.settled l.last.name yes_it_is))

-- an attempt later than all before: no entry of this name parted here
pub fresh : (links : List ChainLink) (me : PlatformCode) (h : List Record) (K : List ChainLink)
    → NamesDetermineLinks links → StandsBy links me h K
    → (e : ChainLink) → IsAmong e links → e.entry.attempt ≡ attempts h + 1
    → SomeParted e.name (λ (J : List ChainLink) (f : ChainLink). PartedOn J f h) → ⊥
fresh links me h K named stands e among attempt s =
    let left = stands.left s.before s.entry s.parted in
    let one : s.entry ≡ e = named.same s.entry e left.among among s.named in
    let same : s.entry.entry.attempt ≡ e.entry.attempt = ap (λ (x : ChainLink). x.entry.attempt) one in
    let most = left.attempt in
    omega arith

-- a new entry is in no chain that was taken
not_along : (links : List ChainLink) (me : PlatformCode) (h : List Record) (K : List ChainLink)
    → NamesDetermineLinks links → AreReceived links me (taken_chains h) → StandsBy links me h K
    → CameBy (is_signed h) (taken_chains h) K
    → (e : ChainLink) → IsAmong e links → e.entry.previous ≡ last_name K
    → Passes (has_entry e.name) (taken_chains h) → ⊥
not_along links me h K named received stands came e among previous p =
    let r = received.each p.item p.among in
    let at : HasEntry e.name p.item = entry_of_chain e.name p.item p.passes in
    let on_way = prefix_among (at.front ++ at.link ∷ []) p.item links at.there r.among in
    let linked = linked_prefix (at.front ++ at.link ∷ []) p.item r.linked at.there in
    let one : at.link ≡ e = named.same at.link e (among_last at.front at.link links on_way) among at.named in
    let front = linked_front at.front at.link linked in
    let mine = came_ours links me (is_signed h) (taken_chains h) K received came in
    let before : last_name K ≡ last_name at.front
    = sym previous ∙ ap (λ (x : ChainLink). x.entry.previous) (sym one) ∙ front.previous in
    let fronts : K ≡ at.front = linked_same links named K at.front mine.linked front.front mine.among
    (among_front at.front (at.link ∷ []) links on_way) before in
    let longer = prefix_length (at.front ++ at.link ∷ []) K
    (prefix_trans (at.front ++ at.link ∷ []) p.item K at.there (stands.taken_under p.item p.among)) in
    let more = push_length at.front at.link in
    let equal : length K ≡ length at.front = ap length fronts in
    omega arith

-- the parting of a new entry isn't over
pub not_over : (links : List ChainLink) (me : PlatformCode) (h : List Record) (K : List ChainLink)
    → NamesDetermineLinks links → AreReceived links me (taken_chains h) → StandsBy links me h K
    → CameBy (is_signed h) (taken_chains h) K
    → (e : ChainLink) → IsAmong e links → e.entry.previous ≡ last_name K → e.entry.attempt ≡ attempts h + 1
    → is_over e.name h ≡ false
not_over links me h K named received stands came e among previous attempt =
    none_of_three (is_settled e.name h) (is_regained e.name h) (list_any (has_entry e.name) (taken_chains h))
    (false_unless (is_settled e.name h)
    (λ yes_it_is. fresh links me h K named stands e among attempt (stands.settled e.name yes_it_is)))
    (false_unless (is_regained e.name h)
    (λ yes_it_is. fresh links me h K named stands e among attempt (stands.regained e.name yes_it_is)))
    (false_unless (list_any (has_entry e.name) (taken_chains h))
    (λ yes_it_is. not_along links me h K named received stands came e among previous
    (passing_item (has_entry e.name) (taken_chains h) yes_it_is)))
