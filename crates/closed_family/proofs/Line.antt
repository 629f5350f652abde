-- The accepted chains of a bill: each front of one is accepted, and they are fronts of one line.
use Rattle.std.proofs.Common.{◌≡◌, true, List, [], ◌∷◌, ◌++◌, refl, sym, ap, subst, ◌∙◌, inl, inr}
use Rattle.std.specs.Prelude.{◌⊎◌}
use Rattle.ebl_base.specs.declared.chain.ChainLink.{ChainLink}
use Rattle.ebl_base.specs.declared.platform_code.PlatformCode.{PlatformCode}
use Rattle.bill_chain.specs.Chain.{destination}
use Rattle.bill_diary.specs.Place.{taken_chains, is_regained}
use Rattle.bill_diary.specs.Receiving.{is_declined}
use Rattle.bill_diary.specs.Sound.{IsSoundHistory}
use Rattle.closed_family.specs.Chains.{IsAmong, IsPrefix, AreAmong, NamesDetermineLinks}
use Rattle.closed_family.specs.Histories.{PartedOn, links_of, is_signed}
use Rattle.closed_family.specs.Closed.{Histories, AreParted, IsCorroborated}
use Rattle.closed_family.specs.Safe.{IsAccepted}
use Rattle.closed_family.proofs.Names.{not_both}
use Rattle.closed_family.proofs.Chains.{not_empty, prefix_trans, empty_prefix, push_prefix, GoesOn, prefix_or_more, prefix_of_push}
use Rattle.closed_family.proofs.Linked.{IsLinked, empty, one_more, linked_front, among_front, prefix_of_none}
use Rattle.closed_family.proofs.Standing.{CameBy, HasLeft, Stands, StandsBy, StandsHeld, StandsParting, StandsGone, attempts}
use Rattle.closed_family.proofs.Parted.{AreReceived, IsOurs, one_front}
use Rattle.closed_family.proofs.History.{stands_so, one_regained, taken_by_chain, chain_was_taken, taken_not_declined, are_received}
use Rattle.closed_family.proofs.Backed.{chain_parted, settled_was_taken, regained_was_declined, parted_on}

-- sound histories of one bill, closed, whose links have distinct names, and which was signed on one platform alone
pub record AreClosed (links : List ChainLink) (at : Histories) : Type 0 where
  pub named : NamesDetermineLinks links
  pub sound : (p : PlatformCode) → IsSoundHistory p (at p)
  pub among : (p : PlatformCode) → AreAmong (links_of (at p)) links
  pub backed : (p : PlatformCode) → IsCorroborated at (at p)
  pub signed_on_one : (p q : PlatformCode) → is_signed (at p) ≡ true → is_signed (at q) ≡ true → p ≡ q

-- a chain each of whose entries was parted on its platform
pub record IsGrounded (links : List ChainLink) (at : Histories) (chain : List ChainLink) : Type 0 where
  pub ours : IsOurs links chain
  pub parted : AreParted at chain

parted_front : (at : Histories) (a b : List ChainLink) → AreParted at (a ++ b) → AreParted at a
parted_front at [] b p = tt
parted_front at (x ∷ xs) b p = (p.0, parted_front at xs b p.1)

parted_rest : (at : Histories) (a b : List ChainLink) → AreParted at (a ++ b) → AreParted at b
parted_rest at [] b p = p
parted_rest at (x ∷ xs) b p = parted_rest at xs b p.1

module _ (links : List ChainLink) (at : Histories) (F : AreClosed links at) where
  pub stands_at : (p : PlatformCode) → Stands links p (at p)
  stands_at p = stands_so links p F.named (at p) (F.sound p) (F.among p)

  pub received_at : (p : PlatformCode) → AreReceived links p (taken_chains (at p))
  received_at p = are_received links p (at p) (record { named = F.named; sound = F.sound p; among = F.among p })

  -- what is said of an entry that parted on a platform
  pub left_at : (p : PlatformCode) (K : List ChainLink) (e : ChainLink) → PartedOn K e (at p)
      → HasLeft links p (is_signed (at p)) (taken_chains (at p)) (attempts (at p)) K e
  left_at p K e parted = on_stand (stands_at p)
    where
      on_stand : Stands links p (at p) → HasLeft links p (is_signed (at p)) (taken_chains (at p)) (attempts (at p)) K e
      on_stand (inl u) = absurd (u.none_left K e parted)
      on_stand (inr s) = s.1.left K e parted

  -- a chain by which the bill came to a platform was accepted
  pub came_accepted : (p : PlatformCode) (K : List ChainLink) → CameBy (is_signed (at p)) (taken_chains (at p)) K
      → IsAccepted at K
  came_accepted p K (inl (none, signed)) = inl (none, (p, signed))
  came_accepted p K (inr among) = inr (p, ((received_at p).each K among).here, among)

  -- and came to no other
  pub came_to_one : (p q : PlatformCode) (K : List ChainLink)
      → CameBy (is_signed (at p)) (taken_chains (at p)) K → CameBy (is_signed (at q)) (taken_chains (at q)) K
      → p ≡ q
  came_to_one p q K (inl (none, ps)) (inl (also, qs)) = F.signed_on_one p q ps qs
  came_to_one p q K (inl (none, ps)) (inr qk) =
      let here = ((received_at q).each K qk).here in
      let two = sym (ap destination none) ∙ here in
      cc two
  came_to_one p q K (inr pk) (inl (none, qs)) =
      let here = ((received_at p).each K pk).here in
      let two = sym (ap destination none) ∙ here in
      cc two
  came_to_one p q K (inr pk) (inr qk) =
      let two = sym ((received_at p).each K pk).here ∙ ((received_at q).each K qk).here in
      cc two

  -- ---- accepted chains are grounded, and so are their fronts

  pub taken_grounded : (p : PlatformCode) (c : List ChainLink) → IsAmong c (taken_chains (at p)) → IsGrounded links at c
  taken_grounded p c among =
      let r = (received_at p).each c among in
      record {
        ours = record { linked = r.linked; among = r.among };
        parted = chain_parted at p (at p) (F.sound p) (F.backed p) c among;
      }

  pub accepted_grounded : (c : List ChainLink) → IsAccepted at c → IsGrounded links at c
  accepted_grounded c (inl (none, signed)) =
      subst (IsGrounded links at) (sym none) (record { ours = record { linked = empty; among = tt }; parted = tt })
  accepted_grounded c (inr (p, ends, among)) = taken_grounded p c among

  -- what a grounded chain says of its last entry and its front
  pub record Down (K : List ChainLink) (e : ChainLink) : Type 0 where
    pub parted : PartedOn K e (at e.entry.platform)
    pub came : CameBy (is_signed (at e.entry.platform)) (taken_chains (at e.entry.platform)) K
    pub accepted : IsAccepted at K
    pub front : IsGrounded links at K

  pub grounded_down : (K : List ChainLink) (e : ChainLink) → IsGrounded links at (K ++ e ∷ []) → Down K e
  grounded_down K e g =
      let p = e.entry.platform in
      let s = parted_on links p (at p) F.named (F.sound p) (F.among p) e.name
      (parted_rest at K (e ∷ []) g.parted).0 in
      let left = left_at p s.before s.entry s.parted in
      let one = one_front links p (is_signed (at p)) (taken_chains (at p)) (attempts (at p)) s.before s.entry K e
      F.named (received_at p) left g.ours s.named in
      let parted : PartedOn K e (at p)
      = subst (λ (J : List ChainLink). PartedOn J e (at p)) one.0
      (subst (λ (f : ChainLink). PartedOn s.before f (at p)) one.1 s.parted) in
      let came : CameBy (is_signed (at p)) (taken_chains (at p)) K
      = subst (CameBy (is_signed (at p)) (taken_chains (at p))) one.0 left.came in
      let linked = linked_front K e g.ours.linked in
      record {
        parted = parted;
        came = came;
        accepted = came_accepted p K came;
        front = record {
          ours = record { linked = linked.front; among = among_front K (e ∷ []) links g.ours.among };
          parted = parted_front at K (e ∷ []) g.parted;
        };
      }

  -- each front of an accepted chain is accepted
  fronts : (d : List ChainLink) → IsLinked d → IsAccepted at d → (J : List ChainLink) → IsPrefix J d → IsAccepted at J
  fronts d empty accepted J p = subst (IsAccepted at) (sym (prefix_of_none J p)) accepted
  fronts d (one_more {K = K} linked e previous) accepted J p =
      on_front (prefix_of_push J K e p)
      (fronts K linked (grounded_down K e (accepted_grounded (K ++ e ∷ []) accepted)).accepted J)
    where
      on_front : (J ≡ K ++ e ∷ []) ⊎ IsPrefix J K → (IsPrefix J K → IsAccepted at J) → IsAccepted at J
      on_front (inl same) further = subst (IsAccepted at) (sym same) accepted
      on_front (inr shorter) further = further shorter

  pub front_accepted : (d J : List ChainLink) → IsAccepted at d → IsPrefix J d → IsAccepted at J
  front_accepted d J accepted p = fronts d (accepted_grounded d accepted).ours.linked accepted J p

  -- ---- what another platform answered is true

  -- a known chain was accepted
  pub known_accepted : (p : PlatformCode) (K : List ChainLink) → StandsBy links p (at p) K → IsAccepted at K
  known_accepted p K b = on_stand b.stands
    where
      on_stand : StandsHeld p (at p) K ⊎ StandsParting p (at p) K ⊎ StandsGone (at p) K → IsAccepted at K
      on_stand (inl held) = came_accepted p K held.came
      on_stand (inr (inl parts)) = came_accepted p K parts.came
      on_stand (inr (inr gone)) =
          let w = settled_was_taken links at p (at p) F.named (F.sound p) (F.among p)
          (F.backed p) gone.entry.name gone.settled in
          let t = taken_by_chain links w.to (at w.to) (F.sound w.to) (F.among w.to) gone.entry.name w.there in
          let r = (received_at w.to).each (t.front ++ t.last ∷ []) t.chain in
          let one = one_front links p (is_signed (at p)) (taken_chains (at p)) (attempts (at p))
          gone.front gone.entry t.front t.last F.named (received_at p)
          (left_at p gone.front gone.entry gone.parted)
          (record { linked = r.linked; among = r.among }) (sym t.named) in
          let same : t.front ++ t.last ∷ [] ≡ K
          = ap (λ (x : List ChainLink). x ++ t.last ∷ []) (sym one.0)
          ∙ ap (λ (x : ChainLink). gone.front ++ x ∷ []) (sym one.1) ∙ sym gone.parts in
          came_accepted w.to K (inr (subst (λ (x : List ChainLink). IsAmong x (taken_chains (at w.to))) same t.chain))

  -- an entry whose chain was accepted wasn't regained
  pub accepted_not_regained : (K : List ChainLink) (e : ChainLink) (p : PlatformCode)
      → e.entry.platform ≡ p
      → IsAccepted at (K ++ e ∷ []) → is_regained e.name (at p) ≡ true → ⊥
  accepted_not_regained K e p at_p (inl (none, signed)) regained = not_empty K e none
  accepted_not_regained K e p at_p (inr (q, ends, among)) regained =
      let w = regained_was_declined links at p (at p) F.named (F.sound p) (F.among p) (F.backed p) e.name regained in
      let r = (received_at q).each (K ++ e ∷ []) among in
      let one = one_front links p (is_signed (at p)) (taken_chains (at p)) (attempts (at p))
      w.before w.entry K e F.named (received_at p)
      (left_at p w.before w.entry w.parted) (record { linked = r.linked; among = r.among }) w.named in
      let same : w.before ++ w.entry ∷ [] ≡ K ++ e ∷ []
      = ap (λ (x : List ChainLink). x ++ w.entry ∷ []) one.0 ∙ ap (λ (x : ChainLink). K ++ x ∷ []) one.1 in
      let two = sym w.goes ∙ ap destination same ∙ ends in
      let to : w.to ≡ q = cc two in
      let declined : is_declined e.name (at q) ≡ true
      = subst (λ (x : PlatformCode). is_declined e.name (at x) ≡ true) to w.there in
      let taken = chain_was_taken links q (at q) (F.sound q) (F.among q) K e among in
      not_both declined (taken_not_declined links q (at q) (F.sound q) (F.among q) e.name taken)

  -- of two entries that parted on one chain on one platform, one chain alone was accepted
  pub one_continuation : (K : List ChainLink) (e f : ChainLink) (p : PlatformCode)
      → e.entry.platform ≡ p → f.entry.platform ≡ p
      → PartedOn K e (at p) → PartedOn K f (at p)
      → IsAccepted at (K ++ e ∷ []) → IsAccepted at (K ++ f ∷ [])
      → e ≡ f
  one_continuation K e f p ep fp pe pf ae af =
      on_cases (one_regained links p (at p) F.named (F.sound p) (F.among p) K e f pe pf)
    where
      on_cases : (e ≡ f) ⊎ (is_regained e.name (at p) ≡ true) ⊎ (is_regained f.name (at p) ≡ true) → e ≡ f
      on_cases (inl same) = same
      on_cases (inr (inl r)) = absurd (accepted_not_regained K e p ep ae r)
      on_cases (inr (inr r)) = absurd (accepted_not_regained K f p fp af r)

  -- ---- one line

  -- the next entry of an accepted chain parted on the front where the bill stood
  pub next_down : (K : List ChainLink) (f : ChainLink) (d : List ChainLink)
      → IsAccepted at d → IsPrefix (K ++ f ∷ []) d → Down K f
  next_down K f d accepted p =
      grounded_down K f (accepted_grounded (K ++ f ∷ []) (front_accepted d (K ++ f ∷ []) accepted p))

  line_on : (c : List ChainLink) → IsLinked c → IsAccepted at c → (d : List ChainLink) → IsAccepted at d
      → IsPrefix c d ⊎ IsPrefix d c
  line_on c empty accepted d also = inl (empty_prefix d)
  line_on c (one_more {K = K} linked e previous) accepted d also =
      on_front (line_on K linked down.accepted d also)
    where
      down : Down K e
      down = grounded_down K e (accepted_grounded (K ++ e ∷ []) accepted)

      on_more : (K ≡ d) ⊎ GoesOn K d → IsPrefix (K ++ e ∷ []) d ⊎ IsPrefix d (K ++ e ∷ [])
      on_more (inl same) = inr (subst (λ (x : List ChainLink). IsPrefix x (K ++ e ∷ [])) same (push_prefix K e))
      on_more (inr more) =
          let f = more.next in
          let next = next_down K f d also more.further in
          let here : f.entry.platform ≡ e.entry.platform = came_to_one f.entry.platform e.entry.platform K next.came
          down.came in
          let same : f ≡ e = one_continuation K f e e.entry.platform here refl
          (subst (λ (p : PlatformCode). PartedOn K f (at p)) here next.parted) down.parted
          (front_accepted d (K ++ f ∷ []) also more.further) accepted in
          inl (subst (λ (x : ChainLink). IsPrefix (K ++ x ∷ []) d) same more.further)

      on_front : IsPrefix K d ⊎ IsPrefix d K → IsPrefix (K ++ e ∷ []) d ⊎ IsPrefix d (K ++ e ∷ [])
      on_front (inl before) = on_more (prefix_or_more K d before)
      on_front (inr beyond) = inr (prefix_trans d K (K ++ e ∷ []) beyond (push_prefix K e))

  -- of two accepted chains one is a prefix of the other
  pub no_fork : (c d : List ChainLink) → IsAccepted at c → IsAccepted at d → IsPrefix c d ⊎ IsPrefix d c
  no_fork c d accepted also = line_on c (accepted_grounded c accepted).ours.linked accepted d also
