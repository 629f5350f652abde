-- The end of a bill's line: there it is held or parting by the whole line, and nowhere else is it held.
use Rattle.std.proofs.Common.{◌≡◌, ◌<◌, Bool, true, false, ◌||◌, ◌&&◌, List, [], ◌∷◌, ◌++◌, length, refl, sym, ap, subst, ◌∙◌, inl, inr, arith}
use Rattle.std.specs.Prelude.{◌⊎◌, Some, nat_lt}
use Rattle.std.specs.List.{list_any, starts_with}
use borrow.Author.Tests.{lt-ltb}
use Rattle.ebl_base.specs.Checksum.{checksum_eq}
use Rattle.ebl_base.specs.declared.chain.ChainLink.{ChainLink}
use Rattle.ebl_base.specs.declared.checksum.Checksum.{Checksum}
use Rattle.ebl_base.specs.declared.platform_code.PlatformCode.{PlatformCode}
use Rattle.ebl_base.specs.declared.transaction.Transaction.{Transaction}
use Rattle.bill_chain.specs.Chain.{destination, transactions_of, has_entry, names_of, goes_beyond}
use Rattle.bill_diary.specs.declared.bill_place.BillPlace.{BillPlace}
use Rattle.bill_diary.specs.declared.bill_place.BillPlace.TheVariants.{Absent, Held, Parting, Gone}
use Rattle.bill_diary.specs.Place.{place_of, may_act_at, parting, since, taken_chains, is_settled, is_regained}
use Rattle.bill_diary.specs.Receiving.{is_taken, is_declined, continues}
use Rattle.closed_family.specs.Chains.{IsAmong, IsPrefix}
use Rattle.closed_family.specs.Histories.{PartedOn, is_signed}
use Rattle.closed_family.specs.Closed.{Histories}
use Rattle.closed_family.specs.Safe.{IsAccepted, IsEnd, StandsWith, IsHeld, front_of, transactions_at, TitleIsOn, IsSafe}
use Rattle.closed_family.proofs.Names.{not_both, or_left, or_right, false_unless, checksum_eq-itself}
use Rattle.closed_family.proofs.Chains.{not_empty, last_name-push, prefix_itself, prefix_both, prefix_length, push_length, prefix_trans, empty_prefix, push_prefix, GoesOn, prefix_or_more}
use Rattle.closed_family.proofs.Linked.{linked_same}
use Rattle.closed_family.proofs.Places.{place_absent, place_held, place_parting, place_gone, IsOpen, parting_is_open}
use Rattle.closed_family.proofs.Standing.{IsOn, CameBy, Fate, was_regained, went_on, is_parting, Stands, StandsBy, StandsHeld, StandsParting, StandsGone, stands_held, gone_is_left, attempts}
use Rattle.closed_family.proofs.Parted.{one_front}
use Rattle.closed_family.proofs.History.{one_regained, taken_by_chain, chain_was_taken}
use Rattle.closed_family.proofs.Backed.{regained_was_declined}
use Rattle.closed_family.proofs.Line.{AreClosed, IsGrounded, stands_at, received_at, left_at, came_to_one, Down, grounded_down, front_accepted, known_accepted, accepted_not_regained, next_down, no_fork}

-- ---- places

-- a bill that is held is so with some chain and some transactions
pub record HeldWith (place : BillPlace) : Type 0 where
  pub known : List ChainLink
  pub made : List Transaction
  pub is : place ≡ Held known made

held_with : (place : BillPlace) → IsHeld place → HeldWith place
held_with Absent h = absurd h
held_with (Held known since) h = record { known = known; made = since; is = refl }
held_with (Parting known entry) h = absurd h
held_with (Gone known) h = absurd h

acting_is_held : (place : BillPlace) → may_act_at place ≡ true → IsHeld place
acting_is_held Absent h = cc
acting_is_held (Held known since) h = tt
acting_is_held (Parting known entry) h = cc
acting_is_held (Gone known) h = cc

front_of-push : (ts : List Transaction) (t : Transaction) → front_of (ts ++ t ∷ []) ≡ ts
front_of-push [] t = refl
front_of-push (u ∷ []) t = refl
front_of-push (u ∷ v ∷ ts) t = ap (λ (xs : List Transaction). u ∷ xs) (front_of-push (v ∷ ts) t)

-- a chain of which another is a longer prefix goes on beyond it
pub starts_so : (a rest : List ChainLink) → starts_with checksum_eq (names_of (a ++ rest)) (names_of a) ≡ true
starts_so [] rest = refl
starts_so (x ∷ xs) rest =
    ap (λ (b : Bool). b && starts_with checksum_eq (names_of (xs ++ rest)) (names_of xs)) (checksum_eq-itself x.name)
    ∙ starts_so xs rest

pub goes_beyond-prefix : (a b : List ChainLink) → IsPrefix a b → length a < length b → goes_beyond a b ≡ true
goes_beyond-prefix a b p longer =
    ap (λ (s : Bool). s && nat_lt (length a) (length b))
    (ap (λ (x : List ChainLink). starts_with checksum_eq (names_of x) (names_of a)) p.parts ∙ starts_so a p.rest)
    ∙ lt-ltb (length a) (length b) longer

module _ (links : List ChainLink) (at : Histories) (F : AreClosed links at) where
  -- an accepted chain under which all others are
  pub record IsTop (L : List ChainLink) : Type 0 where
    pub accepted : IsAccepted at L
    pub above : (c : List ChainLink) → IsAccepted at c → IsPrefix c L

  -- where an accepted chain came to
  pub record CameTo (L : List ChainLink) : Type 0 where
    pub place : PlatformCode
    pub came : CameBy (is_signed (at place)) (taken_chains (at place)) L
    pub is_end : IsEnd at L place

  pub came_to : (L : List ChainLink) → IsAccepted at L → CameTo L
  came_to L (inl (none, (p, signed))) = record { place = p; came = inl (none, signed); is_end = inl (none, signed) }
  came_to L (inr (p, ends, among)) = record { place = p; came = inr among; is_end = inr ends }

  -- the bill is held or parting where the line ends
  pub record AtEnd (L : List ChainLink) (p : PlatformCode) : Type 0 where
    pub by_line : StandsBy links p (at p) L
    pub held_or_parting : StandsHeld p (at p) L ⊎ StandsParting p (at p) L

  pub at_end : (L : List ChainLink) (p : PlatformCode) → IsTop L
      → CameBy (is_signed (at p)) (taken_chains (at p)) L → AtEnd L p
  at_end L p top came = on_stand (stands_at links at F p)
    where
      not_unknown : is_signed (at p) ≡ false → taken_chains (at p) ≡ []
          → CameBy (is_signed (at p)) (taken_chains (at p)) L → ⊥
      not_unknown unsigned none (inl (e, signed)) = not_both signed unsigned
      not_unknown unsigned none (inr among) = subst (IsAmong L) none among

      below : (K : List ChainLink) → StandsBy links p (at p) K → CameBy (is_signed (at p)) (taken_chains (at p)) L
          → IsPrefix L K
      below K b (inl (none, signed)) = subst (λ (x : List ChainLink). IsPrefix x K) (sym none) (empty_prefix K)
      below K b (inr among) = b.taken_under L among

      gone_not : StandsBy links p (at p) L → StandsGone (at p) L → CameBy (is_signed (at p)) (taken_chains (at p)) L → ⊥
      gone_not b gone (inl (none, signed)) = not_empty gone.front gone.entry (sym gone.parts ∙ none)
      gone_not b gone (inr among) =
          let left = b.left gone.front gone.entry gone.parted in
          let two = sym left.goes ∙ ap destination (sym gone.parts) ∙ ((received_at links at F p).each L among).here in
          left.away (cc two)

      by_stand : StandsBy links p (at p) L → StandsHeld p (at p) L ⊎ StandsParting p (at p) L ⊎ StandsGone (at p) L
          → AtEnd L p
      by_stand b (inl held) = record { by_line = b; held_or_parting = inl held }
      by_stand b (inr (inl parts)) = record { by_line = b; held_or_parting = inr parts }
      by_stand b (inr (inr gone)) = absurd (gone_not b gone came)

      on_stand : Stands links p (at p) → AtEnd L p
      on_stand (inl u) = absurd (not_unknown u.unsigned u.none_taken came)
      on_stand (inr s) =
          let same : s.0 ≡ L = prefix_both s.0 L
          (top.above s.0 (known_accepted links at F p s.0 s.1)) (below s.0 s.1 came) in
          let b : StandsBy links p (at p) L = subst (StandsBy links p (at p)) same s.1 in
          by_stand b b.stands

  -- and held nowhere else
  pub held_at_end : (L : List ChainLink) (q : PlatformCode) → IsTop L
      → CameBy (is_signed (at q)) (taken_chains (at q)) L
      → (p : PlatformCode) → IsHeld (place_of (at p)) → p ≡ q
  held_at_end L q top came p held = on_prefix (prefix_or_more K L (top.above K (known_accepted links at F p K there.0)))
    where
      w : HeldWith (place_of (at p))
      w = held_with (place_of (at p)) held

      K : List ChainLink
      K = w.known

      there : StandsBy links p (at p) w.known × StandsHeld p (at p) w.known × (since (at p) ≡ w.made)
      there = stands_held links p (at p) w.known w.made (stands_at links at F p) w.is

      not_so : (f : ChainLink) → f.entry.platform ≡ p → IsAccepted at (w.known ++ f ∷ [])
          → Fate (is_regained f.name (at p)) w.known w.known (parting (at p)) f → ⊥
      not_so f here accepted (was_regained r) = accepted_not_regained links at F w.known f p here accepted r
      not_so f here accepted (went_on l) = omega arith
      not_so f here accepted (is_parting one) = let two = sym there.1.none ∙ one in cc two

      on_prefix : (w.known ≡ L) ⊎ GoesOn w.known L → p ≡ q
      on_prefix (inl same) =
          came_to_one links at F p q L (subst (CameBy (is_signed (at p)) (taken_chains (at p))) same there.1.came) came
      on_prefix (inr more) =
          let f = more.next in
          let next = next_down links at F w.known f L top.accepted more.further in
          let here : f.entry.platform ≡ p = came_to_one links at F f.entry.platform p w.known next.came there.1.came in
          let parted = subst (λ (x : PlatformCode). PartedOn w.known f (at x)) here next.parted in
          absurd (not_so f here (front_accepted links at F L (w.known ++ f ∷ []) top.accepted more.further)
          (there.0.fate w.known f parted))

  -- ---- the title at the end

  title_held : (L : List ChainLink) (p : PlatformCode) → StandsBy links p (at p) L → StandsHeld p (at p) L
      → TitleIsOn p (transactions_at (place_of (at p)))
  title_held L p b held =
      subst (λ (x : BillPlace). TitleIsOn p (transactions_at x))
      (sym (place_held (at p) L b.known_is held.none held.stays))
      (record { title = held.titled.title; folds = held.titled.folds; on = held.titled.on })

  title_parting : (L : List ChainLink) (p : PlatformCode) → StandsBy links p (at p) L → StandsParting p (at p) L
      → TitleIsOn p (transactions_at (place_of (at p)))
  title_parting L p b parts =
      let front : since (at p) ≡ front_of parts.entry.entry.transactions
      = sym (front_of-push (since (at p)) parts.last) ∙ ap front_of (sym parts.transactions) in
      let titled = subst (λ (ts : List Transaction). IsOn p (transactions_of L ++ ts)) front parts.titled in
      subst (λ (x : BillPlace). TitleIsOn p (transactions_at x))
      (sym (place_parting (at p) L parts.entry b.known_is parts.one))
      (record { title = titled.title; folds = titled.folds; on = titled.on })

  title_at_end : (L : List ChainLink) (p : PlatformCode) → AtEnd L p → TitleIsOn p (transactions_at (place_of (at p)))
  title_at_end L p end = on_stand end.held_or_parting
    where
      on_stand : StandsHeld p (at p) L ⊎ StandsParting p (at p) L → TitleIsOn p (transactions_at (place_of (at p)))
      on_stand (inl held) = title_held L p end.by_line held
      on_stand (inr parts) = title_parting L p end.by_line parts

  stands_with_end : (L : List ChainLink) (p : PlatformCode) → AtEnd L p → StandsWith L (place_of (at p))
  stands_with_end L p end = on_stand end.held_or_parting
    where
      on_stand : StandsHeld p (at p) L ⊎ StandsParting p (at p) L → StandsWith L (place_of (at p))
      on_stand (inl held) =
          subst (StandsWith L) (sym (place_held (at p) L end.by_line.known_is held.none held.stays)) refl
      on_stand (inr parts) =
          subst (StandsWith L) (sym (place_parting (at p) L parts.entry end.by_line.known_is parts.one)) refl

  -- ---- entries that were taken

  pub taken_on_one : (n : Checksum) (p q : PlatformCode) → is_taken n (at p) ≡ true → is_taken n (at q) ≡ true → p ≡ q
  taken_on_one n p q tp tq =
      let a = taken_by_chain links p (at p) (F.sound p) (F.among p) n tp in
      let b = taken_by_chain links q (at q) (F.sound q) (F.among q) n tq in
      let ra = (received_at links at F p).each (a.front ++ a.last ∷ []) a.chain in
      let rb = (received_at links at F q).each (b.front ++ b.last ∷ []) b.chain in
      let names = last_name-push a.front a.last ∙ ap Some (a.named ∙ sym b.named)
      ∙ sym (last_name-push b.front b.last) in
      let same = linked_same links F.named (a.front ++ a.last ∷ [])
      (b.front ++ b.last ∷ []) ra.linked rb.linked ra.among rb.among names in
      let two = sym ra.here ∙ ap destination same ∙ rb.here in
      cc two

  -- ---- the bill is safe

  pub safe_under : (L : List ChainLink) → IsTop L → IsSafe at
  safe_under L top =
      let there = came_to L top.accepted in
      let end = at_end L there.place top there.came in
      record {
        no_fork = no_fork links at F;
        line = L;
        is_line = record {
          accepted = top.accepted;
          longest = λ c accepted. prefix_length c L (top.above c accepted);
        };
        end = there.place;
        is_end = there.is_end;
        stands_there = stands_with_end L there.place end;
        held_there_alone = held_at_end L there.place top there.came;
        acts_there_alone = λ p acts. held_at_end L there.place top there.came p (acting_is_held (place_of (at p)) acts);
        title_there = title_at_end L there.place end;
      }

  -- ---- a grounded chain continues the place

  -- a chain whose entries were parted, and whose last entry was neither taken nor declined where it ends, continues the
  -- place of the bill there
  module _ (L : List ChainLink) (top : IsTop L) (K : List ChainLink) (e : ChainLink) (q : PlatformCode)
      (grounded : IsGrounded links at (K ++ e ∷ [])) (ends : destination (K ++ e ∷ []) ≡ Some q)
      (not_taken : is_taken e.name (at q) ≡ false) (not_declined : is_declined e.name (at q) ≡ false) where
    down : Down links at F K e
    down = grounded_down links at F K e grounded

    -- it wasn't accepted, since it would have been taken
    not_accepted : IsAccepted at (K ++ e ∷ []) → ⊥
    not_accepted (inl (none, signed)) = not_empty K e none
    not_accepted (inr (p, there, among)) =
        let two = sym there ∙ ends in
        let here : p ≡ q = cc two in
        let taken = chain_was_taken links p (at p) (F.sound p) (F.among p) K e among in
        not_both (subst (λ (x : PlatformCode). is_taken e.name (at x) ≡ true) here taken) not_taken

    -- nor regained, since it would have been declined
    not_regained : is_regained e.name (at e.entry.platform) ≡ true → ⊥
    not_regained regained =
        let p = e.entry.platform in
        let w = regained_was_declined links at p (at p) F.named (F.sound p) (F.among p) (F.backed p) e.name regained in
        let one = one_front links p (is_signed (at p)) (taken_chains (at p)) (attempts (at p))
        w.before w.entry K e F.named (received_at links at F p)
        (left_at links at F p w.before w.entry w.parted) grounded.ours w.named in
        let same : w.before ++ w.entry ∷ [] ≡ K ++ e ∷ []
        = ap (λ (x : List ChainLink). x ++ w.entry ∷ []) one.0 ∙ ap (λ (x : ChainLink). K ++ x ∷ []) one.1 in
        let two = sym w.goes ∙ ap destination same ∙ ends in
        let to : w.to ≡ q = cc two in
        not_both (subst (λ (x : PlatformCode). is_declined e.name (at x) ≡ true) to w.there) not_declined

    -- so its front is the whole line
    front_is_line : K ≡ L
    front_is_line = on_prefix (prefix_or_more K L (top.above K down.accepted))
      where
        on_prefix : (K ≡ L) ⊎ GoesOn K L → K ≡ L
        on_prefix (inl same) = same
        on_prefix (inr more) =
            let f = more.next in
            let next = next_down links at F K f L top.accepted more.further in
            let here : f.entry.platform ≡ e.entry.platform
            = came_to_one links at F f.entry.platform e.entry.platform K next.came down.came in
            let accepted = front_accepted links at F L (K ++ f ∷ []) top.accepted more.further in
            absurd (by_regained f here accepted
            (one_regained links e.entry.platform (at e.entry.platform) F.named (F.sound e.entry.platform)
            (F.among e.entry.platform)
            K e f down.parted (subst (λ (x : PlatformCode). PartedOn K f (at x)) here next.parted)))
          where
            by_regained : (f : ChainLink) → f.entry.platform ≡ e.entry.platform → IsAccepted at (K ++ f ∷ [])
                → (e ≡ f) ⊎ (is_regained e.name (at e.entry.platform) ≡ true) ⊎
                (is_regained f.name (at e.entry.platform) ≡ true)
                → ⊥
            by_regained f here accepted (inl same) =
                not_accepted (subst (λ (x : ChainLink). IsAccepted at (K ++ x ∷ [])) (sym same) accepted)
            by_regained f here accepted (inr (inl r)) = not_regained r
            by_regained f here accepted
                (inr (inr r)) = accepted_not_regained links at F K f e.entry.platform here accepted r

    -- the end of the line isn't where the chain ends
    elsewhere : e.entry.platform ≡ q → ⊥
    elsewhere same =
        let left = left_at links at F e.entry.platform K e down.parted in
        let two = sym left.goes ∙ ends in
        let to : left.to ≡ q = cc two in
        left.away (to ∙ sym same)

    -- each accepted chain is a prefix of the front
    under : (J : List ChainLink) → IsAccepted at J → IsPrefix J K
    under J accepted = subst (IsPrefix J) (sym front_is_line) (top.above J accepted)

    shorter : (J : List ChainLink) → IsPrefix J K → goes_beyond J (K ++ e ∷ []) ≡ true
    shorter J p =
        let more = push_length K e in
        let most = prefix_length J K p in
        goes_beyond-prefix J (K ++ e ∷ []) (prefix_trans J K (K ++ e ∷ []) p (push_prefix K e)) (omega arith)

    pub grounded_continues : continues (place_of (at q)) (K ++ e ∷ []) ≡ true
    grounded_continues = on_stand (stands_at links at F q)
      where
        at_place : (x : BillPlace) → place_of (at q) ≡ x → continues x (K ++ e ∷ []) ≡ true
            → continues (place_of (at q)) (K ++ e ∷ []) ≡ true
        at_place x is so = subst (λ (y : BillPlace). continues y (K ++ e ∷ []) ≡ true) (sym is) so

        not_held : IsHeld (place_of (at q)) → ⊥
        not_held held =
            elsewhere (sym (held_at_end L e.entry.platform top
            (subst (CameBy (is_signed (at e.entry.platform)) (taken_chains (at e.entry.platform))) front_is_line
            down.came) q held))

        beyond_parting : (J : List ChainLink) (f : ChainLink) → is_regained f.name (at q) ≡ false
            → (g : ChainLink) → g.entry.platform ≡ q → IsAccepted at (J ++ g ∷ []) → IsPrefix (J ++ g ∷ []) K
            → (g ≡ f) ⊎ (is_regained g.name (at q) ≡ true) ⊎ (is_regained f.name (at q) ≡ true)
            → goes_beyond (J ++ f ∷ []) (K ++ e ∷ []) ≡ true
        beyond_parting J f open_still g here accepted p (inl same) =
            shorter (J ++ f ∷ []) (subst (λ (x : ChainLink). IsPrefix (J ++ x ∷ []) K) same p)
        beyond_parting J f open_still g here accepted p (inr (inl r)) =
            absurd (accepted_not_regained links at F J g q here accepted r)
        beyond_parting J f open_still g here accepted p (inr (inr r)) = absurd (not_both r open_still)

        on_parting : (J : List ChainLink) → StandsBy links q (at q) J → (parts : StandsParting q (at q) J)
            → (J ≡ K) ⊎ GoesOn J K
            → goes_beyond (J ++ parts.entry ∷ []) (K ++ e ∷ []) ≡ true
        on_parting J b parts (inl same) =
            absurd (elsewhere (came_to_one links at F e.entry.platform q K down.came
            (subst (CameBy (is_signed (at q)) (taken_chains (at q))) same parts.came)))
        on_parting J b parts (inr more) =
            let g = more.next in
            let next = next_down links at F J g K down.accepted more.further in
            let here : g.entry.platform ≡ q = came_to_one links at F g.entry.platform q J next.came parts.came in
            beyond_parting J parts.entry (still_open parts.entry (parting_is_open (at q) parts.entry parts.one)) g here
            (front_accepted links at F K (J ++ g ∷ []) down.accepted more.further) more.further
            (one_regained links q (at q) F.named (F.sound q) (F.among q) J g parts.entry
            (subst (λ (x : PlatformCode). PartedOn J g (at x)) here next.parted) parts.parted)
          where
            still_open : (f : ChainLink) → IsOpen (at q) f → is_regained f.name (at q) ≡ false
            still_open f open_now =
                false_unless (is_regained f.name (at q))
                (λ r. not_both
                (or_left (is_settled f.name (at q) || is_regained f.name (at q))
                (list_any (has_entry f.name) (taken_chains (at q)))
                (or_right (is_settled f.name (at q)) (is_regained f.name (at q)) r)) open_now.not_over)

        by_stand : (J : List ChainLink) → StandsBy links q (at q) J
            → StandsHeld q (at q) J ⊎ StandsParting q (at q) J ⊎ StandsGone (at q) J
            → continues (place_of (at q)) (K ++ e ∷ []) ≡ true
        by_stand J b (inl held) =
            absurd (not_held (subst IsHeld (sym (place_held (at q) J b.known_is held.none held.stays)) tt))
        by_stand J b (inr (inl parts)) =
            at_place (Parting J parts.entry) (place_parting (at q) J parts.entry b.known_is parts.one)
            (on_parting J b parts (prefix_or_more J K (under J (known_accepted links at F q J b))))
        by_stand J b (inr (inr gone)) =
            at_place (Gone J) (place_gone (at q) J b.known_is gone.none (gone_is_left (at q) J gone))
            (shorter J (under J (known_accepted links at F q J b)))

        on_stand : Stands links q (at q) → continues (place_of (at q)) (K ++ e ∷ []) ≡ true
        on_stand (inl u) = at_place Absent (place_absent (at q) u.known_is) refl
        on_stand (inr s) = by_stand s.0 s.1 s.1.stands

  -- ---- there is a line

  -- an accepted chain under which all that were taken on some platforms are
  record IsTopOn (platforms : List PlatformCode) (L : List ChainLink) : Type 0 where
    accepted : IsAccepted at L
    above : (p : PlatformCode) → IsAmong p platforms → (c : List ChainLink) → IsAmong c (taken_chains (at p))
        → IsPrefix c L

  record HasTopOn (platforms : List PlatformCode) : Type 0 where
    line : List ChainLink
    top : IsTopOn platforms line

  top_on : (platforms : List PlatformCode) → IsAccepted at [] → HasTopOn platforms
  top_on [] signed = record { line = []; top = record { accepted = signed; above = λ p among. absurd among } }
  top_on (q ∷ platforms) signed = on_stand (top_on platforms signed) (stands_at links at F q)
    where
      with_more : (L M : List ChainLink) → IsTopOn platforms L → IsAccepted at M → IsPrefix L M
          → ((c : List ChainLink) → IsAmong c (taken_chains (at q)) → IsPrefix c M)
          → HasTopOn (q ∷ platforms)
      with_more L M t accepted p under = record {
        line = M;
        top = record {
          accepted = accepted;
          above = above;
        };
      }
        where
          above : (x : PlatformCode) → IsAmong x (q ∷ platforms) → (c : List ChainLink)
              → IsAmong c (taken_chains (at x)) → IsPrefix c M
          above x (inl same) c among = under c
              (subst (λ (y : PlatformCode). IsAmong c (taken_chains (at y))) (sym same) among)
          above x (inr later) c among = prefix_trans c L M (t.above x later c among) p

      by_line : (t : HasTopOn platforms) (K : List ChainLink) → StandsBy links q (at q) K → IsAccepted at K
          → IsPrefix K t.line ⊎ IsPrefix t.line K → HasTopOn (q ∷ platforms)
      by_line t K b accepted (inl p) =
          with_more t.line t.line t.top t.top.accepted (prefix_itself t.line)
          (λ c among. prefix_trans c K t.line (b.taken_under c among) p)
      by_line t K b accepted (inr p) = with_more t.line K t.top accepted p b.taken_under

      on_stand : HasTopOn platforms → Stands links q (at q) → HasTopOn (q ∷ platforms)
      on_stand t (inl u) =
          with_more t.line t.line t.top t.top.accepted (prefix_itself t.line)
          (λ c among. absurd (subst (IsAmong c) u.none_taken among))
      on_stand t (inr s) =
          let accepted = known_accepted links at F q s.0 s.1 in
          by_line t s.0 s.1 accepted (no_fork links at F s.0 t.line accepted t.top.accepted)

  pub record HasTop : Type 0 where
    pub line : List ChainLink
    pub top : IsTop line

  -- some accepted chain is above all others, where the platforms that took one are listed
  pub has_top : (platforms : List PlatformCode)
      → ((p : PlatformCode) (c : List ChainLink) → IsAmong c (taken_chains (at p)) → IsAmong p platforms)
      → (p : PlatformCode) → is_signed (at p) ≡ true
      → HasTop
  has_top platforms listed p signed =
      let t = top_on platforms (inl (refl, (p, signed))) in
      record {
        line = t.line;
        top = record { accepted = t.top.accepted; above = above t.line t.top };
      }
    where
      above : (L : List ChainLink) → IsTopOn platforms L → (c : List ChainLink) → IsAccepted at c → IsPrefix c L
      above L t c (inl (none, s)) = subst (λ (x : List ChainLink). IsPrefix x L) (sym none) (empty_prefix L)
      above L t c (inr (q, ends, among)) = t.above q (listed q c among) c among
