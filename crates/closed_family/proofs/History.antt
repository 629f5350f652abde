-- What one sound history says: where the bill stands, that a known chain only grows, and what became of each entry.
use Rattle.std.proofs.Common.{◌≡◌, ℕ, ◌+◌, ◌≤◌, cond, Bool, true, false, ◌||◌, List, [], ◌∷◌, ◌++◌, length, refl, sym, ap, subst, ◌∙◌, inl, inr, arith}
use Rattle.std.specs.Prelude.{◌⊎◌, Option, Some, None, count_by}
use Rattle.std.specs.Option.{option_map_or}
use Rattle.std.proofs.lemmas.List.Sums.{sum_by-cons}
use Rattle.ebl_base.specs.Checksum.{checksum_eq}
use Rattle.ebl_base.specs.declared.chain.ChainLink.{ChainLink}
use Rattle.ebl_base.specs.declared.checksum.Checksum.{Checksum}
use Rattle.ebl_base.specs.declared.platform_code.PlatformCode.{PlatformCode}
use Rattle.ebl_base.specs.declared.signed_text.SignedText.{SignedText}
use Rattle.envelope_manifest.specs.declared.manifest.Manifest.{Manifest}
use Rattle.bill_chain.specs.Chain.{ends_in}
use Rattle.bill_diary.specs.declared.record.Record.{Record}
use Rattle.bill_diary.specs.declared.record.Record.TheVariants.{Signed, Acted, Attached, Parted, Settled, Regained, Begun, Stored, Taken, Declined}
use Rattle.bill_diary.specs.Known.{known}
use Rattle.bill_diary.specs.Place.{taken_chains, is_regained, parting}
use Rattle.bill_diary.specs.Receiving.{takes, is_taken, is_declined}
use Rattle.bill_diary.specs.Sound.{MayPart, MayTake, IsSoundHistory}
use Rattle.closed_family.specs.Chains.{IsAmong, AreAmong, NamesDetermineLinks}
use Rattle.closed_family.specs.Histories.{PartedOn, links_of}
use Rattle.closed_family.proofs.Names.{checksum_eq-same, checksum_eq-of, or_cases, or_left, or_right, not_both, decided, false_unless}
use Rattle.closed_family.proofs.Chains.{last_of-push}
use Rattle.closed_family.proofs.Linked.{among_rest, ends_in-last}
use Rattle.closed_family.proofs.Standing.{Fate, was_regained, went_on, is_parting, Stands, stands_held, stands_absent}
use Rattle.closed_family.proofs.Received.{begun_came, received, taken_first}
use Rattle.closed_family.proofs.Parted.{AreReceived}
use Rattle.closed_family.proofs.Steps.{step_signed, step_acted, step_parted, step_settled, step_regained, step_taken}

-- a sound history of known links
pub record IsHistory (links : List ChainLink) (me : PlatformCode) (h : List Record) : Type 0 where
  pub named : NamesDetermineLinks links
  pub sound : IsSoundHistory me h
  pub among : AreAmong (links_of h) links

pub are_received : (links : List ChainLink) (me : PlatformCode) (h : List Record)
    → IsHistory links me h → AreReceived links me (taken_chains h)
are_received links me h history = record { each = received links me h history.sound history.among }

-- where the bill stands. An Attached, a Begun, a Stored and a Declined leave all of it
pub stands_so : (links : List ChainLink) (me : PlatformCode) → NamesDetermineLinks links → (h : List Record)
    → IsSoundHistory me h → AreAmong (links_of h) links
    → Stands links me h
stands_so links me named [] sound among =
    inl (record {
      known_is = refl;
      none_parted = refl;
      none_taken = refl;
      none_since = refl;
      unsigned = refl;
      none_left = λ J e parted. parted;
      none_settled = λ n. refl;
      none_regained = λ n. refl;
    })
stands_so links me named (Signed bill document t ∷ h) sound among =
    let u = stands_absent links me h (stands_so links me named h sound.1 among) sound.0.absent in
    inr ([], step_signed links me h bill document t u sound.0)
stands_so links me named (Acted bill t ∷ h) sound among =
    inr (sound.0.known, step_acted links me h bill t (stands_so links me named h sound.1 among) sound.0)
stands_so links me named (Attached bill piece bytes ∷ h) sound among =
    stands_so links me named h sound.1 among
stands_so links me named (Parted bill link manifest text ∷ h) sound among =
    inr (
      sound.0.known,
      step_parted links me h bill link manifest text named
          (record { each = received links me h sound.1 among.1 }) among.0
          (stands_so links me named h sound.1 among.1) sound.0,
    )
stands_so links me named (Settled bill entry ∷ h) sound among =
    inr (
      sound.0.known ++ sound.0.link ∷ [],
      step_settled links me h bill entry
          (stands_so links me named h sound.1 among) sound.0,
    )
stands_so links me named (Regained bill entry ∷ h) sound among =
    inr (sound.0.known, step_regained links me h bill entry (stands_so links me named h sound.1 among) sound.0)
stands_so links me named (Begun bill chain manifest body ∷ h) sound among =
    stands_so links me named h sound.1 (among_rest chain (links_of h) links among)
stands_so links me named (Stored bill entry checksum bytes ∷ h) sound among =
    stands_so links me named h sound.1 among
stands_so links me named (Taken bill entry ∷ h) sound among =
    let well = begun_came links me entry h sound.0.begun sound.1 among sound.0.begun_is in
    inr (
      sound.0.begun.chain,
      step_taken links me h bill entry named (record { each = received links me h sound.1 among })
          (stands_so links me named h sound.1 among) sound.0
          (record { linked = well.linked; among = well.among; here = sound.0.receives.destination_is }),
    )
stands_so links me named (Declined bill entry code reason evidence ∷ h) sound among =
    stands_so links me named h sound.1 among

-- ---- two entries that parted on one chain

-- where an entry parts, each that parted before it on the same chain was regained
pub earlier_regained : (links : List ChainLink) (me : PlatformCode) (bill : Checksum) (f : ChainLink)
    (manifest : Manifest) (text : SignedText)
    (h : List Record)
    → IsHistory links me (Parted bill f manifest text ∷ h)
    → (K : List ChainLink) (e : ChainLink)
    → known h ≡ Some K → PartedOn K e h → is_regained e.name h ≡ true
earlier_regained links me bill f manifest text h history K e k parted =
    let may : MayPart me h bill f manifest text = history.sound.0 in
    let there = stands_held links me h may.known may.since
    (stands_so links me history.named h history.sound.1 history.among.1) may.held in
    on_fate may.known there.0.known_is there.1.none (there.0.fate K e parted)
  where
    on_fate : (J : List ChainLink) → known h ≡ Some J → parting h ≡ None
        → Fate (is_regained e.name h) K J (parting h) e → is_regained e.name h ≡ true
    on_fate J k2 none (was_regained r) = r
    on_fate J k2 none (went_on l) =
        let two = sym k ∙ k2 in
        let same : K ≡ J = cc two in
        let equal : length K ≡ length J = ap length same in
        absurd (omega arith)
    on_fate J k2 none (is_parting p) = absurd (nothing (sym none ∙ p))
      where
        nothing : {a : ChainLink} → None ≡ Some a → ⊥
        nothing h = cc

-- of two entries that parted on one chain, one was regained, unless they are one
pub one_regained : (links : List ChainLink) (me : PlatformCode) (h : List Record)
    → NamesDetermineLinks links → IsSoundHistory me h → AreAmong (links_of h) links
    → (K : List ChainLink) (e f : ChainLink) → PartedOn K e h → PartedOn K f h
    → (e ≡ f) ⊎ (is_regained e.name h ≡ true) ⊎ (is_regained f.name h ≡ true)
one_regained links me [] named sound among K e f pe pf = absurd pe
one_regained links me (Parted bill link manifest text ∷ h) named sound among K e f (inl (one, k))
    (inl (two, k2)) = inl (sym one ∙ two)
one_regained links me (Parted bill link manifest text ∷ h) named sound among K e f (inl (one, k)) (inr pf) =
    inr (inr (earlier_regained links me bill link manifest text h
    (record { named = named; sound = sound; among = among }) K f k pf))
one_regained links me (Parted bill link manifest text ∷ h) named sound among K e f (inr pe) (inl (two, k2)) =
    inr (inl (earlier_regained links me bill link manifest text h
    (record { named = named; sound = sound; among = among }) K e k2 pe))
one_regained links me (Parted bill link manifest text ∷ h) named sound among K e f (inr pe) (inr pf) =
    one_regained links me h named sound.1 among.1 K e f pe pf
one_regained links me (Regained bill entry ∷ h) named sound among K e f pe pf =
    wider (one_regained links me h named sound.1 among K e f pe pf)
  where
    wider : (e ≡ f) ⊎ (is_regained e.name h ≡ true) ⊎ (is_regained f.name h ≡ true)
        → (e ≡ f) ⊎ (is_regained e.name (Regained bill entry ∷ h) ≡ true) ⊎
        (is_regained f.name (Regained bill entry ∷ h) ≡ true)
    wider (inl same) = inl same
    wider (inr (inl r)) = inr (inl (or_right (checksum_eq entry e.name) (is_regained e.name h) r))
    wider (inr (inr r)) = inr (inr (or_right (checksum_eq entry f.name) (is_regained f.name h) r))
one_regained links me (Begun bill chain manifest body ∷ h) named sound among K e f pe pf =
    one_regained links me h named sound.1 (among_rest chain (links_of h) links among) K e f pe pf
one_regained links me (r ∷ h) named sound among K e f pe pf = one_regained links me h named sound.1 among K e f pe pf

-- ---- entries that were taken, or declined

-- the chain of a Taken ends in its entry
taken_ends : (links : List ChainLink) (me : PlatformCode) (bill entry : Checksum) (h : List Record)
    → IsSoundHistory me (Taken bill entry ∷ h) → AreAmong (links_of h) links
    → (may : MayTake me h h entry)
    → may.receives.last.name ≡ entry
taken_ends links me bill entry h sound among may =
    let well = begun_came links me entry h may.begun sound.1 among may.begun_is in
    checksum_eq-same may.receives.last.name entry
    (ap (λ (l : Option ChainLink). option_map_or (λ (link : ChainLink). checksum_eq link.name entry) l false)
    (sym may.receives.last_is)
    ∙ well.ends)

-- a chain that was taken is that of a Taken of its last entry
pub chain_was_taken : (links : List ChainLink) (me : PlatformCode) (h : List Record)
    → IsSoundHistory me h → AreAmong (links_of h) links
    → (front : List ChainLink) (e : ChainLink) → IsAmong (front ++ e ∷ []) (taken_chains h)
    → is_taken e.name h ≡ true
chain_was_taken links me [] sound among front e c = absurd c
chain_was_taken links me (Taken bill entry ∷ h) sound among front e c =
    on_first (subst (IsAmong (front ++ e ∷ [])) (taken_first bill entry h sound.0.begun sound.0.begun_is) c)
    (chain_was_taken links me h sound.1 among front e)
  where
    on_first : IsAmong (front ++ e ∷ []) (sound.0.begun.chain ∷ taken_chains h)
        → (IsAmong (front ++ e ∷ []) (taken_chains h) → is_taken e.name h ≡ true)
        → is_taken e.name (Taken bill entry ∷ h) ≡ true
    on_first (inl same) further =
        let ends = (begun_came links me entry h sound.0.begun sound.1 among sound.0.begun_is).ends in
        let there : ends_in entry (front ++ e ∷ []) ≡ true = subst
        (λ (x : List ChainLink). ends_in entry x ≡ true) same ends in
        let names : checksum_eq e.name entry ≡ true
        = ap (λ (l : Option ChainLink). option_map_or (λ (link : ChainLink). checksum_eq link.name entry) l false)
        (sym (last_of-push front e)) ∙ there in
        or_left (checksum_eq entry e.name) (is_taken e.name h)
        (checksum_eq-of entry e.name (sym (checksum_eq-same e.name entry names)))
    on_first (inr old) further = or_right (checksum_eq entry e.name) (is_taken e.name h) (further old)
chain_was_taken links me (Begun bill chain manifest body ∷ h) sound among front e c =
    chain_was_taken links me h sound.1 (among_rest chain (links_of h) links among) front e c
chain_was_taken links me (Parted bill link manifest text ∷ h) sound among front e c =
    chain_was_taken links me h sound.1 among.1 front e c
chain_was_taken links me (r ∷ h) sound among front e c = chain_was_taken links me h sound.1 among front e c

-- a Taken of an entry has a chain that ends in it
pub record TakenBy (name : Checksum) (taken : List (List ChainLink)) : Type 0 where
  pub front : List ChainLink
  pub last : ChainLink
  pub named : last.name ≡ name
  pub chain : IsAmong (front ++ last ∷ []) taken

taken_before : (name : Checksum) (taken more : List (List ChainLink))
    → ((c : List ChainLink) → IsAmong c taken → IsAmong c more) → TakenBy name taken → TakenBy name more
taken_before name taken more each t =
    record { front = t.front; last = t.last; named = t.named; chain = each (t.front ++ t.last ∷ []) t.chain }

pub taken_by_chain : (links : List ChainLink) (me : PlatformCode) (h : List Record)
    → IsSoundHistory me h → AreAmong (links_of h) links
    → (name : Checksum) → is_taken name h ≡ true
    → TakenBy name (taken_chains h)
taken_by_chain links me [] sound among name t = cc
taken_by_chain links me (Taken bill entry ∷ h) sound among name t =
    on_first (or_cases (checksum_eq entry name) (is_taken name h) t) (taken_by_chain links me h sound.1 among name)
  where
    first : taken_chains (Taken bill entry ∷ h) ≡ sound.0.begun.chain ∷ taken_chains h
    first = taken_first bill entry h sound.0.begun sound.0.begun_is

    on_first : (checksum_eq entry name ≡ true) ⊎ (is_taken name h ≡ true)
        → (is_taken name h ≡ true → TakenBy name (taken_chains h))
        → TakenBy name (taken_chains (Taken bill entry ∷ h))
    on_first (inl here) further =
        let ends = (begun_came links me entry h sound.0.begun sound.1 among sound.0.begun_is).ends in
        let l = ends_in-last entry sound.0.begun.chain ends in
        record {
          front = l.front;
          last = l.link;
          named = l.named ∙ checksum_eq-same entry name here;
          chain = subst (IsAmong (l.front ++ l.link ∷ [])) (sym first) (inl l.parts);
        }
    on_first (inr old) further =
        taken_before name (taken_chains h) (taken_chains (Taken bill entry ∷ h))
        (λ c among. subst (IsAmong c) (sym first) (inr among)) (further old)
taken_by_chain links me (Begun bill chain manifest body ∷ h) sound among name t =
    taken_by_chain links me h sound.1 (among_rest chain (links_of h) links among) name t
taken_by_chain links me (Parted bill link manifest text ∷ h) sound among name t =
    taken_by_chain links me h sound.1 among.1 name t
taken_by_chain links me (r ∷ h) sound among name t = taken_by_chain links me h sound.1 among name t

-- no entry is both taken and declined
pub taken_not_declined : (links : List ChainLink) (me : PlatformCode) (h : List Record)
    → IsSoundHistory me h → AreAmong (links_of h) links
    → (name : Checksum) → is_taken name h ≡ true → is_declined name h ≡ false
taken_not_declined links me [] sound among name t = refl
taken_not_declined links me (Taken bill entry ∷ h) sound among name t =
    on_first (or_cases (checksum_eq entry name) (is_taken name h) t)
    (taken_not_declined links me h sound.1 among name)
  where
    on_first : (checksum_eq entry name ≡ true) ⊎ (is_taken name h ≡ true)
        → (is_taken name h ≡ true → is_declined name h ≡ false) → is_declined name h ≡ false
    on_first (inl here) further =
        subst (λ (n : Checksum). is_declined n h ≡ false)
        (taken_ends links me bill entry h sound among sound.0 ∙ checksum_eq-same entry name here)
        sound.0.receives.not_declined
    on_first (inr old) further = further old
taken_not_declined links me (Declined bill entry code reason evidence ∷ h) sound among name t =
    on_first (decided (checksum_eq entry name)) (taken_not_declined links me h sound.1 among name t)
  where
    on_first : (checksum_eq entry name ≡ true) ⊎ (checksum_eq entry name ≡ false)
        → is_declined name h ≡ false → (checksum_eq entry name || is_declined name h) ≡ false
    on_first (inl here) further =
        absurd (not_both t
        (subst (λ (n : Checksum). is_taken n h ≡ false) (checksum_eq-same entry name here) sound.0.not_taken))
    on_first (inr other) further = ap (λ (b : Bool). b || is_declined name h) other ∙ further
taken_not_declined links me (Begun bill chain manifest body ∷ h) sound among name t =
    taken_not_declined links me h sound.1 (among_rest chain (links_of h) links among) name t
taken_not_declined links me (Parted bill link manifest text ∷ h) sound among name t =
    taken_not_declined links me h sound.1 among.1 name t
taken_not_declined links me (r ∷ h) sound among name t = taken_not_declined links me h sound.1 among name t

-- ---- counting the records that take an entry

pub none_counted : (name : Checksum) (h : List Record) → is_taken name h ≡ false → count_by (takes name) h ≡ 0
none_counted name [] t = refl
none_counted name (r ∷ h) t = on_test (takes name r) refl (none_counted name h)
  where
    sums : {a b : ℕ} → a ≡ 0 → b ≡ 0 → a + b ≡ 0
    sums p q = omega arith

    on_test : (b : Bool) → takes name r ≡ b → (is_taken name h ≡ false → count_by (takes name) h ≡ 0)
        → count_by (takes name) (r ∷ h) ≡ 0
    on_test true here further = absurd (not_both (or_left (takes name r) (is_taken name h) here) t)
    on_test false here further =
        let rest : is_taken name h ≡ false
        = false_unless (is_taken name h) (λ later. not_both (or_right (takes name r) (is_taken name h) later) t) in
        sum_by-cons (λ (x : Record). cond (takes name x) 1 0) r h
        ∙ sums (ap (λ (b : Bool). cond b 1 0) here) (further rest)

pub counted_on : (name : Checksum) (r : Record) (h : List Record)
    → count_by (takes name) h ≤ 1
    → (takes name r ≡ true → is_taken name h ≡ false)
    → count_by (takes name) (r ∷ h) ≤ 1
counted_on name r h most once = on_test (takes name r) refl
  where
    with_one : {n a b : ℕ} → n ≡ a + b → a ≡ 1 → b ≡ 0 → n ≤ 1
    with_one sum p q = omega arith

    with_none : {n a b : ℕ} → n ≡ a + b → a ≡ 0 → b ≤ 1 → n ≤ 1
    with_none sum p q = omega arith

    whole : count_by (takes name) (r ∷ h) ≡ cond (takes name r) 1 0 + count_by (takes name) h
    whole = sum_by-cons (λ (x : Record). cond (takes name x) 1 0) r h

    on_test : (b : Bool) → takes name r ≡ b → count_by (takes name) (r ∷ h) ≤ 1
    on_test true here = with_one whole (ap (λ (b : Bool). cond b 1 0) here) (none_counted name h (once here))
    on_test false here = with_none whole (ap (λ (b : Bool). cond b 1 0) here) most
