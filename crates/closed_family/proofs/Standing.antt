-- Where a bill stands by its history, and what the history says of every chain and entry.
use Rattle.std.proofs.Common.{◌≡◌, ℕ, ◌<◌, ◌≤◌, suc, Bool, true, false, List, [], ◌∷◌, ◌++◌, length, sym, ap, subst, ◌∙◌, inl, inr}
use Rattle.std.specs.Prelude.{◌⊎◌, Option, Some, None, Ok}
use Rattle.ebl_base.specs.declared.checksum.Checksum.{Checksum}
use Rattle.ebl_base.specs.declared.chain.ChainLink.{ChainLink}
use Rattle.ebl_base.specs.declared.platform_code.PlatformCode.{PlatformCode}
use Rattle.ebl_base.specs.declared.transaction.Transaction.{Transaction}
use Rattle.title_fold.specs.declared.title.Title.{Title}
use Rattle.title_fold.specs.Title.{possessor}
use Rattle.title_fold.specs.Fold.{fold}
use Rattle.bill_chain.specs.Chain.{last_name, transactions_of, destination}
use Rattle.bill_diary.specs.declared.record.Record.{Record}
use Rattle.bill_diary.specs.declared.record.Record.TheVariants.{Parted}
use Rattle.bill_diary.specs.declared.bill_place.BillPlace.TheVariants.{Absent, Held, Parting}
use Rattle.bill_diary.specs.Known.{known, settled_chain}
use Rattle.bill_diary.specs.Place.{place_of, parting, is_left, last_parted, since, is_settled, is_regained, taken_chains}
use Rattle.closed_family.specs.Chains.{IsAmong, IsPrefix}
use Rattle.closed_family.proofs.Places.{place_absent, place_held, place_parting, place_gone, left_push}
use Rattle.closed_family.specs.Histories.{is_signed, PartedOn}

-- how many records of a history are a Parted
abbrev pub attempts : List Record → ℕ
attempts [] = 0
attempts (Parted bill link manifest manifest_text ∷ h) = suc (attempts h)
attempts (r ∷ h) = attempts h

-- the transactions fold to a title whose possessor is on this platform
pub record IsOn (me : PlatformCode) (transactions : List Transaction) : Type 0 where
  pub title : Title
  pub folds : fold transactions ≡ Ok (Some title)
  pub on : (possessor title).platform ≡ me

-- a chain by which the bill came here: the empty one where it was signed here, or a taken one
abbrev pub CameBy : Bool → List (List ChainLink) → List ChainLink → Type 0
CameBy signed taken K = ((K ≡ []) × (signed ≡ true)) ⊎ IsAmong K taken

-- an entry that parted here on a chain, among so many
pub record HasLeft (links : List ChainLink) (me : PlatformCode) (signed : Bool) (taken : List (List ChainLink))
    (count : ℕ) (before : List ChainLink) (entry : ChainLink) : Type 0 where
  pub among : IsAmong entry links
  pub platform : entry.entry.platform ≡ me
  pub previous : entry.entry.previous ≡ last_name before
  pub attempt : entry.entry.attempt ≤ count
  pub to : PlatformCode
  pub goes : destination (before ++ entry ∷ []) ≡ Some to
  pub away : to ≡ me → ⊥
  pub came : CameBy signed taken before

-- what became of an entry that parted on a chain: it was regained, or a longer chain is known since, or it is parting
pub data Fate (regained : Bool) (before known : List ChainLink) (parting : Option ChainLink)
    (entry : ChainLink) : Type 0 where
  was_regained : regained ≡ true → Fate regained before known parting entry
  went_on : length before < length known → Fate regained before known parting entry
  is_parting : parting ≡ Some entry → Fate regained before known parting entry

-- some entry of this name parted here
pub record SomeParted (name : Checksum) (Has : List ChainLink → ChainLink → Type 0) : Type 0 where
  pub before : List ChainLink
  pub entry : ChainLink
  pub named : entry.name ≡ name
  pub parted : Has before entry

-- the place is Held
abbrev pub StandsHeld : PlatformCode → List Record → List ChainLink → Type 0
StandsHeld me h K = record {
  none : parting h ≡ None;
  stays : is_left K h ≡ false;
  came : CameBy (is_signed h) (taken_chains h) K;
  titled : IsOn me (transactions_of K ++ since h);
}

-- the place is Parting
abbrev pub StandsParting : PlatformCode → List Record → List ChainLink → Type 0
StandsParting me h K = record {
  entry : ChainLink;
  one : parting h ≡ Some entry;
  stays : is_left K h ≡ false;
  came : CameBy (is_signed h) (taken_chains h) K;
  titled : IsOn me (transactions_of K ++ since h);
  parted : PartedOn K entry h;
  told : settled_chain entry.name h ≡ Some (K ++ entry ∷ []);
  last : Transaction;
  transactions : entry.entry.transactions ≡ since h ++ last ∷ [];
}

-- the place is Gone
abbrev pub StandsGone : List Record → List ChainLink → Type 0
StandsGone h K = record {
  none : parting h ≡ None;
  front : List ChainLink;
  entry : ChainLink;
  parts : K ≡ front ++ entry ∷ [];
  parted : PartedOn front entry h;
  settled : is_settled entry.name h ≡ true;
}

-- the bill is known by this chain
abbrev pub StandsBy : List ChainLink → PlatformCode → List Record → List ChainLink → Type 0
StandsBy links me h K = record {
  known_is : known h ≡ Some K;
  taken_under : (c : List ChainLink) → IsAmong c (taken_chains h) → IsPrefix c K;
  left : (J : List ChainLink) (e : ChainLink) → PartedOn J e h
      → HasLeft links me (is_signed h) (taken_chains h) (attempts h) J e;
  left_under : (J : List ChainLink) (e : ChainLink) → PartedOn J e h → IsPrefix J K;
  fate : (J : List ChainLink) (e : ChainLink) → PartedOn J e h
      → Fate (is_regained e.name h) J K (parting h) e;
  settled : (n : Checksum) → is_settled n h ≡ true
      → SomeParted n (λ (J : List ChainLink) (e : ChainLink). PartedOn J e h);
  regained : (n : Checksum) → is_regained n h ≡ true
      → SomeParted n (λ (J : List ChainLink) (e : ChainLink). PartedOn J e h);
  stands : StandsHeld me h K ⊎ StandsParting me h K ⊎ StandsGone h K;
}

-- nothing is known of the bill
abbrev pub IsUnknown : List Record → Type 0
IsUnknown h = record {
  known_is : known h ≡ None;
  none_parted : last_parted h ≡ None;
  none_taken : taken_chains h ≡ [];
  none_since : since h ≡ [];
  unsigned : is_signed h ≡ false;
  none_left : (J : List ChainLink) (e : ChainLink) → PartedOn J e h → ⊥;
  none_settled : (n : Checksum) → is_settled n h ≡ false;
  none_regained : (n : Checksum) → is_regained n h ≡ false;
}

-- where a bill stands, by the records of its history
abbrev pub Stands : List ChainLink → PlatformCode → List Record → Type 0
Stands links me h = IsUnknown h ⊎ ((K : List ChainLink) × StandsBy links me h K)

-- ---- the place

pub gone_is_left : (h : List Record) (K : List ChainLink) → StandsGone h K → is_left K h ≡ true
gone_is_left h K g =
    ap (λ (c : List ChainLink). is_left c h) g.parts ∙ left_push g.front g.entry h ∙ g.settled

-- a place that is Held stands so
pub stands_held : (links : List ChainLink) (me : PlatformCode) (h : List Record) (K : List ChainLink)
    (made : List Transaction)
    → Stands links me h → place_of h ≡ Held K made
    → StandsBy links me h K × StandsHeld me h K × (since h ≡ made)
stands_held links me h K made (inl u) place = cc (place_absent h u.known_is)
stands_held links me h K made (inr s) place = by_stand s.0 s.1 s.1.stands
  where
    by_stand : (J : List ChainLink) → StandsBy links me h J
        → StandsHeld me h J ⊎ StandsParting me h J ⊎ StandsGone h J
        → StandsBy links me h K × StandsHeld me h K × (since h ≡ made)
    by_stand J b (inl held) =
        let there = sym (place_held h J b.known_is held.none held.stays) ∙ place in
        let same : J ≡ K = cc there in
        (subst (StandsBy links me h) same b, subst (StandsHeld me h) same held, cc there)
    by_stand J b (inr (inl parts)) = cc (place_parting h J parts.entry b.known_is parts.one)
    by_stand J b (inr (inr gone)) = cc (place_gone h J b.known_is gone.none (gone_is_left h J gone))

-- a place that is Parting stands so
pub stands_parting : (links : List ChainLink) (me : PlatformCode) (h : List Record) (K : List ChainLink) (e : ChainLink)
    → Stands links me h → place_of h ≡ Parting K e
    → StandsBy links me h K × ((s : StandsParting me h K) × (s.entry ≡ e))
stands_parting links me h K e (inl u) place = cc (place_absent h u.known_is)
stands_parting links me h K e (inr s) place = by_stand s.0 s.1 s.1.stands
  where
    by_stand : (J : List ChainLink) → StandsBy links me h J
        → StandsHeld me h J ⊎ StandsParting me h J ⊎ StandsGone h J
        → StandsBy links me h K × ((s : StandsParting me h K) × (s.entry ≡ e))
    by_stand J b (inl held) = cc (place_held h J b.known_is held.none held.stays)
    by_stand J b (inr (inl parts)) =
        let there = sym (place_parting h J parts.entry b.known_is parts.one) ∙ place in
        let same : J ≡ K = cc there in
        let entries : parts.entry ≡ e = cc there in (
          subst (StandsBy links me h) same b,
          subst (λ (c : List ChainLink). (s : StandsParting me h c) × (s.entry ≡ e)) same (parts, entries),
        )
    by_stand J b (inr (inr gone)) = cc (place_gone h J b.known_is gone.none (gone_is_left h J gone))

-- a place that is Absent is that of an unknown bill
pub stands_absent : (links : List ChainLink) (me : PlatformCode) (h : List Record)
    → Stands links me h → place_of h ≡ Absent → IsUnknown h
stands_absent links me h (inl u) place = u
stands_absent links me h (inr s) place = by_stand s.0 s.1 s.1.stands
  where
    by_stand : (J : List ChainLink) → StandsBy links me h J
        → StandsHeld me h J ⊎ StandsParting me h J ⊎ StandsGone h J
        → IsUnknown h
    by_stand J b (inl held) = cc (place_held h J b.known_is held.none held.stays)
    by_stand J b (inr (inl parts)) = cc (place_parting h J parts.entry b.known_is parts.one)
    by_stand J b (inr (inr gone)) = cc (place_gone h J b.known_is gone.none (gone_is_left h J gone))
