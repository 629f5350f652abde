-- Each entry is taken once in all diaries of a family, and no diary has it both taken and declined.
use Rattle.std.proofs.Common.{◌≡◌, ℕ, suc, ◌+◌, ◌≤◌, Bool, true, false, ◌||◌, cond, List, [], ◌∷◌, ◌++◌, refl, sym, ap, subst, ◌∙◌, inl, inr, arith}
use Rattle.std.specs.Prelude.{◌⊎◌, Option, Some, slice_get, count_by}
use Rattle.std.specs.List.{flat_map}
use Rattle.std.specs.Option.{option_map_or}
use Rattle.std.proofs.lemmas.List.Sums.{sum_by-append}
use Rattle.std.proofs.lemmas.List.Sorted.{sum_by-IsPermutation, IsPermutation-reverse}
use Rattle.ebl_base.specs.Checksum.{checksum_eq}
use Rattle.ebl_base.specs.PlatformCode.{code_eq}
use Rattle.ebl_base.proofs.SameLemmas.{code_eq-Decides}
use Rattle.ebl_base.specs.declared.chain.ChainLink.{ChainLink}
use Rattle.ebl_base.specs.declared.checksum.Checksum.{Checksum}
use Rattle.ebl_base.specs.declared.entry.Entry.{Entry}
use Rattle.ebl_base.specs.declared.platform_code.PlatformCode.{PlatformCode}
use Rattle.bill_chain.specs.Chain.{ends_in, FollowEachOther}
use Rattle.bill_diary.specs.declared.record.Record.{Record}
use Rattle.bill_diary.specs.declared.record.Record.TheVariants.{Signed, Acted, Attached, Parted, Settled, Regained, Begun, Stored, Taken, Declined}
use Rattle.bill_diary.specs.declared.frame.Frame.{Frame}
use Rattle.bill_diary.specs.History.{bill_of, records_of, newest_first, of_bill, history}
use Rattle.bill_diary.specs.Known.{Received, last_begun}
use Rattle.bill_diary.specs.Receiving.{takes, is_taken, is_declined}
use Rattle.bill_diary.specs.Sound.{MayTake, AreSound, IsSoundHistory}
use Rattle.closed_family.specs.declared.family.Member.{Member}
use Rattle.closed_family.specs.Chains.{IsAmong}
use Rattle.closed_family.specs.Histories.{links_of}
use Rattle.closed_family.specs.Family.{shard_of, history_in, histories_of, records_in, AreApart, HasDistinctNames, IsSoundFamily, IsClosedFamily, IsSafeFamily}
use Rattle.closed_family.proofs.Names.{checksum_eq-same, checksum_eq-itself, checksum_eq-of, or_cases, or_left, or_right, not_both, decided, false_unless, passing_item}
use Rattle.closed_family.proofs.Linked.{among_last}
use Rattle.closed_family.proofs.Received.{received}
use Rattle.closed_family.proofs.History.{taken_by_chain, none_counted, counted_on}
use Rattle.closed_family.proofs.Records.{among_either}
use Rattle.closed_family.proofs.End.{taken_on_one}
use Rattle.closed_family.proofs.Families.{IsKnown, known_link, one_entry, sound_in, links_in, link_from, stands_for, are_closed, is_safe}
use Rattle.closed_family.proofs.FamilyTexts.{flat_among, among_reverse}

-- ---- one diary

-- the chain of the last Begun of an entry ends in it
begun_ends : (entry : Checksum) (h : List Record) (came : Received) → last_begun entry h ≡ Some came
    → ends_in entry came.chain ≡ true
begun_ends entry [] came is = cc is
begun_ends entry (Begun b c m t ∷ h) came is = on_test (ends_in entry c) refl is (begun_ends entry h came)
  where
    on_test : (e : Bool) → ends_in entry c ≡ e
        → cond e (Some (record { chain = c; manifest = m })) (last_begun entry h) ≡ Some came
        → (last_begun entry h ≡ Some came → ends_in entry came.chain ≡ true)
        → ends_in entry came.chain ≡ true
    on_test true ends same further =
        let here : record { chain = c; manifest = m } ≡ came = cc in
        subst (λ (x : Received). ends_in entry x.chain ≡ true) here ends
    on_test false ends same further = further same
begun_ends entry (r ∷ h) came is = begun_ends entry h came is

-- the last entry of a chain that is taken is the entry of the Taken
took_last : (me : PlatformCode) (records h : List Record) (entry : Checksum) (may : MayTake me records h entry)
    → may.receives.last.name ≡ entry
took_last me records h entry may =
    let ends = begun_ends entry h may.begun may.begun_is in
    let here : checksum_eq may.receives.last.name entry ≡ true =
    sym (ap (λ (o : Option ChainLink). option_map_or (λ (l : ChainLink). checksum_eq l.name entry) o false)
    may.receives.last_is) ∙ ends in
    checksum_eq-same may.receives.last.name entry here

once_in : (me : PlatformCode) (records : List Record) → AreSound me records → (name : Checksum)
    → count_by (takes name) records ≤ 1
once_in me [] sound name = omega arith
once_in me (Taken bill entry ∷ records) sound name =
    counted_on name (Taken bill entry) records (once_in me records sound.2 name) not_before
  where
    not_before : checksum_eq entry name ≡ true → is_taken name records ≡ false
    not_before here =
        subst (λ (n : Checksum). is_taken n records ≡ false)
        (took_last me records (of_bill bill records) entry sound.0 ∙ checksum_eq-same entry name here)
        sound.0.receives.not_taken
once_in me (Begun b c m t ∷ records) sound name =
    counted_on name (Begun b c m t) records (once_in me records sound.2 name) (λ e. cc e)
once_in me (Parted b l m t ∷ records) sound name =
    counted_on name (Parted b l m t) records (once_in me records sound.2 name) (λ e. cc e)
once_in me (Signed b x t ∷ records) sound name =
    counted_on name (Signed b x t) records (once_in me records sound.2 name) (λ e. cc e)
once_in me (Acted b t ∷ records) sound name =
    counted_on name (Acted b t) records (once_in me records sound.2 name) (λ e. cc e)
once_in me (Attached b p t ∷ records) sound name =
    counted_on name (Attached b p t) records (once_in me records sound.2 name) (λ e. cc e)
once_in me (Settled b e ∷ records) sound name =
    counted_on name (Settled b e) records (once_in me records sound.2 name) (λ e. cc e)
once_in me (Regained b e ∷ records) sound name =
    counted_on name (Regained b e) records (once_in me records sound.2 name) (λ e. cc e)
once_in me (Stored b e c t ∷ records) sound name =
    counted_on name (Stored b e c t) records (once_in me records sound.2 name) (λ e. cc e)
once_in me (Declined b e c r v ∷ records) sound name =
    counted_on name (Declined b e c r v) records (once_in me records sound.2 name) (λ e. cc e)

pub not_both_in : (me : PlatformCode) (records : List Record) → AreSound me records → (name : Checksum)
    → is_taken name records ≡ true → is_declined name records ≡ false
not_both_in me [] sound name t = refl
not_both_in me (Taken bill entry ∷ records) sound name t =
    on_first (or_cases (checksum_eq entry name) (is_taken name records) t) (not_both_in me records sound.2 name)
  where
    on_first : (checksum_eq entry name ≡ true) ⊎ (is_taken name records ≡ true)
        → (is_taken name records ≡ true → is_declined name records ≡ false) → is_declined name records ≡ false
    on_first (inl here) further =
        subst (λ (n : Checksum). is_declined n records ≡ false)
        (took_last me records (of_bill bill records) entry sound.0 ∙ checksum_eq-same entry name here)
        sound.0.receives.not_declined
    on_first (inr old) further = further old
not_both_in me (Declined bill entry code reason evidence ∷ records) sound name t =
    on_first (decided (checksum_eq entry name)) (not_both_in me records sound.2 name t)
  where
    on_first : (checksum_eq entry name ≡ true) ⊎ (checksum_eq entry name ≡ false)
        → is_declined name records ≡ false → (checksum_eq entry name || is_declined name records) ≡ false
    on_first (inl here) further =
        absurd (not_both t
        (subst (λ (n : Checksum). is_taken n records ≡ false) (checksum_eq-same entry name here) sound.0.not_taken))
    on_first (inr other) further = ap (λ (b : Bool). b || is_declined name records) other ∙ further
not_both_in me (r ∷ records) sound name t = not_both_in me records sound.2 name t

-- ---- where a Taken is

taken_record : (name : Checksum) (records : List Record) → is_taken name records ≡ true
    → (bill : Checksum) × IsAmong (Taken bill name) records
taken_record name records t =
    let p = passing_item (takes name) records t in
    on_record p.item p.among p.passes
  where
    on_record : (r : Record) → IsAmong r records → takes name r ≡ true
        → (bill : Checksum) × IsAmong (Taken bill name) records
    on_record (Taken b e) among is =
        (b, subst (λ (n : Checksum). IsAmong (Taken b n) records) (checksum_eq-same e name is) among)
    on_record (Signed b x t) among is = cc is
    on_record (Acted b t) among is = cc is
    on_record (Attached b p t) among is = cc is
    on_record (Parted b l m t) among is = cc is
    on_record (Settled b e) among is = cc is
    on_record (Regained b e) among is = cc is
    on_record (Begun b c m t) among is = cc is
    on_record (Stored b e c t) among is = cc is
    on_record (Declined b e c r v) among is = cc is

taken_there : (name bill : Checksum) (records : List Record) → IsAmong (Taken bill name) records
    → is_taken name records ≡ true
taken_there name bill [] among = absurd among
taken_there name bill (x ∷ xs) (inl same) =
    or_left (takes name x) (is_taken name xs) (ap (takes name) same ∙ checksum_eq-itself name)
taken_there name bill (x ∷ xs) (inr later) =
    or_right (takes name x) (is_taken name xs) (taken_there name bill xs later)

-- a record of a bill is in the bill's history
kept : (bill : Checksum) (records : List Record) (r : Record) → IsAmong r records → bill_of r ≡ bill
    → IsAmong r (of_bill bill records)
kept bill [] r among of_it = absurd among
kept bill (x ∷ xs) r (inl same) of_it =
    let test : checksum_eq (bill_of x) bill ≡ true = checksum_eq-of (bill_of x) bill (ap bill_of same ∙ of_it) in
    subst (λ (b : Bool). IsAmong r (cond b (x ∷ of_bill bill xs) (of_bill bill xs))) (sym test) (inl same)
kept bill (x ∷ xs) r (inr later) of_it = on_test (checksum_eq (bill_of x) bill) (kept bill xs r later of_it)
  where
    on_test : (b : Bool) → IsAmong r (of_bill bill xs) → IsAmong r (cond b (x ∷ of_bill bill xs) (of_bill bill xs))
    on_test true there = inr there
    on_test false there = there

-- ---- links are of their bill

entries_of : (bill : Checksum) (front chain : List ChainLink) → FollowEachOther bill front chain
    → (link : ChainLink) → IsAmong link chain → link.entry.bill ≡ bill
entries_of bill front [] follow link among = absurd among
entries_of bill front (x ∷ xs) follow link (inl same) =
    ap (λ (l : ChainLink). l.entry.bill) (sym same) ∙ follow.0.bill_is
entries_of bill front (x ∷ xs) follow link (inr later) = entries_of bill (front ++ x ∷ []) xs follow.1 link later

-- a record of a history, whose bill a link names
record NamesBill (h : List Record) (link : ChainLink) : Type 0 where
  r : Record
  among : IsAmong r h
  bill_is : link.entry.bill ≡ bill_of r

named_later : (r : Record) (h : List Record) (link : ChainLink) → NamesBill h link → NamesBill (r ∷ h) link
named_later r h link n = record { r = n.r; among = inr n.among; bill_is = n.bill_is }

names_bill : (me : PlatformCode) (h : List Record) → IsSoundHistory me h → (link : ChainLink)
    → IsAmong link (links_of h) → NamesBill h link
names_bill me [] sound link among = absurd among
names_bill me (Parted b parted m t ∷ h) sound link (inl same) = record {
  r = Parted b parted m t;
  among = inl refl;
  bill_is = ap (λ (l : ChainLink). l.entry.bill) (sym same) ∙ sound.0.bill_is;
}
names_bill me (Parted b parted m t ∷ h) sound link (inr old) =
    named_later (Parted b parted m t) h link (names_bill me h sound.1 link old)
names_bill me (Begun b c m t ∷ h) sound link among =
    on_parts (among_either link c (links_of h) among) (names_bill me h sound.1 link)
  where
    on_parts : IsAmong link c ⊎ IsAmong link (links_of h) → (IsAmong link (links_of h) → NamesBill h link)
        → NamesBill (Begun b c m t ∷ h) link
    on_parts (inl here) further = record {
      r = Begun b c m t;
      among = inl refl;
      bill_is = entries_of b [] c sound.0.good link here;
    }
    on_parts (inr old) further = named_later (Begun b c m t) h link (further old)
names_bill me (r ∷ h) sound link among = named_later r h link (names_bill me h sound.1 link among)

-- ---- histories of members

-- the history of a listed member's platform is the member's
its_history : (bill : Checksum) (family : List Member) → AreApart family → (m : Member) → IsAmong m family
    → histories_of bill family m.platform ≡ history_in bill m
its_history bill [] apart m listed = absurd listed
its_history bill (x ∷ xs) apart m (inl same) =
    ap (λ (b : Bool). cond b (history_in bill x) (histories_of bill xs m.platform))
    ((code_eq-Decides x.platform m.platform).1 (ap (λ (n : Member). n.platform) same))
    ∙ ap (history_in bill) same
its_history bill (x ∷ xs) apart m (inr later) =
    on_test (code_eq x.platform m.platform) refl (its_history bill xs apart.1 m later)
  where
    on_test : (b : Bool) → code_eq x.platform m.platform ≡ b
        → histories_of bill xs m.platform ≡ history_in bill m
        → cond b (history_in bill x) (histories_of bill xs m.platform) ≡ history_in bill m
    on_test true is further = absurd (apart.0 m later (sym ((code_eq-Decides x.platform m.platform).0 is)))
    on_test false is further = further

-- an item of a list at its place
place_of_item : {X : Type 0} (items : List X) (x : X) → IsAmong x items → (i : ℕ) × (slice_get items i ≡ Some x)
place_of_item [] x among = absurd among
place_of_item (y ∷ ys) x (inl same) = (0, ap Some same)
place_of_item (y ∷ ys) x (inr later) = let (i, is) = place_of_item ys x later in (suc i, is)

-- ---- counting

-- no two of some lists have a Taken of the entry
abbrev ShareNone : {X : Type 0} → Checksum → (X → List Record) → List X → Type 0
ShareNone name f [] = Unit {0}
ShareNone {X} name f (x ∷ xs) =
    ((y : X) → IsAmong y xs → is_taken name (f x) ≡ true → is_taken name (f y) ≡ true → ⊥) × ShareNone name f xs

none_in_all : {X : Type 0} (name : Checksum) (f : X → List Record) (xs : List X)
    → ((x : X) → IsAmong x xs → is_taken name (f x) ≡ true → ⊥) → count_by (takes name) (flat_map f xs) ≡ 0
none_in_all name f [] none = refl
none_in_all name f (x ∷ xs) none =
    sum_by-append (λ (r : Record). cond (takes name r) 1 0) (f x) (flat_map f xs)
    ∙ both (none_counted name (f x) (false_unless (is_taken name (f x)) (none x (inl refl))))
    (none_in_all name f xs (λ y among. none y (inr among)))
  where
    both : {a b : ℕ} → a ≡ 0 → b ≡ 0 → a + b ≡ 0
    both p q = omega arith

once_in_all : {X : Type 0} (name : Checksum) (f : X → List Record) (xs : List X)
    → ((x : X) → IsAmong x xs → count_by (takes name) (f x) ≤ 1) → ShareNone name f xs
    → count_by (takes name) (flat_map f xs) ≤ 1
once_in_all name f [] each shared = omega arith
once_in_all {X} name f (x ∷ xs) each shared =
    on_test (is_taken name (f x)) refl (once_in_all name f xs (λ y among. each y (inr among)) shared.1)
  where
    with_one : {n a b : ℕ} → n ≡ a + b → a ≤ 1 → b ≡ 0 → n ≤ 1
    with_one sum p q = omega arith

    with_none : {n a b : ℕ} → n ≡ a + b → a ≡ 0 → b ≤ 1 → n ≤ 1
    with_none sum p q = omega arith

    whole : count_by (takes name) (flat_map f (x ∷ xs))
        ≡ count_by (takes name) (f x) + count_by (takes name) (flat_map f xs)
    whole = sum_by-append (λ (r : Record). cond (takes name r) 1 0) (f x) (flat_map f xs)

    on_test : (b : Bool) → is_taken name (f x) ≡ b → count_by (takes name) (flat_map f xs) ≤ 1
        → count_by (takes name) (flat_map f (x ∷ xs)) ≤ 1
    on_test true here rest =
        with_one whole (each x (inl refl)) (none_in_all name f xs (λ y among there. shared.0 y among here there))
    on_test false here rest = with_none whole (none_counted name (f x) here) rest

-- the records of a diary, as they were written
abbrev written : List Frame → List Record
written d = flat_map records_of d

written_count : (name : Checksum) (d : List Frame)
    → count_by (takes name) (newest_first d) ≡ count_by (takes name) (written d)
written_count name d =
    sum_by-IsPermutation (λ (r : Record). cond (takes name r) 1 0) (written d) (newest_first d)
    (IsPermutation-reverse (written d))

written_taken : (name : Checksum) (d : List Frame) → is_taken name (written d) ≡ true
    → is_taken name (newest_first d) ≡ true
written_taken name d t =
    let (bill, among) = taken_record name (written d) t in
    taken_there name bill (newest_first d) (among_reverse (written d) (Taken bill name) among)

-- ---- all diaries

module _ (family : List Member) (F : IsSoundFamily family) (D : HasDistinctNames family) (C : IsClosedFamily family)
    (name : Checksum) where
  -- a member's diary at a place has a Taken of the entry
  record HasTaken (m : Member) (i : ℕ) : Type 0 where
    listed : IsAmong m family
    diary : List Frame
    place : slice_get m.diaries i ≡ Some diary
    taken : is_taken name (newest_first diary) ≡ true

  -- so it is of a bill of that place, which has it in its history
  record TakenOf (m : Member) (i : ℕ) : Type 0 where
    bill : Checksum
    shard : shard_of bill ≡ i
    taken : is_taken name (histories_of bill family m.platform) ≡ true

  taken_of : (m : Member) (i : ℕ) → HasTaken m i → TakenOf m i
  taken_of m i h =
      let t = taken_record name (newest_first h.diary) h.taken in
      let bill = t.0 in
      let shard : shard_of bill ≡ i = F.in_shard m h.listed i h.diary h.place (Taken bill name) t.1 in
      let at_shard : slice_get m.diaries (shard_of bill) ≡ Some h.diary =
      ap (slice_get m.diaries) shard ∙ h.place in
      let its : history_in bill m ≡ history bill h.diary =
      ap (λ (o : Option (List Frame)). option_map_or (history bill) o []) at_shard in
      record {
        bill = bill;
        shard = shard;
        taken = ap (is_taken name) (its_history bill family F.apart m h.listed ∙ its)
            ∙ taken_there name bill (history bill h.diary)
            (kept bill (newest_first h.diary) (Taken bill name) t.1 refl);
      }

  -- the entry's link in the histories of a bill
  record LinkOf (bill : Checksum) : Type 0 where
    link : ChainLink
    named : link.name ≡ name
    known : IsKnown family F D bill link
    of_it : link.entry.bill ≡ bill

  is_of_bill : (bill : Checksum) (link : ChainLink) → IsAmong link (links_in bill family) → link.entry.bill ≡ bill
  is_of_bill bill link among =
      let from = link_from bill family link among in
      let m = from.0 in
      let n = names_bill m.platform (history_in bill m) (sound_in family F D bill m from.1) link from.2 in
      n.bill_is ∙ (stands_for bill family m from.1 n.r n.among).of_it

  link_of : (m : Member) (i : ℕ) (t : TakenOf m i) → LinkOf t.bill
  link_of m i t =
      let links = links_in t.bill family in
      let at = histories_of t.bill family in
      let closed = are_closed family F D t.bill C in
      let p = m.platform in
      let k = taken_by_chain links p (at p) (closed.sound p) (closed.among p) name t.taken in
      let r = received links p (at p) (closed.sound p) (closed.among p) (k.front ++ k.last ∷ []) k.chain in
      let among = among_last k.front k.last links r.among in
      record {
        link = k.last;
        named = k.named;
        known = known_link family F D t.bill k.last among;
        of_it = is_of_bill t.bill k.last among;
      }

  one_bill : (m n : Member) (i j : ℕ) (a : TakenOf m i) (b : TakenOf n j) → a.bill ≡ b.bill
  one_bill m n i j a b =
      let x = link_of m i a in
      let y = link_of n j b in
      let names = sym x.known.its_text.name ∙ x.named ∙ sym y.named ∙ y.known.its_text.name in
      let texts = D x.link.text.0 y.link.text.0 x.known.text y.known.text names in
      let entries = one_entry x.link y.link x.known.its_text y.known.its_text texts in
      sym x.of_it ∙ ap (λ (e : Entry). e.bill) entries ∙ y.of_it

  one_platform : (m n : Member) (i j : ℕ) → HasTaken m i → HasTaken n j → m.platform ≡ n.platform
  one_platform m n i j x y =
      let a = taken_of m i x in
      let b = taken_of n j y in
      taken_on_one (links_in a.bill family) (histories_of a.bill family) (are_closed family F D a.bill C) name
      m.platform n.platform a.taken
      (subst (λ (bill : Checksum). is_taken name (histories_of bill family n.platform) ≡ true)
      (sym (one_bill m n i j a b)) b.taken)

  one_place : (m n : Member) (i j : ℕ) → HasTaken m i → HasTaken n j → i ≡ j
  one_place m n i j x y =
      let a = taken_of m i x in
      let b = taken_of n j y in
      sym a.shard ∙ ap shard_of (one_bill m n i j a b) ∙ b.shard

  -- ---- of one member

  diaries_apart : (m : Member) → IsAmong m family → (k : ℕ) (ds : List (List Frame))
      → ((i n : ℕ) (d : List Frame) → n ≡ i + k → slice_get ds i ≡ Some d → slice_get m.diaries n ≡ Some d)
      → ShareNone name written ds
  diaries_apart m listed k [] places = tt
  diaries_apart m listed k (x ∷ xs) places = (
    apart,
    diaries_apart m listed (suc k) xs (λ i n d at is. places (suc i) n d (omega arith) is),
  )
    where
      apart : (y : List Frame) → IsAmong y xs → is_taken name (written x) ≡ true → is_taken name (written y) ≡ true → ⊥
      apart y among here there =
          let (j, is) = place_of_item xs y among in
          let one : HasTaken m k = record {
            listed = listed;
            diary = x;
            place = places 0 k x (omega arith) refl;
            taken = written_taken name x here;
          } in
          let other : HasTaken m (suc j + k) = record {
            listed = listed;
            diary = y;
            place = places (suc j) (suc j + k) y refl is;
            taken = written_taken name y there;
          } in
          let same = one_place m m k (suc j + k) one other in
          absurd (omega arith)

  -- the records of a member
  abbrev of_member : Member → List Record
  of_member m = flat_map written m.diaries

  once_of : (m : Member) → IsAmong m family → count_by (takes name) (of_member m) ≤ 1
  once_of m listed =
      once_in_all name written m.diaries
      (λ d among. subst (λ (n : ℕ). n ≤ 1) (written_count name d)
      (once_in m.platform (newest_first d) (F.sound m listed d among).records name))
      (diaries_apart m listed 0 m.diaries
      (λ i n d at is. subst (λ (x : ℕ). slice_get m.diaries x ≡ Some d) (let e : i ≡ n = omega arith in e) is))

  -- ---- of all members

  has_taken : (m : Member) → IsAmong m family → is_taken name (of_member m) ≡ true → (i : ℕ) × HasTaken m i
  has_taken m listed t =
      let (bill, among) = taken_record name (of_member m) t in
      let from = flat_among written m.diaries (Taken bill name) among in
      let (i, place) = place_of_item m.diaries from.item from.among in (
        i,
        record {
          listed = listed;
          diary = from.item;
          place = place;
          taken = written_taken name from.item (taken_there name bill (written from.item) from.holds);
        },
      )

  members_apart : (ms : List Member) → ((m : Member) → IsAmong m ms → IsAmong m family) → AreApart ms
      → ShareNone name of_member ms
  members_apart [] listed apart = tt
  members_apart (x ∷ xs) listed apart =
      (apart_first, members_apart xs (λ m among. listed m (inr among)) apart.1)
    where
      apart_first : (y : Member) → IsAmong y xs → is_taken name (of_member x) ≡ true → is_taken name (of_member y) ≡ true
          → ⊥
      apart_first y among here there =
          let (i, one) = has_taken x (listed x (inl refl)) here in
          let (j, other) = has_taken y (listed y (inr among)) there in
          apart.0 y among (sym (one_platform x y i j one other))

  -- each entry is taken at most once
  pub taken_once_in_all : count_by (takes name) (records_in family) ≤ 1
  taken_once_in_all =
      once_in_all name of_member family once_of (members_apart family (λ m among. among) F.apart)

-- every sound and closed family with distinct names is safe
pub closed_is_safe : (family : List Member)
    → IsSoundFamily family → IsClosedFamily family → HasDistinctNames family
    → IsSafeFamily family
closed_is_safe family sound closed distinct = record {
  bills = λ bill signed. is_safe family sound distinct bill closed signed;
  taken_once = λ entry. taken_once_in_all family sound distinct closed entry;
  not_both = λ entry m d listed has t. not_both_in m.platform (newest_first d) (sound.sound m listed d has).records entry t;
}
