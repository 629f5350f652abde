-- A sound family lacks nothing if and only if it is closed.
use Rattle.std.proofs.Common.{◌≡◌, ℕ, zero, suc, Bool, true, false, cond, List, [], ◌∷◌, ◌++◌, refl, sym, ap, subst, ◌∙◌, inl, inr}
use Rattle.std.specs.Prelude.{◌⊎◌, Option, Some, None, slice_get, option_and_then, IfSome}
use Rattle.std.specs.List.{flat_map}
use Rattle.std.specs.Option.{option_map_or}
use Rattle.ebl_base.specs.Checksum.{checksum_eq}
use Rattle.ebl_base.specs.declared.checksum.Checksum.{Checksum}
use Rattle.ebl_base.specs.declared.chain.ChainLink.{ChainLink}
use Rattle.ebl_base.specs.declared.platform_code.PlatformCode.{PlatformCode}
use Rattle.bill_chain.specs.Chain.{last_of, destination}
use Rattle.bill_diary.specs.declared.record.Record.{Record}
use Rattle.bill_diary.specs.declared.record.Record.TheVariants.{Settled, Regained, Taken}
use Rattle.bill_diary.specs.declared.frame.Frame.{Frame}
use Rattle.bill_diary.specs.History.{bill_of, newest_first, of_bill, history}
use Rattle.bill_diary.specs.Known.{taken_chain, settled_chain}
use Rattle.bill_diary.specs.Receiving.{is_taken, is_declined}
use Rattle.closed_family.specs.declared.family.Member.{Member}
use Rattle.closed_family.specs.declared.lacking.Lacking.{Lacking}
use Rattle.closed_family.specs.declared.verdict.Lack.{Lack}
use Rattle.closed_family.specs.declared.verdict.Lack.TheVariants as lacks
use Rattle.closed_family.specs.Chains.{IsAmong}
use Rattle.closed_family.specs.Histories.{is_parted}
use Rattle.closed_family.specs.Closed.{Histories, AreParted, IsCorroborated}
use Rattle.closed_family.specs.Family.{shard_of, histories_of, IsSoundFamily, IsClosedFamily}
use Rattle.closed_family.specs.Lacking.{first_of, unless_it_stands, unparted, unparted_of, unanswered, unanswered_of, lacking_of, lacking_in, lacking}
use Rattle.closed_family.proofs.Names.{checksum_eq-same, checksum_eq-itself}
use Rattle.closed_family.proofs.Chains.{HasLast, from_the_end, last_of-push}
use Rattle.closed_family.proofs.Families.{got}

-- ---- empty lists

none_of_both : (xs ys : List Lacking) → xs ++ ys ≡ [] → (xs ≡ []) × (ys ≡ [])
none_of_both [] ys h = (refl, h)
none_of_both (x ∷ xs) ys h = cc

both_none : (xs ys : List Lacking) → xs ≡ [] → ys ≡ [] → xs ++ ys ≡ []
both_none xs ys p q = ap (λ (zs : List Lacking). zs ++ ys) p ∙ q

it_stands : (b : Bool) (p : PlatformCode) (what : Lack) (link : ChainLink) → unless_it_stands b p what link ≡ []
    → b ≡ true
it_stands true p what link h = refl
it_stands false p what link h = cc

none_lacks : (b : Bool) (p : PlatformCode) (what : Lack) (link : ChainLink) → b ≡ true
    → unless_it_stands b p what link ≡ []
none_lacks true p what link h = refl
none_lacks false p what link h = cc

-- ---- chains

all_parted : (at : Histories) (chain : List ChainLink) → unparted at chain ≡ [] → AreParted at chain
all_parted at [] h = tt
all_parted at (link ∷ links) h =
    let both = none_of_both
    (unless_it_stands (is_parted link.name (at link.entry.platform)) link.entry.platform lacks.Parted link)
    (unparted at links) h in (
      it_stands
          (is_parted link.name (at link.entry.platform)) link.entry.platform lacks.Parted link both.0,
      all_parted at
          links both.1,
    )

none_unparted : (at : Histories) (chain : List ChainLink) → AreParted at chain → unparted at chain ≡ []
none_unparted at [] h = refl
none_unparted at (link ∷ links) h =
    both_none
    (unless_it_stands (is_parted link.name (at link.entry.platform)) link.entry.platform lacks.Parted link)
    (unparted at links)
    (none_lacks (is_parted link.name (at link.entry.platform)) link.entry.platform lacks.Parted link h.0)
    (none_unparted at links h.1)

taken_backed : (at : Histories) (chain : Option (List ChainLink)) → unparted_of at chain ≡ []
    → IfSome chain (AreParted at)
taken_backed at None h = tt
taken_backed at (Some chain) h = all_parted at chain h

taken_complete : (at : Histories) (chain : Option (List ChainLink)) → IfSome chain (AreParted at)
    → unparted_of at chain ≡ []
taken_complete at None h = refl
taken_complete at (Some chain) h = none_unparted at chain h

-- a chain with a destination has a last link
no_destination : (chain : List ChainLink) → last_of chain ≡ None → destination chain ≡ None
no_destination chain none = on_end (from_the_end chain)
  where
    on_end : (chain ≡ []) ⊎ HasLast chain → destination chain ≡ None
    on_end (inl e) = ap destination e
    on_end (inr l) =
        let two = sym none ∙ ap last_of l.parts ∙ last_of-push l.front l.last in
        cc two

answered_backed : (stands : PlatformCode → Bool) (what : Lack) (chain : Option (List ChainLink))
    → unanswered_of stands what chain ≡ []
    → IfSome (option_and_then destination chain) (λ (to : PlatformCode). stands to ≡ true)
answered_backed stands what None h = tt
answered_backed stands what (Some chain) h = on_parts (destination chain) (last_of chain) refl refl h
  where
    on_parts : (to : Option PlatformCode) (link : Option ChainLink) → destination chain ≡ to → last_of chain ≡ link
        → unanswered stands what to link ≡ []
        → IfSome to (λ (to : PlatformCode). stands to ≡ true)
    on_parts None link d l h = tt
    on_parts (Some to) None d l h = let two = sym d ∙ no_destination chain l in cc two
    on_parts (Some to) (Some link) d l h = it_stands (stands to) to what link h

answered_complete : (stands : PlatformCode → Bool) (what : Lack) (chain : Option (List ChainLink))
    → IfSome (option_and_then destination chain) (λ (to : PlatformCode). stands to ≡ true)
    → unanswered_of stands what chain ≡ []
answered_complete stands what None h = refl
answered_complete stands what (Some chain) h = on_parts (destination chain) (last_of chain) h
  where
    on_parts : (to : Option PlatformCode) (link : Option ChainLink)
        → IfSome to (λ (to : PlatformCode). stands to ≡ true)
        → unanswered stands what to link ≡ []
    on_parts None link h = refl
    on_parts (Some to) None h = refl
    on_parts (Some to) (Some link) h = none_lacks (stands to) to what link h

-- ---- histories

-- a record with what it needs
abbrev HasAll : Histories → List Record → Record → Type 0
HasAll at h r = lacking_of at h r ≡ []

backed_more : (at : Histories) (h : List Record) (r : Record) → HasAll at h r → IsCorroborated at h → IsCorroborated at (r ∷ h)
backed_more at h (Taken bill entry) all backed = (taken_backed at (taken_chain entry h) all, backed)
backed_more at h (Settled bill entry) all backed =
    (answered_backed (λ (to : PlatformCode). is_taken entry (at to)) lacks.Taken (settled_chain entry h) all, backed)
backed_more at h (Regained bill entry) all backed = (
  answered_backed (λ (to : PlatformCode). is_declined entry (at to)) lacks.Declined
      (settled_chain entry h) all,
  backed,
)
backed_more at h r all backed = backed

backed_first : (at : Histories) (h : List Record) (r : Record) → IsCorroborated at (r ∷ h) → HasAll at h r
backed_first at h (Taken bill entry) backed = taken_complete at (taken_chain entry h) backed.0
backed_first at h (Settled bill entry) backed =
    answered_complete (λ (to : PlatformCode). is_taken entry (at to)) lacks.Taken (settled_chain entry h) backed.0
backed_first at h (Regained bill entry) backed =
    answered_complete (λ (to : PlatformCode). is_declined entry (at to)) lacks.Declined (settled_chain entry h) backed.0
backed_first at h r backed = refl

backed_later : (at : Histories) (h : List Record) (r : Record) → IsCorroborated at (r ∷ h) → IsCorroborated at h
backed_later at h (Taken bill entry) backed = backed.1
backed_later at h (Settled bill entry) backed = backed.1
backed_later at h (Regained bill entry) backed = backed.1
backed_later at h r backed = backed

-- where a diary lacks nothing, each bill's history has what it needs
history_backed : (family : List Member) (bill : Checksum) (records : List Record)
    → lacking_in family records ≡ [] → IsCorroborated (histories_of bill family) (of_bill bill records)
history_backed family bill [] h = tt
history_backed family bill (r ∷ before) h =
    on_test (checksum_eq (bill_of r) bill) refl (history_backed family bill before both.0)
  where
    both : (lacking_in family before ≡ [])
        × (lacking_of (histories_of (bill_of r) family) (of_bill (bill_of r) before) r ≡ [])
    both = none_of_both (lacking_in family before)
        (lacking_of (histories_of (bill_of r) family) (of_bill (bill_of r) before) r) h

    on_test : (b : Bool) → checksum_eq (bill_of r) bill ≡ b
        → IsCorroborated (histories_of bill family) (of_bill bill before)
        → IsCorroborated (histories_of bill family) (cond b (r ∷ of_bill bill before) (of_bill bill before))
    on_test true is backed =
        let same = checksum_eq-same (bill_of r) bill is in
        let all = subst (λ (b : Checksum). lacking_of (histories_of b family) (of_bill b before) r ≡ []) same both.1 in
        backed_more (histories_of bill family) (of_bill bill before) r all backed
    on_test false is backed = backed

-- where the history of each of its records has what it needs, a diary lacks nothing
diary_complete : (family : List Member) (records : List Record)
    → ((r : Record) → IsAmong r records → IsCorroborated (histories_of (bill_of r) family) (of_bill (bill_of r) records))
    → lacking_in family records ≡ []
diary_complete family [] backed = refl
diary_complete family (r ∷ before) backed =
    both_none (lacking_in family before) (lacking_of (histories_of (bill_of r) family) (of_bill (bill_of r) before) r)
    (diary_complete family before (λ x among. later x (checksum_eq (bill_of r) (bill_of x)) (backed x (inr among))))
    (backed_first (histories_of (bill_of r) family) (of_bill (bill_of r) before) r first)
  where
    first : IsCorroborated (histories_of (bill_of r) family) (r ∷ of_bill (bill_of r) before)
    first =
        subst (λ (b : Bool). IsCorroborated (histories_of (bill_of r) family)
        (cond b (r ∷ of_bill (bill_of r) before) (of_bill (bill_of r) before)))
        (checksum_eq-itself (bill_of r)) (backed r (inl refl))

    later : (x : Record) (b : Bool)
        → IsCorroborated (histories_of (bill_of x) family)
        (cond b (r ∷ of_bill (bill_of x) before) (of_bill (bill_of x) before))
        → IsCorroborated (histories_of (bill_of x) family) (of_bill (bill_of x) before)
    later x true h = backed_later (histories_of (bill_of x) family) (of_bill (bill_of x) before) r h
    later x false h = h

-- ---- families

none_in_flat : {X : Type 0} (f : X → List Lacking) (xs : List X) (x : X) → flat_map f xs ≡ [] → IsAmong x xs → f x ≡ []
none_in_flat f [] x h among = absurd among
none_in_flat f (y ∷ ys) x h (inl same) = ap f (sym same) ∙ (none_of_both (f y) (flat_map f ys) h).0
none_in_flat f (y ∷ ys) x h (inr later) = none_in_flat f ys x (none_of_both (f y) (flat_map f ys) h).1 later

flat_none : {X : Type 0} (f : X → List Lacking) (xs : List X) → ((x : X) → IsAmong x xs → f x ≡ []) → flat_map f xs ≡ []
flat_none f [] each = refl
flat_none f (y ∷ ys) each =
    both_none (f y) (flat_map f ys) (each y (inl refl)) (flat_none f ys (λ x among. each x (inr among)))

-- a diary has a place among those of its member
pub place_among : (diaries : List (List Frame)) (d : List Frame) → IsAmong d diaries
    → (i : ℕ) × (slice_get diaries i ≡ Some d)
place_among [] d among = absurd among
place_among (x ∷ xs) d (inl same) = (zero, ap Some same)
place_among (x ∷ xs) d (inr later) = let (i, is) = place_among xs d later in (suc i, is)

-- a family that lacks nothing is closed
pub complete_is_closed : (family : List Member) → lacking family ≡ [] → IsClosedFamily family
complete_is_closed family none bill m listed = on_got (slice_get m.diaries (shard_of bill)) refl
  where
    of_member : flat_map (λ (diary : List Frame). lacking_in family (newest_first diary)) m.diaries ≡ []
    of_member = none_in_flat
        (λ (member : Member). flat_map (λ (diary : List Frame). lacking_in family (newest_first diary)) member.diaries)
        family m none listed

    on_got : (o : Option (List Frame)) → slice_get m.diaries (shard_of bill) ≡ o
        → IsCorroborated (histories_of bill family) (option_map_or (history bill) o [])
    on_got None is = tt
    on_got (Some d) is =
        history_backed family bill (newest_first d)
        (none_in_flat (λ (diary : List Frame). lacking_in family (newest_first diary)) m.diaries d of_member
        (got m.diaries (shard_of bill) d is))

-- and a sound family that is closed lacks nothing
pub closed_is_complete : (family : List Member) → IsSoundFamily family → IsClosedFamily family → lacking family ≡ []
closed_is_complete family sound closed =
    flat_none
    (λ (member : Member). flat_map (λ (diary : List Frame). lacking_in family (newest_first diary)) member.diaries)
    family (λ m listed. flat_none (λ (diary : List Frame). lacking_in family (newest_first diary)) m.diaries
    (λ d has. diary_complete family (newest_first d) (λ r among. of_diary m listed d has r among)))
  where
    of_diary : (m : Member) → IsAmong m family → (d : List Frame) → IsAmong d m.diaries
        → (r : Record) → IsAmong r (newest_first d)
        → IsCorroborated (histories_of (bill_of r) family) (of_bill (bill_of r) (newest_first d))
    of_diary m listed d has r among =
        let (i, is) = place_among m.diaries d has in
        let shard : shard_of (bill_of r) ≡ i = sound.in_shard m listed i d is r among in
        let there : slice_get m.diaries (shard_of (bill_of r)) ≡ Some d
        = ap (λ (k : ℕ). slice_get m.diaries k) shard ∙ is in
        subst (λ (o : Option (List Frame)). IsCorroborated (histories_of (bill_of r) family)
        (option_map_or (history (bill_of r)) o []))
        there (closed (bill_of r) m listed)

pub none_of_first : (xs : List Lacking) → first_of xs ≡ None → xs ≡ []
none_of_first [] h = refl
none_of_first (x ∷ xs) h = cc
