-- The diaries of a family: where each is found, what one frame more changes, and the histories of bills in them.
use Rattle.std.proofs.Common.{◌≡◌, ◌⊎◌, inl, inr, ℕ, Bool, true, false, cond, List, [], ◌∷◌, Option, Some, slice_get, refl, sym, ap, subst, ◌∙◌}
use Rattle.std.specs.Prelude.{◌==◌}
use Rattle.std.specs.Option.{option_map_or}
use Rattle.std.proofs.lemmas.Bool.Decides.{Decides-eqb}
use Rattle.ebl_base.specs.PlatformCode.{code_eq}
use Rattle.ebl_base.proofs.SameLemmas.{code_eq-Decides}
use Rattle.ebl_base.specs.Checksum.{checksum_eq}
use Rattle.ebl_base.specs.declared.checksum.Checksum.{Checksum}
use Rattle.ebl_base.specs.declared.platform_code.PlatformCode.{PlatformCode}
use Rattle.bill_diary.specs.declared.record.Record.{Record}
use Rattle.bill_diary.specs.declared.frame.Frame.{Frame}
use Rattle.bill_diary.specs.History.{bill_of, newest_first, of_bill, history}
use Rattle.closed_family.specs.declared.family.Member.{Member}
use Rattle.closed_family.specs.Chains.{IsAmong}
use Rattle.closed_family.specs.Family.{shard_of, history_in, histories_of, AreApart}
use Rattle.closed_family.proofs.Names.{checksum_eq-same, checksum_eq-itself, decided}
use Rattle.run_safety.specs.Network.{diary_of}

-- ---- this place or another

abbrev pub IsHere : PlatformCode → ℕ → PlatformCode → ℕ → Type 0
IsHere p i q k = (q ≡ p) × (k ≡ i)

pub here_or_not : (p : PlatformCode) (i : ℕ) (q : PlatformCode) (k : ℕ) → IsHere p i q k ⊎ (IsHere p i q k → ⊥)
here_or_not p i q k = on_both (decided (code_eq q p)) (decided (k == i))
  where
    no_way : {b : Bool} → b ≡ true → b ≡ false → ⊥
    no_way here other = let two = sym here ∙ other in cc two

    on_both : (code_eq q p ≡ true) ⊎ (code_eq q p ≡ false) → ((k == i) ≡ true) ⊎ ((k == i) ≡ false)
        → IsHere p i q k ⊎ (IsHere p i q k → ⊥)
    on_both (inl one) (inl two) = inl ((code_eq-Decides q p).0 one, (Decides-eqb k i).0 two)
    on_both (inr other) b = inr (λ here. no_way ((code_eq-Decides q p).1 here.0) other)
    on_both (inl one) (inr other) = inr (λ here. no_way ((Decides-eqb k i).1 here.1) other)

-- ---- where a diary is found

pub record IsIn (family : List Member) (p : PlatformCode) (i : ℕ) (d : List Frame) : Type 0 where
  pub m : Member
  pub listed : IsAmong m family
  pub platform : m.platform ≡ p
  pub there : slice_get m.diaries i ≡ Some d

pub found_in : (family : List Member) (p : PlatformCode) (i : ℕ) (d : List Frame) → diary_of family p i ≡ Some d
    → IsIn family p i d
found_in [] p i d is = cc is
found_in (m ∷ ms) p i d is = on_test (code_eq m.platform p) refl is (found_in ms p i d)
  where
    on_test : (b : Bool) → code_eq m.platform p ≡ b → cond b (slice_get m.diaries i) (diary_of ms p i) ≡ Some d
        → (diary_of ms p i ≡ Some d → IsIn ms p i d) → IsIn (m ∷ ms) p i d
    on_test true same there further =
        record { m = m; listed = inl refl; platform = (code_eq-Decides m.platform p).0 same; there = there }
    on_test false other there further =
        let f = further there in
        record { m = f.m; listed = inr f.listed; platform = f.platform; there = f.there }

-- a member that is listed has the diaries of its platform
pub listed_diary : (family : List Member) (m : Member) (i : ℕ) → AreApart family → IsAmong m family
    → diary_of family m.platform i ≡ slice_get m.diaries i
listed_diary [] m i apart among = absurd among
listed_diary (x ∷ xs) m i apart (inl same) =
    subst (λ (y : Member). diary_of (x ∷ xs) y.platform i ≡ slice_get y.diaries i) same
    (ap (λ (b : Bool). cond b (slice_get x.diaries i) (diary_of xs x.platform i))
    ((code_eq-Decides x.platform x.platform).1 refl))
listed_diary (x ∷ xs) m i apart (inr later) =
    on_test (decided (code_eq x.platform m.platform)) (listed_diary xs m i apart.1 later)
  where
    on_test : (code_eq x.platform m.platform ≡ true) ⊎ (code_eq x.platform m.platform ≡ false)
        → diary_of xs m.platform i ≡ slice_get m.diaries i
        → diary_of (x ∷ xs) m.platform i ≡ slice_get m.diaries i
    on_test (inl is) further =
        absurd (apart.0 m later (sym ((code_eq-Decides x.platform m.platform).0 is)))
    on_test (inr is) further =
        ap (λ (b : Bool). cond b (slice_get x.diaries i) (diary_of xs m.platform i)) is ∙ further

-- the history of a bill is that in the diary of its shard
pub history_by_diary : (bill : Checksum) (family : List Member) (p : PlatformCode)
    → histories_of bill family p ≡ option_map_or (history bill) (diary_of family p (shard_of bill)) []
history_by_diary bill [] p = refl
history_by_diary bill (m ∷ ms) p = on_test (code_eq m.platform p) (history_by_diary bill ms p)
  where
    on_test : (b : Bool)
        → histories_of bill ms p ≡ option_map_or (history bill) (diary_of ms p (shard_of bill)) []
        → cond b (history_in bill m) (histories_of bill ms p)
        ≡ option_map_or (history bill) (cond b (slice_get m.diaries (shard_of bill)) (diary_of ms p (shard_of bill))) []
    on_test true further = refl
    on_test false further = further

pub history_there : (bill : Checksum) (family : List Member) (p : PlatformCode) (d : List Frame)
    → diary_of family p (shard_of bill) ≡ Some d → histories_of bill family p ≡ history bill d
history_there bill family p d is =
    history_by_diary bill family p ∙ ap (λ (o : Option (List Frame)). option_map_or (history bill) o []) is

-- ---- records of one shard

-- records of another shard are none of the bill's
none_of_shard : (bill : Checksum) (i : ℕ) (records : List Record)
    → ((r : Record) → IsAmong r records → shard_of (bill_of r) ≡ i) → (shard_of bill ≡ i → ⊥)
    → of_bill bill records ≡ []
none_of_shard bill i [] each not_it = refl
none_of_shard bill i (r ∷ rs) each not_it =
    on_test (checksum_eq (bill_of r) bill) refl (none_of_shard bill i rs (λ s among. each s (inr among)) not_it)
  where
    on_test : (b : Bool) → checksum_eq (bill_of r) bill ≡ b → of_bill bill rs ≡ []
        → cond b (r ∷ of_bill bill rs) (of_bill bill rs) ≡ []
    on_test true is none =
        absurd (not_it (ap shard_of (sym (checksum_eq-same (bill_of r) bill is)) ∙ each r (inl refl)))
    on_test false is none = none

-- the history of a bill in a diary is that on the platform, or there is none
pub own_history : (bill : Checksum) (family : List Member) (p : PlatformCode) (i : ℕ) (d : List Frame)
    → diary_of family p i ≡ Some d → ((r : Record) → IsAmong r (newest_first d) → shard_of (bill_of r) ≡ i)
    → (histories_of bill family p ≡ history bill d) ⊎ (history bill d ≡ [])
own_history bill family p i d is each = on_shard (here_or_not p i p (shard_of bill))
  where
    on_shard : IsHere p i p (shard_of bill) ⊎ (IsHere p i p (shard_of bill) → ⊥)
        → (histories_of bill family p ≡ history bill d) ⊎ (history bill d ≡ [])
    on_shard (inl here) =
        inl (history_there bill family p d (ap (diary_of family p) here.1 ∙ is))
    on_shard (inr other) = inr (none_of_shard bill i (newest_first d) each (λ same. other (refl, same)))

-- a record is among those of its bill
pub among_own : (records : List Record) (r : Record) → IsAmong r records → IsAmong r (of_bill (bill_of r) records)
among_own [] r among = absurd among
among_own (x ∷ xs) r (inl same) =
    subst (λ (b : Bool). IsAmong r (cond b (x ∷ of_bill (bill_of r) xs) (of_bill (bill_of r) xs)))
    (sym (ap (λ (y : Record). checksum_eq (bill_of y) (bill_of r)) same ∙ checksum_eq-itself (bill_of r)))
    (inl same)
among_own (x ∷ xs) r (inr old) = on_test (checksum_eq (bill_of x) (bill_of r)) (among_own xs r old)
  where
    on_test : (b : Bool) → IsAmong r (of_bill (bill_of r) xs)
        → IsAmong r (cond b (x ∷ of_bill (bill_of r) xs) (of_bill (bill_of r) xs))
    on_test true further = inr further
    on_test false further = further
