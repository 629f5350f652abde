-- The opening is steady.
use Rattle.std.proofs.Common.{◌≡◌, inl, inr, ℕ, zero, suc, Bool, true, false, List, [], ◌∷◌, length, Option, Some, None, refl, sym, ap, subst, ◌∙◌}
use Rattle.std.proofs.Math.Bool.{not}
use Rattle.std.specs.Prelude.{map, slice_get}
use Rattle.std.specs.List.{list_any}
use Rattle.std.specs.Option.{option_map_or}
use Rattle.ebl_base.specs.PlatformCode.{code_eq}
use Rattle.ebl_base.proofs.SameLemmas.{code_eq-Decides}
use Rattle.ebl_base.specs.declared.checksum.Checksum.{Checksum}
use Rattle.ebl_base.specs.declared.platform_code.PlatformCode.{PlatformCode}
use Rattle.party_roster.specs.Distinct.{are_distinct}
use Rattle.party_roster.specs.RosterRecord.{RosterRecord}
use Rattle.bill_diary.specs.declared.frame.Frame.{Frame}
use Rattle.bill_diary.specs.History.{newest_first, history}
use Rattle.transfer_judge.specs.Legal.{IsLegal}
use Rattle.closed_family.specs.declared.family.Member.{Member}
use Rattle.closed_family.specs.Chains.{IsAmong}
use Rattle.closed_family.specs.Family.{shard_of, histories_of, AreApart}
use Rattle.closed_family.proofs.Names.{and_both, not_both, or_left, or_right}
use Rattle.run_safety.specs.Network.{diary_of, opened, opening}
use Rattle.run_safety.specs.Steady.{AreMet, IsSteady, Rings}
use Rattle.run_safety.proofs.Diaries.{found_in, history_by_diary}

-- ---- its members

record IsOpened (m : Member) (platforms : List PlatformCode) : Type 0 where
  is_one : m ≡ opened m.platform
  among : IsAmong m.platform platforms

is_opened : (ps : List PlatformCode) (m : Member) → IsAmong m (map opened ps) → IsOpened m ps
is_opened [] m among = absurd among
is_opened (p ∷ ps) m (inl same) =
    let platforms : p ≡ m.platform = ap (λ (x : Member). x.platform) same in
    record { is_one = sym same ∙ ap opened platforms; among = inl platforms }
is_opened (p ∷ ps) m (inr later) =
    let o = is_opened ps m later in record { is_one = o.is_one; among = inr o.among }

listed_again : (p : PlatformCode) (ps : List PlatformCode) → IsAmong p ps → list_any (λ y. code_eq y p) ps ≡ true
listed_again p [] among = absurd among
listed_again p (q ∷ ps) (inl same) =
    or_left (code_eq q p) (list_any (λ (y : PlatformCode). code_eq y p) ps) ((code_eq-Decides q p).1 same)
listed_again p (q ∷ ps) (inr later) =
    or_right (code_eq q p) (list_any (λ (y : PlatformCode). code_eq y p) ps) (listed_again p ps later)

not_true : (b : Bool) → not b ≡ true → b ≡ false
not_true true is = cc is
not_true false is = refl

opening_apart : (ps : List PlatformCode) → are_distinct code_eq ps ≡ true → AreApart (map opened ps)
opening_apart [] distinct = tt
opening_apart (p ∷ ps) distinct =
    let both = and_both (not (list_any (λ (y : PlatformCode). code_eq y p) ps)) (are_distinct code_eq ps) distinct in (
      λ m among same.
          not_both (listed_again p ps
          (subst (λ (q : PlatformCode). IsAmong q ps) same (is_opened ps m among).among))
          (not_true (list_any (λ (y : PlatformCode). code_eq y p) ps) both.0),
      opening_apart ps both.1,
    )

-- ---- its diaries

abbrev AreEmpty : List (List Frame) → Type 0
AreEmpty [] = Unit {0}
AreEmpty (d ∷ ds) = (d ≡ []) × AreEmpty ds

empty_among : (ds : List (List Frame)) → AreEmpty ds → (k : ℕ) (d : List Frame) → slice_get ds k ≡ Some d → d ≡ []
empty_among [] are k d is = cc is
empty_among (x ∷ xs) are zero d is = let same : x ≡ d = cc is in sym same ∙ are.0
empty_among (x ∷ xs) are (suc k) d is = empty_among xs are.1 k d is

opened_empty : (p : PlatformCode) → AreEmpty (opened p).diaries
opened_empty p =
    (refl, (refl, (refl, (refl, (refl, (refl, (refl, (refl, (refl, (refl, (refl, (refl, (refl, (refl, (refl, (refl, tt))))))))))))))))

module _ (roster : RosterRecord) (rings : Rings) where
  empty_at : (p : PlatformCode) (i : ℕ) (d : List Frame) → diary_of (opening roster).family p i ≡ Some d → d ≡ []
  empty_at p i d is =
      let f = found_in (opening roster).family p i d is in
      let o = is_opened roster.platforms f.m f.listed in
      empty_among (opened f.m.platform).diaries (opened_empty f.m.platform) i d
      (ap (λ (x : Member). slice_get x.diaries i) (sym o.is_one) ∙ f.there)

  no_history : (bill : Checksum) (p : PlatformCode) → histories_of bill (opening roster).family p ≡ []
  no_history bill p =
      history_by_diary bill (opening roster).family p
      ∙ on_diary (diary_of (opening roster).family p (shard_of bill)) (empty_at p (shard_of bill))
    where
      on_diary : (o : Option (List Frame)) → ((d : List Frame) → o ≡ Some d → d ≡ []) → option_map_or (history bill) o [] ≡ []
      on_diary None each = refl
      on_diary (Some d) each = ap (history bill) (each d refl)

  pub opening_steady : are_distinct code_eq roster.platforms ≡ true → IsSteady roster rings (opening roster)
  opening_steady distinct = record {
    listed = λ m among. (is_opened roster.platforms m among).among;
    apart = opening_apart roster.platforms distinct;
    sixteen = λ m among. ap (λ (x : Member). length x.diaries) (is_opened roster.platforms m among).is_one;
    legal = λ p i d is.
        subst (IsLegal roster (rings p i) p) (sym (empty_at p i d is)) (record { frames = tt; records = tt });
    in_shard = λ p i d is r among.
        absurd (subst (λ (x : List Frame). IsAmong r (newest_first x)) (empty_at p i d is) among);
    met = λ bill p. subst (AreMet (histories_of bill (opening roster).family)) (sym (no_history bill p)) tt;
    loose = λ p i d frame is none. let no_way : None ≡ Some frame = none in cc no_way;
    caused = λ s among. absurd among;
  }
