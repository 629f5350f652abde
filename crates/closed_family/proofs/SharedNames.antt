-- Names that two texts share, by an index of the texts gone over.
use Rattle.std.proofs.Common.{◌≡◌, ℕ, Bool, true, false, cond, List, [], ◌∷◌, ◌++◌, Option, Some, None, refl, sym, ap, subst, ◌∙◌, inl, inr}
use Rattle.std.specs.Prelude.{◌⊎◌, ◌≢◌, not, bytes_eq, option_map}
use Rattle.std.specs.Option.{option_map_or}
use Rattle.std.proofs.lemmas.Slice.Eq.{bytes_eq-Decides}
use Rattle.std.specs.Ordering.{is_eq}
use Rattle.std.specs.BTreeMap.{BTreeMap, get, Updates}
use Rattle.std.proofs.lemmas.Map.Text.{is_eq-slice_cmp}
use Rattle.ebl_base.specs.Checksum.{checksum_cmp}
use Rattle.ebl_base.specs.declared.checksum.Checksum.{Checksum}
use Rattle.closed_family.specs.Chains.{IsAmong}
use Rattle.closed_family.specs.Texts.{Named, AreDistinct, IsSharedFirst}
use Rattle.closed_family.proofs.Names.{checksum_eq-same, checksum_eq-of, not_both}
use Rattle.closed_family.proofs.Records.{among_more, among_before, among_either}

-- names that compare as equal are one
same_name : (a b : Checksum) → is_eq (checksum_cmp a b) ≡ true → a ≡ b
same_name a b h = checksum_eq-same a b (sym (is_eq-slice_cmp a.0 b.0) ∙ h)

of_same_name : (a b : Checksum) → a ≡ b → is_eq (checksum_cmp a b) ≡ true
of_same_name a b h = is_eq-slice_cmp a.0 b.0 ∙ checksum_eq-of a b h

-- a text among these has this name and these bytes
pub record HasText (texts : List Named) (name : Checksum) (bytes : List ℕ) : Type 0 where
  pub item : Named
  pub among : IsAmong item texts
  pub name_is : item.name ≡ name
  pub text_is : item.text ≡ bytes

module _ {V : Type 0} (now : V → List ℕ) where
  -- a name is found with these bytes
  pub record Finds (seen : BTreeMap Checksum V) (name : Checksum) (bytes : List ℕ) : Type 0 where
    pub value : V
    pub found : get checksum_cmp seen name ≡ Some value
    pub bytes_are : now value ≡ bytes

  -- each name that is found is one of a text, and each text is found under its name
  pub record IsIndex (texts : List Named) (seen : BTreeMap Checksum V) : Type 0 where
    pub has : (name : Checksum) (value : V) → get checksum_cmp seen name ≡ Some value
        → HasText texts name (now value)
    pub finds : (item : Named) → IsAmong item texts → Finds seen item.name item.text

  one_value : {a b : V} → Some a ≡ Some b → a ≡ b
  one_value h = cc h

  -- indexed texts are distinct
  pub distinct_by_index : (texts : List Named) (seen : BTreeMap Checksum V) → IsIndex texts seen → AreDistinct texts
  distinct_by_index texts seen index a b pa pb names =
      let fa = index.finds a pa in
      let fb = index.finds b pb in
      let both = one_value
      (sym fa.found ∙ ap (get checksum_cmp seen) names ∙ fb.found) in
      sym fa.bytes_are ∙ ap now both ∙ fb.bytes_are

  -- a name is new, or was found with these bytes
  abbrev pub IsNoOther : Option V → List ℕ → Type 0
  IsNoOther None bytes = Unit {0}
  IsNoOther (Some value) bytes = now value ≡ bytes

  -- whether it was found with others
  abbrev pub is_other : Option V → List ℕ → Bool
  is_other earlier bytes = option_map_or (λ (e : List ℕ). not (bytes_eq e bytes)) (option_map now earlier) false

  pub no_other_by : (earlier : Option V) (bytes : List ℕ) → is_other earlier bytes ≡ false → IsNoOther earlier bytes
  no_other_by None bytes h = tt
  no_other_by (Some value) bytes h = (bytes_eq-Decides (now value) bytes).0 (on_test (bytes_eq (now value) bytes) h)
    where
      on_test : (b : Bool) → not b ≡ false → b ≡ true
      on_test true e = refl
      on_test false e = cc

  -- it was found with other bytes
  pub record IsFoundOther (earlier : Option V) (bytes : List ℕ) : Type 0 where
    pub value : V
    pub found : earlier ≡ Some value
    pub differ : now value ≢ bytes

  pub other_by : (earlier : Option V) (bytes : List ℕ) → is_other earlier bytes ≡ true → IsFoundOther earlier bytes
  other_by None bytes h = cc
  other_by (Some value) bytes h = record {
    value = value;
    found = refl;
    differ = λ same. on_test (bytes_eq (now value) bytes) h ((bytes_eq-Decides (now value) bytes).1 same);
  }
    where
      on_test : (b : Bool) → not b ≡ true → b ≡ true → ⊥
      on_test true e is = cc
      on_test false e is = cc

  -- ---- one text more

  module _ (texts : List Named) (item : Named) (old new : BTreeMap Checksum V) (value : V)
      (index : IsIndex texts old)
      (updates : Updates checksum_cmp old new item.name (Some value))
      (bytes_are : now value ≡ item.text)
      (no_other : IsNoOther (get checksum_cmp old item.name) item.text)
    where
      found_by : (name : Checksum) (b : Bool) → is_eq (checksum_cmp item.name name) ≡ b
          → get checksum_cmp new name ≡ cond b (Some value) (get checksum_cmp old name)
      found_by name b is =
          updates.0 name ∙ ap (λ (x : Bool). cond x (Some value) (get checksum_cmp old name)) is

      has_more : (name : Checksum) (v : V) → get checksum_cmp new name ≡ Some v
          → HasText (texts ++ item ∷ []) name (now v)
      has_more name v found = on_test (is_eq (checksum_cmp item.name name)) refl
        where
          on_test : (b : Bool) → is_eq (checksum_cmp item.name name) ≡ b → HasText (texts ++ item ∷ []) name (now v)
          on_test true is = record {
            item = item;
            among = among_more item texts (item ∷ []) (inl refl);
            name_is = same_name item.name name is;
            text_is = sym bytes_are ∙ ap now (one_value (sym (found_by name true is) ∙ found));
          }
          on_test false is =
              let h = index.has name v (sym (found_by name false is) ∙ found) in
              record {
                item = h.item;
                among = among_before h.item texts (item ∷ []) h.among;
                name_is = h.name_is;
                text_is = h.text_is;
              }

      finds_more : (x : Named) → IsAmong x (texts ++ item ∷ []) → Finds new x.name x.text
      finds_more x among =
          on_test (is_eq (checksum_cmp item.name x.name)) refl (among_either x texts (item ∷ []) among)
        where
          same_bytes : item.name ≡ x.name → IsAmong x texts ⊎ IsAmong x (item ∷ []) → now value ≡ x.text
          same_bytes names (inl before) =
              let f = index.finds x before in
              let there : now f.value ≡ item.text
              = subst (λ (o : Option V). IsNoOther o item.text) (ap (get checksum_cmp old) names ∙ f.found) no_other in
              bytes_are ∙ sym there ∙ f.bytes_are
          same_bytes names (inr (inl same)) = bytes_are ∙ ap (λ (t : Named). t.text) same
          same_bytes names (inr (inr none)) = absurd none

          on_test : (b : Bool) → is_eq (checksum_cmp item.name x.name) ≡ b
              → IsAmong x texts ⊎ IsAmong x (item ∷ []) → Finds new x.name x.text
          on_test true is where_it_is = record {
            value = value;
            found = found_by x.name true is;
            bytes_are = same_bytes (same_name item.name x.name is) where_it_is;
          }
          on_test false is (inl before) =
              let f = index.finds x before in
              record { value = f.value; found = found_by x.name false is ∙ f.found; bytes_are = f.bytes_are }
          on_test false is (inr (inl same)) =
              absurd (not_both (of_same_name item.name x.name (ap (λ (t : Named). t.name) same)) is)
          on_test false is (inr (inr none)) = absurd none

      pub index_more : IsIndex (texts ++ item ∷ []) new
      index_more = record { has = has_more; finds = finds_more }

  -- a name that is found with other bytes is the first that two texts share
  pub shared_by_index : (texts after whole : List Named) (item : Named) (seen : BTreeMap Checksum V) (value : V)
      → IsIndex texts seen → whole ≡ texts ++ item ∷ after
      → get checksum_cmp seen item.name ≡ Some value → now value ≢ item.text
      → IsSharedFirst whole item.name
  shared_by_index texts after whole item seen value index parts found differ =
      let h = index.has item.name value found in
      record {
        before = texts;
        other = item;
        after = after;
        texts_are = parts;
        one = h.item;
        one_before = h.among;
        one_named = h.name_is;
        other_named = refl;
        differ = λ same. differ (sym h.text_is ∙ same);
        first = distinct_by_index texts seen index;
      }
