-- What an ordered set or map of std finds after one item more.
use Rattle.std.proofs.Common.{◌≡◌, Bool, true, false, ◌&&◌, ◌||◌, List, [], ◌∷◌, ◌++◌, Some, None, is_some, refl, sym, ap, ◌∙◌, cond}
use Rattle.std.specs.declared.cmp.Ordering.{Ordering}
use Rattle.std.specs.declared.cmp.Ordering.TheVariants.{Less, Equal, Greater}
use Rattle.std.specs.Ordering.{nat_cmp, ordering_then, is_eq}
use Rattle.std.specs.Cmp.Lexicographic.{slice_cmp}
use Rattle.std.specs.Bool.{Decides}
use Rattle.std.specs.Set.{is_member}
use Rattle.std.specs.Str.{bytes_eq}
use Rattle.std.specs.BTreeSet.{BTreeSet, contains}
use Rattle.std.specs.BTreeSet as tree_set
use Rattle.std.specs.BTreeMap.{BTreeMap, get}
use Rattle.std.specs.BTreeMap as tree_map
use Rattle.std.proofs.lemmas.Map.Text.{is_eq-slice_cmp}
use Rattle.std.proofs.lemmas.List.Folds.{list_any-append}
use Rattle.std.proofs.lemmas.Bool.Decides.{same_from_decides, Decides-like, Decides-and}
use Rattle.ebl_base.specs.Party.{party_eq}
use Rattle.ebl_base.specs.Provider.{provider_eq}
use Rattle.ebl_base.specs.CarrierCode.{carrier_code_eq}
use Rattle.ebl_base.specs.declared.party.Party.{Party}
use Rattle.ebl_base.specs.declared.provider.Provider.{Provider}
use Rattle.ebl_base.specs.declared.provider.Provider.TheVariants.{Smdg, Nmfta}
use Rattle.ebl_base.specs.declared.carrier_code.CarrierCode.{CarrierCode}
use Rattle.ebl_base.proofs.SameLemmas.{party_eq-Decides}
use Rattle.ebl_base.proofs.CarrierLemmas.{provider_eq-Decides, carrier_code_eq-Decides}
use Rattle.party_roster.specs.declared.carrier.Carrier.{Carrier}
use Rattle.party_roster.specs.RosterRecord.{party_for, same_carrier}
use Rattle.party_roster.specs.Index.{party_cmp, provider_cmp, carrier_cmp, AreIn, AreUnder}

-- both parts are equal
is_eq-then : (a b : Ordering) → is_eq (ordering_then a b) ≡ (is_eq a && is_eq b)
is_eq-then Less b = refl
is_eq-then Equal b = refl
is_eq-then Greater b = refl

-- a test that decides whether two values are one asks for no order
turned : {T : Type 0} (same : T → T → Bool) → ((a b : T) → Decides (same a b) (a ≡ b)) → (a b : T)
    → same a b ≡ same b a
turned same decides a b =
    same_from_decides (same a b) (same b a) (decides a b) (Decides-like (same b a) sym sym (decides b a))

-- parties that compare as equal are one
is_eq-party_cmp : (a b : Party) → is_eq (party_cmp a b) ≡ party_eq b a
is_eq-party_cmp a b =
    is_eq-then (slice_cmp nat_cmp a.platform.bytes b.platform.bytes)
    (slice_cmp nat_cmp a.code.bytes b.code.bytes)
    ∙ ap (λ t. t && is_eq (slice_cmp nat_cmp a.code.bytes b.code.bytes))
    (is_eq-slice_cmp a.platform.bytes b.platform.bytes)
    ∙ ap (λ t. bytes_eq a.platform.bytes b.platform.bytes && t) (is_eq-slice_cmp a.code.bytes b.code.bytes)
    ∙ turned party_eq party_eq-Decides a b

is_member-push : (parties : List Party) (one q : Party)
    → is_member party_eq (parties ++ one ∷ []) q ≡ cond (party_eq q one) true (is_member party_eq parties q)
is_member-push parties one q = list_any-append (party_eq q) parties (one ∷ [])
    ∙ either (is_member party_eq parties q) (party_eq q one)
  where
    either : (a b : Bool) → (a || (b || false)) ≡ cond b true a
    either true true = refl
    either true false = refl
    either false true = refl
    either false false = refl

-- one party more in the list and in the set
pub AreIn-push : (parties : List Party) (one : Party) (old new : BTreeSet Party) → AreIn parties old
    → tree_set.Updates party_cmp old new one true → AreIn (parties ++ one ∷ []) new
AreIn-push parties one old new tied updates q =
    updates.0 q
    ∙ ap (λ t. cond t true (contains party_cmp old q)) (is_eq-party_cmp one q)
    ∙ ap (cond (party_eq q one) true) (tied q)
    ∙ sym (is_member-push parties one q)

is_eq-provider_cmp : (a b : Provider) → is_eq (provider_cmp a b) ≡ provider_eq b a
is_eq-provider_cmp Smdg Smdg = refl
is_eq-provider_cmp Smdg Nmfta = refl
is_eq-provider_cmp Nmfta Smdg = refl
is_eq-provider_cmp Nmfta Nmfta = refl

-- codes of providers that compare as equal are one
is_eq-carrier_cmp : (a b : Provider × CarrierCode)
    → is_eq (carrier_cmp a b) ≡ (provider_eq b.0 a.0 && carrier_code_eq b.1 a.1)
is_eq-carrier_cmp a b =
    is_eq-then (provider_cmp a.0 b.0) (slice_cmp nat_cmp a.1.bytes b.1.bytes)
    ∙ ap (λ t. t && is_eq (slice_cmp nat_cmp a.1.bytes b.1.bytes)) (is_eq-provider_cmp a.0 b.0)
    ∙ ap (λ t. provider_eq b.0 a.0 && t)
    (is_eq-slice_cmp a.1.bytes b.1.bytes ∙ turned carrier_code_eq carrier_code_eq-Decides a.1 b.1)

-- a code that no carrier of the list has
party_for-none : (carriers : List Carrier) (one : Carrier) → is_member same_carrier carriers one ≡ false
    → party_for carriers one.provider one.code ≡ None
party_for-none [] one absent = refl
party_for-none (c ∷ carriers) one absent = by_test (same_carrier one c) (party_for-none carriers one) absent
  where
    by_test : (b : Bool)
        → (is_member same_carrier carriers one ≡ false → party_for carriers one.provider one.code ≡ None)
        → (b || is_member same_carrier carriers one) ≡ false
        → cond b (Some c.party) (party_for carriers one.provider one.code) ≡ None
    by_test true rest h = cc
    by_test false rest h = rest h

-- a carrier is in the list exactly when a party is found for it
pub is_some-party_for : (carriers : List Carrier) (one : Carrier)
    → is_some (party_for carriers one.provider one.code) ≡ is_member same_carrier carriers one
is_some-party_for [] one = refl
is_some-party_for (c ∷ carriers) one = by_test (same_carrier one c) (is_some-party_for carriers one)
  where
    by_test : (b : Bool)
        → is_some (party_for carriers one.provider one.code) ≡ is_member same_carrier carriers one
        → is_some (cond b (Some c.party) (party_for carriers one.provider one.code))
        ≡ (b || is_member same_carrier carriers one)
    by_test true rest = refl
    by_test false rest = rest

-- whether a carrier has this provider and code
abbrev has_code : Carrier → Provider → CarrierCode → Bool
has_code c provider code = provider_eq provider c.provider && carrier_code_eq code c.code

-- another code is found as before
party_for-other : (carriers : List Carrier) (one : Carrier) (provider : Provider) (code : CarrierCode)
    → has_code one provider code ≡ false
    → party_for (carriers ++ one ∷ []) provider code ≡ party_for carriers provider code
party_for-other [] one provider code other = ap (λ t. cond t (Some one.party) None) other
party_for-other (c ∷ carriers) one provider code other =
    ap (cond (has_code c provider code) (Some c.party)) (party_for-other carriers one provider code other)

-- its code is found where it wasn't before
party_for-here : (carriers : List Carrier) (one : Carrier) (provider : Provider) (code : CarrierCode)
    → has_code one provider code ≡ true → party_for carriers provider code ≡ None
    → party_for (carriers ++ one ∷ []) provider code ≡ Some one.party
party_for-here [] one provider code here absent = ap (λ t. cond t (Some one.party) None) here
party_for-here (c ∷ carriers) one provider code here absent =
    by_test (has_code c provider code) (party_for-here carriers one provider code here) absent
  where
    by_test : (b : Bool)
        → (party_for carriers provider code ≡ None → party_for (carriers ++ one ∷ []) provider code ≡ Some one.party)
        → cond b (Some c.party) (party_for carriers provider code) ≡ None
        → cond b (Some c.party) (party_for (carriers ++ one ∷ []) provider code) ≡ Some one.party
    by_test true rest h = cc
    by_test false rest h = rest h

-- one carrier more that no carrier of the list repeats
party_for-push : (carriers : List Carrier) (one : Carrier) → is_member same_carrier carriers one ≡ false
    → (provider : Provider) (code : CarrierCode)
    → party_for (carriers ++ one ∷ []) provider code
    ≡ cond (has_code one provider code) (Some one.party) (party_for carriers provider code)
party_for-push carriers one absent provider code = by_test (has_code one provider code) refl
  where
    none_before : has_code one provider code ≡ true → party_for carriers provider code ≡ None
    none_before here =
        let both =
        (Decides-and (provider_eq provider one.provider) (carrier_code_eq code one.code) (provider_eq-Decides provider one.provider) (carrier_code_eq-Decides code one.code)).0
        here in
        ap (λ p. party_for carriers p code) both.0 ∙ ap (party_for carriers one.provider) both.1
        ∙ party_for-none carriers one absent

    by_test : (b : Bool) → has_code one provider code ≡ b
        → party_for (carriers ++ one ∷ []) provider code
        ≡ cond b (Some one.party) (party_for carriers provider code)
    by_test true here = party_for-here carriers one provider code here (none_before here)
    by_test false other = party_for-other carriers one provider code other

-- one carrier more in the list and in the map
pub AreUnder-push : (carriers : List Carrier) (one : Carrier) (old new : BTreeMap (Provider × CarrierCode) Party)
    → is_member same_carrier carriers one ≡ false → AreUnder carriers old
    → tree_map.Updates carrier_cmp old new (one.provider, one.code) (Some one.party)
    → AreUnder (carriers ++ one ∷ []) new
AreUnder-push carriers one old new absent tied updates provider code =
    updates.0 (provider, code)
    ∙ ap (λ t. cond t (Some one.party) (get carrier_cmp old (provider, code)))
    (is_eq-carrier_cmp (one.provider, one.code) (provider, code))
    ∙ ap (cond (has_code one provider code) (Some one.party)) (tied provider code)
    ∙ sym (party_for-push carriers one absent provider code)
