-- What was read from a text has that text again.
use Rattle.std.proofs.Common.{◌≡◌, ℕ, zero, suc, ◌-◌, Bool, true, false, ◌&&◌, ◌==◌, List, [], ◌∷◌, ◌++◌, Option, Some, None, cond, length, nat_le, append-nil, refl, sym, ap, ◌∙◌, arith, take_while, replicate}
use Rattle.std.specs.Prelude.{find}
use Rattle.std.specs.List.{list_all, prefix_len}
use Rattle.std.specs.Str.{bytes_eq}
use Rattle.std.proofs.lemmas.Bool.{and_parts}
use Rattle.std.proofs.lemmas.Bool.Decides.{nat_tests}
use Rattle.std.proofs.lemmas.Slice.Eq.{bytes_eq-Decides}
use Rattle.ebl_base.specs.PlatformCode.{is_code_character, is_code, code_of, code_text}
use Rattle.ebl_base.specs.Name35.{is_name_character, is_name, name_of, name_text}
use Rattle.ebl_base.specs.CarrierCode.{is_carrier_code, carrier_code_of, carrier_code_text}
use Rattle.ebl_base.specs.Provider.{provider_of, provider_text, providers}
use Rattle.ebl_base.specs.Kind.{kind_of, kind_text}
use Rattle.ebl_base.specs.declared.kind.Kind.{Kind}
use Rattle.ebl_base.specs.declared.kind.Kind.TheVariants.{Sign, Issue, Endorse, Transfer, SurrenderForDelivery, SurrenderForAmendment, SurrenderAccepted, SurrenderRefused}
use Rattle.ebl_base.proofs.PartyLemmas.{whole_front}
use Rattle.ebl_base.specs.Party.{party_at, party_of, party_text}
use Rattle.ebl_base.specs.declared.platform_code.PlatformCode.{PlatformCode}
use Rattle.ebl_base.specs.declared.name35.Name35.{Name35}
use Rattle.ebl_base.specs.declared.carrier_code.CarrierCode.{CarrierCode}
use Rattle.ebl_base.specs.declared.provider.Provider.{Provider}
use Rattle.ebl_base.specs.declared.party.Party.{Party}

-- a choice that is there was made for a test that holds
pub when_some : {T : Type 0} (b : Bool) (x y : T) → cond b (Some x) None ≡ Some y → (b ≡ true) × (x ≡ y)
when_some true x y h = (refl, cc)
when_some false x y h = cc

-- no zero is a character of a code or a name
code_zeros : (n : ℕ) → prefix_len is_code_character (replicate n 0) ≡ 0
code_zeros zero = refl
code_zeros (suc n) = refl

name_zeros : (n : ℕ) → prefix_len is_name_character (replicate n 0) ≡ 0
name_zeros zero = refl
name_zeros (suc n) = refl

pub code_text-code_of : (text : List ℕ) (code : PlatformCode) → code_of text ≡ Some code
    → code_text code ≡ text
code_text-code_of text code h =
    let made : PlatformCode = record { bytes = text } in
    let both = when_some (is_code text) made code h in
    let all = (and_parts (length text == 4) (list_all is_code_character text) both.0).1 in
    ap code_text (sym both.1) ∙ ap (take_while is_code_character) (sym (append-nil text))
    ∙ whole_front is_code_character text [] all refl

pub name_text-name_of : (text : List ℕ) (name : Name35) → name_of text ≡ Some name → name_text name ≡ text
name_text-name_of text name h =
    let made : Name35 = record { bytes = text ++ replicate (35 - length text) 0 } in
    let both = when_some (is_name text) made name h in
    let all =
    (and_parts (nat_le 1 (length text) && nat_le (length text) 35) (list_all is_name_character text) both.0).1
    in
    ap name_text (sym both.1)
    ∙ whole_front is_name_character text (replicate (35 - length text) 0) all
    (name_zeros (35 - length text))

pub carrier_code_text-carrier_code_of : (text : List ℕ) (code : CarrierCode)
    → carrier_code_of text ≡ Some code → carrier_code_text code ≡ text
carrier_code_text-carrier_code_of text code h =
    let made : CarrierCode = record { bytes = text ++ replicate (4 - length text) 0 } in
    let both = when_some (is_carrier_code text) made code h in
    let all =
    (and_parts (nat_le 1 (length text) && nat_le (length text) 4) (list_all is_code_character text) both.0).1
    in
    ap carrier_code_text (sym both.1)
    ∙ whole_front is_code_character text (replicate (4 - length text) 0) all
    (code_zeros (4 - length text))

-- what is found by its text has it
found_has_text : {T : Type 0} (text_of : T → List ℕ) (text : List ℕ) (all : List T) (x : T)
    → find (λ y. bytes_eq (text_of y) text) all ≡ Some x → text_of x ≡ text
found_has_text text_of text [] x h = cc
found_has_text text_of text (y ∷ ys) x h =
    by_test (bytes_eq (text_of y) text) refl (found_has_text text_of text ys x) h
  where
    by_test : (s : Bool) → bytes_eq (text_of y) text ≡ s
        → (find (λ z. bytes_eq (text_of z) text) ys ≡ Some x → text_of x ≡ text)
        → cond s (Some y) (find (λ z. bytes_eq (text_of z) text) ys) ≡ Some x → text_of x ≡ text
    by_test true s rest h =
        let same : y ≡ x = cc in
        ap text_of (sym same) ∙ (bytes_eq-Decides (text_of y) text).0 s
    by_test false s rest h = rest h

pub provider_text-provider_of : (text : List ℕ) (provider : Provider) → provider_of text ≡ Some provider
    → provider_text provider ≡ text
provider_text-provider_of text provider h =
    found_has_text provider_text text providers provider h

-- each kind is read from its text
pub kind_of-kind_text : (kind : Kind) → kind_of (kind_text kind) ≡ Some kind
kind_of-kind_text Sign = refl
kind_of-kind_text Issue = refl
kind_of-kind_text Endorse = refl
kind_of-kind_text Transfer = refl
kind_of-kind_text SurrenderForDelivery = refl
kind_of-kind_text SurrenderForAmendment = refl
kind_of-kind_text SurrenderAccepted = refl
kind_of-kind_text SurrenderRefused = refl

-- the parts of a party that is there
pub parts_of-party_at : (code : Option PlatformCode) (name : Option Name35) (party : Party)
    → party_at code name ≡ Some party → (code ≡ Some party.platform) × (name ≡ Some party.code)
parts_of-party_at None name party h = cc
parts_of-party_at (Some code) None party h = cc
parts_of-party_at (Some code) (Some name) party h =
    let made : Party = record { platform = code; code = name } in
    let same : made ≡ party = (when_some true made party h).1 in
    (ap (λ (p : Party). Some p.platform) same, ap (λ (p : Party). Some p.code) same)

pub party_text-party_of : (text : List ℕ) (party : Party) → party_of text ≡ Some party
    → party_text party ≡ text
party_text-party_of [] party h = cc
party_text-party_of (a ∷ []) party h = cc
party_text-party_of (a ∷ b ∷ []) party h = cc
party_text-party_of (a ∷ b ∷ c ∷ []) party h = cc
party_text-party_of (a ∷ b ∷ c ∷ d ∷ []) party h = cc
party_text-party_of (a ∷ b ∷ c ∷ d ∷ slash ∷ name) party h = by_test (slash == 47) refl h
  where
    by_test : (s : Bool) → (slash == 47) ≡ s
        → cond s (party_at (code_of (a ∷ b ∷ c ∷ d ∷ [])) (name_of name)) None ≡ Some party
        → party_text party ≡ a ∷ b ∷ c ∷ d ∷ slash ∷ name
    by_test true s h =
        let parts = parts_of-party_at (code_of (a ∷ b ∷ c ∷ d ∷ [])) (name_of name) party h in
        let mark : slash ≡ 47 = grind (arith, nat_tests) in
        ap (λ text. text ++ 47 ∷ name_text party.code)
        (code_text-code_of (a ∷ b ∷ c ∷ d ∷ []) party.platform parts.0)
        ∙ ap (λ text. a ∷ b ∷ c ∷ d ∷ 47 ∷ text) (name_text-name_of name party.code parts.1)
        ∙ ap (λ m. a ∷ b ∷ c ∷ d ∷ m ∷ name) (sym mark)
    by_test false s h = cc
