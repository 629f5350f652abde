-- Values that were made have their form, and a party has its form if its parts have theirs.
use Rattle.std.specs.Prelude.{nat_eq}
use Rattle.std.proofs.Common.{◌≡◌, ℕ, List, [], ◌∷◌, ◌++◌, length, Bool, true, false, cond, Option, Some, None, ap, ◌∙◌, arith}
use Rattle.std.specs.List.{list_all}
use Rattle.std.proofs.lemmas.Bool.{and_parts}
use Rattle.std.proofs.lemmas.Bool.Decides.{nat_tests}
use Rattle.ebl_base.specs.PlatformCode.{IsCode, is_code, is_code_character, code_of, code_text}
use Rattle.ebl_base.specs.Name35.{IsName35, name_of, name_text}
use Rattle.ebl_base.specs.CarrierCode.{IsCarrierCode, carrier_code_of}
use Rattle.ebl_base.specs.Party.{IsParty, party_at, party_of, party_text}
use Rattle.ebl_base.specs.declared.platform_code.PlatformCode.{PlatformCode}
use Rattle.ebl_base.specs.declared.name35.Name35.{Name35}
use Rattle.ebl_base.specs.declared.carrier_code.CarrierCode.{CarrierCode}
use Rattle.ebl_base.specs.declared.party.Party.{Party}
use Rattle.ebl_base.proofs.TextLemmas.{code_text-code_of, name_text-name_of, carrier_code_text-carrier_code_of, party_text-party_of, parts_of-party_at, when_some}

-- ---- made values

pub code_of-form : (text : List ℕ) (code : PlatformCode) → code_of text ≡ Some code → IsCode code
code_of-form text code h = ap code_of (code_text-code_of text code h) ∙ h

pub name_of-form : (text : List ℕ) (name : Name35) → name_of text ≡ Some name → IsName35 name
name_of-form text name h = ap name_of (name_text-name_of text name h) ∙ h

pub carrier_code_of-form : (text : List ℕ) (code : CarrierCode) → carrier_code_of text ≡ Some code → IsCarrierCode code
carrier_code_of-form text code h = ap carrier_code_of (carrier_code_text-carrier_code_of text code h) ∙ h

pub party_of-form : (text : List ℕ) (party : Party) → party_of text ≡ Some party → IsParty party
party_of-form text party h = ap party_of (party_text-party_of text party h) ∙ h

-- ---- parties

-- the text of a code has four characters
four_characters : (text : List ℕ) (code : PlatformCode) → code_of text ≡ Some code → length text ≡ 4
four_characters text code h =
    let made : PlatformCode = record { bytes = text } in
    let test = (and_parts (nat_eq (length text) 4) (list_all is_code_character text) (when_some (is_code text) made code h).0).0 in
    grind (arith, nat_tests, test)

-- a text is that of a party if it is a code, a slash and a name
party_of-parts : (text name : List ℕ) (code : PlatformCode) (called : Option Name35) → code_of text ≡ Some code
    → name_of name ≡ called → length text ≡ 4 → party_of (text ++ 47 ∷ name) ≡ party_at (Some code) called
party_of-parts (a ∷ b ∷ c ∷ d ∷ []) name code called h k four =
    ap (λ o. party_at o (name_of name)) h ∙ ap (party_at (Some code)) k
party_of-parts [] name code called h k four = absurd (omega arith)
party_of-parts (a ∷ []) name code called h k four = absurd (omega arith)
party_of-parts (a ∷ b ∷ []) name code called h k four = absurd (omega arith)
party_of-parts (a ∷ b ∷ c ∷ []) name code called h k four = absurd (omega arith)
party_of-parts (a ∷ b ∷ c ∷ d ∷ e ∷ rest) name code called h k four = absurd (omega arith)

pub IsParty-whole : (party : Party) → IsCode party.platform → IsName35 party.code → IsParty party
IsParty-whole party code name = party_of-parts (code_text party.platform) (name_text party.code) party.platform (Some party.code) code name
    (four_characters (code_text party.platform) party.platform code)

-- the parts of a party that was read
pub party_of-parts_form : (text : List ℕ) (party : Party) → party_of text ≡ Some party → IsCode party.platform × IsName35 party.code
party_of-parts_form [] party h = cc
party_of-parts_form (a ∷ []) party h = cc
party_of-parts_form (a ∷ b ∷ []) party h = cc
party_of-parts_form (a ∷ b ∷ c ∷ []) party h = cc
party_of-parts_form (a ∷ b ∷ c ∷ d ∷ []) party h = cc
party_of-parts_form (a ∷ b ∷ c ∷ d ∷ slash ∷ name) party h =
    let code : List ℕ = a ∷ b ∷ c ∷ d ∷ [] in
    let parts = by_test (nat_eq slash 47) h in
    (code_of-form code party.platform parts.0, name_of-form name party.code parts.1)
  where
    by_test : (s : Bool) → cond s (party_at (code_of (a ∷ b ∷ c ∷ d ∷ [])) (name_of name)) None ≡ Some party
        → (code_of (a ∷ b ∷ c ∷ d ∷ []) ≡ Some party.platform) × (name_of name ≡ Some party.code)
    by_test true h = parts_of-party_at (code_of (a ∷ b ∷ c ∷ d ∷ [])) (name_of name) party h
    by_test false h = cc

pub IsParty-platform : (party : Party) → IsParty party → IsCode party.platform
IsParty-platform party form = (party_of-parts_form (party_text party) party form).0

pub IsParty-name : (party : Party) → IsParty party → IsName35 party.code
IsParty-name party form = (party_of-parts_form (party_text party) party form).1
