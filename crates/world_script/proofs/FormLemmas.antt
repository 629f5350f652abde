-- An event that was read has its form.
use Rattle.std.proofs.Common.{◌≡◌, ℕ, List, Option, Some, None, Ok, refl, subst}
use Rattle.std.specs.Prelude.{IfSome, option_and_then}
use Rattle.std.specs.Str.{IsUtf8}
use Rattle.canonical_json.specs.Value.{Value, null, flag, int, decimal, text, list, object}
use Rattle.canonical_json.specs.Field.{member_of, as_text, text_of, int_of}
use Rattle.canonical_json.proofs.Parts.{HasTexts-member_of}
use Rattle.canonical_json.specs.Lawful.{HasTexts}
use Rattle.json_forms.specs.Reading.{optional, party_in}
use Rattle.json_forms.proofs.ReadForms.{optional_form, least-read, most-read}
use Rattle.chain_entry.proofs.RoundTrips.{party_form}
use Rattle.ebl_base.proofs.FormLemmas.{code_of-form, party_of-form}
use Rattle.ebl_base.specs.Party.{IsParty, party_of}
use Rattle.ebl_base.specs.PlatformCode.{IsCode, code_of}
use Rattle.ebl_base.specs.declared.party.Party.{Party}
use Rattle.ebl_base.specs.declared.platform_code.PlatformCode.{PlatformCode}
use Rattle.world_script.specs.Form.{IsNumber}
use Rattle.world_script.specs.Reading.{numbered}

-- ---- texts

-- a text among them is UTF-8
text_is_utf8 : (found : Option Value) (s : List ℕ) → ((w : Value) → found ≡ Some w → HasTexts w)
    → option_and_then as_text found ≡ Some s → IsUtf8 s
text_is_utf8 None s h e = cc
text_is_utf8 (Some null) s h e = cc
text_is_utf8 (Some (flag b)) s h e = cc
text_is_utf8 (Some (int z)) s h e = cc
text_is_utf8 (Some (decimal z n)) s h e = cc
text_is_utf8 (Some (text t)) s h e = let same : t ≡ s = cc in subst IsUtf8 same (h (text t) refl)
text_is_utf8 (Some (list vs)) s h e = cc
text_is_utf8 (Some (object ms)) s h e = cc

pub IsUtf8-text_of : (name : List ℕ) (v : Value) (s : List ℕ) → HasTexts v → text_of name v ≡ Some s → IsUtf8 s
IsUtf8-text_of name v s h e = text_is_utf8 (member_of name v) s (λ w f. HasTexts-member_of name v w h f) e

-- ---- codes, parties, numbers

pub IsCode-read : (said : Option (List ℕ)) (code : PlatformCode) → option_and_then code_of said ≡ Some code → IsCode code
IsCode-read None code e = cc
IsCode-read (Some t) code e = code_of-form t code e

pub IsParty-read : (said : Option (List ℕ)) (party : Party) → option_and_then party_of said ≡ Some party → IsParty party
IsParty-read None party e = cc
IsParty-read (Some t) party e = party_of-form t party e

-- a recipient that was read is a party
pub IsRecipient-read : (found : Option Value) (recipient : Option Party) → optional party_in found ≡ Ok recipient
    → IfSome recipient IsParty
IsRecipient-read = optional_form party_in IsParty party_form

pub IsNumber-read : (name : List ℕ) (v : Value) (n : ℕ) → numbered name v ≡ Some n → IsNumber n
IsNumber-read name v n e = record {
  least = least-read 1 9007199254740991 (int_of name v) n e;
  most = most-read 1 9007199254740991 (int_of name v) n e;
}
