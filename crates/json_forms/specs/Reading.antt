-- Small forms that many JSON objects have as members.
use Rattle.std.specs.Prelude.{◌≡◌, ℕ, suc, ℤ, pos, negsuc, List, [], ◌∷◌, Option, Some, None, Result, Ok, Err, option_map, option_and_then, nat_le, ◌&&◌, if◌then◌else◌}
use Rattle.canonical_json.specs.Value.{Value, Values, no_values, item}
use Rattle.canonical_json.specs.Field.{as_text, member_of, text_of, int_of, list_of}
use Rattle.ebl_base.specs.PlatformCode.{code_of}
use Rattle.ebl_base.specs.Party.{party_of}
use Rattle.ebl_base.specs.Provider.{provider_of}
use Rattle.ebl_base.specs.CarrierCode.{carrier_code_of}
use Rattle.document_checksum.specs.Text.{checksum_of_text}
use Rattle.ebl_base.specs.declared.checksum.Checksum.{Checksum}
use Rattle.ebl_base.specs.declared.platform_code.PlatformCode.{PlatformCode}
use Rattle.ebl_base.specs.declared.party.Party.{Party}
use Rattle.ebl_base.specs.declared.provider.Provider.{Provider}
use Rattle.ebl_base.specs.declared.carrier_code.CarrierCode.{CarrierCode}
use Rattle.ebl_base.specs.declared.signed_text.SignedText.{SignedText}
use Rattle.json_forms.specs.declared.reading.Malformed.{Malformed}

-- the platform code that a text is
abbrev pub platform_in : Value → Option PlatformCode
platform_in v = option_and_then code_of (as_text v)

-- the party that a text is
abbrev pub party_in : Value → Option Party
party_in v = option_and_then party_of (as_text v)

-- the checksum that a text is
abbrev pub checksum_in : Value → Option Checksum
checksum_in v = option_and_then checksum_of_text (as_text v)

-- a text, as one that may be signed
abbrev pub signed_in : Value → Option SignedText
signed_in v = option_map (λ t. record { 0 = t }) (as_text v)

-- the platform code that the member of that name is
abbrev pub required_platform : List ℕ → Value → Option PlatformCode
required_platform name v = option_and_then code_of (text_of name v)

-- the party that it is
abbrev pub required_party : List ℕ → Value → Option Party
required_party name v = option_and_then party_of (text_of name v)

-- the checksum that it is
abbrev pub required_checksum : List ℕ → Value → Option Checksum
required_checksum name v = option_and_then checksum_of_text (text_of name v)

-- the provider that it is
abbrev pub required_provider : List ℕ → Value → Option Provider
required_provider name v = option_and_then provider_of (text_of name v)

-- the carrier's code that it is
abbrev pub required_carrier_code : List ℕ → Value → Option CarrierCode
required_carrier_code name v = option_and_then carrier_code_of (text_of name v)

-- a whole number from least to most
abbrev pub number_in : ℕ → ℕ → ℤ → Option ℕ
number_in least most (pos n) = if nat_le least n && nat_le n most then Some n else None
number_in least most (negsuc n) = None

-- the whole number from least to most that the member of that name is
abbrev pub required_number : List ℕ → ℕ → ℕ → Value → Option ℕ
required_number name least most v = option_and_then (number_in least most) (int_of name v)

-- the member is there but malformed
abbrev malformed : Malformed
malformed = record {}

-- what is there has to have its form
abbrev pub in_form : {T : Type 0} → Option T → Result (Option T) Malformed
in_form None = Err malformed
in_form (Some x) = Ok (Some x)

-- a member that may be left out: none, or one in this form
abbrev pub optional : {T : Type 0} → (Value → Option T) → Option Value → Result (Option T) Malformed
optional form None = Ok None
optional form (Some v) = in_form (form v)

-- the party that the member of that name is, if there is one
abbrev pub optional_party : List ℕ → Value → Result (Option Party) Malformed
optional_party name v = optional party_in (member_of name v)

-- the checksum that it is, if there is one
abbrev pub optional_checksum : List ℕ → Value → Result (Option Checksum) Malformed
optional_checksum name v = optional checksum_in (member_of name v)

-- the text that it is, if there is one
abbrev pub optional_text : List ℕ → Value → Result (Option (List ℕ)) Malformed
optional_text name v = optional as_text (member_of name v)

-- what was found is seen as this
abbrev pub IsOptionalText : {T : Type 0} → (Option T → Option (List ℕ)) → Result (Option T) Malformed
    → Result (Option (List ℕ)) Malformed → Type 0
IsOptionalText seen (Ok found) said = said ≡ Ok (seen found)
IsOptionalText seen (Err other) said = said ≡ Err other

-- how many values
abbrev pub count_of : Values → ℕ
count_of no_values = 0
count_of (item v vs) = suc (count_of vs)

-- the values, where they are least to most
abbrev pub within : ℕ → ℕ → Values → Option Values
within least most vs = if nat_le least (count_of vs) && nat_le (count_of vs) most then Some vs else None

-- the values of the list that the member of that name is, where it has least to most
abbrev pub required_items : List ℕ → ℕ → ℕ → Value → Option Values
required_items name least most v = option_and_then (within least most) (list_of name v)

-- each value of a list in a form
abbrev pub each : {T : Type 0} → (Value → T) → Values → List T
each form no_values = []
each form (item v vs) = form v ∷ each form vs

-- one more in front, where it and the others are there
abbrev pub with_more : {T : Type 0} → Option T → Option (List T) → Option (List T)
with_more None more = None
with_more (Some x) None = None
with_more (Some x) (Some xs) = Some (x ∷ xs)

-- each value of a list, where all are in a form
abbrev pub all_of : {T : Type 0} → (Value → Option T) → Values → Option (List T)
all_of form no_values = Some []
all_of form (item v vs) = with_more (form v) (all_of form vs)

-- ---- members one after the other, the first wrong one ending the reading

-- what is made of a member, or its field where there is none in its form
abbrev pub required : {A B F : Type 0} → F → Option A → (A → Result B F) → Result B F
required field None next = Err field
required field (Some x) next = next x

-- what is made of a member that may be left out, or its field where it is there but malformed
abbrev pub unless_malformed : {A B F : Type 0} → F → Result A Malformed → (A → Result B F) → Result B F
unless_malformed field (Err other) next = Err field
unless_malformed field (Ok x) next = next x

-- what is made of several members, unless one of them is wrong
abbrev pub then_read : {A B F : Type 0} → Result A F → (A → Result B F) → Result B F
then_read (Err field) next = Err field
then_read (Ok x) next = next x
