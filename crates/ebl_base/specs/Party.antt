-- A party: a name on its platform, with the text platform/name.
use Rattle.std.specs.Prelude.{◌≡◌, ℕ, Bool, ◌&&◌, List, [], ◌∷◌, ◌++◌, Option, Some, None, ◌==◌, ◌||◌, if◌then◌else◌, take_while}
use Rattle.ebl_base.specs.PlatformCode.{code_of, code_text, code_eq}
use Rattle.ebl_base.specs.Name35.{name_of, name_text, name_eq, is_name_character}
use Rattle.ebl_base.specs.declared.platform_code.PlatformCode.{PlatformCode}
use Rattle.ebl_base.specs.declared.name35.Name35.{Name35}
use Rattle.ebl_base.specs.declared.party.Party.{Party}
use Rattle.ebl_base.specs.declared.party.PartyText.{PartyText}

-- the party of a code and a name, where both have their forms
abbrev pub party_at : Option PlatformCode → Option Name35 → Option Party
party_at None name = None
party_at (Some platform) None = None
party_at (Some platform) (Some name) = Some (record { platform = platform; code = name })

-- a platform code, a slash and a name
abbrev pub party_of : List ℕ → Option Party
party_of (a ∷ b ∷ c ∷ d ∷ slash ∷ name) =
    if slash == 47 then party_at (code_of (a ∷ b ∷ c ∷ d ∷ [])) (name_of name) else None
party_of text = None

-- the text of a party
abbrev pub party_text : Party → List ℕ
party_text party = code_text party.platform ++ 47 ∷ name_text party.code

-- a name character or a slash
abbrev pub is_party_character : ℕ → Bool
is_party_character c = is_name_character c || (c == 47)

-- what a text of a party shows: its leading characters of parties' texts
abbrev pub party_text_bytes : PartyText → List ℕ
party_text_bytes text = take_while is_party_character text.bytes

-- the party has its form: its text is the party's
abbrev pub IsParty : Party → Type 0
IsParty party = party_of (party_text party) ≡ Some party

-- whether two parties are one
abbrev pub party_eq : Party → Party → Bool
party_eq a b = code_eq a.platform b.platform && name_eq a.code b.code
