-- What holds of members that were read in their forms.
use Rattle.std.proofs.Common.{nat_lt, [], ◌∷◌, IsUtf8, ◌≡◌, ℕ, true, List, Option, Some, None, IsTrue, sym, ap, ◌∙◌, arith}
use Rattle.std.specs.Prelude.{option_and_then}
use Rattle.std.specs.List.{list_all}
use Rattle.std.specs.Str.{IsAscii}
use Rattle.std.proofs.lemmas.Bool.{and_parts}
use Rattle.std.proofs.lemmas.Str.{IsUtf8-from_ascii}
use Rattle.std.proofs.lemmas.Str.Ascii.{IsAscii-nil, IsAscii-cons}
use Rattle.std.proofs.lemmas.Bool.Decides.{nat_tests}
use Rattle.json_forms.proofs.RoundTrips.{kept}
use Rattle.envelope_manifest.specs.Piece.{is_plain_text, plain_text}

-- a text that was read is well-formed
pub is_plain_text-read : (most : ℕ) (said : Option (List ℕ)) (t : List ℕ)
    → option_and_then (plain_text most) said ≡ Some t → IsTrue (is_plain_text most t)
is_plain_text-read most None t h = cc
is_plain_text-read most (Some s) t h =
    let both = kept (is_plain_text most s) s t h in
    ap (is_plain_text most) (sym both.1) ∙ both.0

-- characters below 128 are ASCII
all_ascii : (text : List ℕ) → list_all (λ c. nat_lt c 128) text ≡ true → IsAscii text
all_ascii [] h = IsAscii-nil
all_ascii (c ∷ cs) h =
    let parts = and_parts (nat_lt c 128) (list_all (λ c. nat_lt c 128) cs) h in
    IsAscii-cons c cs (grind (arith, nat_tests, parts.0)) (all_ascii cs parts.1)

-- so a text of them, which computes, is UTF-8
pub IsUtf8-ascii : (text : List ℕ) → list_all (λ c. nat_lt c 128) text ≡ true → IsUtf8 text
IsUtf8-ascii text h = IsUtf8-from_ascii text (all_ascii text h)
