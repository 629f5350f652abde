-- The documents that a manifest lists, one and several.
use Rattle.std.proofs.Common.{◌≡◌, ℕ, ◌+◌, ◌≤◌, ◌<◌, ◌^◌, nat_lt, List, [], ◌∷◌, ◌++◌, length, true, false, ◌&&◌, not, nat_le, IsTrue, Option, Some, None, get_or, ap, ◌∙◌, arith, Result, Ok, map, take, subst}
use Rattle.std.specs.Prelude.{option_and_then}
use Rattle.std.specs.Result.{result_unwrap_or}
use Rattle.std.proofs.lemmas.Bool.{and_parts}
use Rattle.std.proofs.lemmas.Grind.{common_steps}
use Rattle.canonical_json.specs.Value.{Value, Values}
use Rattle.canonical_json.specs.View.{view, items_view}
use Rattle.canonical_json.specs.declared.value.Json.{Json}
use Rattle.json_forms.specs.Reading.{within, count_of}
use Rattle.json_forms.proofs.RoundTrips.{kept}
use Rattle.envelope_manifest.specs.declared.fault.ManifestField.{ManifestField}
use Rattle.envelope_manifest.specs.declared.fault.ManifestField.TheVariants.{Documents}
use Rattle.json_forms.proofs.ReadForms.{required-parts}
use Rattle.std.specs.Str.{chars}
use Rattle.std.proofs.lemmas.Bool.Decides.{nat_tests}
use Rattle.canonical_json.specs.Name.{name_cmp}
use Rattle.canonical_json.specs.Lawful.{IsLawful, is_lawful, are_lawful}
use Rattle.envelope_manifest.specs.declared.piece.Piece.{Piece}
use Rattle.envelope_manifest.specs.Piece.{IsPiece, piece_in, piece_of, piece_value}
use Rattle.json_forms.specs.Writing.{each_written}
use Rattle.envelope_manifest.specs.declared.manifest.Manifest.{Manifest}
use Rattle.envelope_manifest.specs.Manifest.{ArePieces, manifest_value}

-- one document more
pub ArePieces-push : (pieces : List Piece) (piece : Piece) → ArePieces pieces → IsPiece piece
    → ArePieces (pieces ++ piece ∷ [])
ArePieces-push [] piece all one = (one, tt)
ArePieces-push (p ∷ pieces) piece all one = (all.0, ArePieces-push pieces piece all.1 one)

-- an object that lists a document
pub piece_in-piece_of : (v : Value) (piece : Piece) → piece_of v ≡ Ok piece → piece_in v ≡ Some piece
piece_in-piece_of v piece h =
    let parts = required-parts Documents (piece_in v) Ok piece h in
    let same : parts.0 ≡ piece = ap (λ (r : Result Piece ManifestField). result_unwrap_or r piece) parts.2 in
    parts.1 ∙ ap Some same

-- values in their range are at most so many
pub count_of-read : (most : ℕ) (said : Option Values) (found : Values)
    → option_and_then (within 0 most) said ≡ Some found → count_of found ≤ most
count_of-read most None found h = cc
count_of-read most (Some vs) found h =
    let both = kept (nat_le 0 (count_of vs) && nat_le (count_of vs) most) vs found h in
    let tests = and_parts (nat_le 0 (count_of vs)) (nat_le (count_of vs) most) both.0 in
    let within : count_of vs ≤ most = grind (arith, nat_tests, tests.1) in
    subst (λ v. count_of v ≤ most) both.1 within

-- written documents, one more
pub written-push : (items : List Json) (json : Json) (pieces : List Piece) (i : ℕ) (piece : Piece)
    → map view items ≡ map piece_value (take i pieces) → view json ≡ piece_value piece → i < length pieces
    → piece ≡ get_or pieces i piece
    → map view (items ++ json ∷ []) ≡ map piece_value (take (i + 1) pieces)
written-push items json pieces i piece before one lt is = grind (arith, common_steps, before, one, is)

-- values that may be written, one more
pub are_lawful-push : (items : List Json) (json : Json) → IsTrue (are_lawful (items_view items)) → IsLawful (view json)
    → IsTrue (are_lawful (items_view (items ++ json ∷ [])))
are_lawful-push [] json all one = ap (λ b. b && true) one
are_lawful-push (j ∷ items) json all one =
    let parts = and_parts (is_lawful (view j)) (are_lawful (items_view items)) all in
    ap (λ b. b && are_lawful (items_view (items ++ json ∷ []))) parts.0 ∙ are_lawful-push items json parts.1 one

-- a written document may be written as JSON: its names are in order, and its size is in range
pub IsLawful-piece_value : (piece : Piece) → piece.size < 2 ^ 32 → IsLawful (piece_value piece)
unfolding name_cmp chars
IsLawful-piece_value piece small =
    let within : nat_lt 9007199254740991 piece.size ≡ false = grind (arith, nat_tests, small) in
    ap (λ b. not b && true) within

-- so may a written manifest whose documents may
pub IsLawful-manifest_value : (manifest : Manifest) → IsTrue (are_lawful (each_written piece_value manifest.documents))
    → IsLawful (manifest_value manifest)
unfolding name_cmp chars
IsLawful-manifest_value manifest pieces = ap (λ b. b && true) pieces
