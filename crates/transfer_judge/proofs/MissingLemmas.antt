-- The documents that aren't there, one after the other.
use Rattle.std.proofs.Common.{◌≡◌, ℕ, ◌+◌, ◌<◌, Bool, true, false, cond, List, [], ◌∷◌, ◌++◌, length, drop, filter, map, get_or, ap, sym, ◌∙◌}
use Rattle.std.proofs.lemmas.List.{drop_more, append_assoc}
use Rattle.ebl_base.specs.declared.checksum.Checksum.{Checksum}
use Rattle.envelope_manifest.specs.declared.piece.Piece.{Piece}

-- those of the rest that are kept
abbrev pub kept : (Checksum → Bool) → List Piece → List Checksum
kept keeps pieces = filter keeps (map (λ piece. piece.checksum) pieces)

at_one : (keeps : Checksum → Bool) (pieces : List Piece) (i : ℕ) (piece : Piece)
    → i < length pieces → piece ≡ get_or pieces i piece
    → kept keeps (drop i pieces)
    ≡ cond (keeps piece.checksum) (piece.checksum ∷ kept keeps (drop (i + 1) pieces)) (kept keeps (drop (i + 1) pieces))
at_one keeps pieces i piece within is =
    ap (kept keeps) (drop_more pieces i piece within ∙ ap (λ p. p ∷ drop (i + 1) pieces) (sym is))

-- a document that is missing goes to those found
pub one_missing : (keeps : Checksum → Bool) (found : List Checksum) (pieces : List Piece) (i : ℕ) (piece : Piece)
    → i < length pieces → piece ≡ get_or pieces i piece → keeps piece.checksum ≡ true
    → (found ++ piece.checksum ∷ []) ++ kept keeps (drop (i + 1) pieces) ≡ found ++ kept keeps (drop i pieces)
one_missing keeps found pieces i piece within is missing =
    let rest = kept keeps (drop (i + 1) pieces) in
    append_assoc found (piece.checksum ∷ []) rest
    ∙ ap (λ r. found ++ r) (sym (at_one keeps pieces i piece within is
    ∙ ap (λ b. cond b (piece.checksum ∷ rest) rest) missing))

-- one that is there doesn't
pub one_there : (keeps : Checksum → Bool) (found : List Checksum) (pieces : List Piece) (i : ℕ) (piece : Piece)
    → i < length pieces → piece ≡ get_or pieces i piece → keeps piece.checksum ≡ false
    → found ++ kept keeps (drop (i + 1) pieces) ≡ found ++ kept keeps (drop i pieces)
one_there keeps found pieces i piece within is there =
    let rest = kept keeps (drop (i + 1) pieces) in
    ap (λ r. found ++ r) (sym (at_one keeps pieces i piece within is
    ∙ ap (λ b. cond b (piece.checksum ∷ rest) rest) there))
