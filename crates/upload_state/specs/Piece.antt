-- Which documents that a manifest lists are stored, and which bytes are one of them.
use Rattle.std.specs.Prelude.{◌≡◌, ℕ, List, [], ◌∷◌, Bool, not, filter, length}
use Rattle.std.specs.Set.{is_member}
use Rattle.std.specs.BTreeSet.{BTreeSet, contains}
use Rattle.ebl_base.specs.Checksum.{checksum_cmp, checksum_eq}
use Rattle.ebl_base.specs.declared.checksum.Checksum.{Checksum}
use Rattle.document_checksum.specs.Digest.{checksum_of}
use Rattle.envelope_manifest.specs.declared.piece.Piece.{Piece}
use Rattle.envelope_manifest.specs.declared.manifest.Manifest.{Manifest}
use Rattle.envelope_manifest.specs.Manifest.{checksums_of}

-- each checksum once, at its first place
abbrev pub each_once : List Checksum → List Checksum
each_once [] = []
each_once (checksum ∷ checksums) = checksum ∷ filter (λ c. not (checksum_eq c checksum)) (each_once checksums)

-- the checksum is not among these
abbrev pub is_absent : List Checksum → Checksum → Bool
is_absent stored checksum = not (is_member checksum_eq stored checksum)

-- the checksums of the documents that a manifest lists, in its order, each once, except those that are stored
abbrev pub missing_of : Manifest → List Checksum → List Checksum
missing_of manifest stored = filter (is_absent stored) (each_once (checksums_of manifest.documents))

-- the bytes are those of a listed document: as many as its size, with its checksum
pub record Fits (piece : Piece) (bytes : List ℕ) : Type 0 where
  pub size : piece.size ≡ length bytes
  pub checksum : piece.checksum ≡ checksum_of bytes

-- for private clauses: whether a set has a checksum
abbrev pub has : BTreeSet Checksum → Checksum → Bool
has set checksum = contains checksum_cmp set checksum
