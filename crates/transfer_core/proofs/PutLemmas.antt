-- The bytes of a document that is listed with a checksum have that checksum.
use Rattle.std.proofs.Common.{◌≡◌, ℕ, List, Some, sym, ◌∙◌}
use Rattle.document_checksum.specs.Digest.{checksum_of}
use Rattle.ebl_base.specs.Checksum.{checksum_eq}
use Rattle.ebl_base.specs.declared.checksum.Checksum.{Checksum}
use Rattle.ebl_base.proofs.ChecksumLemmas.{checksum_eq-Decides}
use Rattle.envelope_manifest.specs.declared.manifest.Manifest.{Manifest}
use Rattle.envelope_manifest.specs.declared.piece.Piece.{Piece}
use Rattle.upload_state.specs.Piece.{Fits}
use Rattle.platform_machine.specs.Receiving.{listed_with}
use Rattle.title_register.proofs.FoundLemmas.{found_passes}

pub listed_named : (checksum : Checksum) (manifest : Manifest) (piece : Piece) (bytes : List ℕ)
    → listed_with checksum manifest ≡ Some piece → Fits piece bytes → checksum ≡ checksum_of bytes
listed_named checksum manifest piece bytes is fits =
    let same : piece.checksum ≡ checksum = (checksum_eq-Decides piece.checksum checksum).0
    (found_passes (λ (p : Piece). checksum_eq p.checksum checksum) manifest.documents piece is) in
    sym same ∙ fits.checksum
