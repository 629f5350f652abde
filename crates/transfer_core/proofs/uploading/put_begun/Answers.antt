use Rattle.std.proofs.Common.{ℕ, List, refl, subst, sym}
use Rattle.upload_state.specs.Piece.{Fits}
use Rattle.transfer_core.proofs.PutLemmas.{listed_named}
use Rattle.transfer_core.proofs.uploading.put_begun.Goals as goal

pub frame_at_put-requires-clause-named : goal.frame_at_put-requires-clause-named
frame_at_put-requires-clause-named g c =
    listed_named c.args.checksum c.args.begun.manifest.now c.in-Some.piece.now c.args.bytes (sym c.in-Some.ensures)
    (subst (λ (bytes : List ℕ). Fits c.in-Some.piece.now bytes) c.as_slice.ensures (c.if-not-fits.ensures.0 refl))
