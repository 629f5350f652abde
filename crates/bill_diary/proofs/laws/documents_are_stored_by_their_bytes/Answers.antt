use Rattle.std.proofs.Common.{refl}
use Rattle.bill_diary.proofs.laws.documents_are_stored_by_their_bytes.Goals as goal

pub returns : goal.returns
returns c =
    λ h entry bytes manifest piece came listed fits new. record {
      manifest = manifest;
      came = came;
      piece = piece;
      listed = listed;
      fits = fits;
      names = refl;
      new = new;
    }
