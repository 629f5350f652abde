-- Whether a title is ended, by the fold and by the fold without its place.
use Rattle.std.proofs.Common.{◌≡◌, Ok, Err, refl}
use Rattle.title_fold.specs.Fold.{Folded}
use Rattle.bill_diary.specs.Place.{is_ended}
use Rattle.bill_diary.specs.Titles.{is_ended_by, unplaced}

pub is_ended-unplaced : (f : Folded) → is_ended_by (unplaced f) ≡ is_ended f
is_ended-unplaced (Ok title) = refl
is_ended-unplaced (Err at) = refl

pub ruleset titles = (is_ended-unplaced)
