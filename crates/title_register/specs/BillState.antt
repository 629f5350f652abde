-- What is kept of one bill, by its records.
use Rattle.std.specs.Prelude.{Bool, false, true, not, ◌&&◌, List, [], None, Ok, count_by, unwrap_or}
use Rattle.bill_diary.specs.declared.record.Record.{Record}
use Rattle.bill_diary.specs.declared.bill_place.BillPlace.{BillPlace}
use Rattle.bill_diary.specs.declared.bill_place.BillPlace.TheVariants.{Held}
use Rattle.bill_diary.specs.Pieces.{pieces_of}
use Rattle.bill_diary.specs.Place.{place_of, title_at}
use Rattle.bill_diary.specs.Sound.{is_parted}
use Rattle.bill_diary.specs.Titles.{FoldedBy, is_ended_by, unplaced}
use Rattle.title_register.specs.declared.standing.Standing.{Standing}
use Rattle.title_register.specs.declared.bill_state.BillState.{BillState}
use Rattle.title_register.specs.declared.bill_state.StateChange.{StateChange}
use Rattle.title_register.specs.Past.{arrived, is_fresh}
use Rattle.title_register.specs.Standing.{nothing, place_at, standing_of, standing_with}

-- where it stands, the title there, its documents, how often it was parted, and what was kept so that its records
-- needn't be gone over
abbrev pub state_of : List Record → BillState
state_of h = record {
  standing = standing_of h;
  title = unplaced (title_at (place_of h));
  pieces = pieces_of h;
  partings = count_by is_parted h;
  arrived = arrived h;
  fresh = is_fresh h;
}

-- what is kept of a bill of which there is no record
abbrev pub unknown : BillState
unknown = record { standing = nothing; title = Ok None; pieces = []; partings = 0; arrived = []; fresh = false }

-- the title where a bill stands so
abbrev pub title_by : Standing → FoldedBy
title_by s = unplaced (title_at (place_at s))

-- whether a bill is held at a place
abbrev pub is_held : BillPlace → Bool
is_held (Held chain made) = true
is_held place = false

-- whether the possessor may act at a place with this title
abbrev pub acts_with : BillPlace → FoldedBy → Bool
acts_with place title = is_held place && not (is_ended_by title)

-- what is kept after a change
abbrev pub state_with : StateChange → BillState → BillState
state_with change s = record {
  standing = standing_with change.standing s.standing;
  title = change.title;
  pieces = unwrap_or change.pieces s.pieces;
  partings = change.partings;
  arrived = unwrap_or change.arrived s.arrived;
  fresh = change.fresh;
}
