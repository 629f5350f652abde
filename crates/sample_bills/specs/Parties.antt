-- The roster that a text is.
use Rattle.std.specs.Prelude.{◌≡◌, ℕ, List, Ok}
use Rattle.canonical_json.specs.Reading.{Reads}
use Rattle.canonical_json.specs.Value.{Value}
use Rattle.party_roster.specs.Reading.{roster_of}
use Rattle.party_roster.specs.RosterRecord.{RosterRecord}

-- the text reads as a value that reads as the roster
pub record IsRosterText (text : List ℕ) (roster : RosterRecord) : Type 0 where
  pub value : Value
  pub reads : Reads text value
  pub is_roster : roster_of value ≡ Ok roster
