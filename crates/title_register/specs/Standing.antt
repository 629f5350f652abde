-- Where a bill stands by its records, in the parts that each record changes.
use Rattle.std.specs.Prelude.{Bool, false, List, [], Option, Some, None, length, nat_lt, unwrap_or, if◌then◌else◌}
use Rattle.std.specs.Option.{option_or, option_map_or}
use Rattle.ebl_base.specs.declared.chain.ChainLink.{ChainLink}
use Rattle.ebl_base.specs.declared.transaction.Transaction.{Transaction}
use Rattle.bill_diary.specs.declared.record.Record.{Record}
use Rattle.bill_diary.specs.declared.bill_place.BillPlace.{BillPlace}
use Rattle.bill_diary.specs.declared.bill_place.BillPlace.TheVariants.{Absent, Held, Parting, Gone}
use Rattle.bill_diary.specs.Known.{known}
use Rattle.bill_diary.specs.Place.{is_left, parting, since}
use Rattle.title_register.specs.declared.standing.Standing.{Standing}
use Rattle.title_register.specs.declared.change.Change.{Change}
use Rattle.title_register.specs.declared.change.PartingChange.{PartingChange}
use Rattle.title_register.specs.declared.change.PartingChange.TheVariants.{Same, Over, Begins}

-- ---- by the records

-- whether the last entry of the known chain, if one is known, is settled
abbrev pub left_by : Option (List ChainLink) → List Record → Bool
left_by known1 h = option_map_or (λ chain. is_left chain h) known1 false

-- where a bill stands by its records, newest first
abbrev pub standing_of : List Record → Standing
standing_of h = record { known = known h; parting = parting h; left = left_by (known h) h; since = since h }

-- where a bill stands of which there is no record
abbrev pub nothing : Standing
nothing = record { known = None; parting = None; left = false; since = [] }

-- ---- the place

abbrev pub placed : Option (List ChainLink) → Option ChainLink → Bool → List Transaction → BillPlace
placed None parting1 left since1 = Absent
placed (Some chain) (Some link) left since1 = Parting chain link
placed (Some chain) None left since1 = if left then Gone chain else Held chain since1

-- the place where a bill stands so
abbrev pub place_at : Standing → BillPlace
place_at s = placed s.known s.parting s.left s.since

-- the transactions that were made at a place: none where the bill isn't held
abbrev pub since_at : BillPlace → List Transaction
since_at (Held chain made) = made
since_at place = []

-- ---- changes

-- the entry that is parting after a change
abbrev pub parting_with : PartingChange → Option ChainLink → Option ChainLink
parting_with Same parting1 = parting1
parting_with Over parting1 = None
parting_with (Begins link) parting1 = Some link

-- the standing after a change
abbrev pub standing_with : Change → Standing → Standing
standing_with change s = record {
  known = option_or change.known s.known;
  parting = parting_with change.parting s.parting;
  left = change.left;
  since = unwrap_or change.since s.since;
}

-- no entry is parting any more where this is so
abbrev pub over_if : Bool → PartingChange
over_if over = if over then Over else Same

-- a chain that is recorded, unless a longer one is known
abbrev pub unless_shorter : Option (List ChainLink) → Option (List ChainLink) → Option (List ChainLink)
unless_shorter None known1 = None
unless_shorter (Some chain) known1 =
    if option_map_or (λ other. nat_lt (length chain) (length other)) known1 false then None else Some chain
