-- What the generator makes of a state and of the world before: the next event, and the state after its draws.
use Rattle.std.specs.Prelude.{ℕ, ◌+◌, ◌-◌, true, List, [], ◌∷◌, ◌++◌, Option, Some, None, codes, find, length, min, nat_eq, nat_lt, option_and_then, replicate, unwrap_or, if◌then◌else◌}
use Rattle.std.specs.Fmt.{decimal}
use Rattle.std.specs.List.{flat_map, range_with_len}
use Rattle.ebl_base.specs.Party.{party_eq}
use Rattle.ebl_base.specs.declared.kind.Kind.TheVariants.{Issue, Endorse, Transfer, SurrenderForDelivery, SurrenderRefused}
use Rattle.ebl_base.specs.declared.moment.Moment.{Moment}
use Rattle.ebl_base.specs.declared.party.Party.{Party}
use Rattle.canonical_json.specs.Value.{Value, flag, text, object, no_members, member}
use Rattle.world_script.specs.declared.deed.BillName.TheVariants.{Number}
use Rattle.world_script.specs.Event.{DeedRecord, signs, acts, EventRecord, commands, delivers, restarts, resends}
use Rattle.world_events.specs.Happening.{numbered}
use Rattle.platform_world.specs.Standing.{standing_in}
use Rattle.platform_world.specs.World.{WorldRecord}
use Rattle.rehearsal.specs.Draws.{draw}
use Rattle.rehearsal.specs.Roster.{alph, made_roster, one, party_at, platform_at}

-- an event, and the state after the draws for it
pub record Made : Type 0 where
  pub event : EventRecord
  pub state : ℕ

abbrev pub made : EventRecord → ℕ → Made
made event x = record { event = event; state = x }

-- ---- moves

pub data Move : Type 0 where
  -- the carrier signs the document of this number
  sign_bill : ℕ → Move
  -- the carrier issues the bill of this number to some party
  issue_bill : ℕ → Move
  -- something happens to some bill, message or platform
  happen : Move

-- a bill is signed and issued
abbrev pub begin_bill : ℕ → List Move
begin_bill k = sign_bill k ∷ issue_bill k ∷ []

-- so many bills are, one after another; then so many things happen
abbrev pub moves : ℕ → ℕ → List Move
moves bills steps = flat_map begin_bill (range_with_len 1 bills) ++ replicate steps happen

-- ---- commands

-- the moment of every command
abbrev pub first_moment : Moment
first_moment = record { number = 0 }

-- the document of this number: a bill of lading that may be a title
unfoldable pub document : ℕ → Value
document k =
    object (member (codes "carrierCode") (text (codes "OCNL"))
    (member (codes "carrierCodeListProvider") (text (codes "NMFTA"))
    (member (codes "isToOrder") (flag true)
    (member (codes "transportDocumentReference") (text (codes "R" ++ decimal k))
    (member (codes "transportDocumentTypeCode") (text (codes "BOL")) no_members)))))

abbrev pub signing : ℕ → EventRecord
signing k = commands alph (one alph) first_moment (signs (document k))

abbrev pub issuing : ℕ → ℕ → Made
issuing k x =
    draw 6 x (λ y state. made (commands alph (one alph) first_moment (acts (Number k) Issue (Some (party_at y)))) state)

-- the listed party that somebody is; nobody is the carrier
abbrev pub listed_or_carrier : Option Party → Party
listed_or_carrier None = one alph
listed_or_carrier (Some p) = unwrap_or (find (λ q. party_eq q p) made_roster.parties) (one alph)

-- whom the line of the bill of this number names as possessor
abbrev pub possessor_in : WorldRecord → ℕ → Option Party
possessor_in w k = option_and_then (λ bill. (standing_in w bill).possessor) (numbered k w.signed)

-- what is asked of the bill of this number, by a number below 8
abbrev pub deed_at : ℕ → ℕ → Party → DeedRecord
deed_at h k recipient =
    if nat_lt h 4 then acts (Number k) Transfer (Some recipient) else
    if nat_lt h 6 then acts (Number k) Endorse (Some recipient) else
    if nat_eq h 6 then acts (Number k) SurrenderForDelivery None else acts (Number k) SurrenderRefused None

-- a party asks it at its platform
abbrev pub asking : Party → DeedRecord → EventRecord
asking party deed = commands party.platform party first_moment deed

-- the possessor of some bill asks something; of a bill without one, the carrier
abbrev pub acting : ℕ → WorldRecord → ℕ → Made
acting bills w x =
    draw bills x
    (λ b x1. draw 8 x1
    (λ h x2. draw 6 x2
    (λ y x3. made (asking (listed_or_carrier (possessor_in w (b + 1))) (deed_at h (b + 1) (party_at y))) x3)))

-- ---- deliveries, resends and restarts

-- one of the last eight messages is delivered, by their number; the first one, while there is none
abbrev pub delivering : ℕ → ℕ → Made
delivering m x =
    if nat_eq m 0 then made (delivers 1 None) x
    else draw (min m 8) x (λ back state. made (delivers (m - back) None) state)

abbrev pub resending : ℕ → ℕ → Made
resending bills x =
    draw bills x (λ b x1. draw 3 x1 (λ p x2. made (resends (platform_at p) (Number (b + 1))) x2))

abbrev pub restarting : ℕ → Made
restarting x = draw 3 x (λ p state. made (restarts (platform_at p)) state)

-- ---- events

-- four times of ten somebody acts, four times a message is delivered, once a bill is sent again, and once a platform
-- starts again
abbrev pub happening : ℕ → WorldRecord → ℕ → Made
happening bills w x =
    draw 10 x
    (λ r state. if nat_lt r 4 then acting bills w state else
    if nat_lt r 8 then delivering (length w.sent) state else
    if nat_eq r 8 then resending bills state else restarting state)

-- the event of a move, where the rehearsal has so many bills
abbrev pub event_of : ℕ → Move → WorldRecord → ℕ → Made
event_of bills (sign_bill k) w x = made (signing k) x
event_of bills (issue_bill k) w x = issuing k x
event_of bills happen w x = happening bills w x
