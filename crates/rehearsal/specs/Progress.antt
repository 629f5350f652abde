-- How far a rehearsal has come, as its code keeps it: the world, the state, and the words of the answers so far.
use Rattle.std.specs.Prelude.{◌≡◌, ℕ, true, List, [], ◌∷◌, ◌++◌}
use Rattle.party_roster.specs.RosterRecord.{RosterRecord}
use Rattle.world_script.specs.Event.{EventRecord}
use Rattle.world_script.specs.Form.{IsEvent}
use Rattle.answer_lines.specs.Words.{answer_text}
use Rattle.answer_lines.specs.declared.answer.Answer.{Answer}
use Rattle.platform_world.specs.Machine.{Counts, MachineRecord}
use Rattle.world_events.specs.Script.{IsNested, names_listed}
use Rattle.platform_world.specs.State.{IsStepped, WorldState, world_of}
use Rattle.rehearsal.specs.Events.{Made, Move, event_of}

pub record Progress (M R : Type 0) : Type 0 where
  pub world : WorldState M R
  pub state : ℕ
  pub answers : List (List ℕ)

abbrev pub progress : {M R : Type 0} → WorldState M R → ℕ → List (List ℕ) → Progress M R
progress w x answers = record { world = w; state = x; answers = answers }

-- an event that a world of this roster takes
pub record MayCome (roster : RosterRecord) (event : EventRecord) : Type 0 where
  pub form : IsEvent event
  pub nests : IsNested event
  pub listed : names_listed roster event ≡ true

-- an event that was made is taken
pub record Takes {M R : Type 0} (seen : M → MachineRecord) (faults : Counts M) (before : Progress M R) (next : Made)
    (after : Progress M R) : Type 0 where
  pub answer : Answer
  pub stepped : IsStepped seen faults before.world next.event answer after.world
  pub state_is : after.state ≡ next.state
  pub answers_are : after.answers ≡ before.answers ++ answer_text answer ∷ []

-- so are the events of these moves, one after another
abbrev pub TakesAll : {M R : Type 0} → (M → MachineRecord) → Counts M → ℕ → List Move → Progress M R → Progress M R
    → Type 0
TakesAll seen faults bills [] before after = before ≡ after
TakesAll {M} {R} seen faults bills (move ∷ later) before after =
    (between : Progress M R)
    × Takes seen faults before (event_of bills move (world_of seen before.world) before.state) between
    × TakesAll seen faults bills later between after
