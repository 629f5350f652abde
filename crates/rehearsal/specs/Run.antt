-- A rehearsal: what happened, event by event. It may stop before every event, where memory fails.
use Rattle.std.specs.Prelude.{◌≡◌, ◌≢◌, ◌⊎◌, ℕ, List, [], ◌∷◌, map}
use Rattle.answer_lines.specs.declared.answer.Answer.{Answer}
use Rattle.platform_world.specs.declared.fate.Fate.{Fate}
use Rattle.platform_world.specs.declared.fate.FateEnd.TheVariants.{Short}
use Rattle.platform_world.specs.Run.{Happened}
use Rattle.platform_world.specs.Step.{IsStep}
use Rattle.platform_world.specs.World.{WorldRecord}
use Rattle.rehearsal.specs.Events.{Made, Move, event_of, moves}

-- how a rehearsal ends
pub data RehearsalEnd : Type 0 where
  -- behind its last event
  complete : RehearsalEnd
  -- before an event, or before its summary
  stopped : RehearsalEnd

-- what happened, the world after it, and how it ends
pub record Rehearsal : Type 0 where
  pub happened : List Happened
  pub last : WorldRecord
  pub end : RehearsalEnd

-- the fates of what happened, in their order
abbrev pub fates_of : List Happened → List Fate
fates_of happened = map (λ h. h.fate) happened

-- no event more
abbrev pub ends_in : RehearsalEnd → WorldRecord → Rehearsal
ends_in end w = record { happened = []; last = w; end = end }

-- a rehearsal with an event in front
abbrev pub after_event : Happened → Rehearsal → Rehearsal
after_event h run = record run { happened = h ∷ run.happened }

-- the event that is made is taken, and the rest goes on from the world and the state after it
abbrev pub OnMade : Made → WorldRecord → Rehearsal → (WorldRecord → ℕ → Rehearsal → Type 0) → Type 0
OnMade next w run Rest =
    (fate : Fate) × (answer : Answer) × (after : WorldRecord) × (rest : Rehearsal)
    × IsStep w next.event fate answer after × (fate.end ≢ Short)
    × (run ≡ after_event
    (record { before = w; event = next.event; fate = fate; answer = answer; after = after }) rest)
    × Rest after next.state rest

-- the events of these moves, of so many bills, from a world and a state on
abbrev pub Goes : ℕ → List Move → WorldRecord → ℕ → Rehearsal → Type 0
Goes bills [] w x run = (run ≡ ends_in stopped w) ⊎ (run ≡ ends_in complete w)
Goes bills (move ∷ later) w x run =
    (run ≡ ends_in stopped w)
    ⊎ OnMade (event_of bills move w x) w run (λ after state rest. Goes bills later after state rest)

-- a rehearsal from this seed, with so many bills and steps, that begins in this world
abbrev pub Rehearses : ℕ → ℕ → ℕ → WorldRecord → Rehearsal → Type 0
Rehearses seed bills steps w run = Goes bills (moves bills steps) w seed run
