-- A run of a script: what happened, what it writes, and how it ends. It may stop before every line, where memory or the
-- sink fails.
use Rattle.std.specs.Prelude.{◌≡◌, ◌≢◌, ◌⊎◌, ℕ, ◌+◌, List, [], ◌∷◌, ◌++◌, Option, Some, None, MatchBool, length, nat_le}
use Rattle.ebl_base.specs.Segments.{segments_of}
use Rattle.ebl_base.specs.declared.checksum.Checksum.{Checksum}
use Rattle.signed_envelope.specs.KeyRing.{Keys}
use Rattle.party_roster.specs.RosterRecord.{RosterRecord}
use Rattle.closed_family.specs.Family.{histories_of}
use Rattle.world_script.specs.Event.{EventRecord}
use Rattle.answer_lines.specs.declared.answer.Answer.{Answer}
use Rattle.answer_lines.specs.Lines.{answer_line}
use Rattle.bill_lines.specs.Lines.{bill_line}
use Rattle.world_events.specs.Numbers.{number_shown, numbers_sent}
use Rattle.platform_world.specs.declared.fate.Fate.{Fate}
use Rattle.platform_world.specs.declared.fate.FateEnd.TheVariants.{Short}
use Rattle.platform_world.specs.World.{PlatformState, WorldRecord, opening, family_of, platforms_of, settled_for}
use Rattle.world_events.specs.Happening.{comes_to}
use Rattle.platform_world.specs.Platforms.{times_at}
use Rattle.platform_world.specs.Step.{IsCutShort, IsStep, disk_failed_at, ring_failed_at}
use Rattle.world_events.specs.Script.{roster_in, event_in}

-- ---- lines

-- the line that answers the event of this number
abbrev pub line_after : ℕ → WorldRecord → Answer → WorldRecord → List ℕ
line_after n before answer after =
    answer_line n (numbers_sent (length before.sent) (length after.sent)) (number_shown after.signed answer) answer

-- the line of a bill of this number
abbrev pub bill_line_in : WorldRecord → ℕ → Checksum → List ℕ
bill_line_in w n bill = bill_line n (histories_of bill (family_of w)) (platforms_of w) (settled_for bill w)

-- a line for each of these bills, numbered from here
abbrev pub bill_lines_from : WorldRecord → ℕ → List Checksum → List ℕ
bill_lines_from w n [] = []
bill_lines_from w n (bill ∷ bills) = bill_line_in w n bill ++ bill_lines_from w (n + 1) bills

-- a line for each bill that the script signed, in their order
abbrev pub bill_lines : WorldRecord → List ℕ
bill_lines w = bill_lines_from w 1 w.signed

-- ---- runs

-- an event that happened: the world before it, its fate, its answer, and the world after it
pub record Happened : Type 0 where
  pub before : WorldRecord
  pub event : EventRecord
  pub fate : Fate
  pub answer : Answer
  pub after : WorldRecord

-- how a run ends
pub data RunEnd : Type 0 where
  -- each line was answered, and the bill lines stand
  complete : RunEnd
  -- the line of this number is the first outside the grammar
  bad_line : ℕ → RunEnd
  -- before a line
  stopped : RunEnd

-- what happened in a run, the lines that answer it, the bill lines, how it ends, and how it leaves the platforms
pub record Run : Type 0 where
  pub happened : List Happened
  pub answers : List (List ℕ)
  pub bills : List ℕ
  pub end : RunEnd
  pub left : List PlatformState

-- no event more, and these bill lines
abbrev pub Ends : RunEnd → List ℕ → WorldRecord → List Fate → Run → Type 0
Ends end bills w fates run =
    (fates ≡ []) × (run ≡ record { happened = []; answers = []; bills = bills; end = end; left = w.platforms })

-- memory runs out in an event: it isn't answered, and may have a fate all the same
abbrev pub IsCutIn : WorldRecord → EventRecord → List Fate → Run → Type 0
IsCutIn w event fates run =
    (left : List PlatformState) × IsCutShort w (comes_to w.signed w.sent event) fates left
    × (run ≡ record { happened = []; answers = []; bills = []; end = stopped; left = left })

-- a run with an event and its line in front
abbrev pub after_event : Happened → List ℕ → Run → Run
after_event h line run = record run { happened = h ∷ run.happened; answers = line ∷ run.answers }

-- an event is answered by a line, and the rest of the run goes on from the world after it
abbrev pub IsAnsweredIn : WorldRecord → EventRecord → ℕ → List Fate → Run → (WorldRecord → List Fate → Run → Type 0)
    → Type 0
IsAnsweredIn w event n [] run Rest = ⊥
IsAnsweredIn w event n (fate ∷ fates) run Rest =
    (answer : Answer) × (after : WorldRecord) × (rest : Run)
    × IsStep w event fate answer after × (fate.end ≢ Short)
    × (run ≡ after_event
    (record { before = w; event = event; fate = fate; answer = answer; after = after })
    (line_after n w answer after) rest)
    × Rest after fates rest

-- an event is answered, or memory runs out in it; no event is a bad line
abbrev pub OnEvent : Option EventRecord → WorldRecord → ℕ → List Fate → Run → (WorldRecord → List Fate → Run → Type 0)
    → Type 0
OnEvent None w n fates run Rest = Ends (bad_line (n + 1)) [] w fates run
OnEvent (Some event) w n fates run Rest = IsCutIn w event fates run ⊎ IsAnsweredIn w event n fates run Rest

-- a script has at most 100,000 lines, so at most 99,999 events
abbrev pub OnNumbered : RosterRecord → List ℕ → WorldRecord → ℕ → List Fate → Run
    → (WorldRecord → List Fate → Run → Type 0) → Type 0
OnNumbered roster line w n fates run Rest = MatchBool (nat_le 100000 n)
    (Ends (bad_line (n + 1)) [] w fates run)
    (OnEvent (event_in roster line) w n fates run Rest)

-- the events of these lines, from the world before the event n on
abbrev pub Runs : RosterRecord → List (List ℕ) → WorldRecord → ℕ → List Fate → Run → Type 0
Runs roster [] w n fates run = Ends stopped [] w fates run ⊎ Ends complete (bill_lines w) w fates run
Runs roster (line ∷ lines) w n fates run =
    Ends stopped [] w fates run
    ⊎ OnNumbered roster line w n fates run (λ after fs rest. Runs roster lines after (n + 1) fs rest)

-- nothing happened, and there are no platforms
abbrev pub EndsAtOnce : RunEnd → List Fate → Run → Type 0
EndsAtOnce end fates run =
    (fates ≡ []) × (run ≡ record { happened = []; answers = []; bills = []; end = end; left = [] })

-- the first line gives the roster
abbrev pub OnRoster : Option RosterRecord → List Keys → List (List ℕ) → List Fate → Run → Type 0
OnRoster None rings lines fates run = EndsAtOnce (bad_line 1) fates run
OnRoster (Some roster) rings lines fates run = Runs roster lines (opening roster rings) 1 fates run

abbrev pub RunsLines : List (List ℕ) → List Keys → List Fate → Run → Type 0
RunsLines [] rings fates run = EndsAtOnce stopped fates run ⊎ EndsAtOnce (bad_line 1) fates run
RunsLines (line ∷ lines) rings fates run =
    EndsAtOnce stopped fates run ⊎ OnRoster (roster_in line) rings lines fates run

-- a run of this script with these rings, sixteen for each platform in the roster's order, whose events have these fates
abbrev pub RunsScript : List ℕ → List Keys → List Fate → Run → Type 0
RunsScript script rings fates run = RunsLines (segments_of 10 script) rings fates run

-- a run of this script, whatever the fates of its events
abbrev pub IsRunOf : List ℕ → List Keys → Run → Type 0
IsRunOf script rings run = (fates : List Fate) × RunsScript script rings fates run

-- ---- faults

-- how many of these events were answered DISK for the disk at this index, among all shards in the roster's order
abbrev pub disk_answers : ℕ → List Happened → ℕ
disk_answers k [] = 0
disk_answers k (h ∷ hs) =
    times_at h.before.roster.platforms
    (disk_failed_at (comes_to h.before.signed h.before.sent h.event) h.fate.end) k
    + disk_answers k hs

-- how many were answered SIGN for the ring there
abbrev pub sign_answers : ℕ → List Happened → ℕ
sign_answers k [] = 0
sign_answers k (h ∷ hs) =
    times_at h.before.roster.platforms
    (ring_failed_at (comes_to h.before.signed h.before.sent h.event) h.fate.end) k
    + sign_answers k hs
