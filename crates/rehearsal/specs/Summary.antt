-- The line that sums a rehearsal up: one object of canonical JSON, and a line feed.
use Rattle.std.specs.Prelude.{◌≡◌, ℕ, zero, Bool, List, [], ◌∷◌, ◌++◌, codes, count_by, length, map, sum_by}
use Rattle.std.specs.List.{flat_map, list_any}
use Rattle.std.specs.Str.{bytes_eq}
use Rattle.canonical_json.specs.Value.{flag, object}
use Rattle.canonical_json.specs.View.{Entry, members_of}
use Rattle.json_forms.specs.Writing.{capped_value}
use Rattle.answer_lines.specs.Lines.{members_line}
use Rattle.answer_lines.specs.Words.{answer_text}
use Rattle.platform_world.specs.Machine.{Counts, MachineRecord}
use Rattle.platform_world.specs.Platforms.{EachRose}
use Rattle.platform_world.specs.Run.{Happened, disk_answers, sign_answers}
use Rattle.platform_world.specs.Standing.{standing_in}
use Rattle.platform_world.specs.State.{WorldState, world_of}
use Rattle.platform_world.specs.World.{WorldRecord}
use Rattle.rehearsal.specs.Run.{Rehearsal, Rehearses, complete, fates_of}

-- the sum of the entries over the bill lines
abbrev pub entries_in : WorldRecord → ℕ
entries_in w = sum_by (λ bill. (standing_in w bill).entries) w.signed

-- whether some bill line tells of a fork
abbrev pub forks_in : WorldRecord → Bool
forks_in w = list_any (λ bill. (standing_in w bill).forked) w.signed

-- the words of all answers, in the order of names
unfoldable pub words : List (List ℕ)
words =
    codes "BENV" ∷ codes "BSIG" ∷ codes "DAMAGED" ∷ codes "DISE" ∷ codes "DISK" ∷ codes "DOCUMENT" ∷ codes "DONE"
    ∷ codes "DUPE" ∷ codes "FULL" ∷ codes "IGNORED" ∷ codes "INCD" ∷ codes "KNOWN_BILL" ∷ codes "LIMIT"
    ∷ codes "MDOC" ∷ codes "NOT_ALLOWED" ∷ codes "NOT_CARRIER" ∷ codes "NOT_HERE" ∷ codes "NOT_OURS"
    ∷ codes "NOT_PARTING" ∷ codes "NO_BILL" ∷ codes "NO_MEMORY" ∷ codes "NO_MESSAGE" ∷ codes "NO_PARTY"
    ∷ codes "OPENED" ∷ codes "RECE" ∷ codes "SHOWN" ∷ codes "SIGN" ∷ codes "STARTED" ∷ codes "STORED"
    ∷ codes "UNKNOWN_REFERENCE" ∷ []

-- the words that answered the events, in their order
abbrev pub answers_of : List Happened → List (List ℕ)
answers_of happened = map (λ h. answer_text h.answer) happened

-- how often a word came
abbrev pub times : List (List ℕ) → List ℕ → ℕ
times answers word = count_by (λ answer. bytes_eq answer word) answers

-- a word with its number, if it came
abbrev pub counted : List ℕ → ℕ → List Entry
counted word zero = []
counted word n = (word, capped_value n) ∷ []

-- each word that came, with how often
abbrev pub replies_of : List (List ℕ) → List Entry
replies_of answers = flat_map (λ word. counted word (times answers word)) words

-- how many bills there were, how many entries their lines tell of, and how many events were taken
abbrev pub totals_members : ℕ → ℕ → ℕ → List Entry
totals_members bills entries events =
    (codes "bills", capped_value bills) ∷ (codes "entries", capped_value entries)
    ∷ (codes "events", capped_value events) ∷ []

-- of so many bills, by the world at the end and the words of the answers: beside those, whether a bill line tells of a
-- fork, and how often each word came
abbrev pub summary_members : ℕ → WorldRecord → List (List ℕ) → List Entry
summary_members bills w answers =
    totals_members bills (entries_in w) (length answers)
    ++ (codes "forked", flag (forks_in w)) ∷ (codes "replies", object (members_of (replies_of answers))) ∷ []

-- the line of a rehearsal of so many bills
abbrev pub summary_line : ℕ → Rehearsal → List ℕ
summary_line bills run = members_line (summary_members bills run.last (answers_of run.happened))

-- the line sums up a whole rehearsal from this seed, with so many bills and steps, from one world to another, which
-- kept the fates of what happened; and no disk and no ring failed less often than it tells
pub record SumsUp {M R : Type 0} (seen : M → MachineRecord) (faults : Counts M) (seed bills steps : ℕ)
    (before : WorldState M R) (line : List ℕ) (after : WorldState M R) : Type 0 where
  pub run : Rehearsal
  pub goes : Rehearses seed bills steps (world_of seen before) run
  pub whole : run.end ≡ complete
  pub line_is : line ≡ summary_line bills run
  pub last_is : run.last ≡ world_of seen after
  pub fates_are : after.fates ≡ before.fates ++ fates_of run.happened
  pub disks : EachRose faults.disk (λ k. disk_answers k run.happened) before.platforms.shards after.platforms.shards
  pub rings : EachRose faults.ring (λ k. sign_answers k run.happened) before.platforms.shards after.platforms.shards
