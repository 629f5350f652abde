-- What the exits of `canon` have written.
use Rattle.std.proofs.Common.{◌≡◌, inl, inr, ℕ, Bool, true, false, List, [], refl}
use Rattle.std.specs.Prelude.{MatchBool, Option, Some}
use Rattle.std.proofs.KnownBytes.{Appends-nil}
use Rattle.signed_envelope.specs.KeyRing.{Keys}
use Rattle.canonical_json.specs.Value.{Value}
use Rattle.canonical_json.specs.Reading.{Reads}
use Rattle.canonical_json.specs.declared.fault.ReadError.{ReadError}
use Rattle.ebl_run.specs.declared.command.Command.{Command}
use Rattle.ebl_run.specs.declared.command.Command.TheVariants.{Drive, Canon, Rehearse}
use Rattle.ebl_run.specs.declared.status.Status.{Status}
use Rattle.ebl_run.specs.declared.status.Status.TheVariants.{Done, Usage, ReadFault, TooLong, BadJson, BadScript, WrongRacks, NotBlank, OpenFault, WriteFault, NoMemory}
use Rattle.ebl_run.specs.Output.{complete, bad_json, stopped, Wrote}
use Rattle.ebl_run.specs.Canon.{Canonizes, IsRefusal, canonical_lines}
use Rattle.ebl_run.specs.Status.{EndsAs, EndsAsLast, IsBeforeWrite, IsCanonEnd, Outputs}
use Rattle.ebl_base.specs.Segments.{segments_of}
use Rattle.platform_world.specs.declared.fate.Fate.{Fate}
use Rattle.ebl_run.specs.Drive.{Refuses, WritesRun, racks_for, serve}
use Rattle.ebl_run.proofs.DriveLemmas.{EndsAs-wider, never_begun, stops_at_once}
use Rattle.ebl_run.proofs.RehearseLemmas.{rehearsal_stops}

-- memory may run out before it writes
pub canon_stops : (text : List ℕ) (now : Option (List ℕ)) → Wrote (Canonizes text) stopped now now
canon_stops text now = (record { text = []; end = stopped }, inl refl, refl, Appends-nil now)

-- a text without a value
pub canon_refuses : (text : List ℕ) (now : Option (List ℕ)) (fault : ReadError) → IsRefusal text fault → Wrote (Canonizes text) (bad_json fault) now now
canon_refuses text now fault refusal =
    (record { text = []; end = bad_json fault }, inr (inr (fault, refusal, refl)), refl, Appends-nil now)

-- the lines of a text's value are the last
pub EndsAs-value : (status : Status) (text : List ℕ) (v : Value) (old new : Option (List ℕ))
    → Reads text v → EndsAsLast status (canonical_lines v) old new → EndsAs status (Canonizes text) old new
EndsAs-value Done text v old new reads wrote =
    (record { text = canonical_lines v; end = complete }, inr (inl (v, reads, refl)), refl, wrote)
EndsAs-value WriteFault text v old new reads first =
    (record { text = canonical_lines v; end = complete }, inr (inl (v, reads, refl)), first)
EndsAs-value NoMemory text v old new reads wrote =
    (record { text = []; end = stopped }, inl refl, refl, wrote)
EndsAs-value Usage text v old new reads wrote = absurd wrote
EndsAs-value ReadFault text v old new reads wrote = absurd wrote
EndsAs-value TooLong text v old new reads wrote = absurd wrote
EndsAs-value (BadJson fault) text v old new reads wrote = absurd wrote
EndsAs-value (BadScript n) text v old new reads wrote = absurd wrote
EndsAs-value (WrongRacks given needed) text v old new reads wrote = absurd wrote
EndsAs-value (NotBlank place) text v old new reads wrote = absurd wrote
EndsAs-value (OpenFault place) text v old new reads wrote = absurd wrote

-- with no fate
pub EndsAs-canon : (status : Status) (text : List ℕ) (fates : List Fate) (old new : Option (List ℕ)) → fates ≡ []
    → EndsAs status (Canonizes text) old new → EndsAs status (λ out. Canonizes text out × (fates ≡ [])) old new
EndsAs-canon status text fates old new none ends =
    EndsAs-wider (Canonizes text) (λ out. Canonizes text out × (fates ≡ [])) (λ out is. (is, none)) status old new ends

-- whatever the command, its output may stop at once
pub command_stops : (command : Command) (rings : List Keys) (lengths : List ℕ) (text : List ℕ) (now : Option (List ℕ))
    → Wrote (Outputs (Some command) rings lengths [] text) stopped now now
command_stops Drive rings lengths text now =
    (record { text = []; end = stopped }, drives (serve (racks_for (segments_of 10 text)) lengths), refl, Appends-nil now)
  where
    drives : (served : Bool) → MatchBool served (WritesRun text rings [] (record { text = []; end = stopped }))
        (Refuses (segments_of 10 text) [] (record { text = []; end = stopped }))
    drives true = (never_begun, stops_at_once text rings, refl)
    drives false = (refl, inl refl)
command_stops Canon rings lengths text now =
    (record { text = []; end = stopped }, (inl refl, refl), refl, Appends-nil now)
command_stops (Rehearse seed bills steps) rings lengths text now = rehearsal_stops seed bills steps rings [] now

-- ---- the ends of `canon`

pub canon_writes : (status : Status) → IsCanonEnd status → IsBeforeWrite status → ⊥
canon_writes Done is before = before
canon_writes (BadJson fault) is before = before
canon_writes WriteFault is before = before
canon_writes NoMemory is before = before
canon_writes Usage is before = absurd is
canon_writes ReadFault is before = absurd is
canon_writes TooLong is before = absurd is
canon_writes (BadScript n) is before = absurd is
canon_writes (WrongRacks given needed) is before = absurd is
canon_writes (NotBlank place) is before = absurd is
canon_writes (OpenFault place) is before = absurd is
