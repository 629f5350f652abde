-- What each status says of the bytes written, and of the script.
use Rattle.std.specs.Prelude.{◌≡◌, ◌⊎◌, ◌<◌, ◌≤◌, ℕ, true, List, [], Option, Some, None, IfSome}
use Rattle.std.specs.Io.KnownBytes.{Appends}
use Rattle.ebl_edge.specs.Sink.{AppendsFirst}
use Rattle.ebl_run.specs.declared.status.Status.{Status}
use Rattle.ebl_run.specs.declared.status.Status.TheVariants.{Done, Usage, ReadFault, TooLong, BadJson, BadScript, WrongRacks, NotBlank, OpenFault, WriteFault, NoMemory}
use Rattle.ebl_run.specs.declared.reading.ReadError.{ReadError}
use Rattle.ebl_run.specs.declared.reading.ReadError.TheVariants as errors
use Rattle.ebl_run.specs.declared.command.Command.{Command}
use Rattle.ebl_run.specs.declared.command.Command.TheVariants.{Drive, Canon, Rehearse}
use Rattle.signed_envelope.specs.KeyRing.{Keys}
use Rattle.platform_world.specs.declared.fate.Fate.{Fate}
use Rattle.ebl_run.specs.Command.{reads_source}
use Rattle.ebl_run.specs.Output.{Output, complete, bad_line, bad_json, stopped, Wrote, WroteFirst}
use Rattle.ebl_run.specs.Drive.{Drives}
use Rattle.ebl_run.specs.Canon.{Canonizes}
use Rattle.ebl_run.specs.Rehearse.{WritesRehearsal}

-- the program's exit for a status
unfoldable pub exit_of : Status → ℕ
exit_of Done = 0
exit_of Usage = 2
exit_of (BadScript n) = 3
exit_of TooLong = 4
exit_of (BadJson fault) = 5
exit_of (WrongRacks given needed) = 6
exit_of (NotBlank place) = 7
exit_of (OpenFault place) = 8
exit_of ReadFault = 10
exit_of WriteFault = 11
exit_of NoMemory = 12

-- what a command writes of what it read, with the fates of the events that it ran, where these rings of keys and these
-- lengths of disks came; a rehearsal reads nothing
abbrev pub Outputs : Option Command → List Keys → List ℕ → List Fate → List ℕ → Output → Type 0
Outputs None rings lengths fates text out = ⊥
Outputs (Some Drive) rings lengths fates script out = Drives script rings lengths fates out
Outputs (Some Canon) rings lengths fates text out = Canonizes text out × (fates ≡ [])
Outputs (Some (Rehearse seed bills steps)) rings lengths fates text out =
    WritesRehearsal seed bills steps rings fates out

-- what was written where it ends so
abbrev pub EndsAs : Status → (Output → Type 0) → Option (List ℕ) → Option (List ℕ) → Type 0
EndsAs Done IsOutput old new = Wrote IsOutput complete old new
EndsAs (BadScript n) IsOutput old new = Wrote IsOutput (bad_line n) old new
EndsAs (BadJson fault) IsOutput old new = Wrote IsOutput (bad_json fault) old new
EndsAs WriteFault IsOutput old new = WroteFirst IsOutput old new
EndsAs NoMemory IsOutput old new = Wrote IsOutput stopped old new
EndsAs status IsOutput old new = Appends old new []

-- the script was read to its end
abbrev pub IsAfterRead : Status → Type 0
IsAfterRead Usage = ⊥
IsAfterRead ReadFault = ⊥
IsAfterRead TooLong = ⊥
IsAfterRead NoMemory = ⊥
IsAfterRead status = Unit {0}

-- the end where the source wasn't read
abbrev pub status_for : ReadError → Status
status_for errors.ReadFault = ReadFault
status_for errors.TooLong = TooLong
status_for errors.NoMemory = NoMemory

-- nothing is put into the sink, and no disk or ring is asked anything
abbrev pub IsBeforeWrite : Status → Type 0
IsBeforeWrite Usage = Unit {0}
IsBeforeWrite ReadFault = Unit {0}
IsBeforeWrite TooLong = Unit {0}
IsBeforeWrite (WrongRacks given needed) = Unit {0}
IsBeforeWrite status = ⊥

-- no event is run
abbrev pub IsBeforeRun : Status → Type 0
IsBeforeRun (NotBlank place) = Unit {0}
IsBeforeRun (OpenFault place) = Unit {0}
IsBeforeRun (BadJson fault) = Unit {0}
IsBeforeRun status = IsBeforeWrite status

-- ---- with which statuses a command may end

-- the end of `drive` over what was read
abbrev pub IsDriveEnd : Status → Type 0
IsDriveEnd Done = Unit {0}
IsDriveEnd (BadScript n) = Unit {0}
IsDriveEnd (WrongRacks given needed) = Unit {0}
IsDriveEnd (NotBlank place) = Unit {0}
IsDriveEnd (OpenFault place) = Unit {0}
IsDriveEnd WriteFault = Unit {0}
IsDriveEnd NoMemory = Unit {0}
IsDriveEnd status = ⊥

-- the end of `canon` over what was read
abbrev pub IsCanonEnd : Status → Type 0
IsCanonEnd Done = Unit {0}
IsCanonEnd (BadJson fault) = Unit {0}
IsCanonEnd WriteFault = Unit {0}
IsCanonEnd NoMemory = Unit {0}
IsCanonEnd status = ⊥

-- the end of `rehearse`
abbrev pub IsRehearsalEnd : Status → Type 0
IsRehearsalEnd Done = Unit {0}
IsRehearsalEnd (WrongRacks given needed) = Unit {0}
IsRehearsalEnd (NotBlank place) = Unit {0}
IsRehearsalEnd (OpenFault place) = Unit {0}
IsRehearsalEnd WriteFault = Unit {0}
IsRehearsalEnd NoMemory = Unit {0}
IsRehearsalEnd status = ⊥

-- the end of a command that has what it reads
abbrev pub IsEndOf : Command → Status → Type 0
IsEndOf Drive status = IsDriveEnd status
IsEndOf Canon status = IsCanonEnd status
IsEndOf (Rehearse seed bills steps) status = IsRehearsalEnd status

-- the source failed, or has too many bytes
abbrev pub IsSourceEnd : Status → Type 0
IsSourceEnd ReadFault = Unit {0}
IsSourceEnd TooLong = Unit {0}
IsSourceEnd status = ⊥

-- words that name no command are wrong usage. A command ends by an end of its own; one that reads the source may also
-- end where that fails or is too long
abbrev pub MayEnd : Option Command → Status → Type 0
MayEnd None status = status ≡ Usage
MayEnd (Some command) status =
    IsEndOf command status ⊎ ((reads_source command ≡ true) × IsSourceEnd status)

-- ---- the end of a run

-- the end of a run whose world was opened
abbrev pub IsAfterOpen : Status → Type 0
IsAfterOpen Done = Unit {0}
IsAfterOpen (BadScript n) = Unit {0}
IsAfterOpen WriteFault = Unit {0}
IsAfterOpen NoMemory = Unit {0}
IsAfterOpen status = ⊥

-- what was written where the bill lines are the last that is written
abbrev pub EndsAsLast : Status → List ℕ → Option (List ℕ) → Option (List ℕ) → Type 0
EndsAsLast Done text old new = Appends old new text
EndsAsLast WriteFault text old new = AppendsFirst old new text
EndsAsLast NoMemory text old new = Appends old new []
EndsAsLast status text old new = ⊥

-- why a run ends so: by its first bad line, by how many racks came and are needed, and by the first of those needed
-- whose disk isn't blank. A disk that failed is no later one
abbrev pub IsCausedBy : Status → Option ℕ → ℕ → ℕ → Option ℕ → Type 0
IsCausedBy Done bad given needed written = (bad ≡ None) × (needed ≤ given) × (written ≡ None)
IsCausedBy (BadScript n) bad given needed written = bad ≡ Some n
IsCausedBy (WrongRacks g n) bad given needed written = (bad ≡ None) × (given < needed) × (g ≡ given) × (n ≡ needed)
IsCausedBy (NotBlank place) bad given needed written = (bad ≡ None) × (needed ≤ given) × (written ≡ Some place)
IsCausedBy (OpenFault place) bad given needed written = (needed ≤ given) × IfSome written (λ first. place ≤ first)
IsCausedBy WriteFault bad given needed written = (needed ≤ given) × (written ≡ None)
IsCausedBy (BadJson fault) bad given needed written = ⊥
IsCausedBy status bad given needed written = Unit {0}
