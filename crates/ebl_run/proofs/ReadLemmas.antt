-- What a command writes of what it read, where the source tells its bytes.
use Rattle.std.proofs.Common.{◌≡◌, ◌≢◌, inl, inr, ℕ, true, false, List, [], refl, sym, ap, subst, ◌∙◌}
use Rattle.std.specs.Prelude.{Option, Some, None, IfSome, option_map}
use Rattle.std.proofs.KnownBytes.{Appends-nil}
use Rattle.signed_envelope.specs.KeyRing.{Keys}
use Rattle.platform_world.specs.declared.fate.Fate.{Fate}
use Rattle.ebl_run.specs.declared.command.Command.{Command}
use Rattle.ebl_run.specs.declared.command.Command.TheVariants.{Drive, Canon, Rehearse}
use Rattle.ebl_run.specs.declared.status.Status.TheVariants.{Usage, ReadFault, TooLong, OpenFault, WriteFault, NoMemory}
use Rattle.ebl_run.specs.declared.reading.ReadError.{ReadError}
use Rattle.ebl_run.specs.declared.reading.ReadError.TheVariants as errors
use Rattle.ebl_run.specs.Drive.{output_of}
use Rattle.ebl_run.specs.Command.{reads_source}
use Rattle.ebl_run.specs.Needed.{racks_wanted, racks_wanted_by}
use Rattle.ebl_run.specs.Status.{EndsAs, IsCausedBy, IsEndOf, MayEnd, Outputs, status_for}
use Rattle.ebl_run.proofs.CanonLemmas.{command_stops}
use Rattle.ebl_run.proofs.DriveLemmas.{never_begun}
use Rattle.ebl_run.proofs.RehearseLemmas.{nothing}

-- of what the source has, where the command that the words name is `drive`
pub of_script : (P : List ℕ → Type 0) (named : Option Command) (command : Command) (left : Option (List ℕ))
    (text : List ℕ) → Some command ≡ named
    → (reads_source command ≡ true → IfSome left (λ (script : List ℕ). text ≡ script))
    → (command ≡ Drive → P text) → named ≡ Some Drive → IfSome left P
of_script P named command None text is read holds driven = tt
of_script P named command (Some script) text is read holds driven =
    let same : Some command ≡ Some Drive = is ∙ driven in
    let drive : command ≡ Drive = cc in
    subst P (read (ap reads_source drive)) (holds drive)

-- a command that has what it reads ends by none of these
pub ends_used : (command : Command) → IsEndOf command Usage → ⊥
ends_used Drive is = is
ends_used Canon is = is
ends_used (Rehearse seed bills steps) is = is

pub ends_unread : (command : Command) → IsEndOf command ReadFault → ⊥
ends_unread Drive is = is
ends_unread Canon is = is
ends_unread (Rehearse seed bills steps) is = is

pub ends_too_long : (command : Command) → IsEndOf command TooLong → ⊥
ends_too_long Drive is = is
ends_too_long Canon is = is
ends_too_long (Rehearse seed bills steps) is = is

-- where the words don't name a command that reads, their command doesn't
pub reads_nothing : (command : Command) (named : Option Command) → Some command ≡ named
    → option_map reads_source named ≢ Some true → reads_source command ≡ false
reads_nothing command named is other =
    of command (λ (reads : Some (reads_source command) ≡ Some true). other (ap (option_map reads_source) (sym is) ∙ reads))
  where
    of : (c : Command) → (Some (reads_source c) ≡ Some true → ⊥) → reads_source c ≡ false
    of Drive never = absurd (never refl)
    of Canon never = absurd (never refl)
    of (Rehearse seed bills steps) never = refl

-- how many racks are wanted isn't told by what a rehearsal reads
pub further_by : (P : ℕ → Type 0) (named : Option Command) (command : Command) (left : Option (List ℕ)) (text : List ℕ)
    → Some command ≡ named → (reads_source command ≡ true → IfSome left (λ (script : List ℕ). text ≡ script))
    → P (racks_wanted command text) → IfSome left (λ (script : List ℕ). P (racks_wanted_by named script))
further_by P named command None text is read holds = tt
further_by P named command (Some script) text is read holds =
    subst (λ (n : Option Command). P (racks_wanted_by n script)) is (of command read holds)
  where
    of : (c : Command) → (reads_source c ≡ true → text ≡ script) → P (racks_wanted c text) → P (racks_wanted c script)
    of Drive same given = subst (λ (t : List ℕ). P (racks_wanted Drive t)) (same refl) given
    of Canon same given = given
    of (Rehearse seed bills steps) same given = given

-- the same where nothing was touched
pub further_same : (P : ℕ → Type 0) (named : Option Command) (left : Option (List ℕ)) → ((n : ℕ) → P n)
    → IfSome left (λ (script : List ℕ). P (racks_wanted_by named script))
further_same P named None holds = tt
further_same P named (Some script) holds = holds (racks_wanted_by named script)

-- ---- a source that wasn't read

-- a command that stopped there wrote nothing
pub unread_wrote : (fault : ReadError) (named : Option Command) (command : Command) (left now : Option (List ℕ))
    (rings : List Keys) (lengths : List ℕ) (fates : List Fate) → Some command ≡ named → fates ≡ []
    → IfSome left (λ (script : List ℕ). EndsAs (status_for fault) (Outputs named rings lengths fates script) now now)
unread_wrote fault named command None now rings lengths fates is none = tt
unread_wrote fault named command (Some script) now rings lengths fates is none =
    subst (λ (fs : List Fate). EndsAs (status_for fault) (Outputs named rings lengths fs script) now now) (sym none)
    (subst (λ (n : Option Command). EndsAs (status_for fault) (Outputs n rings lengths [] script) now now) is (by fault))
  where
    by : (f : ReadError) → EndsAs (status_for f) (Outputs (Some command) rings lengths [] script) now now
    by errors.ReadFault = Appends-nil now
    by errors.TooLong = Appends-nil now
    by errors.NoMemory = command_stops command rings lengths script now

pub unread_caused : (fault : ReadError) (bad : Option ℕ) (given needed : ℕ) (written : Option ℕ)
    → IsCausedBy (status_for fault) bad given needed written
unread_caused errors.ReadFault bad given needed written = tt
unread_caused errors.TooLong bad given needed written = tt
unread_caused errors.NoMemory bad given needed written = tt

-- a command that reads may end so
pub unread_ends : (fault : ReadError) (named : Option Command) (command : Command) → Some command ≡ named
    → reads_source command ≡ true → MayEnd named (status_for fault)
unread_ends fault named command is reads = subst (λ (n : Option Command). MayEnd n (status_for fault)) is (by fault)
  where
    no_memory : (c : Command) → IsEndOf c NoMemory
    no_memory Drive = tt
    no_memory Canon = tt
    no_memory (Rehearse seed bills steps) = tt

    by : (f : ReadError) → MayEnd (Some command) (status_for f)
    by errors.ReadFault = inr (reads, tt)
    by errors.TooLong = inr (reads, tt)
    by errors.NoMemory = inl (no_memory command)

pub unread_no_open : (fault : ReadError) (place : ℕ) → status_for fault ≡ OpenFault place → ⊥
unread_no_open errors.ReadFault place is = let no : ReadFault ≡ OpenFault place = is in cc no
unread_no_open errors.TooLong place is = let no : TooLong ≡ OpenFault place = is in cc no
unread_no_open errors.NoMemory place is = let no : NoMemory ≡ OpenFault place = is in cc no

-- of every text that the source may have
pub if_told : (P : List ℕ → Type 0) (left : Option (List ℕ)) → ((script : List ℕ) → P script) → IfSome left P
if_told P None holds = tt
if_told P (Some script) holds = holds script

-- a run of its script stopped at once
pub unread_ran : (fault : ReadError) (now : Option (List ℕ)) → EndsAs (status_for fault) (λ out. out ≡ output_of never_begun) now now
unread_ran errors.ReadFault now = Appends-nil now
unread_ran errors.TooLong now = Appends-nil now
unread_ran errors.NoMemory now = (output_of never_begun, refl, refl, Appends-nil now)

-- a rehearsal has written nothing
pub unread_nothing : (fault : ReadError) (now : Option (List ℕ)) → EndsAs (status_for fault) (λ out. out ≡ nothing) now now
unread_nothing errors.ReadFault now = Appends-nil now
unread_nothing errors.TooLong now = Appends-nil now
unread_nothing errors.NoMemory now = (nothing, refl, refl, Appends-nil now)

pub unread_no_put : (fault : ReadError) → status_for fault ≡ WriteFault → ⊥
unread_no_put errors.ReadFault is = let no : ReadFault ≡ WriteFault = is in cc no
unread_no_put errors.TooLong is = let no : TooLong ≡ WriteFault = is in cc no
unread_no_put errors.NoMemory is = let no : NoMemory ≡ WriteFault = is in cc no
