-- What the exits of `rehearse` have written.
use Rattle.std.proofs.Common.{◌≡◌, ◌≤◌, inl, inr, ℕ, Bool, List, [], ◌∷◌, None, refl, sym, ap, subst, ◌∙◌}
use Rattle.std.specs.Prelude.{Option, Result, Ok, Err, IfOk, OnErr}
use Rattle.std.proofs.KnownBytes.{Appends-nil}
use Rattle.signed_envelope.specs.KeyRing.{Keys}
use Rattle.journaled_shard.specs.declared.rack.Rack.{Rack}
use Rattle.platform_world.specs.declared.fate.Fate.{Fate}
use Rattle.platform_world.specs.World.{WorldRecord, opening}
use Rattle.platform_world.specs.declared.opening.WorldFault.{WorldFault}
use Rattle.platform_world.specs.declared.opening.WorldFault.TheVariants as faults
use Rattle.rehearsal.specs.Roster.{made_roster}
use Rattle.rehearsal.specs.Events.{Move, moves}
use Rattle.rehearsal.specs.Run as rehearsals
use Rattle.rehearsal.specs.Run.{Goes, Rehearsal, RehearsalEnd, Rehearses, ends_in, fates_of}
use Rattle.rehearsal.specs.Summary.{summary_line}
use Rattle.ebl_run.specs.declared.status.Status.{Status}
use Rattle.ebl_run.specs.declared.status.Status.TheVariants.{Done, Usage, ReadFault, TooLong, BadJson, BadScript, WrongRacks, NotBlank, OpenFault, WriteFault, NoMemory}
use Rattle.ebl_run.specs.Output.{Output, complete, stopped, Wrote}
use Rattle.ebl_run.specs.declared.racks.Unfit.{Unfit}
use Rattle.ebl_run.specs.declared.racks.Unfit.TheVariants as unfits
use Rattle.ebl_run.specs.declared.racks.Unfit.TheVariants.{TooFew, Faulty}
use Rattle.ebl_run.specs.declared.command.Command.TheVariants.{Rehearse}
use Rattle.ebl_run.specs.declared.ended.Ended.{Ended}
use Rattle.ebl_run.specs.Racks.{AreLeft, AreMeasured, IsRefused, keys_of, status_by, status_of}
use Rattle.ebl_run.specs.Rehearse.{WritesRehearsal, output_by, output_of}
use Rattle.ebl_run.specs.Rehearsed.{Rehearsed}
use Rattle.ebl_run.specs.Status.{EndsAs, EndsAsLast, IsAfterOpen, IsCausedBy, IsRehearsalEnd}
use Rattle.ebl_run.proofs.DriveLemmas.{EndsAs-wider}
use Rattle.ebl_run.proofs.Worlds.{keys_measured, left_behind}

-- a rehearsal may stop before its first event
goes_nowhere : (bills : ℕ) (ms : List Move) (w : WorldRecord) (x : ℕ) → Goes bills ms w x (ends_in rehearsals.stopped w)
goes_nowhere bills [] w x = inl refl
goes_nowhere bills (move ∷ ms) w x = inl refl

-- nothing is written
abbrev pub nothing : Output
nothing = record { text = []; end = stopped }

no_end : rehearsals.stopped ≡ rehearsals.complete → ⊥
no_end is = cc is

pub memory_is_no_put : NoMemory ≡ WriteFault → ⊥
memory_is_no_put is = cc is

pub rehearsal_stops : (seed bills steps : ℕ) (rings : List Keys) (fates : List Fate) (now : Option (List ℕ))
    → Wrote (WritesRehearsal seed bills steps rings fates) stopped now now
rehearsal_stops seed bills steps rings fates now =
    let run : Rehearsal = ends_in rehearsals.stopped (opening made_roster rings) in
    let goes = goes_nowhere bills (moves bills steps) (opening made_roster rings) seed in
    (nothing, (run, goes, (λ is. absurd (no_end is)), refl), refl, Appends-nil now)

-- a rehearsal that is told whole with this line
pub record IsSummed {D G : Type 0} (seen : D → List ℕ) (may_leave : D → List ℕ → Type 0) (disk_faults : D → ℕ)
    (keys : G → Keys) (ring_faults : G → ℕ) (seed bills steps : ℕ) (racks : List (Rack D G)) (ended : Ended D G)
    (line : List ℕ) : Type 0 where
  pub run : Rehearsal
  pub goes : Rehearses seed bills steps (opening made_roster (keys_of keys racks)) run
  pub whole : run.end ≡ rehearsals.complete
  pub line_is : line ≡ summary_line bills run
  pub fates_are : ended.fates ≡ fates_of run.happened
  pub left : AreLeft seen may_leave disk_faults keys ring_faults run.happened run.last.platforms racks ended.racks

module _ {D G : Type 0} (seen : D → List ℕ) (may_leave : D → List ℕ → Type 0) (disk_faults : D → ℕ) (keys : G → Keys)
    (ring_faults : G → ℕ) (seed bills steps : ℕ) where
  -- it stops before its first event
  pub rehearsed_nothing : (racks : List (Rack D G)) (ended : Ended D G) (status : Status) (old new : Option (List ℕ))
      → ended.status ≡ status → EndsAs status (λ out. out ≡ nothing) old new → (status ≡ WriteFault → ⊥)
      → Rehearsed seen may_leave disk_faults keys ring_faults seed bills steps racks ended old new
  rehearsed_nothing racks ended status old new is wrote no_put = record {
    run = ends_in rehearsals.stopped (opening made_roster (keys_of keys racks));
    goes = goes_nowhere bills (moves bills steps) (opening made_roster (keys_of keys racks)) seed;
    wrote = subst (λ (s : Status). EndsAs s (λ out. out ≡ nothing) old new) (sym is) wrote;
    whole = λ fault. absurd (no_put (sym is ∙ fault));
    fates = λ whole. absurd (no_end whole);
    left = λ whole. absurd (no_end whole);
  }

  -- its line is the last
  summed : (racks : List (Rack D G)) (ended : Ended D G) (line : List ℕ) (status : Status) (old new : Option (List ℕ))
      → ended.status ≡ status → IsSummed seen may_leave disk_faults keys ring_faults seed bills steps racks ended line
      → EndsAsLast status line old new
      → Rehearsed seen may_leave disk_faults keys ring_faults seed bills steps racks ended old new
  summed racks ended line status old new is sums = by_status status is
    where
      out : Output
      out = record { text = line; end = complete }

      is_output : out ≡ output_of bills sums.run
      is_output =
          ap (λ (text : List ℕ). record { text = text; end = complete }) sums.line_is
          ∙ ap (λ (end : RehearsalEnd). output_by end (summary_line bills sums.run)) (sym sums.whole)

      whole_by : (s : Status) → ended.status ≡ s → EndsAs s (λ out. out ≡ output_of bills sums.run) old new
          → Rehearsed seen may_leave disk_faults keys ring_faults seed bills steps racks ended old new
      whole_by s same wrote = record {
        run = sums.run;
        goes = sums.goes;
        wrote = subst (λ (t : Status). EndsAs t (λ out. out ≡ output_of bills sums.run) old new) (sym same) wrote;
        whole = λ fault. sums.whole;
        fates = λ whole. sums.fates_are;
        left = λ whole. sums.left;
      }

      by_status : (s : Status) → ended.status ≡ s → EndsAsLast s line old new
          → Rehearsed seen may_leave disk_faults keys ring_faults seed bills steps racks ended old new
      by_status Done same wrote = whole_by Done same (out, is_output, refl, wrote)
      by_status WriteFault same first = whole_by WriteFault same (out, is_output, first)
      by_status NoMemory same wrote =
          rehearsed_nothing racks ended NoMemory old new same (nothing, refl, refl, wrote) memory_is_no_put
      by_status Usage same wrote = absurd wrote
      by_status ReadFault same wrote = absurd wrote
      by_status TooLong same wrote = absurd wrote
      by_status (BadJson fault) same wrote = absurd wrote
      by_status (BadScript n) same wrote = absurd wrote
      by_status (WrongRacks given needed) same wrote = absurd wrote
      by_status (NotBlank place) same wrote = absurd wrote
      by_status (OpenFault place) same wrote = absurd wrote

  -- whether it has a line or not
  pub rehearsed : {E : Type 0} (racks : List (Rack D G)) (ended : Ended D G) (r : Result (List ℕ) E) (status : Status)
      (old new : Option (List ℕ)) → ended.status ≡ status
      → IfOk r (λ line. IsSummed seen may_leave disk_faults keys ring_faults seed bills steps racks ended line)
      → IfOk r (λ line. EndsAsLast status line old new) → OnErr r ((status ≡ NoMemory) × (new ≡ old))
      → Rehearsed seen may_leave disk_faults keys ring_faults seed bills steps racks ended old new
  rehearsed racks ended (Ok line) status old new is sums ends short =
      summed racks ended line status old new is sums ends
  rehearsed racks ended (Err e) status old new is sums ends (none, same) =
      rehearsed_nothing racks ended NoMemory old new (is ∙ none)
      (subst (λ (n : Option (List ℕ)). EndsAs NoMemory (λ out. out ≡ nothing) old n) (sym same)
      (nothing, refl, refl, Appends-nil old)) memory_is_no_put

  -- behind the measuring
  pub rehearsed_behind : (tells : D → Bool) (racks measured : List (Rack D G)) (ended : Ended D G)
      (old new : Option (List ℕ)) → AreMeasured tells seen disk_faults racks measured
      → Rehearsed seen may_leave disk_faults keys ring_faults seed bills steps measured ended old new
      → Rehearsed seen may_leave disk_faults keys ring_faults seed bills steps racks ended old new
  rehearsed_behind tells racks measured ended old new first it = record {
    run = it.run;
    goes = subst (λ (ks : List Keys). Rehearses seed bills steps (opening made_roster ks) it.run)
        (keys_measured tells seen disk_faults keys racks measured first) it.goes;
    wrote = it.wrote;
    whole = it.whole;
    fates = it.fates;
    left = λ whole. left_behind tells seen may_leave disk_faults keys ring_faults racks measured ended.racks
        it.run.happened it.run.last.platforms first (it.left whole);
  }

  -- what it writes
  pub rehearsed_writes : (racks : List (Rack D G)) (ended : Ended D G) (old new : Option (List ℕ))
      → Rehearsed seen may_leave disk_faults keys ring_faults seed bills steps racks ended old new
      → EndsAs ended.status (WritesRehearsal seed bills steps (keys_of keys racks) ended.fates) old new
  rehearsed_writes racks ended old new it =
      EndsAs-wider (λ out. out ≡ output_of bills it.run)
      (WritesRehearsal seed bills steps (keys_of keys racks) ended.fates)
      (λ out is. (it.run, it.goes, it.fates, is)) ended.status old new it.wrote

-- a world that wasn't opened
pub unopened_nothing : (fault : WorldFault) (now : Option (List ℕ))
    → EndsAs (status_by fault) (λ out. out ≡ nothing) now now
unopened_nothing (faults.OpenFault place) now = Appends-nil now
unopened_nothing faults.NoMemory now = (nothing, refl, refl, Appends-nil now)

pub rehearsed_ends : {E : Type 0} (r : Result (List ℕ) E) (status : Status) (old new : Option (List ℕ))
    → IfOk r (λ line. EndsAsLast status line old new) → OnErr r ((status ≡ NoMemory) × (new ≡ old))
    → IsAfterOpen status
rehearsed_ends (Err e) status old new ends (is, same) = subst IsAfterOpen (sym is) tt
rehearsed_ends (Ok line) Done old new ends short = tt
rehearsed_ends (Ok line) WriteFault old new ends short = tt
rehearsed_ends (Ok line) NoMemory old new ends short = tt
rehearsed_ends (Ok line) Usage old new ends short = ends
rehearsed_ends (Ok line) ReadFault old new ends short = ends
rehearsed_ends (Ok line) TooLong old new ends short = ends
rehearsed_ends (Ok line) (BadJson fault) old new ends short = ends
rehearsed_ends (Ok line) (BadScript n) old new ends short = absurd ends
rehearsed_ends (Ok line) (WrongRacks given needed) old new ends short = ends
rehearsed_ends (Ok line) (NotBlank place) old new ends short = ends
rehearsed_ends (Ok line) (OpenFault place) old new ends short = ends

-- racks that don't serve
pub unfit_nothing : (unfit : Unfit) (now : Option (List ℕ)) → EndsAs (status_of unfit) (λ out. out ≡ nothing) now now
unfit_nothing (TooFew given needed) now = Appends-nil now
unfit_nothing (unfits.NotBlank place) now = Appends-nil now
unfit_nothing (Faulty place) now = Appends-nil now

pub refused_plainly : (unfit : Unfit) → IsRefused unfit None (status_of unfit)
refused_plainly (TooFew given needed) = inr (inr (refl, refl))
refused_plainly (unfits.NotBlank place) = inr (inr (refl, refl))
refused_plainly (Faulty place) = refl

-- nothing was bad, and each disk is blank
pub caused_plainly : (status : Status) (given needed : ℕ) → needed ≤ given → IsAfterOpen status
    → ((n : ℕ) → status ≡ BadScript n → ⊥) → IsCausedBy status None given needed None
caused_plainly Done given needed enough is good = (refl, enough, refl)
caused_plainly WriteFault given needed enough is good = (enough, refl)
caused_plainly NoMemory given needed enough is good = tt
caused_plainly (BadScript n) given needed enough is good = absurd (good n refl)
caused_plainly Usage given needed enough is good = absurd is
caused_plainly ReadFault given needed enough is good = absurd is
caused_plainly TooLong given needed enough is good = absurd is
caused_plainly (BadJson fault) given needed enough is good = absurd is
caused_plainly (WrongRacks g n) given needed enough is good = absurd is
caused_plainly (NotBlank place) given needed enough is good = absurd is
caused_plainly (OpenFault place) given needed enough is good = absurd is

pub rehearsed_good : {E : Type 0} (r : Result (List ℕ) E) (status : Status) (old new : Option (List ℕ))
    → IfOk r (λ line. EndsAsLast status line old new) → OnErr r ((status ≡ NoMemory) × (new ≡ old))
    → (n : ℕ) → status ≡ BadScript n → ⊥
rehearsed_good (Err e) status old new ends (is, same) n bad =
    let no : NoMemory ≡ BadScript n = sym is ∙ bad in cc no
rehearsed_good (Ok line) status old new ends short n bad =
    subst (λ (s : Status). EndsAsLast s line old new) bad ends

pub rehearsal_ends : (status : Status) → IsAfterOpen status → ((n : ℕ) → status ≡ BadScript n → ⊥)
    → IsRehearsalEnd status
rehearsal_ends Done is good = tt
rehearsal_ends WriteFault is good = tt
rehearsal_ends NoMemory is good = tt
rehearsal_ends (BadScript n) is good = absurd (good n refl)
rehearsal_ends (WrongRacks given needed) is good = absurd is
rehearsal_ends (NotBlank place) is good = absurd is
rehearsal_ends (OpenFault place) is good = absurd is
rehearsal_ends Usage is good = absurd is
rehearsal_ends ReadFault is good = absurd is
rehearsal_ends TooLong is good = absurd is
rehearsal_ends (BadJson fault) is good = absurd is

pub unopened_rehearsal_ends : (fault : WorldFault) → IsRehearsalEnd (status_by fault)
unopened_rehearsal_ends (faults.OpenFault place) = tt
unopened_rehearsal_ends faults.NoMemory = tt

pub unfit_rehearsal_ends : (unfit : Unfit) → IsRehearsalEnd (status_of unfit)
unfit_rehearsal_ends (TooFew given needed) = tt
unfit_rehearsal_ends (unfits.NotBlank place) = tt
unfit_rehearsal_ends (Faulty place) = tt

-- the numbers of a rehearsal are those that its command names
pub by_numbers : (P : ℕ → ℕ → ℕ → Type 0) (seed bills steps s b t : ℕ) → Rehearse seed bills steps ≡ Rehearse s b t
    → P seed bills steps → P s b t
by_numbers P seed bills steps s b t same holds =
    let seeds : seed ≡ s = cc same in
    let all_bills : bills ≡ b = cc same in
    let all_steps : steps ≡ t = cc same in
    subst (λ (n : ℕ). P n b t) seeds
    (subst (λ (n : ℕ). P seed n t) all_bills (subst (λ (n : ℕ). P seed bills n) all_steps holds))

-- what follows where a result is one, and where it is an error
pub if_ok : {T E : Type 0} (P Q : T → Type 0) (r : Result T E) → IfOk r P → ((x : T) → P x → Q x) → IfOk r Q
if_ok P Q (Ok x) given follows = follows x given
if_ok P Q (Err e) given follows = tt

pub on_err : {T E P Q : Type 0} (r : Result T E) → (P → Q) → OnErr r P → OnErr r Q
on_err (Ok x) follows given = tt
on_err (Err e) follows given = follows given
