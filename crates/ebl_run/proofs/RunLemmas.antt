-- How a run goes on from line to line, and what its exits have written.
use Rattle.std.proofs.Common.{◌≡◌, ◌≢◌, inl, inr, ℕ, ◌+◌, ◌<◌, ◌≤◌, Bool, true, false, List, [], ◌∷◌, ◌++◌, length, refl, sym, ap, subst, ◌∙◌, append_assoc, append-nil}
use Rattle.std.specs.Prelude.{Option, Some, None, nat_le, MatchBool, if◌then◌else◌}
use Rattle.std.specs.List.{flat_map}
use Rattle.std.proofs.lemmas.Bool.{lt-leb, le-leb}
use Rattle.std.proofs.lemmas.Grind.{flat_map-append}
use Rattle.std.specs.Io.KnownBytes.{Appends}
use Rattle.std.proofs.KnownBytes.{Appends-nil, Appends-trans}
use Rattle.ebl_edge.specs.Sink.{AppendsFirst}
use Rattle.party_roster.specs.RosterRecord.{RosterRecord}
use Rattle.world_script.specs.Event.{EventRecord}
use Rattle.answer_lines.specs.declared.answer.Answer.{Answer}
use Rattle.platform_world.specs.declared.fate.Fate.{Fate}
use Rattle.platform_world.specs.declared.fate.FateEnd.TheVariants.{Short}
use Rattle.platform_world.specs.Machine.{Counts, MachineRecord}
use Rattle.platform_world.specs.Platforms.{EachRose}
use Rattle.platform_world.specs.World.{WorldRecord}
use Rattle.world_events.specs.Script.{event_in}
use Rattle.platform_world.specs.State.{WorldState, world_of}
use Rattle.platform_world.specs.Step.{IsStep}
use Rattle.platform_world.specs.Run as runs
use Rattle.platform_world.specs.Run.{Ends, Happened, OnEvent, OnNumbered, Run, Runs, after_event, bill_lines, disk_answers, line_after, sign_answers}
use Rattle.ebl_run.specs.declared.status.Status.{Status}
use Rattle.ebl_run.specs.declared.status.Status.TheVariants.{Done, Usage, ReadFault, TooLong, BadJson, BadScript, WrongRacks, NotBlank, OpenFault, WriteFault, NoMemory}
use Rattle.ebl_run.specs.Drive.{first_bad, or_number, output_of, text_of}
use Rattle.ebl_run.specs.Events.{IsLineAnswered, IsLineCut, RanLines}
use Rattle.ebl_run.specs.Status.{EndsAs, EndsAsLast, IsAfterOpen}
use Rattle.ebl_run.proofs.Rising.{and_then, by_times, disk_answers_more, one_time, sign_answers_more, stays}

-- ---- texts

abbrev pub joined : List (List ℕ) → List ℕ
joined answers = flat_map (λ line. line) answers

-- what happened, and what was answered, in front of a rest
abbrev pub run_behind : List Happened → List (List ℕ) → Run → Run
run_behind happened answers rest =
    record rest { happened = happened ++ rest.happened; answers = answers ++ rest.answers }

text_behind : (happened : List Happened) (answers : List (List ℕ)) (rest : Run)
    → joined answers ++ text_of rest ≡ text_of (run_behind happened answers rest)
text_behind happened answers rest =
    sym (append_assoc (joined answers) (joined rest.answers) rest.bills)
    ∙ ap (λ (t : List ℕ). t ++ rest.bills) (sym (flat_map-append (λ (line : List ℕ). line) answers rest.answers))

-- what was written of a rest, behind what was written before it
ends_behind : (status : Status) (happened : List Happened) (answers : List (List ℕ)) (rest : Run)
    (old now later : Option (List ℕ)) → IsAfterOpen status → Appends old now (joined answers)
    → EndsAs status (λ out. out ≡ output_of rest) now later
    → EndsAs status (λ out. out ≡ output_of (run_behind happened answers rest)) old later
ends_behind status happened answers rest old now later is wrote ends = by status is ends
  where
    whole : (text : List ℕ) → text ≡ text_of rest → Appends now later text
        → Appends old later (text_of (run_behind happened answers rest))
    whole text same more =
        subst (λ (t : List ℕ). Appends old later t)
        (ap (λ (t : List ℕ). joined answers ++ t) same ∙ text_behind happened answers rest)
        (Appends-trans old now later (joined answers) text wrote more)

    by : (s : Status) → IsAfterOpen s → EndsAs s (λ out. out ≡ output_of rest) now later
        → EndsAs s (λ out. out ≡ output_of (run_behind happened answers rest)) old later
    by Done is (out, same, end, more) =
        (output_of (run_behind happened answers rest), refl, sym (ap (λ o. o.end) same) ∙ end, whole out.text (ap (λ o. o.text) same) more)
    by (BadScript n) is (out, same, end, more) =
        (output_of (run_behind happened answers rest), refl, sym (ap (λ o. o.end) same) ∙ end, whole out.text (ap (λ o. o.text) same) more)
    by NoMemory is (out, same, end, more) =
        (output_of (run_behind happened answers rest), refl, sym (ap (λ o. o.end) same) ∙ end, whole out.text (ap (λ o. o.text) same) more)
    by WriteFault is (out, same, first) = (
      output_of (run_behind happened answers rest),
      refl,
      record {
        front = joined answers ++ first.front;
        back = first.back;
        parts = append_assoc (joined answers) first.front first.back
            ∙ ap (λ (t : List ℕ). joined answers ++ t) (first.parts ∙ ap (λ o. o.text) same)
            ∙ text_behind happened answers rest;
        wrote = Appends-trans old now later (joined answers) first.front wrote first.wrote;
      },
    )
    by Usage is ends = absurd is
    by ReadFault is ends = absurd is
    by TooLong is ends = absurd is
    by (BadJson fault) is ends = absurd is
    by (WrongRacks given needed) is ends = absurd is
    by (NotBlank place) is ends = absurd is
    by (OpenFault place) is ends = absurd is

-- ---- one line

-- a line within 100,000
numbered : (roster : RosterRecord) (line : List ℕ) (w : WorldRecord) (n : ℕ) (fates : List Fate) (run : Run)
    (Rest : WorldRecord → List Fate → Run → Type 0) → nat_le 100000 n ≡ false
    → OnEvent (event_in roster line) w n fates run Rest → OnNumbered roster line w n fates run Rest
numbered roster line w n fates run Rest few on =
    subst (λ (b : Bool). MatchBool b (Ends (runs.bad_line (n + 1)) [] w fates run)
    (OnEvent (event_in roster line) w n fates run Rest)) (sym few) on

few_lines : (n : ℕ) → n < 100000 → nat_le 100000 n ≡ false
few_lines n few = lt-leb 100000 n few

many_lines : (n : ℕ) → 100000 ≤ n → nat_le 100000 n ≡ true
many_lines n many = le-leb 100000 n many

-- an event in front of a run
in_front : (roster : RosterRecord) (line : List ℕ) (lines : List (List ℕ)) (w after : WorldRecord) (n : ℕ)
    (event : EventRecord) (fate : Fate) (answer : Answer) (text : List ℕ) (more : List Fate) (rest : Run) → n < 100000
    → event_in roster line ≡ Some event → IsStep w event fate answer after → fate.end ≢ Short
    → text ≡ line_after n w answer after → Runs roster lines after (n + 1) more rest
    → Runs roster (line ∷ lines) w n (fate ∷ more)
    (after_event (record { before = w; event = event; fate = fate; answer = answer; after = after }) text rest)
in_front roster line lines w after n event fate answer text more rest few is steps not_short line_is goes =
    let h : Happened = record { before = w; event = event; fate = fate; answer = answer; after = after } in
    let Rest : WorldRecord → List Fate → Run → Type 0 = λ later fs run. Runs roster lines later (n + 1) fs run in
    let whole : Run = after_event h text rest in
    let on : OnEvent (event_in roster line) w n (fate ∷ more) whole Rest =
    subst (λ (o : Option EventRecord). OnEvent o w n (fate ∷ more) whole Rest) (sym is)
    (inr (answer, after, rest, steps, not_short, ap (λ (l : List ℕ). after_event h l rest) line_is, goes)) in
    inr (numbered roster line w n (fate ∷ more) whole Rest (few_lines n few) on)

-- behind an event the first bad line is among those that follow
pub first_bad_behind : (roster : RosterRecord) (n : ℕ) (line : List ℕ) (lines : List (List ℕ)) (event : EventRecord)
    → n < 100000 → event_in roster line ≡ Some event
    → first_bad roster n (line ∷ lines) ≡ first_bad roster (n + 1) lines
first_bad_behind roster n line lines event few is =
    ap (λ (b : Bool). if b then Some (n + 1) else or_number (event_in roster line) (n + 1) (first_bad roster (n + 1) lines))
    (few_lines n few)
    ∙ ap (λ (o : Option EventRecord). or_number o (n + 1) (first_bad roster (n + 1) lines)) is

-- ---- from line to line

-- What happened so far is the front of a run, and each way in which the rest may go makes a whole run of it.
pub record Reached {M R : Type 0} (seen : M → MachineRecord) (faults : Counts M) (roster : RosterRecord)
    (all : List (List ℕ)) (opened : WorldState M R) (lines : List (List ℕ)) (n : ℕ) (w : WorldState M R)
    (old now : Option (List ℕ)) : Type 0 where
  pub happened : List Happened
  pub answers : List (List ℕ)
  pub fates : List Fate
  pub fates_are : w.fates ≡ opened.fates ++ fates
  pub wrote : Appends old now (flat_map (λ line. line) answers)
  pub goes_on : (more : List Fate) (rest : Run) → Runs roster lines (world_of seen w) n more rest
      → Runs roster all (world_of seen opened) 1 (fates ++ more) (run_behind happened answers rest)
  pub disks : EachRose faults.disk (λ k. disk_answers k happened) opened.platforms.shards w.platforms.shards
  pub rings : EachRose faults.ring (λ k. sign_answers k happened) opened.platforms.shards w.platforms.shards

module _ {M R : Type 0} (seen : M → MachineRecord) (faults : Counts M) (roster : RosterRecord) where
  -- before the first line
  pub begins : (lines : List (List ℕ)) (opened : WorldState M R) (now : Option (List ℕ))
      → Reached seen faults roster lines opened lines 1 opened now now
  begins lines opened now = record {
    happened = [];
    answers = [];
    fates = [];
    fates_are = sym (append-nil opened.fates);
    wrote = Appends-nil now;
    goes_on = λ more rest goes. goes;
    disks = stays faults.disk opened.platforms.shards;
    rings = stays faults.ring opened.platforms.shards;
  }

  -- a rest that ran makes a whole
  pub joins : (all lines : List (List ℕ)) (opened w after : WorldState M R) (n : ℕ) (status : Status)
      (old now later : Option (List ℕ)) → IsAfterOpen status
      → Reached seen faults roster all opened lines n w old now
      → RanLines seen faults roster lines n w status now later after
      → RanLines seen faults roster all 1 opened status old later after
  joins all lines opened w after n status old now later is reached ran = record {
    run = run_behind reached.happened reached.answers ran.run;
    fates = reached.fates ++ ran.fates;
    fates_are = ran.fates_are ∙ ap (λ (fs : List Fate). fs ++ ran.fates) reached.fates_are
        ∙ append_assoc opened.fates reached.fates ran.fates;
    runs = reached.goes_on ran.fates ran.run ran.runs;
    left = ran.left;
    wrote = ends_behind status reached.happened reached.answers ran.run old now later is reached.wrote ran.wrote;
    disks = by_times faults.disk (λ k. disk_answers k reached.happened + disk_answers k ran.run.happened)
        (λ k. disk_answers k (reached.happened ++ ran.run.happened)) opened.platforms.shards after.platforms.shards
        (λ k. disk_answers_more k reached.happened ran.run.happened)
        (and_then faults.disk (λ k. disk_answers k reached.happened) (λ k. disk_answers k ran.run.happened)
        opened.platforms.shards w.platforms.shards after.platforms.shards reached.disks ran.disks);
    rings = by_times faults.ring (λ k. sign_answers k reached.happened + sign_answers k ran.run.happened)
        (λ k. sign_answers k (reached.happened ++ ran.run.happened)) opened.platforms.shards after.platforms.shards
        (λ k. sign_answers_more k reached.happened ran.run.happened)
        (and_then faults.ring (λ k. sign_answers k reached.happened) (λ k. sign_answers k ran.run.happened)
        opened.platforms.shards w.platforms.shards after.platforms.shards reached.rings ran.rings);
  }

  -- ---- a rest in which no event is answered

  -- it stops before a line
  stops_here : (lines : List (List ℕ)) (w : WorldState M R) (n : ℕ) (now : Option (List ℕ))
      → RanLines seen faults roster lines n w NoMemory now now w
  stops_here lines w n now =
      let run : Run =
      record { happened = []; answers = []; bills = []; end = runs.stopped; left = (world_of seen w).platforms } in
      record {
        run = run;
        fates = [];
        fates_are = sym (append-nil w.fates);
        runs = stopped_runs lines;
        left = refl;
        wrote = (output_of run, refl, refl, Appends-nil now);
        disks = stays faults.disk w.platforms.shards;
        rings = stays faults.ring w.platforms.shards;
      }
    where
      stopped_runs : (ls : List (List ℕ)) → Runs roster ls (world_of seen w) n []
          (record { happened = []; answers = []; bills = []; end = runs.stopped; left = (world_of seen w).platforms })
      stopped_runs [] = inl (refl, refl)
      stopped_runs (line ∷ ls) = inl (refl, refl)

  -- it ends at a bad line
  bad_line_here : (line : List ℕ) (lines : List (List ℕ)) (w : WorldState M R) (n : ℕ) (now : Option (List ℕ))
      → ((run : Run) → run ≡ record { happened = []; answers = []; bills = []; end = runs.bad_line (n + 1); left = (world_of seen w).platforms }
      → Runs roster (line ∷ lines) (world_of seen w) n [] run)
      → RanLines seen faults roster (line ∷ lines) n w (BadScript (n + 1)) now now w
  bad_line_here line lines w n now goes =
      let run : Run =
      record { happened = []; answers = []; bills = []; end = runs.bad_line (n + 1); left = (world_of seen w).platforms } in
      record {
        run = run;
        fates = [];
        fates_are = sym (append-nil w.fates);
        runs = goes run refl;
        left = refl;
        wrote = (output_of run, refl, refl, Appends-nil now);
        disks = stays faults.disk w.platforms.shards;
        rings = stays faults.ring w.platforms.shards;
      }

  -- memory runs out, in its event or before
  cut_here : (line : List ℕ) (lines : List (List ℕ)) (w after : WorldState M R) (n : ℕ) (now : Option (List ℕ))
      → n < 100000 → IsLineCut seen faults roster line w after
      → RanLines seen faults roster (line ∷ lines) n w NoMemory now now after
  cut_here line lines w after n now few (inl same) =
      subst (λ (v : WorldState M R). RanLines seen faults roster (line ∷ lines) n w NoMemory now now v) (sym same)
      (stops_here (line ∷ lines) w n now)
  cut_here line lines w after n now few (inr (event, is, cut)) =
      let run : Run =
      record { happened = []; answers = []; bills = []; end = runs.stopped; left = (world_of seen after).platforms } in
      let Rest : WorldRecord → List Fate → Run → Type 0 = λ v fs rest. Runs roster lines v (n + 1) fs rest in
      let on : OnEvent (event_in roster line) (world_of seen w) n cut.more run Rest =
      subst (λ (o : Option EventRecord). OnEvent o (world_of seen w) n cut.more run Rest) (sym is)
      (inl ((world_of seen after).platforms, cut.left, refl)) in
      record {
        run = run;
        fates = cut.more;
        fates_are = cut.fates_are;
        runs = inr (numbered roster line (world_of seen w) n cut.more run Rest (few_lines n few) on);
        left = refl;
        wrote = (output_of run, refl, refl, Appends-nil now);
        disks = cut.disks;
        rings = cut.rings;
      }

  -- the bill lines are the last
  last_here : (status : Status) (w : WorldState M R) (n : ℕ) (now later : Option (List ℕ))
      → EndsAsLast status (bill_lines (world_of seen w)) now later
      → RanLines seen faults roster [] n w status now later w
  last_here status w n now later ends = by status ends
    where
      run : Run
      run = record {
        happened = [];
        answers = [];
        bills = bill_lines (world_of seen w);
        end = runs.complete;
        left = (world_of seen w).platforms;
      }

      whole : (s : Status) → EndsAs s (λ out. out ≡ output_of run) now later
          → RanLines seen faults roster [] n w s now later w
      whole s wrote = record {
        run = run;
        fates = [];
        fates_are = sym (append-nil w.fates);
        runs = inr (refl, refl);
        left = refl;
        wrote = wrote;
        disks = stays faults.disk w.platforms.shards;
        rings = stays faults.ring w.platforms.shards;
      }

      by : (s : Status) → EndsAsLast s (bill_lines (world_of seen w)) now later
          → RanLines seen faults roster [] n w s now later w
      by Done wrote = whole Done (output_of run, refl, refl, wrote)
      by WriteFault first = whole WriteFault (output_of run, refl, first)
      by NoMemory wrote =
          let stopped : Run =
          record { happened = []; answers = []; bills = []; end = runs.stopped; left = (world_of seen w).platforms } in
          record {
            run = stopped;
            fates = [];
            fates_are = sym (append-nil w.fates);
            runs = inl (refl, refl);
            left = refl;
            wrote = (output_of stopped, refl, refl, wrote);
            disks = stays faults.disk w.platforms.shards;
            rings = stays faults.ring w.platforms.shards;
          }
      by Usage none = absurd none
      by ReadFault none = absurd none
      by TooLong none = absurd none
      by (BadJson fault) none = absurd none
      by (BadScript k) none = absurd none
      by (WrongRacks given needed) none = absurd none
      by (NotBlank place) none = absurd none
      by (OpenFault place) none = absurd none

  -- ---- a line that is answered

  -- the answer was put in part: a run that stops behind it
  torn_here : (line : List ℕ) (lines : List (List ℕ)) (w after : WorldState M R) (n : ℕ) (text : List ℕ)
      (now later : Option (List ℕ)) → n < 100000 → length after.fates ≡ n
      → IsLineAnswered seen faults roster line w (Some text) after → AppendsFirst now later text
      → RanLines seen faults roster (line ∷ lines) n w WriteFault now later after
  unfolding stops_here
  torn_here line lines w after n text now later few counted (event, is, told) first =
      let stepped = told.stepped in
      let h : Happened = record {
        before = world_of seen w;
        event = event;
        fate = stepped.fate;
        answer = told.answer;
        after = world_of seen after;
      } in
      let rest = stops_here lines after (n + 1) later in
      let run : Run = after_event h text rest.run in
      let line_is : text ≡ line_after n (world_of seen w) told.answer (world_of seen after) =
      told.line_is ∙ ap (λ (k : ℕ). line_after k (world_of seen w) told.answer (world_of seen after)) counted in
      let text_is : text ≡ text_of run =
      sym (append-nil text) ∙ sym (append-nil (text ++ [])) in
      record {
        run = run;
        fates = stepped.fate ∷ [];
        fates_are = stepped.fates_are;
        runs = in_front roster line lines (world_of seen w) (world_of seen after) n event stepped.fate told.answer text []
            rest.run few is stepped.has_fate.happens stepped.not_short line_is rest.runs;
        left = refl;
        wrote = (
          output_of run,
          refl,
          record {
            front = first.front;
            back = first.back;
            parts = first.parts ∙ text_is;
            wrote = first.wrote;
          },
        );
        disks = by_times faults.disk _ _ w.platforms.shards after.platforms.shards (λ k. one_time _) stepped.has_fate.disks;
        rings = by_times faults.ring _ _ w.platforms.shards after.platforms.shards (λ k. one_time _) stepped.has_fate.rings;
      }

  -- the answer was put
  pub goes_on_behind : (all : List (List ℕ)) (opened : WorldState M R) (line : List ℕ) (lines : List (List ℕ))
      (w after : WorldState M R) (n : ℕ) (text : List ℕ) (old now later : Option (List ℕ))
      → Reached seen faults roster all opened (line ∷ lines) n w old now → n < 100000 → length after.fates ≡ n
      → IsLineAnswered seen faults roster line w (Some text) after → Appends now later text
      → Reached seen faults roster all opened lines (n + 1) after old later
  goes_on_behind all opened line lines w after n text old now later reached few counted (event, is, told) wrote =
      let stepped = told.stepped in
      let h : Happened = record {
        before = world_of seen w;
        event = event;
        fate = stepped.fate;
        answer = told.answer;
        after = world_of seen after;
      } in
      let line_is : text ≡ line_after n (world_of seen w) told.answer (world_of seen after) =
      told.line_is ∙ ap (λ (k : ℕ). line_after k (world_of seen w) told.answer (world_of seen after)) counted in
      record {
        happened = reached.happened ++ h ∷ [];
        answers = reached.answers ++ text ∷ [];
        fates = reached.fates ++ stepped.fate ∷ [];
        fates_are = stepped.fates_are ∙ ap (λ (fs : List Fate). fs ++ stepped.fate ∷ []) reached.fates_are
            ∙ append_assoc opened.fates reached.fates (stepped.fate ∷ []);
        wrote = subst (λ (t : List ℕ). Appends old later t)
            (ap (λ (t : List ℕ). joined reached.answers ++ t) (sym (append-nil text))
            ∙ sym (flat_map-append (λ (l : List ℕ). l) reached.answers (text ∷ [])))
            (Appends-trans old now later (joined reached.answers) text reached.wrote wrote);
        goes_on = λ more rest goes.
            let whole = reached.goes_on (stepped.fate ∷ more) (after_event h text rest)
            (in_front roster line lines (world_of seen w) (world_of seen after) n event stepped.fate told.answer text more
            rest few is stepped.has_fate.happens stepped.not_short line_is goes) in
            subst (λ (run : Run). Runs roster all (world_of seen opened) 1 ((reached.fates ++ stepped.fate ∷ []) ++ more) run)
            (regrouped reached.happened reached.answers h text rest)
            (subst (λ (fs : List Fate). Runs roster all (world_of seen opened) 1 fs
            (run_behind reached.happened reached.answers (after_event h text rest)))
            (sym (append_assoc reached.fates (stepped.fate ∷ []) more)) whole);
        disks = by_times faults.disk _ _ opened.platforms.shards after.platforms.shards
            (λ k. disk_answers_more k reached.happened (h ∷ []))
            (and_then faults.disk (λ k. disk_answers k reached.happened) (λ k. disk_answers k (h ∷ []))
            opened.platforms.shards w.platforms.shards after.platforms.shards reached.disks
            (by_times faults.disk _ _ w.platforms.shards after.platforms.shards (λ k. one_time _) stepped.has_fate.disks));
        rings = by_times faults.ring _ _ opened.platforms.shards after.platforms.shards
            (λ k. sign_answers_more k reached.happened (h ∷ []))
            (and_then faults.ring (λ k. sign_answers k reached.happened) (λ k. sign_answers k (h ∷ []))
            opened.platforms.shards w.platforms.shards after.platforms.shards reached.rings
            (by_times faults.ring _ _ w.platforms.shards after.platforms.shards (λ k. one_time _) stepped.has_fate.rings));
      }
    where
      regrouped : (hs : List Happened) (answers : List (List ℕ)) (h : Happened) (t : List ℕ) (rest : Run)
          → run_behind hs answers (after_event h t rest) ≡ run_behind (hs ++ h ∷ []) (answers ++ t ∷ []) rest
      regrouped hs answers h t rest =
          ap (λ (events : List Happened). record rest { happened = events; answers = answers ++ t ∷ rest.answers })
          (sym (append_assoc hs (h ∷ []) rest.happened))
          ∙ ap (λ (texts : List (List ℕ)). record rest { happened = (hs ++ h ∷ []) ++ rest.happened; answers = texts })
          (sym (append_assoc answers (t ∷ []) rest.answers))

  -- ---- exits

  module _ (all : List (List ℕ)) (opened : WorldState M R) (line : List ℕ) (lines : List (List ℕ))
      (w : WorldState M R) (n : ℕ) (old now : Option (List ℕ))
      (reached : Reached seen faults roster all opened (line ∷ lines) n w old now) where
    pub ends_too_many : 100000 ≤ n → RanLines seen faults roster all 1 opened (BadScript (n + 1)) old now w
    ends_too_many many =
        joins all (line ∷ lines) opened w w n (BadScript (n + 1)) old now now tt reached
        (bad_line_here line lines w n now (λ run is. inr (subst
        (λ (b : Bool). MatchBool b (Ends (runs.bad_line (n + 1)) [] (world_of seen w) [] run)
        (OnEvent (event_in roster line) (world_of seen w) n [] run (λ v fs rest. Runs roster lines v (n + 1) fs rest)))
        (sym (many_lines n many)) (refl, is))))

    pub ends_outside : n < 100000 → event_in roster line ≡ None
        → RanLines seen faults roster all 1 opened (BadScript (n + 1)) old now w
    ends_outside few none =
        joins all (line ∷ lines) opened w w n (BadScript (n + 1)) old now now tt reached
        (bad_line_here line lines w n now (λ run is. inr (numbered roster line (world_of seen w) n [] run
        (λ v fs rest. Runs roster lines v (n + 1) fs rest) (few_lines n few)
        (subst (λ (o : Option EventRecord). OnEvent o (world_of seen w) n [] run
        (λ v fs rest. Runs roster lines v (n + 1) fs rest)) (sym none) (refl, is)))))

    pub ends_cut : (after : WorldState M R) → n < 100000 → IsLineCut seen faults roster line w after
        → RanLines seen faults roster all 1 opened NoMemory old now after
    ends_cut after few cut =
        joins all (line ∷ lines) opened w after n NoMemory old now now tt reached (cut_here line lines w after n now few cut)

    pub ends_torn : (after : WorldState M R) (text : List ℕ) (later : Option (List ℕ)) → n < 100000
        → length after.fates ≡ n → IsLineAnswered seen faults roster line w (Some text) after
        → AppendsFirst now later text → RanLines seen faults roster all 1 opened WriteFault old later after
    ends_torn after text later few counted answered first =
        joins all (line ∷ lines) opened w after n WriteFault old now later tt reached
        (torn_here line lines w after n text now later few counted answered first)

  pub ends_last : (all : List (List ℕ)) (opened w : WorldState M R) (n : ℕ) (status : Status)
      (old now later : Option (List ℕ)) → Reached seen faults roster all opened [] n w old now
      → EndsAsLast status (bill_lines (world_of seen w)) now later
      → RanLines seen faults roster all 1 opened status old later w
  ends_last all opened w n status old now later reached ends =
      joins all [] opened w w n status old now later (is_last status ends) reached (last_here status w n now later ends)
    where
      is_last : (s : Status) → EndsAsLast s (bill_lines (world_of seen w)) now later → IsAfterOpen s
      is_last Done ends = tt
      is_last WriteFault ends = tt
      is_last NoMemory ends = tt
      is_last (BadScript k) ends = tt
      is_last Usage ends = ends
      is_last ReadFault ends = ends
      is_last TooLong ends = ends
      is_last (BadJson fault) ends = ends
      is_last (WrongRacks given needed) ends = ends
      is_last (NotBlank place) ends = ends
      is_last (OpenFault place) ends = ends

-- ---- under the same roster

pub answered_at : {M R : Type 0} (seen : M → MachineRecord) (faults : Counts M) (before roster : RosterRecord)
    (line : List ℕ) (w : WorldState M R) (o : Option (List ℕ)) (after : WorldState M R) → before ≡ roster
    → IsLineAnswered seen faults before line w o after → IsLineAnswered seen faults roster line w o after
answered_at {M} {R} seen faults before roster line w o after same answered =
    subst (λ (r : RosterRecord). IsLineAnswered seen faults r line w o after) same answered

pub cut_at : {M R : Type 0} (seen : M → MachineRecord) (faults : Counts M) (before roster : RosterRecord)
    (line : List ℕ) (w after : WorldState M R) → before ≡ roster → IsLineCut seen faults before line w after
    → IsLineCut seen faults roster line w after
cut_at {M} {R} seen faults before roster line w after same cut =
    subst (λ (r : RosterRecord). IsLineCut seen faults r line w after) same cut
