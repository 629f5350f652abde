-- From events that are taken one after another to a whole rehearsal.
use Rattle.std.proofs.Common.{◌≡◌, inr, ℕ, zero, suc, ◌+◌, List, [], ◌∷◌, ◌++◌, Result, Ok, Err, replicate, refl, sym, ◌∙◌, ap, subst, append_assoc, append-nil, add-one, arith}
use Rattle.std.specs.Prelude.{IfOk, OnOk}
use Rattle.std.specs.List.{flat_map, range_with_len}
use Rattle.std.proofs.lemmas.Grind.{flat_map-append}
use Rattle.answer_lines.specs.Lines.{members_line}
use Rattle.answer_lines.specs.Words.{answer_text}
use Rattle.world_script.specs.Event.{EventRecord}
use Rattle.platform_world.specs.declared.fate.Fate.{Fate}
use Rattle.world_events.specs.Happening.{comes_to}
use Rattle.platform_world.specs.Run.{Happened, disk_answers, sign_answers}
use Rattle.platform_world.specs.Machine.{Counts, MachineRecord}
use Rattle.platform_world.specs.Platforms.{EachRose, times_at}
use Rattle.platform_world.specs.State.{WorldState, world_of}
use Rattle.platform_world.specs.Step.{disk_failed_at, ring_failed_at}
use Rattle.platform_world.specs.World.{WorldRecord}
use Rattle.platform_world.proofs.Counts.{none_rose, rose_both}
use Rattle.rehearsal.specs.Events.{Made, Move, begin_bill, event_of, happen, happening, issue_bill, issuing, made, moves, sign_bill, signing}
use Rattle.rehearsal.specs.Progress.{Progress, Takes, TakesAll, progress}
use Rattle.rehearsal.specs.Run.{Goes, Rehearsal, after_event, complete, ends_in, fates_of}
use Rattle.rehearsal.specs.Summary.{SumsUp, answers_of, summary_members}

-- what follows where nothing failed
pub on_ok : {T E : Type 0} {P Q : Type 0} (r : Result T E) → (P → Q) → OnOk r P → OnOk r Q
on_ok (Ok x) follows given = follows given
on_ok (Err e) follows given = tt

-- ---- lists of moves

range_more : (a n : ℕ) → range_with_len a (n + 1) ≡ range_with_len a n ++ (a + n) ∷ []
range_more a zero = ap (λ (k : ℕ). k ∷ []) (omega arith)
range_more a (suc n) =
    rw add-one (ap (λ (ks : List ℕ). a ∷ ks)
    (subst (λ (k : ℕ). range_with_len (a + 1) k ≡ range_with_len (a + 1) n ++ (a + suc n) ∷ []) (add-one n)
    (subst (λ (k : ℕ). range_with_len (a + 1) (n + 1) ≡ range_with_len (a + 1) n ++ k ∷ [])
    (omega arith) (range_more (a + 1) n))))

replicate_more : (n : ℕ) → replicate (n + 1) happen ≡ replicate n happen ++ happen ∷ []
replicate_more zero = refl
replicate_more (suc n) = rw add-one (ap (λ (ms : List Move). happen ∷ ms) (rw add-one at (replicate_more n)))

-- ---- progress

-- the same world, state and answers
pub same_progress : {M R : Type 0} (w : WorldState M R) (x : ℕ) (answers others : List (List ℕ)) → answers ≡ others
    → progress w x answers ≡ progress w x others
same_progress w x answers others same = ap (λ (words : List (List ℕ)). progress w x words) same

-- a whole rehearsal of some moves, with what it comes to
record Whole {M R : Type 0} (seen : M → MachineRecord) (faults : Counts M) (bills : ℕ) (ms : List Move)
    (a b : Progress M R) : Type 0 where
  run : Rehearsal
  goes : Goes bills ms (world_of seen a.world) a.state run
  whole : run.end ≡ complete
  last : run.last ≡ world_of seen b.world
  answers : b.answers ≡ a.answers ++ answers_of run.happened
  fates : b.world.fates ≡ a.world.fates ++ fates_of run.happened
  disks : EachRose faults.disk (λ k. disk_answers k run.happened) a.world.platforms.shards b.world.platforms.shards
  rings : EachRose faults.ring (λ k. sign_answers k run.happened) a.world.platforms.shards b.world.platforms.shards

module _ {M R : Type 0} (seen : M → MachineRecord) (faults : Counts M) where
  -- ---- one event

  -- it is taken from the state before its draws too
  takes_from : (w : WorldState M R) (x y : ℕ) (answers : List (List ℕ)) (next : Made) (after : Progress M R)
      → Takes seen faults (progress w y answers) next after → Takes seen faults (progress w x answers) next after
  takes_from w x y answers next after takes = record {
    answer = takes.answer;
    stepped = takes.stepped;
    state_is = takes.state_is;
    answers_are = takes.answers_are;
  }

  -- something happens
  pub happened : (bills : ℕ) (w : WorldState M R) (x z : ℕ) (answers : List (List ℕ)) (event : EventRecord)
      (after : Progress M R) → made event z ≡ happening bills (world_of seen w) x
      → Takes seen faults (progress w z answers) (made event z) after
      → Takes seen faults (progress w x answers) (happening bills (world_of seen w) x) after
  happened bills w x z answers event after is takes =
      subst (λ (next : Made). Takes seen faults (progress w x answers) next after) is
      (takes_from w x z answers (made event z) after takes)

  -- ---- several

  takes_append : (bills : ℕ) (front back : List Move) (a b c : Progress M R) → TakesAll seen faults bills front a b
      → TakesAll seen faults bills back b c → TakesAll seen faults bills (front ++ back) a c
  takes_append bills [] back a b c same takes =
      subst (λ (p : Progress M R). TakesAll seen faults bills back p c) (sym same) takes
  takes_append bills (move ∷ front) back a b c (between, first, rest) takes =
      (between, first, takes_append bills front back between b c rest takes)

  takes_one : (bills : ℕ) (move : Move) (a b : Progress M R)
      → Takes seen faults a (event_of bills move (world_of seen a.world) a.state) b
      → TakesAll seen faults bills (move ∷ []) a b
  takes_one bills move a b takes = (b, takes, refl)

  takes_two : (bills : ℕ) (first second : Move) (a b c : Progress M R)
      → Takes seen faults a (event_of bills first (world_of seen a.world) a.state) b
      → Takes seen faults b (event_of bills second (world_of seen b.world) b.state) c
      → TakesAll seen faults bills (first ∷ second ∷ []) a c
  takes_two bills first second a b c one two = (b, one, (c, two, refl))

  -- a bill is signed and issued
  pub began : (k : ℕ) (w v : WorldState M R) (x y z : ℕ) (answers later : List (List ℕ)) (signed issued : EventRecord)
      (after : Progress M R) → signed ≡ signing k → made issued z ≡ issuing k y
      → Takes seen faults (progress w x answers) (made signed x) (progress v y later)
      → Takes seen faults (progress v z later) (made issued z) after
      → (bills : ℕ) → TakesAll seen faults bills (begin_bill k) (progress w x answers) after
  began k w v x y z answers later signed issued after is_signed is_issued first second bills =
      takes_two bills (sign_bill k) (issue_bill k) (progress w x answers) (progress v y later) after
      (subst (λ (event : EventRecord). Takes seen faults (progress w x answers) (made event x) (progress v y later))
      is_signed first)
      (subst (λ (next : Made). Takes seen faults (progress v y later) next after) is_issued
      (takes_from v y z later (made issued z) after second))

  -- one bill more
  pub one_bill_more : (bills n k : ℕ) (a b c : Progress M R) → k ≡ n + 1
      → TakesAll seen faults bills (flat_map begin_bill (range_with_len 1 n)) a b
      → TakesAll seen faults bills (begin_bill k) b c
      → TakesAll seen faults bills (flat_map begin_bill (range_with_len 1 (n + 1))) a c
  one_bill_more bills n k a b c is before last =
      let same : flat_map begin_bill (range_with_len 1 (n + 1))
      ≡ flat_map begin_bill (range_with_len 1 n) ++ begin_bill k =
      ap (flat_map begin_bill) (range_more 1 n)
      ∙ flat_map-append begin_bill (range_with_len 1 n) ((1 + n) ∷ [])
      ∙ ap (λ (i : ℕ). flat_map begin_bill (range_with_len 1 n) ++ begin_bill i) (let e : 1 + n ≡ k = omega arith in e) in
      subst (λ (ms : List Move). TakesAll seen faults bills ms a c) (sym same)
      (takes_append bills (flat_map begin_bill (range_with_len 1 n)) (begin_bill k) a b c before last)

  -- one step more
  pub one_step_more : (bills n : ℕ) (a b c : Progress M R) → TakesAll seen faults bills (replicate n happen) a b
      → Takes seen faults b (event_of bills happen (world_of seen b.world) b.state) c
      → TakesAll seen faults bills (replicate (n + 1) happen) a c
  one_step_more bills n a b c before last =
      subst (λ (ms : List Move). TakesAll seen faults bills ms a c) (sym (replicate_more n))
      (takes_append bills (replicate n happen) (happen ∷ []) a b c before (takes_one bills happen b c last))

  -- ---- the whole

  nothing_more : (bills : ℕ) (a : Progress M R) → Whole seen faults bills [] a a
  nothing_more bills a = record {
    run = ends_in complete (world_of seen a.world);
    goes = inr refl;
    whole = refl;
    last = refl;
    answers = sym (append-nil a.answers);
    fates = sym (append-nil a.world.fates);
    disks = none_rose faults.disk a.world.platforms.shards;
    rings = none_rose faults.ring a.world.platforms.shards;
  }

  whole_of : (bills : ℕ) (ms : List Move) (a b : Progress M R) → TakesAll seen faults bills ms a b
      → Whole seen faults bills ms a b
  whole_of bills [] a b same = subst (λ (p : Progress M R). Whole seen faults bills [] a p) same (nothing_more bills a)
  whole_of bills (move ∷ ms) a b (between, takes, rest) =
      let more : Whole seen faults bills ms between b = whole_of bills ms between b rest in
      let next : Made = event_of bills move (world_of seen a.world) a.state in
      let stepped = takes.stepped in
      let h : Happened = record {
        before = world_of seen a.world;
        event = next.event;
        fate = stepped.fate;
        answer = takes.answer;
        after = world_of seen between.world;
      } in
      record {
        run = after_event h more.run;
        goes =
            inr (
              stepped.fate,
              takes.answer,
              world_of seen between.world,
              more.run,
              stepped.has_fate.happens,
              stepped.not_short,
              refl,
              subst (λ (x : ℕ). Goes bills ms (world_of seen between.world) x more.run) takes.state_is more.goes,
            );
        whole = more.whole;
        last = more.last;
        answers =
            more.answers
            ∙ ap (λ (words : List (List ℕ)). words ++ answers_of more.run.happened) takes.answers_are
            ∙ append_assoc a.answers (answer_text takes.answer ∷ []) (answers_of more.run.happened);
        fates =
            more.fates
            ∙ ap (λ (fates : List Fate). fates ++ fates_of more.run.happened) stepped.fates_are
            ∙ append_assoc a.world.fates (stepped.fate ∷ []) (fates_of more.run.happened);
        disks = rose_both faults.disk
            (times_at a.world.platforms.roster.platforms
            (disk_failed_at (comes_to a.world.signed a.world.sent next.event) stepped.fate.end))
            (λ k. disk_answers k more.run.happened) a.world.platforms.shards between.world.platforms.shards
            b.world.platforms.shards stepped.has_fate.disks more.disks;
        rings = rose_both faults.ring
            (times_at a.world.platforms.roster.platforms
            (ring_failed_at (comes_to a.world.signed a.world.sent next.event) stepped.fate.end))
            (λ k. sign_answers k more.run.happened) a.world.platforms.shards between.world.platforms.shards
            b.world.platforms.shards stepped.has_fate.rings more.rings;
      }

  summed_up : (seed bills steps : ℕ) (w : WorldState M R) (a b c : Progress M R) (line : List ℕ)
      → a ≡ progress w seed [] → TakesAll seen faults bills (flat_map begin_bill (range_with_len 1 bills)) a b
      → TakesAll seen faults bills (replicate steps happen) b c
      → line ≡ members_line (summary_members bills (world_of seen c.world) c.answers)
      → SumsUp seen faults seed bills steps w line c.world
  summed_up seed bills steps w a b c line start beginning going is =
      let all : Whole seen faults bills (moves bills steps) (progress w seed []) c =
      whole_of bills (moves bills steps) (progress w seed []) c
      (subst (λ (p : Progress M R). TakesAll seen faults bills (moves bills steps) p c) start
      (takes_append bills (flat_map begin_bill (range_with_len 1 bills)) (replicate steps happen) a b c beginning going)) in
      record {
        run = all.run;
        goes = all.goes;
        whole = all.whole;
        line_is =
            is ∙ ap (λ (end : WorldRecord). members_line (summary_members bills end c.answers)) (sym all.last)
            ∙ ap (λ (words : List (List ℕ)). members_line (summary_members bills all.run.last words)) all.answers;
        last_is = all.last;
        fates_are = all.fates;
        disks = all.disks;
        rings = all.rings;
      }

  pub summed_up_if : {E : Type 0} (seed bills steps : ℕ) (w : WorldState M R) (a b c : Progress M R)
      (line : Result (List ℕ) E) → a ≡ progress w seed []
      → TakesAll seen faults bills (flat_map begin_bill (range_with_len 1 bills)) a b
      → TakesAll seen faults bills (replicate steps happen) b c
      → IfOk line (λ l. l ≡ members_line (summary_members bills (world_of seen c.world) c.answers))
      → IfOk line (λ l. SumsUp seen faults seed bills steps w l c.world)
  summed_up_if seed bills steps w a b c (Ok line) start beginning going is =
      summed_up seed bills steps w a b c line start beginning going is
  summed_up_if seed bills steps w a b c (Err e) start beginning going is = tt
