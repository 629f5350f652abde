-- The shards of all platforms in one list: each is for its platform and the roster, and one of them takes a request.
use Rattle.std.proofs.Common.{◌≡◌, ℕ, zero, suc, ◌+◌, ◌*◌, ◌<◌, ◌≤◌, ◌||◌, Bool, true, false, cond, List, [], ◌∷◌, ◌++◌, Some, drop, length, map, take, refl, ap, sym, subst, ◌∙◌, arith}
use Rattle.std.specs.Prelude.{option_map, replicate, slice_get, slice_set}
use Rattle.std.specs.Set.{is_member}
use Rattle.std.proofs.Math.Seq.{map-set_same}
use Rattle.std.proofs.lemmas.List.{length-append, length-drop, length-map, length-replicate, map-set, take-append-drop}
use Rattle.std.proofs.lemmas.List.Elements.{All-cons, All-head, All-tail}
use Rattle.std.proofs.lemmas.Option.{get_or_from_slice_get, slice_get-map}
use Rattle.ebl_base.specs.Faults.{RoseBy}
use Rattle.ebl_base.specs.PlatformCode.{code_eq}
use Rattle.ebl_base.specs.declared.moment.Moment.{Moment}
use Rattle.ebl_base.specs.declared.platform_code.PlatformCode.{PlatformCode}
use Rattle.ebl_base.proofs.SameLemmas.{code_eq-Decides}
use Rattle.party_roster.specs.RosterRecord.{RosterRecord, has_platform}
use Rattle.platform_requests.specs.Request.{RequestRecord}
use Rattle.platform_requests.specs.declared.outcome.Outcome.{Outcome}
use Rattle.platform_world.specs.Machine.{IsSameMachine, MachineRecord, shard_state}
use Rattle.platform_world.specs.Platforms.{AllTell, AreShardsOf, EachRose, PlatformsRecord, TakesAt, codes_of, grouped, index_of, position_of, states_of, times_if}
use Rattle.platform_world.specs.Shard.{IsResolved, TakesAs, loosened}
use Rattle.platform_world.specs.Start.{IsLoosenedAt, IsReadAt}
use Rattle.platform_world.specs.World.{ShardState, shard_at, shards_in, with_shard}
use Rattle.platform_world.specs.declared.fate.Fate.{Fate}
use Rattle.platform_world.proofs.Counts.{by_later, rose_later, rose_set}
use Rattle.platform_world.proofs.Grouped.{shard_at-grouped, with_shard-grouped}

-- ---- how many there are

pub codes-length : (ps : List PlatformCode) → length (codes_of ps) ≡ 16 * length ps
codes-length [] = refl
codes-length (p ∷ ps) =
    let next : 16 + 16 * length ps ≡ 16 * length (p ∷ ps) = omega arith in
    length-append (replicate 16 p) (codes_of ps)
    ∙ ap (λ (n : ℕ). n + length (codes_of ps)) (length-replicate 16 p)
    ∙ ap (λ (n : ℕ). 16 + n) (codes-length ps)
    ∙ next

-- ---- the position of a listed platform

same_test : (p q : PlatformCode) → code_eq p q ≡ true → code_eq q p ≡ true
same_test p q h = (code_eq-Decides q p).1 (sym ((code_eq-Decides p q).0 h))

pub listed-position : (p : PlatformCode) (ps : List PlatformCode) → is_member code_eq ps p ≡ true
    → position_of p ps < length ps
listed-position p [] h = absurd (let no : false ≡ true = h in cc)
listed-position p (q ∷ qs) h = on_test (code_eq q p) refl (λ later. listed-position p qs later)
  where
    on_first : (b : Bool) → code_eq p q ≡ b → code_eq q p ≡ false → (b || is_member code_eq qs p) ≡ true
        → (is_member code_eq qs p ≡ true → position_of p qs < length qs) → suc (position_of p qs) < suc (length qs)
    on_first true is isnt there rest = absurd (let yes : code_eq q p ≡ true = same_test p q is in cc)
    on_first false is isnt there rest = let later : position_of p qs < length qs = rest there in omega (arith, later)

    on_test : (b : Bool) → code_eq q p ≡ b → (is_member code_eq qs p ≡ true → position_of p qs < length qs)
        → cond b 0 (suc (position_of p qs)) < suc (length qs)
    on_test true is rest = omega arith
    on_test false is rest = on_first (code_eq p q) refl is h rest

-- ---- the platform at a position

in_front : (n i : ℕ) (q : PlatformCode) (rest : List PlatformCode) → i < n
    → slice_get (replicate n q ++ rest) i ≡ Some q
in_front zero i q rest h = absurd (omega (arith, h))
in_front (suc n) zero q rest h = refl
in_front (suc n) (suc i) q rest h = in_front n i q rest (omega (arith, h))

behind : (n k : ℕ) (q : PlatformCode) (rest : List PlatformCode)
    → slice_get (replicate n q ++ rest) (n + k) ≡ slice_get rest k
behind zero k q rest = ap (slice_get rest) (let same : 0 + k ≡ k = omega arith in same)
behind (suc n) k q rest =
    let next : suc n + k ≡ suc (n + k) = omega arith in
    ap (slice_get (q ∷ (replicate n q ++ rest))) next ∙ behind n k q rest

pub codes-at : (p : PlatformCode) (i : ℕ) (ps : List PlatformCode) → i < 16 → position_of p ps < length ps
    → slice_get (codes_of ps) (index_of p i ps) ≡ Some p
codes-at p i [] small listed = absurd (omega (arith, listed))
codes-at p i (q ∷ qs) small listed = on_test (code_eq q p) refl listed (λ later. codes-at p i qs small later)
  where
    on_test : (b : Bool) → code_eq q p ≡ b → cond b 0 (suc (position_of p qs)) < suc (length qs)
        → (position_of p qs < length qs → slice_get (codes_of qs) (index_of p i qs) ≡ Some p)
        → slice_get (replicate 16 q ++ codes_of qs) (16 * cond b 0 (suc (position_of p qs)) + i) ≡ Some p
    on_test true is h rest =
        let first : 16 * 0 + i ≡ i = omega arith in
        ap (slice_get (replicate 16 q ++ codes_of qs)) first ∙ in_front 16 i q (codes_of qs) small
        ∙ ap (λ (x : PlatformCode). Some x) ((code_eq-Decides q p).0 is)
    on_test false is h rest =
        let later : position_of p qs < length qs = omega (arith, h) in
        let next : 16 * suc (position_of p qs) + i ≡ 16 + index_of p i qs = omega arith in
        ap (slice_get (replicate 16 q ++ codes_of qs)) next ∙ behind 16 (index_of p i qs) q (codes_of qs) ∙ rest later

-- ---- the shards

same_some : {X : Type 0} (a b : X) → Some a ≡ Some b → a ≡ b
same_some a b h = cc

module _ (roster : RosterRecord) (machines : List MachineRecord) (are : AreShardsOf roster machines) where
  pub count : length machines ≡ 16 * length roster.platforms
  count = sym (length-map machines (λ (m : MachineRecord). m.me)) ∙ ap length are.of ∙ codes-length roster.platforms

  pub me-at : (p : PlatformCode) (i : ℕ) (m : MachineRecord) → i < 16
      → position_of p roster.platforms < length roster.platforms
      → slice_get machines (index_of p i roster.platforms) ≡ Some m → m.me ≡ p
  me-at p i m small listed there =
      same_some m.me p (ap (option_map (λ (x : MachineRecord). x.me)) (sym there)
      ∙ sym (slice_get-map (λ (x : MachineRecord). x.me) machines (index_of p i roster.platforms))
      ∙ ap (λ (of_it : List PlatformCode). slice_get of_it (index_of p i roster.platforms)) are.of
      ∙ codes-at p i roster.platforms small listed)

  pub roster-at : (p : PlatformCode) (i : ℕ) (m : MachineRecord) → i < 16
      → position_of p roster.platforms < length roster.platforms
      → slice_get machines (index_of p i roster.platforms) ≡ Some m → m.roster ≡ roster
  roster-at p i m small listed there =
      same_some m.roster roster (ap (option_map (λ (x : MachineRecord). x.roster)) (sym there)
      ∙ sym (slice_get-map (λ (x : MachineRecord). x.roster) machines (index_of p i roster.platforms))
      ∙ ap (λ (of_it : List RosterRecord). slice_get of_it (index_of p i roster.platforms)) are.by
      ∙ slice_get-map (λ (x : PlatformCode). roster) (codes_of roster.platforms) (index_of p i roster.platforms)
      ∙ ap (option_map (λ (x : PlatformCode). roster)) (codes-at p i roster.platforms small listed))

  pub kept : (k : ℕ) (m m1 : MachineRecord) → slice_get machines k ≡ Some m → m1.me ≡ m.me → m1.roster ≡ m.roster
      → AreShardsOf roster (slice_set machines k m1)
  kept k m m1 there me by = record {
    of = map-set_same (λ (x : MachineRecord). x.me) machines k m1 m
        (me ∙ ap (λ (x : MachineRecord). x.me) (sym (get_or_from_slice_get machines k m m there))) ∙ are.of;
    by = map-set_same (λ (x : MachineRecord). x.roster) machines k m1 m
        (by ∙ ap (λ (x : MachineRecord). x.roster) (sym (get_or_from_slice_get machines k m m there))) ∙ are.by;
  }

-- ---- one of them is changed

-- how many there are
pub shard_count : {M : Type 0} (seen : M → MachineRecord) (roster : RosterRecord) (shards : List M)
    → AreShardsOf roster (map seen shards) → length shards ≡ 16 * length roster.platforms
shard_count seen roster shards are = sym (length-map shards seen) ∙ count roster (map seen shards) are

module _ {M R : Type 0} (seen : M → MachineRecord) where
  -- the shard of a listed platform is within the list
  pub within : (s : PlatformsRecord M R) (p : PlatformCode) (i : ℕ) → AreShardsOf s.roster (map seen s.shards)
      → has_platform s.roster p ≡ true → i < 16 → index_of p i s.roster.platforms < length s.shards
  within s p i are listed small =
      let before : position_of p s.roster.platforms < length s.roster.platforms =
      listed-position p s.roster.platforms listed in
      let all = shard_count seen s.roster s.shards are in
      omega (arith, before, all, small)

  module _ (s : PlatformsRecord M R) (p : PlatformCode) (i : ℕ) (m : M) (are : AreShardsOf s.roster (map seen s.shards))
      (listed : has_platform s.roster p ≡ true) (small : i < 16)
      (there : slice_get s.shards (index_of p i s.roster.platforms) ≡ Some m) where
    is_listed : position_of p s.roster.platforms < length s.roster.platforms
    is_listed = listed-position p s.roster.platforms listed

    seen_there : slice_get (map seen s.shards) (index_of p i s.roster.platforms) ≡ Some (seen m)
    seen_there = slice_get-map seen s.shards (index_of p i s.roster.platforms) ∙ ap (option_map seen) there

    pub me_is : (seen m).me ≡ p
    me_is = me-at s.roster (map seen s.shards) are p i (seen m) small is_listed seen_there

    pub roster_is : (seen m).roster ≡ s.roster
    roster_is = roster-at s.roster (map seen s.shards) are p i (seen m) small is_listed seen_there

    -- it is there by its platform and its number
    pub at_place : shard_at p i (states_of seen s) ≡ Some (shard_state (seen m))
    at_place =
        shard_at-grouped p i s.roster.platforms (map (λ (x : M). shard_state (seen x)) s.shards) small is_listed
        ∙ slice_get-map (λ (x : M). shard_state (seen x)) s.shards (index_of p i s.roster.platforms) ∙ ap (option_map (λ (x : M). shard_state (seen x))) there

    -- another one in its place
    pub put : (m1 : M) (spare : List R)
        → states_of seen (record {
          roster = s.roster;
          shards = slice_set s.shards (index_of p i s.roster.platforms) m1;
          spare = spare;
        })
        ≡ with_shard p i (shard_state (seen m1)) (states_of seen s)
    put m1 spare =
        ap (grouped s.roster.platforms) (map-set (λ (x : M). shard_state (seen x)) s.shards (index_of p i s.roster.platforms) m1)
        ∙ sym (with_shard-grouped p i (shard_state (seen m1)) s.roster.platforms (map (λ (x : M). shard_state (seen x)) s.shards) small is_listed)

    pub kept_seen : (m1 : M) → IsSameMachine (seen m) (seen m1)
        → AreShardsOf s.roster (map seen (slice_set s.shards (index_of p i s.roster.platforms) m1))
    kept_seen m1 same =
        subst (AreShardsOf s.roster) (sym (map-set seen s.shards (index_of p i s.roster.platforms) m1))
        (kept s.roster (map seen s.shards) are (index_of p i s.roster.platforms) (seen m) (seen m1) seen_there same.me
        same.roster)

-- ---- disks that tell

tells_at : {M : Type 0} (tells : M → Bool) (shards : List M) (k : ℕ) (m : M) → AllTell tells shards
    → slice_get shards k ≡ Some m → tells m ≡ true
tells_at tells [] k m all is = cc is
tells_at tells (x ∷ xs) zero m all is =
    let same : x ≡ m = cc is in
    subst (λ (y : _). tells y ≡ true) same (All-head (λ y. tells y ≡ true) x xs all)
tells_at tells (x ∷ xs) (suc k) m all is = tells_at tells xs k m (All-tail (λ y. tells y ≡ true) x xs all) is

pub told_there : {M : Type 0} (tells : M → Bool) (shards : List M) (k : ℕ) (m : M) → AllTell tells shards
    → slice_get shards k ≡ Some m → tells m ≡ true
told_there = tells_at

pub told_set : {M : Type 0} (tells : M → Bool) (shards : List M) (k : ℕ) (m : M) → AllTell tells shards
    → tells m ≡ true → AllTell tells (slice_set shards k m)
told_set tells [] k m all told = all
told_set tells (x ∷ xs) zero m all told =
    All-cons (λ y. tells y ≡ true) m xs told (All-tail (λ y. tells y ≡ true) x xs all)
told_set tells (x ∷ xs) (suc k) m all told =
    All-cons (λ y. tells y ≡ true) x (slice_set xs k m) (All-head (λ y. tells y ≡ true) x xs all)
    (told_set tells xs k m (All-tail (λ y. tells y ≡ true) x xs all) told)

-- one among them
pub told_in : {M : Type 0} (tells : M → Bool) (front : List M) (m : M) (behind : List M)
    → AllTell tells (front ++ m ∷ behind) → tells m ≡ true
told_in tells [] m behind all = All-head (λ y. tells y ≡ true) m behind all
told_in tells (x ∷ front) m behind all =
    told_in tells front m behind (All-tail (λ y. tells y ≡ true) x (front ++ m ∷ behind) all)

-- ---- all of them in one list

pub shards_grouped : (ps : List PlatformCode) (shards : List ShardState) → length shards ≡ 16 * length ps
    → shards_in (grouped ps shards) ≡ shards
shards_grouped [] [] is = refl
shards_grouped [] (x ∷ xs) is = absurd (omega (arith, is))
shards_grouped (p ∷ ps) shards is =
    let rest : length (drop 16 shards) ≡ 16 * length ps = omega (arith, is, length-drop 16 shards) in
    ap (λ (xs : List ShardState). take 16 shards ++ xs) (shards_grouped ps (drop 16 shards) rest)
    ∙ take-append-drop 16 shards

-- ---- as the code keeps them

module _ {M R : Type 0} (seen : M → MachineRecord) (s v : PlatformsRecord M R) (view : s ≡ v) (p : PlatformCode) (i k : ℕ)
    (m : M) (are : AreShardsOf s.roster (map seen s.shards)) (listed : has_platform v.roster p ≡ true) (small : i < 16)
    (k_is : k ≡ index_of p i v.roster.platforms) (there : slice_get s.shards k ≡ Some m) where
  listed_so : has_platform s.roster p ≡ true
  listed_so = ap (λ (x : PlatformsRecord M R). has_platform x.roster p) view ∙ listed

  index_so : k ≡ index_of p i s.roster.platforms
  index_so = k_is ∙ ap (λ (x : PlatformsRecord M R). index_of p i x.roster.platforms) (sym view)

  there_so : slice_get s.shards (index_of p i s.roster.platforms) ≡ Some m
  there_so = ap (slice_get s.shards) (sym index_so) ∙ there

  pub me_in : (seen m).me ≡ p
  me_in = me_is seen s p i m are listed_so small there_so

  pub roster_in : (seen m).roster ≡ v.roster
  roster_in = roster_is seen s p i m are listed_so small there_so ∙ ap (λ (x : PlatformsRecord M R). x.roster) view

  pub asked_in : shard_at p i (states_of seen v) ≡ Some (shard_state (seen m))
  asked_in =
      ap (λ (x : PlatformsRecord M R). shard_at p i (states_of seen x)) (sym view)
      ∙ at_place seen s p i m are listed_so small there_so

  pub put_in : (m1 : M) (spare : List R)
      → states_of seen (record { roster = s.roster; shards = slice_set s.shards k m1; spare = spare })
      ≡ with_shard p i (shard_state (seen m1)) (states_of seen v)
  put_in m1 spare =
      ap (λ (n : ℕ). states_of seen (record { roster = s.roster; shards = slice_set s.shards n m1; spare = spare })) index_so
      ∙ put seen s p i m are listed_so small there_so m1 spare
      ∙ ap (λ (x : PlatformsRecord M R). with_shard p i (shard_state (seen m1)) (states_of seen x)) view

  pub kept_in : (m1 : M) → IsSameMachine (seen m) (seen m1) → AreShardsOf s.roster (map seen (slice_set s.shards k m1))
  kept_in m1 same =
      subst (λ (n : ℕ). AreShardsOf s.roster (map seen (slice_set s.shards n m1))) (sym index_so)
      (kept_seen seen s p i m are listed_so small there_so m1 same)

  pub rose_in : (faults : M → ℕ) (m1 : M) (t : ℕ) → RoseBy (faults m) t (faults m1)
      → EachRose faults (times_if t (index_of p i v.roster.platforms)) v.shards (slice_set s.shards k m1)
  rose_in faults m1 t rose =
      subst (λ (x : PlatformsRecord M R). EachRose faults (times_if t (index_of p i v.roster.platforms)) x.shards
      (slice_set s.shards k m1)) view
      (subst (λ (n : ℕ). EachRose faults (times_if t n) s.shards (slice_set s.shards k m1)) k_is
      (rose_set faults s.shards k m m1 t there rose))

  pub later_in : (faults : M → ℕ) (m1 : M) → faults m ≤ faults m1
      → EachRose faults (λ (j : ℕ). 0) v.shards (slice_set s.shards k m1)
  later_in faults m1 later =
      rose_later faults (times_if 0 (index_of p i v.roster.platforms)) v.shards (slice_set s.shards k m1)
      (rose_in faults m1 0 (by_later (faults m) (faults m1) later))

  -- it takes a request
  pub taken_in : (m1 : M) (spare : List R) (now : Moment) (request : RequestRecord) (fate : Fate) (out : Outcome)
      → TakesAs (seen m).roster (seen m).me i (shard_state (seen m)) now request fate out (shard_state (seen m1))
      → TakesAt v.roster (states_of seen v) p i now request fate out
      (states_of seen (record { roster = s.roster; shards = slice_set s.shards k m1; spare = spare }))
  taken_in m1 spare now request fate out takes = record {
    shard = shard_state (seen m);
    is_asked = asked_in;
    later = shard_state (seen m1);
    takes = subst (λ (r : RosterRecord). TakesAs r p i (shard_state (seen m)) now request fate out (shard_state (seen m1)))
        roster_in
        (subst (λ (q : PlatformCode). TakesAs (seen m).roster q i (shard_state (seen m)) now request fate out
        (shard_state (seen m1))) me_in takes);
    after_is = put_in m1 spare;
  }

  -- it is read again
  pub read_in : (m1 : M) (spare : List R) (here : Bool)
      → IsResolved (shard_state (seen m)) here (shard_state (seen m1))
      → IsReadAt p i (states_of seen v) here
      (states_of seen (record { roster = s.roster; shards = slice_set s.shards k m1; spare = spare }))
  read_in m1 spare here resolved = record {
    shard = shard_state (seen m);
    is_there = asked_in;
    found = shard_state (seen m1);
    resolved = resolved;
    after_is = put_in m1 spare;
  }

  -- it is loose from now on
  pub loose_in : (m1 : M) (spare : List R) → shard_state (seen m1) ≡ loosened (shard_state (seen m))
      → IsLoosenedAt p i (states_of seen v)
      (states_of seen (record { roster = s.roster; shards = slice_set s.shards k m1; spare = spare }))
  loose_in m1 spare loose = record {
    shard = shard_state (seen m);
    is_there = asked_in;
    after_is = put_in m1 spare ∙ ap (λ (x : ShardState). with_shard p i x (states_of seen v)) loose;
  }
