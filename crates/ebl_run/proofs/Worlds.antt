-- What a run leaves of racks, by what it leaves of the shards that are on them.
use Rattle.std.proofs.Common.{◌≡◌, inl, inr, ◌<◌, ◌≤◌, ◌-◌, ◌*◌, ◌^◌, ℕ, zero, suc, ◌+◌, ◌⊎◌, Bool, true, List, [], ◌∷◌, ◌++◌, Some, None, length, length-append, length-drop, map, take, drop, refl, sym, ap, subst, ◌∙◌, arith}
use Rattle.std.specs.Prelude.{All, option_map, slice_get}
use Rattle.std.proofs.lemmas.List.{length-map}
use Rattle.std.proofs.lemmas.List.Elements.{All-head, All-tail}
use Rattle.std.proofs.lemmas.Option.{get_or_from_slice_get, slice_get-map, slice_get_within}
use Rattle.ebl_base.specs.Faults.{RoseBy}
use Rattle.signed_envelope.specs.KeyRing.{Keys}
use Rattle.journaled_shard.specs.declared.rack.Rack.{Rack}
use Rattle.journaled_shard.specs.Shard.{JournaledShardRecord}
use Rattle.platform_world.specs.Machine.{MachineRecord, shard_state}
use Rattle.platform_world.specs.Journaled.{HoldsDiary, loose_mark}
use Rattle.platform_world.specs.Opening as opened
use Rattle.platform_world.specs.Opening.{AreOnRacks, IsOnRack, RoseAt}
use Rattle.platform_world.specs.Platforms.{EachRose, grouped}
use Rattle.platform_world.specs.Run.{Happened, disk_answers, sign_answers}
use Rattle.platform_world.specs.World.{PlatformState, ShardState, shards_in}
use Rattle.ebl_base.specs.declared.platform_code.PlatformCode.{PlatformCode}
use Rattle.ebl_run.specs.Racks.{AllTell, AreBack, AreLeft, AreMeasured, IsLeft, keys_of, lengths_of}
use Rattle.ebl_run.proofs.Rising.{later_rises, rises_at_all, rises_from, same_there, there}

-- ---- lists

no_more : {X : Type 0} (k : ℕ) (xs : List X) → xs ≡ [] → take k xs ≡ xs
no_more zero [] is = refl
no_more zero (x ∷ xs) is = let no : x ∷ xs ≡ [] = is in cc no
no_more (suc k) [] is = refl
no_more (suc k) (x ∷ xs) is = let no : x ∷ xs ≡ [] = is in cc no

take_two : {X : Type 0} (n m : ℕ) (xs : List X) → take n xs ++ take m (drop n xs) ≡ take (n + m) xs
take_two zero m xs = ap (λ (k : ℕ). take k xs) (let none : m ≡ 0 + m = omega arith in none)
take_two (suc n) m [] = no_more m [] refl ∙ sym (no_more (suc n + m) [] refl)
take_two {X} (suc n) m (x ∷ xs) =
    let more : suc (n + m) ≡ suc n + m = omega arith in
    ap (λ (ys : List X). x ∷ ys) (take_two n m xs) ∙ ap (λ (k : ℕ). take k (x ∷ xs)) more

-- the shards that are grouped are the first ones
in_groups : (ps : List PlatformCode) (shards : List ShardState)
    → shards_in (grouped ps shards) ≡ take (16 * length ps) shards
in_groups [] shards = refl
in_groups (p ∷ ps) shards =
    let more : 16 + 16 * length ps ≡ 16 * suc (length ps) = omega arith in
    ap (λ (rest : List ShardState). take 16 shards ++ rest) (in_groups ps (drop 16 shards))
    ∙ take_two 16 (16 * length ps) shards ∙ ap (λ (n : ℕ). take n shards) more

in_front_of : {X : Type 0} (n : ℕ) (xs : List X) (i : ℕ) (x : X) → slice_get (take n xs) i ≡ Some x
    → slice_get xs i ≡ Some x
in_front_of zero xs i x is = let none : None ≡ Some x = is in cc none
in_front_of (suc n) [] i x is = is
in_front_of (suc n) (y ∷ xs) zero x is = is
in_front_of (suc n) (y ∷ xs) (suc i) x is = in_front_of n xs i x is

-- a shard of the platforms that a run leaves is one of all shards
pub shard_there : (ps : List PlatformCode) (shards : List ShardState) (i : ℕ) (shard : ShardState)
    → slice_get (shards_in (grouped ps shards)) i ≡ Some shard → slice_get shards i ≡ Some shard
shard_there ps shards i shard is =
    in_front_of (16 * length ps) shards i shard (ap (λ (l : List ShardState). slice_get l i) (sym (in_groups ps shards)) ∙ is)

in_front_append : {X : Type 0} (xs ys : List X) (i : ℕ) → i < length xs → slice_get (xs ++ ys) i ≡ slice_get xs i
in_front_append [] ys i within = absurd (omega (arith, within))
in_front_append (x ∷ xs) ys zero within = refl
in_front_append (x ∷ xs) ys (suc i) within = in_front_append xs ys i (omega (arith, within))

behind_append : {X : Type 0} (xs ys : List X) (i : ℕ) → slice_get (xs ++ ys) (length xs + i) ≡ slice_get ys i
behind_append [] ys i = ap (slice_get ys) (let none : 0 + i ≡ i = omega arith in none)
behind_append (x ∷ xs) ys i =
    ap (slice_get (x ∷ xs ++ ys)) (let more : suc (length xs) + i ≡ suc (length xs + i) = omega arith in more)
    ∙ behind_append xs ys i

drop_there : {X : Type 0} (n : ℕ) (xs : List X) (i : ℕ) → slice_get (drop n xs) i ≡ slice_get xs (n + i)
drop_there zero xs i = ap (slice_get xs) (let none : i ≡ 0 + i = omega arith in none)
drop_there (suc n) [] i = refl
drop_there (suc n) (x ∷ xs) i =
    drop_there n xs i ∙ ap (slice_get (x ∷ xs)) (let more : suc (n + i) ≡ suc n + i = omega arith in more)

drop_all_of : {X : Type 0} (xs ys : List X) → drop (length xs) (xs ++ ys) ≡ ys
drop_all_of [] ys = refl
drop_all_of (x ∷ xs) ys = drop_all_of xs ys

pub of_map : {X Y : Type 0} (f : X → Y) (xs : List X) (i : ℕ) (y : Y) → slice_get (map f xs) i ≡ Some y
    → (x : X) × (slice_get xs i ≡ Some x) × (y ≡ f x)
of_map f [] i y is = let none : None ≡ Some y = is in cc none
of_map f (x ∷ xs) zero y is = (x, refl, same_there (Some (f x)) y (f x) is refl)
of_map f (x ∷ xs) (suc i) y is = of_map f xs i y is

pub holds_there : {X : Type 0} (P : X → Type 0) (xs : List X) (i : ℕ) (x : X) → All P xs → slice_get xs i ≡ Some x → P x
holds_there P [] i x all is = let none : None ≡ Some x = is in cc none
holds_there P (y ∷ xs) zero x all is = subst P (same_there (Some y) y x refl is) (All-head P y xs all)
holds_there P (y ∷ xs) (suc i) x all is = holds_there P xs i x (All-tail P y xs all) is

pub order : (k n : ℕ) → (k < n) ⊎ (n ≤ k)
order k zero = inr (omega arith)
order zero (suc n) = inl (omega arith)
order (suc k) (suc n) = up (order k n)
  where
    up : (k < n) ⊎ (n ≤ k) → (suc k < suc n) ⊎ (suc n ≤ suc k)
    up (inl below) = inl (omega (arith, below))
    up (inr above) = inr (omega (arith, above))

-- ---- racks and shards

module _ {D G : Type 0} (seen : D → List ℕ) (may_leave : D → List ℕ → Type 0) (disk_faults : D → ℕ) (keys : G → Keys)
    (ring_faults : G → ℕ) where
  -- how a shard is seen as a machine, and its rack
  abbrev pub machine : JournaledShardRecord D G → MachineRecord
  machine s = record {
    me = s.me;
    roster = s.roster;
    keys = keys s.ring;
    diary = s.written.diary;
    loose = loose_mark s.written.unread s.written.loose;
  }

  abbrev pub rack_of : JournaledShardRecord D G → Rack D G
  rack_of s = record { disk = s.written.journal.disk; ring = s.ring }

  -- the rack at a place is that of the shard there
  rack_there : (left : List (JournaledShardRecord D G)) (spare after : List (Rack D G)) (k : ℕ)
      (m : JournaledShardRecord D G) (new : Rack D G) → after ≡ map rack_of left ++ spare → slice_get left k ≡ Some m
      → slice_get after k ≡ Some new → new ≡ rack_of m
  rack_there left spare after k m new parts is now =
      let within : k < length (map rack_of left) =
      omega (arith, slice_get_within left k m is, length-map left rack_of) in
      same_there (slice_get after k) new (rack_of m) now
      (ap (λ (l : List (Rack D G)). slice_get l k) parts ∙ in_front_append (map rack_of left) spare k within
      ∙ slice_get-map rack_of left k ∙ ap (option_map rack_of) is)

  pub left_on_racks : (racks after spare : List (Rack D G)) (ps : List PlatformCode)
      (opened left : List (JournaledShardRecord D G)) (happened : List Happened) (run_left : List PlatformState)
      → run_left ≡ grouped ps (map (λ m. shard_state (machine m)) left) → after ≡ map rack_of left ++ spare
      → AreOnRacks disk_faults racks opened
      → EachRose (λ (s : JournaledShardRecord D G). disk_faults s.written.journal.disk) (λ k. disk_answers k happened) opened left
      → EachRose (λ (s : JournaledShardRecord D G). ring_faults s.ring) (λ k. sign_answers k happened) opened left
      → All (λ m. HoldsDiary seen may_leave (rack_of m).disk (machine m)) left
      → AreLeft seen may_leave disk_faults keys ring_faults happened run_left racks after
  left_on_racks racks after spare ps opened left happened run_left left_is parts on_racks disks rings hold =
      λ place shard old new is was now.
      let state : JournaledShardRecord D G → ShardState = λ m. shard_state (machine m) in
      let at : slice_get (map state left) place ≡ Some shard =
      shard_there ps (map state left) place shard
      (ap (λ (l : List PlatformState). slice_get (shards_in l) place) (sym left_is) ∙ is) in
      let m = of_map state left place shard at in
      let within : place < length opened =
      omega (arith, slice_get_within left place m.0 m.1, disks.length_is) in
      let first = there opened place within in
      let on = on_racks place old first.0 was first.1 in
      let held = holds_there (λ (s : JournaledShardRecord D G). HoldsDiary seen may_leave (rack_of s).disk (machine s)) left
      place m.0 hold m.1 in
      let at_rack : IsLeft seen may_leave disk_faults keys ring_faults place happened (state m.0) old (rack_of m.0) =
      record {
        disk_failed = rises_from (disk_faults old.disk) (disk_faults first.0.written.journal.disk)
            (disk_answers place happened) (disk_faults m.0.written.journal.disk) (2 ^ 64 - 1) on.later
            (disks.each place first.0 m.0 first.1 m.1);
        ring_failed = subst (λ (r : G). RoseBy (ring_faults r) (sign_answers place happened) (ring_faults m.0.ring)) on.ring
            (rings.each place first.0 m.0 first.1 m.1);
        keys_are = refl;
        holds = held.now;
        crash = held.crash;
      } in
      subst (λ (r : Rack D G). IsLeft seen may_leave disk_faults keys ring_faults place happened shard old r)
      (sym (rack_there left spare after place m.0 new parts m.1 now))
      (subst (λ (s : ShardState). IsLeft seen may_leave disk_faults keys ring_faults place happened s old (rack_of m.0))
      (sym m.2) at_rack)

  -- at each place the rack of a shard came back, or the rack itself
  abbrev pub IsBackAt : (JournaledShardRecord D G → JournaledShardRecord D G → Type 0) → Rack D G → Rack D G → Type 0
  IsBackAt Of old new = (new ≡ old)
      ⊎ ((first : JournaledShardRecord D G) × (m : JournaledShardRecord D G) × IsOnRack disk_faults old first
      × (new ≡ rack_of m) × Of first m)

  back_at : (Of : ℕ → JournaledShardRecord D G → JournaledShardRecord D G → Type 0)
      (racks after spare : List (Rack D G)) (n : ℕ) (opened left : List (JournaledShardRecord D G))
      → length opened ≡ n → length left ≡ length opened → after ≡ map rack_of left ++ spare → spare ≡ drop n racks
      → AreOnRacks disk_faults racks opened
      → ((k : ℕ) (a b : JournaledShardRecord D G) → slice_get opened k ≡ Some a → slice_get left k ≡ Some b → Of k a b)
      → (k : ℕ) (old new : Rack D G) → slice_get racks k ≡ Some old → slice_get after k ≡ Some new
      → IsBackAt (Of k) old new
  back_at Of racks after spare n opened left all same parts spare_is on_racks each k old new was now = by (order k n)
    where
      by : (k < n) ⊎ (n ≤ k) → IsBackAt (Of k) old new
      by (inl below) =
          let first = there opened k (let w : k < length opened = omega (arith, below, all) in w) in
          let m = there left k (let w : k < length left = omega (arith, below, all, same) in w) in
          inr (
            first.0,
            m.0,
            on_racks k old first.0 was first.1,
            rack_there left spare after k m.0 new parts m.1 now,
            each k first.0 m.0 first.1 m.1,
          )
      by (inr above) =
          let i : ℕ = k - n in
          let many : length (map rack_of left) ≡ n = omega (arith, length-map left rack_of, all, same) in
          let k_is : k ≡ length (map rack_of left) + i = omega (arith, above, many) in
          let k_is_too : n + i ≡ k = omega (arith, above) in
          inl (same_there (slice_get after k) new old now
          (ap (λ (l : List (Rack D G)). slice_get l k) parts ∙ ap (slice_get (map rack_of left ++ spare)) k_is
          ∙ behind_append (map rack_of left) spare i ∙ ap (λ (l : List (Rack D G)). slice_get l i) spare_is
          ∙ drop_there n racks i ∙ ap (slice_get racks) k_is_too ∙ was))

  pub back_from_shards : (f g : ℕ → ℕ) (racks after spare : List (Rack D G)) (n : ℕ)
      (opened left : List (JournaledShardRecord D G)) → length opened ≡ n → n ≤ length racks
      → after ≡ map rack_of left ++ spare → spare ≡ drop n racks → AreOnRacks disk_faults racks opened
      → EachRose (λ (s : JournaledShardRecord D G). disk_faults s.written.journal.disk) f opened left
      → EachRose (λ (s : JournaledShardRecord D G). ring_faults s.ring) g opened left
      → AreBack disk_faults ring_faults racks after
  back_from_shards f g racks after spare n opened left all enough parts spare_is on_racks disks rings = record {
    length_is =
        let whole : length (map rack_of left ++ spare) ≡ length (map rack_of left) + length spare =
        length-append (map rack_of left) spare in
        let rest : length spare ≡ length racks - n = ap length spare_is ∙ length-drop n racks in
        let sum : length (map rack_of left) + length spare ≡ length racks =
        omega (arith, rest, length-map left rack_of, all, disks.length_is, enough) in
        ap length parts ∙ whole ∙ sum;
    disks = λ k old new was now. disk_by k old new (back_at
        (λ i a b. RoseBy (disk_faults a.written.journal.disk) (f i) (disk_faults b.written.journal.disk))
        racks after spare n opened left all disks.length_is parts spare_is on_racks disks.each k old new was now);
    rings = λ k old new was now. ring_by k old new (back_at
        (λ i a b. RoseBy (ring_faults a.ring) (g i) (ring_faults b.ring))
        racks after spare n opened left all disks.length_is parts spare_is on_racks rings.each k old new was now);
  }
    where
      disk_by : (k : ℕ) (old new : Rack D G)
          → IsBackAt (λ a b. RoseBy (disk_faults a.written.journal.disk) (f k) (disk_faults b.written.journal.disk)) old new
          → RoseBy (disk_faults old.disk) 0 (disk_faults new.disk)
      disk_by k old new (inl same) =
          subst (λ (r : Rack D G). RoseBy (disk_faults old.disk) 0 (disk_faults r.disk)) (sym same)
          (later_rises (disk_faults old.disk) (disk_faults old.disk) (2 ^ 64 - 1) (omega arith))
      disk_by k old new (inr (first, m, on, same, rose)) =
          subst (λ (r : Rack D G). RoseBy (disk_faults old.disk) 0 (disk_faults r.disk)) (sym same)
          (rises_at_all (disk_faults old.disk) (f k) (disk_faults m.written.journal.disk) (2 ^ 64 - 1)
          (rises_from (disk_faults old.disk) (disk_faults first.written.journal.disk) (f k)
          (disk_faults m.written.journal.disk) (2 ^ 64 - 1) on.later rose))

      ring_by : (k : ℕ) (old new : Rack D G)
          → IsBackAt (λ a b. RoseBy (ring_faults a.ring) (g k) (ring_faults b.ring)) old new
          → RoseBy (ring_faults old.ring) 0 (ring_faults new.ring)
      ring_by k old new (inl same) =
          subst (λ (r : Rack D G). RoseBy (ring_faults old.ring) 0 (ring_faults r.ring)) (sym same)
          (later_rises (ring_faults old.ring) (ring_faults old.ring) (2 ^ 64 - 1) (omega arith))
      ring_by k old new (inr (first, m, on, same, rose)) =
          subst (λ (r : Rack D G). RoseBy (ring_faults old.ring) 0 (ring_faults r.ring)) (sym same)
          (subst (λ (r : G). RoseBy (ring_faults r) 0 (ring_faults m.ring)) on.ring
          (rises_at_all (ring_faults first.ring) (g k) (ring_faults m.ring) (2 ^ 64 - 1) rose))

  pub further_from_shards : (racks after spare : List (Rack D G)) (n : ℕ) (left : List (JournaledShardRecord D G))
      → length left ≡ n → after ≡ map rack_of left ++ spare → spare ≡ drop n racks → drop n after ≡ drop n racks
  further_from_shards racks after spare n left all parts spare_is =
      let many : length (map rack_of left) ≡ n = omega (arith, length-map left rack_of, all) in
      ap (drop n) parts ∙ ap (λ (k : ℕ). drop k (map rack_of left ++ spare)) (sym many)
      ∙ drop_all_of (map rack_of left) spare ∙ spare_is

-- racks that no shard was opened on, or that came back from an opening that failed
pub same_back : {D G : Type 0} (disk_faults : D → ℕ) (ring_faults : G → ℕ) (racks : List (Rack D G))
    → AreBack disk_faults ring_faults racks racks
same_back {D} {G} disk_faults ring_faults racks = record {
  length_is = refl;
  disks = λ k old new was now. subst (λ (r : Rack D G). RoseBy (disk_faults old.disk) 0 (disk_faults r.disk))
      (same_there (slice_get racks k) old new was now)
      (later_rises (disk_faults old.disk) (disk_faults old.disk) (2 ^ 64 - 1) (omega arith));
  rings = λ k old new was now. subst (λ (r : Rack D G). RoseBy (ring_faults old.ring) 0 (ring_faults r.ring))
      (same_there (slice_get racks k) old new was now)
      (later_rises (ring_faults old.ring) (ring_faults old.ring) (2 ^ 64 - 1) (omega arith));
}

-- how racks come back from an opening that failed
pub back_from_opening : {D G : Type 0} (disk_faults : D → ℕ) (ring_faults : G → ℕ) (racks after : List (Rack D G))
    → opened.AreBack disk_faults racks after → AreBack disk_faults ring_faults racks after
back_from_opening {D} {G} disk_faults ring_faults racks after came = record {
  length_is = came.length_is;
  disks = λ k old new was now.
      later_rises (disk_faults old.disk) (disk_faults new.disk) (2 ^ 64 - 1) (came.each k old new was now).later;
  rings = λ k old new was now.
      subst (λ (r : G). RoseBy (ring_faults old.ring) 0 (ring_faults r)) (sym (came.each k old new was now).ring)
      (later_rises (ring_faults old.ring) (ring_faults old.ring) (2 ^ 64 - 1) (omega arith));
}

-- how measured racks come back
pub back_from_measuring : {D G : Type 0} (tells : D → Bool) (seen : D → List ℕ) (disk_faults : D → ℕ)
    (ring_faults : G → ℕ) (racks after : List (Rack D G)) → AreMeasured tells seen disk_faults racks after
    → AreBack disk_faults ring_faults racks after
back_from_measuring {D} {G} tells seen disk_faults ring_faults racks after measured = record {
  length_is = measured.length_is;
  disks = λ k old new was now.
      later_rises (disk_faults old.disk) (disk_faults new.disk) (2 ^ 64 - 1) (measured.each k old new was now).later;
  rings = λ k old new was now.
      subst (λ (r : G). RoseBy (ring_faults old.ring) 0 (ring_faults r)) (sym (measured.each k old new was now).ring)
      (later_rises (ring_faults old.ring) (ring_faults old.ring) (2 ^ 64 - 1) (omega arith));
}

-- what comes back from racks that were measured comes back
pub back_behind : {D G : Type 0} (tells : D → Bool) (seen : D → List ℕ) (disk_faults : D → ℕ) (ring_faults : G → ℕ)
    (racks measured after : List (Rack D G)) → AreMeasured tells seen disk_faults racks measured
    → AreBack disk_faults ring_faults measured after → AreBack disk_faults ring_faults racks after
back_behind {D} {G} tells seen disk_faults ring_faults racks measured after first then = record {
  length_is = then.length_is ∙ first.length_is;
  disks = λ k old new was now.
      let within : k < length measured = omega (arith, slice_get_within racks k old was, first.length_is) in
      let between = there measured k within in
      rises_from (disk_faults old.disk) (disk_faults between.0.disk) 0 (disk_faults new.disk) (2 ^ 64 - 1)
      (first.each k old between.0 was between.1).later (then.disks k between.0 new between.1 now);
  rings = λ k old new was now.
      let within : k < length measured = omega (arith, slice_get_within racks k old was, first.length_is) in
      let between = there measured k within in
      subst (λ (r : G). RoseBy (ring_faults r) 0 (ring_faults new.ring)) (first.each k old between.0 was between.1).ring
      (then.rings k between.0 new between.1 now);
}

-- so is a run's
pub left_behind : {D G : Type 0} (tells : D → Bool) (seen : D → List ℕ) (may_leave : D → List ℕ → Type 0)
    (disk_faults : D → ℕ) (keys : G → Keys) (ring_faults : G → ℕ) (racks measured after : List (Rack D G))
    (happened : List Happened) (run_left : List PlatformState) → AreMeasured tells seen disk_faults racks measured
    → AreLeft seen may_leave disk_faults keys ring_faults happened run_left measured after
    → AreLeft seen may_leave disk_faults keys ring_faults happened run_left racks after
left_behind {D} {G} tells seen may_leave disk_faults keys ring_faults racks measured after happened run_left first left =
    λ place shard old new is was now.
    let within : place < length measured = omega (arith, slice_get_within racks place old was, first.length_is) in
    let between = there measured place within in
    let one = first.each place old between.0 was between.1 in
    let at = left place shard between.0 new is between.1 now in
    record {
      disk_failed = rises_from (disk_faults old.disk) (disk_faults between.0.disk) (disk_answers place happened)
          (disk_faults new.disk) (2 ^ 64 - 1) one.later at.disk_failed;
      ring_failed = subst (λ (r : G). RoseBy (ring_faults r) (sign_answers place happened) (ring_faults new.ring)) one.ring
          at.ring_failed;
      keys_are = at.keys_are;
      holds = at.holds;
      crash = at.crash;
    }

-- a disk that failed behind the measuring failed
pub rose_behind : {D G : Type 0} (tells : D → Bool) (seen : D → List ℕ) (disk_faults : D → ℕ)
    (racks measured after : List (Rack D G)) (place : ℕ) → AreMeasured tells seen disk_faults racks measured
    → RoseAt disk_faults place measured after → RoseAt disk_faults place racks after
rose_behind {D} {G} tells seen disk_faults racks measured after place first rose =
    let within : place < length racks = omega (arith, slice_get_within measured place rose.old rose.was, first.length_is) in
    let before = there racks place within in
    record {
      old = before.0;
      new = rose.new;
      was = before.1;
      is = rose.is;
      rose = rises_from (disk_faults before.0.disk) (disk_faults rose.old.disk) 1 (disk_faults rose.new.disk) (2 ^ 64 - 1)
          (first.each place before.0 rose.old before.1 rose.was).later rose.rose;
    }

-- what is seen of racks isn't changed by measuring them
pub keys_measured : {D G : Type 0} (tells : D → Bool) (seen : D → List ℕ) (disk_faults : D → ℕ) (keys : G → Keys)
    (racks measured : List (Rack D G)) → AreMeasured tells seen disk_faults racks measured
    → keys_of keys measured ≡ keys_of keys racks
keys_measured {D} {G} tells seen disk_faults keys [] [] first = refl
keys_measured {D} {G} tells seen disk_faults keys [] (m ∷ measured) first = absurd (omega (arith, first.length_is))
keys_measured {D} {G} tells seen disk_faults keys (r ∷ racks) [] first = absurd (omega (arith, first.length_is))
keys_measured {D} {G} tells seen disk_faults keys (r ∷ racks) (m ∷ measured) first =
    ap (λ (k : Keys). k ∷ keys_of keys measured) (ap keys (first.each 0 r m refl refl).ring)
    ∙ ap (λ (ks : List Keys). keys r.ring ∷ ks) (keys_measured tells seen disk_faults keys racks measured (record {
      length_is = let same : length measured ≡ length racks = omega (arith, first.length_is) in same;
      each = λ k old new was is. first.each (suc k) old new was is;
    }))

pub lengths_measured : {D G : Type 0} (tells : D → Bool) (seen : D → List ℕ) (disk_faults : D → ℕ)
    (racks measured : List (Rack D G)) → AreMeasured tells seen disk_faults racks measured
    → lengths_of seen measured ≡ lengths_of seen racks
lengths_measured {D} {G} tells seen disk_faults [] [] first = refl
lengths_measured {D} {G} tells seen disk_faults [] (m ∷ measured) first = absurd (omega (arith, first.length_is))
lengths_measured {D} {G} tells seen disk_faults (r ∷ racks) [] first = absurd (omega (arith, first.length_is))
lengths_measured {D} {G} tells seen disk_faults (r ∷ racks) (m ∷ measured) first =
    ap (λ (k : ℕ). k ∷ lengths_of seen measured) (ap length (first.each 0 r m refl refl).same)
    ∙ ap (λ (ks : List ℕ). length (seen r.disk) ∷ ks) (lengths_measured tells seen disk_faults racks measured (record {
      length_is = let same : length measured ≡ length racks = omega (arith, first.length_is) in same;
      each = λ k old new was is. first.each (suc k) old new was is;
    }))

pub told_measured : {D G : Type 0} (tells : D → Bool) (seen : D → List ℕ) (disk_faults : D → ℕ)
    (racks measured : List (Rack D G)) → AreMeasured tells seen disk_faults racks measured → AllTell tells racks
    → AllTell tells measured
told_measured {D} {G} tells seen disk_faults racks measured first told =
    λ k d within.
    let less : k < length racks = omega (arith, within, first.length_is) in
    let old = there racks k less in
    let new = there measured k within in
    let one = first.each k old.0 new.0 old.1 new.1 in
    let says = holds_there (λ (r : Rack D G). tells r.disk ≡ true) racks k old.0 told old.1 in
    subst (λ (r : Rack D G). tells r.disk ≡ true) (sym (get_or_from_slice_get measured k new.0 d new.1))
    (one.told ∙ says)
