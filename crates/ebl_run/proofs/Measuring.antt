-- Disks that are measured one by one, up to the first that isn't blank.
use Rattle.std.proofs.Common.{◌≡◌, ◌⊎◌, inl, inr, ◌<◌, ◌≤◌, ◌-◌, ◌^◌, ℕ, zero, suc, ◌+◌, Bool, true, List, [], ◌∷◌, Some, None, length, take, refl, sym, ap, subst, ◌∙◌, arith}
use Rattle.std.specs.Prelude.{IfSome, option_map, slice_get, slice_set}
use Rattle.std.proofs.lemmas.List.{length-set, take-map}
use Rattle.std.proofs.lemmas.Option.{slice_get-map, slice_get_within}
use Rattle.std.proofs.lemmas.List.Elements.{All-cons, All-head, All-nil, All-tail, All-take}
use Rattle.ebl_base.specs.Faults.{Rose}
use Rattle.journaled_shard.specs.declared.rack.Rack.{Rack}
use Rattle.platform_world.specs.Opening.{AreBlank, IsBlank, RoseAt}
use Rattle.ebl_run.specs.Racks.{AllTell, AreMeasured, IsMeasured, first_written, lengths_of, written_among}
use Rattle.ebl_run.proofs.Rising.{rises_from, same_there, there}
use Rattle.ebl_run.proofs.Worlds.{holds_there, of_map, order, told_measured}

-- ---- lengths

-- the first that has a byte is no earlier than where one begins to look
from_start : (start least : ℕ) (lengths : List ℕ) → least ≤ start
    → IfSome (first_written start lengths) (λ first. least ≤ first)
from_start start least [] within = tt
from_start start least (zero ∷ lengths) within = from_start (start + 1) least lengths (omega (arith, within))
from_start start least (suc n ∷ lengths) within = within

-- a disk that has a byte, behind blank ones, is the first
pub first_at : (lengths : List ℕ) (needed i start n : ℕ) → i < needed
    → ((k m : ℕ) → k < i → slice_get lengths k ≡ Some m → m ≡ 0) → slice_get lengths i ≡ Some (suc n)
    → first_written start (take needed lengths) ≡ Some (start + i)
first_at [] needed i start n few below is = let no : None ≡ Some (suc n) = is in cc no
first_at (len ∷ lengths) zero i start n few below is = absurd (omega (arith, few))
first_at (len ∷ lengths) (suc needed) zero start n few below is =
    ap (λ (l : ℕ). first_written start (l ∷ take needed lengths)) (same_there (Some len) len (suc n) refl is)
    ∙ ap Some (let same : start ≡ start + 0 = omega arith in same)
first_at (len ∷ lengths) (suc needed) (suc i) start n few below is =
    ap (λ (l : ℕ). first_written start (l ∷ take needed lengths)) (below 0 len (omega arith) refl)
    ∙ first_at lengths needed i (start + 1) n (omega (arith, few)) (λ k m less there. below (suc k) m (omega (arith, less)) there) is
    ∙ ap Some (let same : (start + 1) + i ≡ start + suc i = omega arith in same)

-- behind blank ones the first that has a byte isn't in front
pub none_in_front : (lengths : List ℕ) (needed i start : ℕ) → i < needed
    → ((k m : ℕ) → k < i → slice_get lengths k ≡ Some m → m ≡ 0)
    → IfSome (first_written start (take needed lengths)) (λ first. start + i ≤ first)
none_in_front [] zero i start few below = absurd (omega (arith, few))
none_in_front [] (suc needed) i start few below = tt
none_in_front (len ∷ lengths) zero i start few below = absurd (omega (arith, few))
none_in_front (len ∷ lengths) (suc needed) zero start few below =
    from_start start (start + 0) (len ∷ take needed lengths) (omega arith)
none_in_front (len ∷ lengths) (suc needed) (suc i) start few below =
    let rest = none_in_front lengths needed i (start + 1) (omega (arith, few))
    (λ k m less there. below (suc k) m (omega (arith, less)) there) in
    subst (λ (l : ℕ). IfSome (first_written start (l ∷ take needed lengths)) (λ first. start + suc i ≤ first))
    (sym (below 0 len (omega arith) refl))
    (subst (λ (n : ℕ). IfSome (first_written (start + 1) (take needed lengths)) (λ first. n ≤ first))
    (let same : (start + 1) + i ≡ start + suc i = omega arith in same) rest)

-- all are blank
pub none_at_all : (lengths : List ℕ) (needed start : ℕ)
    → ((k m : ℕ) → k < needed → slice_get lengths k ≡ Some m → m ≡ 0)
    → first_written start (take needed lengths) ≡ None
none_at_all [] zero start below = refl
none_at_all [] (suc needed) start below = refl
none_at_all (len ∷ lengths) zero start below = refl
none_at_all (len ∷ lengths) (suc needed) start below =
    ap (λ (l : ℕ). first_written start (l ∷ take needed lengths)) (below 0 len (omega arith) refl)
    ∙ none_at_all lengths needed (start + 1) (λ k m less there. below (suc k) m (omega (arith, less)) there)

-- ---- racks

at_set : {X : Type 0} (xs : List X) (i : ℕ) (v : X) (k : ℕ) (y : X) → slice_get (slice_set xs i v) k ≡ Some y
    → ((k ≡ i) × (y ≡ v)) ⊎ (slice_get xs k ≡ Some y)
at_set [] i v k y is = inr is
at_set (x ∷ xs) zero v zero y is = inl (refl, same_there (Some v) y v is refl)
at_set (x ∷ xs) zero v (suc k) y is = inr is
at_set (x ∷ xs) (suc i) v zero y is = inr is
at_set {X} (x ∷ xs) (suc i) v (suc k) y is = up (at_set xs i v k y is)
  where
    up : ((k ≡ i) × (y ≡ v)) ⊎ (slice_get xs k ≡ Some y) → ((suc k ≡ suc i) × (y ≡ v)) ⊎ (slice_get xs k ≡ Some y)
    up (inl (same, is_v)) = inl (ap suc same, is_v)
    up (inr there) = inr there

at_same : {X : Type 0} (xs : List X) (i : ℕ) (v : X) → i < length xs → slice_get (slice_set xs i v) i ≡ Some v
at_same [] i v within = absurd (omega (arith, within))
at_same (x ∷ xs) zero v within = refl
at_same (x ∷ xs) (suc i) v within = at_same xs i v (omega (arith, within))

module _ {D G : Type 0} (tells : D → Bool) (seen : D → List ℕ) (faults : D → ℕ) where
  pub measured_more : (racks now : List (Rack D G)) (i : ℕ) (r later : Rack D G)
      → AreMeasured tells seen faults racks now → slice_get now i ≡ Some r → IsMeasured tells seen faults r later
      → AreMeasured tells seen faults racks (slice_set now i later)
  measured_more racks now i r later so_far there one = record {
    length_is = length-set now i later ∙ so_far.length_is;
    each = λ k old new was is. by k old new was (at_set now i later k new is);
  }
    where
      by : (k : ℕ) (old new : Rack D G) → slice_get racks k ≡ Some old
          → ((k ≡ i) × (new ≡ later)) ⊎ (slice_get now k ≡ Some new) → IsMeasured tells seen faults old new
      by k old new was (inr same) = so_far.each k old new was same
      by k old new was (inl (at, is)) =
          let first = so_far.each k old r was (ap (slice_get now) at ∙ there) in
          let sum : faults old.disk ≤ faults later.disk = omega (arith, first.later, one.later) in
          subst (λ (x : Rack D G). IsMeasured tells seen faults old x) (sym is) (record {
            ring = one.ring ∙ first.ring;
            told = one.told ∙ first.told;
            same = one.same ∙ first.same;
            later = sum;
          })

  -- disks that tell and have no byte
  blank_from : (racks : List (Rack D G)) (start : ℕ) → first_written start (lengths_of seen racks) ≡ None
      → AllTell tells racks → AreBlank tells seen racks
  blank_from [] start none told = All-nil (IsBlank tells seen)
  blank_from (r ∷ racks) start none told =
      by (seen r.disk) refl none (λ rest. blank_from racks (start + 1) rest (All-tail (λ (x : Rack D G). tells x.disk ≡ true) r racks told))
    where
      by : (bytes : List ℕ) → seen r.disk ≡ bytes → first_written start (length bytes ∷ lengths_of seen racks) ≡ None
          → (first_written (start + 1) (lengths_of seen racks) ≡ None → AreBlank tells seen racks)
          → AreBlank tells seen (r ∷ racks)
      by [] is rest behind =
          All-cons (IsBlank tells seen) r racks (All-head (λ (x : Rack D G). tells x.disk ≡ true) r racks told, is)
          (behind rest)
      by (b ∷ bytes) is rest behind = let no : Some start ≡ None = rest in cc no

  pub blank_racks : (racks : List (Rack D G)) (needed : ℕ) → written_among needed (lengths_of seen racks) ≡ None
      → AllTell tells racks → AreBlank tells seen (take needed racks)
  blank_racks racks needed none told =
      blank_from (take needed racks) 0
      (ap (first_written 0) (sym (take-map (λ (r : Rack D G). length (seen r.disk)) needed racks)) ∙ none)
      (All-take (λ (r : Rack D G). tells r.disk ≡ true) needed racks told)

  -- the disks in front of a place are blank
  abbrev pub AreBlankBefore : List (Rack D G) → ℕ → Type 0
  AreBlankBefore racks place = (k : ℕ) (r : Rack D G) → k < place → slice_get racks k ≡ Some r → seen r.disk ≡ []

  blank_lengths : (racks : List (Rack D G)) (place : ℕ) → AreBlankBefore racks place
      → (k m : ℕ) → k < place → slice_get (lengths_of seen racks) k ≡ Some m → m ≡ 0
  blank_lengths racks place blank k m less is =
      let it = of_map (λ (r : Rack D G). length (seen r.disk)) racks k m is in
      it.2 ∙ ap length (blank k it.0 less it.1)

  -- this one isn't
  pub not_blank_at : (racks now : List (Rack D G)) (needed place m : ℕ) (r : Rack D G)
      → AreMeasured tells seen faults racks now → place < needed → needed ≤ length racks → AreBlankBefore racks place
      → slice_get now place ≡ Some r → 0 < m → m ≡ length (seen r.disk)
      → written_among needed (lengths_of seen racks) ≡ Some place
  not_blank_at racks now needed place m r measured few enough blank is more long_is =
      let n : ℕ = m - 1 in
      let some : suc n ≡ length (seen r.disk) = omega (arith, more, long_is) in
      let old = there racks place (let w : place < length racks = omega (arith, few, enough) in w) in
      let same = (measured.each place old.0 r old.1 is).same in
      let long : slice_get (lengths_of seen racks) place ≡ Some (suc n) =
      slice_get-map (λ (x : Rack D G). length (seen x.disk)) racks place
      ∙ ap (option_map (λ (x : Rack D G). length (seen x.disk))) old.1
      ∙ ap Some (sym (some ∙ ap length same)) in
      first_at (lengths_of seen racks) needed place 0 n few (blank_lengths racks place blank) long
      ∙ ap Some (let none : 0 + place ≡ place = omega arith in none)

  pub none_before : (racks : List (Rack D G)) (needed place : ℕ) → place < needed → AreBlankBefore racks place
      → IfSome (written_among needed (lengths_of seen racks)) (λ first. place ≤ first)
  none_before racks needed place few blank =
      subst (λ (n : ℕ). IfSome (first_written 0 (take needed (lengths_of seen racks))) (λ first. n ≤ first))
      (let none : 0 + place ≡ place = omega arith in none)
      (none_in_front (lengths_of seen racks) needed place 0 few (blank_lengths racks place blank))

  pub all_blank : (racks : List (Rack D G)) (needed : ℕ) → AreBlankBefore racks needed
      → written_among needed (lengths_of seen racks) ≡ None
  all_blank racks needed blank = none_at_all (lengths_of seen racks) needed 0 (blank_lengths racks needed blank)

  -- the disk at a place is asked for its length
  pub told_at : (racks now : List (Rack D G)) (place : ℕ) (r : Rack D G) → AreMeasured tells seen faults racks now
      → AllTell tells racks → slice_get now place ≡ Some r → tells r.disk ≡ true
  told_at racks now place r measured told is =
      holds_there (λ (x : Rack D G). tells x.disk ≡ true) now place r
      (told_measured tells seen faults racks now measured told) is

  pub one_measured : (r : Rack D G) (d : D) → tells d ≡ tells r.disk → seen d ≡ seen r.disk → faults r.disk ≤ faults d
      → IsMeasured tells seen faults r (record { disk = d; ring = r.ring })
  one_measured r d told same later = record { ring = refl; told = told; same = same; later = later }

  pub rose_at : (racks now : List (Rack D G)) (place : ℕ) (r : Rack D G) (d : D) → AreMeasured tells seen faults racks now
      → slice_get now place ≡ Some r → Rose (faults r.disk) (faults d)
      → RoseAt faults place racks (slice_set now place (record { disk = d; ring = r.ring }))
  rose_at racks now place r d measured is rose =
      let old = there racks place (let w : place < length racks = omega (arith, slice_get_within now place r is, measured.length_is) in w) in
      record {
        old = old.0;
        new = record { disk = d; ring = r.ring };
        was = old.1;
        is = at_same now place (record { disk = d; ring = r.ring }) (slice_get_within now place r is);
        rose = rises_from (faults old.0.disk) (faults r.disk) 1 (faults d) (2 ^ 64 - 1) (measured.each place old.0 r old.1 is).later rose;
      }

  -- one more is blank
  pub blank_more : (racks now : List (Rack D G)) (place : ℕ) (r : Rack D G) → AreMeasured tells seen faults racks now
      → AreBlankBefore racks place → slice_get now place ≡ Some r → 0 ≡ length (seen r.disk)
      → AreBlankBefore racks (place + 1)
  blank_more racks now place r measured blank is none k old less was = by (order k place)
    where
      empty : (bytes : List ℕ) → 0 ≡ length bytes → bytes ≡ []
      empty [] e = refl
      empty (b ∷ bytes) e = absurd (omega (arith, e))

      by : (k < place) ⊎ (place ≤ k) → seen old.disk ≡ []
      by (inl below) = blank k old below was
      by (inr above) =
          let at : k ≡ place = omega (arith, less, above) in
          let same = (measured.each k old r was (ap (slice_get now) at ∙ is)).same in
          sym same ∙ empty (seen r.disk) none
