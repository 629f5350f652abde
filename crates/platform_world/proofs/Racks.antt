-- How racks are opened one by one, and how they come back.
use Rattle.std.proofs.Common.{◌≡◌, ℕ, zero, suc, ◌<◌, ◌≤◌, Bool, List, [], ◌∷◌, ◌++◌, length, drop, map, take, Some, refl, sym, ap, subst, ◌∙◌, append_assoc, arith}
use Rattle.std.specs.Prelude.{All, reverse, slice_get}
use Rattle.std.proofs.lemmas.List.{length-map, reverse-append}
use Rattle.std.proofs.lemmas.List.Elements.{All-cons, All-head, All-nil, All-tail}
use Rattle.ebl_base.specs.declared.platform_code.PlatformCode.{PlatformCode}
use Rattle.party_roster.specs.RosterRecord.{RosterRecord}
use Rattle.signed_envelope.specs.KeyRing.{Keys}
use Rattle.journaled_shard.specs.declared.rack.Rack.{Rack}
use Rattle.journaled_shard.specs.Shard.{JournaledShardRecord}
use Rattle.bill_journal.specs.declared.fault.OpenFault.{OpenFault}
use Rattle.bill_journal.specs.declared.fault.OpenFault.TheVariants.{Disk}
use Rattle.platform_world.specs.declared.opening.WorldFault.{WorldFault}
use Rattle.platform_world.specs.declared.opening.WorldFault.TheVariants as world
use Rattle.platform_world.specs.Opening.{AreBack, AreBlank, AreOnRacks, AreOpened, AreSame, FailsAtLast, IsBlank, IsBlankAtLast, IsOnRack, IsOpened, IsOpening, IsSameRack, IsStopped, OpensLast, RoseAt}

-- ---- opened one behind the other

module _ {D G : Type 0} (tells : D → Bool) (faults : D → ℕ) (roster : RosterRecord) where
  -- the rack that a shard gives back
  abbrev pub rack_of : JournaledShardRecord D G → Rack D G
  rack_of s = record { disk = s.written.journal.disk; ring = s.ring }

  pub opened_lengths : (ps : List PlatformCode) (rs : List (Rack D G)) (ss : List (JournaledShardRecord D G))
      → AreOpened tells faults roster ps rs ss → (length rs ≡ length ps) × (length ss ≡ length rs)
  opened_lengths [] [] [] are = (refl, refl)
  opened_lengths [] [] (s ∷ ss) are = absurd are
  opened_lengths [] (r ∷ rs) ss are = absurd are
  opened_lengths (p ∷ ps) [] ss are = absurd are
  opened_lengths (p ∷ ps) (r ∷ rs) [] are = absurd are
  opened_lengths (p ∷ ps) (r ∷ rs) (s ∷ ss) are =
      let (a, b) = opened_lengths ps rs ss are.1 in (ap suc a, ap suc b)

  pub opened_push : (ps : List PlatformCode) (rs : List (Rack D G)) (ss : List (JournaledShardRecord D G))
      (p : PlatformCode) (r : Rack D G) (s : JournaledShardRecord D G) → AreOpened tells faults roster ps rs ss
      → IsOpened tells faults roster p r s
      → AreOpened tells faults roster (ps ++ p ∷ []) (rs ++ r ∷ []) (ss ++ s ∷ [])
  opened_push [] [] [] p r s are is = (is, tt)
  opened_push [] [] (x ∷ ss) p r s are is = absurd are
  opened_push [] (y ∷ rs) ss p r s are is = absurd are
  opened_push (q ∷ ps) [] ss p r s are is = absurd are
  opened_push (q ∷ ps) (y ∷ rs) [] p r s are is = absurd are
  opened_push (q ∷ ps) (y ∷ rs) (x ∷ ss) p r s are is = (are.0, opened_push ps rs ss p r s are.1 is)

  -- by their positions, among further racks
  pub on_racks : (ps : List PlatformCode) (rs more : List (Rack D G)) (ss : List (JournaledShardRecord D G))
      → AreOpened tells faults roster ps rs ss → AreOnRacks faults (rs ++ more) ss
  on_racks [] [] more [] are k rack shard was is = cc is
  on_racks [] [] more (s ∷ ss) are k rack shard was is = absurd are
  on_racks [] (r ∷ rs) more ss are k rack shard was is = absurd are
  on_racks (p ∷ ps) [] more ss are k rack shard was is = absurd are
  on_racks (p ∷ ps) (r ∷ rs) more [] are k rack shard was is = absurd are
  on_racks (p ∷ ps) (r ∷ rs) more (s ∷ ss) are zero rack shard was is =
      let same_rack : r ≡ rack = cc was in
      let same_shard : s ≡ shard = cc is in
      subst (λ (x : Rack D G). IsOnRack faults x shard) same_rack
      (subst (λ (x : JournaledShardRecord D G). IsOnRack faults r x) same_shard are.0.on_rack)
  on_racks (p ∷ ps) (r ∷ rs) more (s ∷ ss) are (suc k) rack shard was is =
      on_racks ps rs more ss are.1 k rack shard was is

  -- ---- given back

  pub opened_back : (ps : List PlatformCode) (rs : List (Rack D G)) (ss : List (JournaledShardRecord D G))
      → AreOpened tells faults roster ps rs ss → AreSame faults rs (map rack_of ss)
  opened_back [] [] [] are = tt
  opened_back [] [] (s ∷ ss) are = absurd are
  opened_back [] (r ∷ rs) ss are = absurd are
  opened_back (p ∷ ps) [] ss are = absurd are
  opened_back (p ∷ ps) (r ∷ rs) [] are = absurd are
  opened_back (p ∷ ps) (r ∷ rs) (s ∷ ss) are =
      (record { ring = are.0.on_rack.ring; later = are.0.on_rack.later }, opened_back ps rs ss are.1)

  -- the shards are for these platforms and the roster, have written nothing, and tell
  pub opened_me : (ps : List PlatformCode) (rs : List (Rack D G)) (ss : List (JournaledShardRecord D G))
      → AreOpened tells faults roster ps rs ss → map (λ (s : JournaledShardRecord D G). s.me) ss ≡ ps
  opened_me [] [] [] are = refl
  opened_me [] [] (s ∷ ss) are = absurd are
  opened_me [] (r ∷ rs) ss are = absurd are
  opened_me (p ∷ ps) [] ss are = absurd are
  opened_me (p ∷ ps) (r ∷ rs) [] are = absurd are
  opened_me (p ∷ ps) (r ∷ rs) (s ∷ ss) are =
      ap (λ (q : PlatformCode). q ∷ map (λ (x : JournaledShardRecord D G). x.me) ss) are.0.me
      ∙ ap (λ (qs : List PlatformCode). p ∷ qs) (opened_me ps rs ss are.1)

  pub opened_by : (ps : List PlatformCode) (rs : List (Rack D G)) (ss : List (JournaledShardRecord D G))
      → AreOpened tells faults roster ps rs ss
      → map (λ (s : JournaledShardRecord D G). s.roster) ss ≡ map (λ (p : PlatformCode). roster) ps
  opened_by [] [] [] are = refl
  opened_by [] [] (s ∷ ss) are = absurd are
  opened_by [] (r ∷ rs) ss are = absurd are
  opened_by (p ∷ ps) [] ss are = absurd are
  opened_by (p ∷ ps) (r ∷ rs) [] are = absurd are
  opened_by (p ∷ ps) (r ∷ rs) (s ∷ ss) are =
      ap (λ (q : RosterRecord). q ∷ map (λ (x : JournaledShardRecord D G). x.roster) ss) are.0.roster_is
      ∙ ap (λ (qs : List RosterRecord). roster ∷ qs) (opened_by ps rs ss are.1)

  pub opened_keys : (keys : G → Keys) (ps : List PlatformCode) (rs : List (Rack D G))
      (ss : List (JournaledShardRecord D G)) → AreOpened tells faults roster ps rs ss
      → map (λ (s : JournaledShardRecord D G). keys s.ring) ss ≡ map (λ (r : Rack D G). keys r.ring) rs
  opened_keys keys [] [] [] are = refl
  opened_keys keys [] [] (s ∷ ss) are = absurd are
  opened_keys keys [] (r ∷ rs) ss are = absurd are
  opened_keys keys (p ∷ ps) [] ss are = absurd are
  opened_keys keys (p ∷ ps) (r ∷ rs) [] are = absurd are
  opened_keys keys (p ∷ ps) (r ∷ rs) (s ∷ ss) are =
      ap (λ (g : G). keys g ∷ map (λ (x : JournaledShardRecord D G). keys x.ring) ss) are.0.on_rack.ring
      ∙ ap (λ (ks : List Keys). keys r.ring ∷ ks) (opened_keys keys ps rs ss are.1)

  pub opened_all : (P : JournaledShardRecord D G → Type 0)
      → ((p : PlatformCode) (r : Rack D G) (s : JournaledShardRecord D G) → IsOpened tells faults roster p r s → P s)
      → (ps : List PlatformCode) (rs : List (Rack D G)) (ss : List (JournaledShardRecord D G))
      → AreOpened tells faults roster ps rs ss → All P ss
  opened_all P each [] [] [] are = All-nil P
  opened_all P each [] [] (s ∷ ss) are = absurd are
  opened_all P each [] (r ∷ rs) ss are = absurd are
  opened_all P each (p ∷ ps) [] ss are = absurd are
  opened_all P each (p ∷ ps) (r ∷ rs) [] are = absurd are
  opened_all P each (p ∷ ps) (r ∷ rs) (s ∷ ss) are =
      All-cons P s ss (each p r s are.0) (opened_all P each ps rs ss are.1)

-- ---- the same racks

module _ {D G : Type 0} (faults : D → ℕ) where
  pub all_unchanged : (rs : List (Rack D G)) → AreSame faults rs rs
  all_unchanged [] = tt
  all_unchanged (r ∷ rs) = (record { ring = refl; later = omega arith }, all_unchanged rs)

  pub same_append : (a b c d : List (Rack D G)) → AreSame faults a b → AreSame faults c d
      → AreSame faults (a ++ c) (b ++ d)
  same_append [] [] c d first then = then
  same_append [] (q ∷ qs) c d first then = absurd first
  same_append (r ∷ rs) [] c d first then = absurd first
  same_append (r ∷ rs) (q ∷ qs) c d first then = (first.0, same_append rs qs c d first.1 then)

  same_length : (rs qs : List (Rack D G)) → AreSame faults rs qs → length qs ≡ length rs
  same_length [] [] are = refl
  same_length [] (q ∷ qs) are = absurd are
  same_length (r ∷ rs) [] are = absurd are
  same_length (r ∷ rs) (q ∷ qs) are = ap suc (same_length rs qs are.1)

  same_at : (rs qs : List (Rack D G)) → AreSame faults rs qs → (k : ℕ) (old new : Rack D G)
      → slice_get rs k ≡ Some old → slice_get qs k ≡ Some new → IsSameRack faults old new
  same_at [] [] are k old new was is = cc was
  same_at [] (q ∷ qs) are k old new was is = absurd are
  same_at (r ∷ rs) [] are k old new was is = absurd are
  same_at (r ∷ rs) (q ∷ qs) are zero old new was is =
      let same_old : r ≡ old = cc was in
      let same_new : q ≡ new = cc is in
      subst (λ (x : Rack D G). IsSameRack faults x new) same_old
      (subst (λ (x : Rack D G). IsSameRack faults r x) same_new are.0)
  same_at (r ∷ rs) (q ∷ qs) are (suc k) old new was is = same_at rs qs are.1 k old new was is

  pub all_back : (rs qs : List (Rack D G)) → AreSame faults rs qs → AreBack faults rs qs
  all_back rs qs are = record { length_is = same_length rs qs are; each = same_at rs qs are }

-- ---- the one that failed

pub at_length : {X : Type 0} (xs : List X) (x : X) (more : List X) → slice_get (xs ++ x ∷ more) (length xs) ≡ Some x
at_length [] x more = refl
at_length (y ∷ xs) x more = at_length xs x more

-- ---- the next rack

-- the last of those that come with the last first is the next one
pub next_of : {X : Type 0} (old new : List X) (x : X) → old ≡ new ++ x ∷ [] → reverse old ≡ x ∷ reverse new
next_of old new x is = ap reverse is ∙ reverse-append new (x ∷ [])

-- the next platform
pub next_code : (front behind : List PlatformCode) (p : PlatformCode) → slice_get (front ++ behind) (length front) ≡ Some p
    → (rest : List PlatformCode) × (behind ≡ p ∷ rest)
next_code [] [] p there = cc there
next_code [] (q ∷ rest) p there = let same : q ≡ p = cc there in (rest, ap (λ (x : PlatformCode). x ∷ rest) same)
next_code (x ∷ front) behind p there = next_code front behind p there

-- ---- lists

among_first : {X : Type 0} (P : X → Type 0) (n : ℕ) (xs : List X) (k : ℕ) (x : X) → All P (take n xs)
    → slice_get xs k ≡ Some x → k < n → P x
among_first P n [] k x all there few = cc there
among_first P zero (y ∷ ys) k x all there few = absurd (omega (arith, few))
among_first P (suc n) (y ∷ ys) zero x all there few =
    let same : y ≡ x = cc there in subst P same (All-head P y (take n ys) all)
among_first P (suc n) (y ∷ ys) (suc k) x all there few =
    among_first P n ys k x (All-tail P y (take n ys) all) there (omega (arith, few))

none_behind : {X : Type 0} (xs ys : List X) → length xs ≡ length (xs ++ ys) → xs ++ ys ≡ xs
none_behind [] [] is = refl
none_behind [] (y ∷ ys) is = absurd (omega (arith, is))
none_behind (x ∷ xs) ys is = ap (λ (l : List _). x ∷ l) (none_behind xs ys (let e = is in omega (arith, e)))

take_front : {X : Type 0} (xs ys : List X) → take (length xs) (xs ++ ys) ≡ xs
take_front [] ys = refl
take_front (x ∷ xs) ys = ap (λ (l : List _). x ∷ l) (take_front xs ys)

drop_front : {X : Type 0} (xs ys : List X) → drop (length xs) (xs ++ ys) ≡ ys
drop_front [] ys = refl
drop_front (x ∷ xs) ys = drop_front xs ys

-- behind as many as either has, what follows is the same
drop_past : {X : Type 0} (xs ys more : List X) (n : ℕ) → length xs ≡ length ys → length xs ≤ n
    → drop n (xs ++ more) ≡ drop n (ys ++ more)
drop_past [] [] more n same few = refl
drop_past [] (y ∷ ys) more n same few = absurd (omega (arith, same))
drop_past (x ∷ xs) [] more n same few = absurd (omega (arith, same))
drop_past (x ∷ xs) (y ∷ ys) more zero same few = absurd (omega (arith, few))
drop_past (x ∷ xs) (y ∷ ys) more (suc n) same few =
    drop_past xs ys more n (let e = same in omega (arith, e)) (let e = few in omega (arith, e))

drop_past_one : {X : Type 0} (xs : List X) (x y : X) (more : List X) (n : ℕ) → length xs < n
    → drop n (xs ++ x ∷ more) ≡ drop n (xs ++ y ∷ more)
drop_past_one [] x y more zero few = absurd (omega (arith, few))
drop_past_one [] x y more (suc n) few = refl
drop_past_one (z ∷ xs) x y more zero few = absurd (omega (arith, few))
drop_past_one (z ∷ xs) x y more (suc n) few = drop_past_one xs x y more n (let e = few in omega (arith, e))

-- ---- one step

module _ {D G : Type 0} (tells : D → Bool) (faults : D → ℕ) (roster : RosterRecord) (codes : List PlatformCode)
    (given : List (Rack D G)) where
  pub none_opened : (racks : List (Rack D G)) → given ≡ reverse racks
      → IsOpening tells faults roster codes given [] (reverse racks)
  none_opened racks is =
      record { front = []; behind = codes; taken = []; codes_are = refl; racks_are = is; opened = tt }

  pub one_opened : (shards after_shards : List (JournaledShardRecord D G)) (before after : List (Rack D G))
      (p : PlatformCode) (shard : JournaledShardRecord D G)
      → IsOpening tells faults roster codes given shards (reverse before)
      → slice_get codes (length shards) ≡ Some p → OpensLast tells faults roster p before shard after
      → after_shards ≡ shards ++ shard ∷ [] → IsOpening tells faults roster codes given after_shards (reverse after)
  one_opened shards after_shards before after p shard so there last pushed =
      let (taken_length, shards_length) = opened_lengths tells faults roster so.front so.taken shards so.opened in
      let at : length shards ≡ length so.front = shards_length ∙ taken_length in
      let (rest, behind_is) = next_code so.front so.behind p
      (ap (λ (cs : List PlatformCode). slice_get cs (length so.front)) (sym so.codes_are)
      ∙ ap (slice_get codes) (sym at) ∙ there) in
      record {
        front = so.front ++ p ∷ [];
        behind = rest;
        taken = so.taken ++ last.rack ∷ [];
        codes_are = so.codes_are ∙ ap (λ (cs : List PlatformCode). so.front ++ cs) behind_is
            ∙ sym (append_assoc so.front (p ∷ []) rest);
        racks_are = so.racks_are
            ∙ ap (λ (rs : List (Rack D G)). so.taken ++ rs) (next_of before after last.rack last.was)
            ∙ sym (append_assoc so.taken (last.rack ∷ []) (reverse after));
        opened = subst (AreOpened tells faults roster (so.front ++ p ∷ []) (so.taken ++ last.rack ∷ [])) (sym pushed)
            (opened_push tells faults roster so.front so.taken shards p last.rack shard so.opened last.opened);
      }

  pub stopped_before : (needed : ℕ) (shards : List (JournaledShardRecord D G)) (racks : List (Rack D G))
      → IsOpening tells faults roster codes given shards (reverse racks) → length shards ≤ needed
      → IsStopped tells faults roster needed given shards (reverse racks) world.NoMemory
  stopped_before needed shards racks so few =
      let (taken_length, shards_length) = opened_lengths tells faults roster so.front so.taken shards so.opened in
      record {
        front = so.front;
        taken = so.taken;
        tail = reverse racks;
        racks_are = so.racks_are;
        opened = so.opened;
        back = all_unchanged faults (reverse racks);
        few = omega (arith, few, shards_length);
        further = ap (drop needed) (sym so.racks_are);
        failed = λ i is. cc is;
      }

  pub stopped_at : (needed : ℕ) (shards : List (JournaledShardRecord D G)) (before after : List (Rack D G))
      (fault : OpenFault) (position : ℕ) (why : WorldFault)
      → IsOpening tells faults roster codes given shards (reverse before) → FailsAtLast faults before after fault
      → length shards ≡ position → position < needed → ((i : ℕ) → why ≡ world.OpenFault i → (i ≡ position) × (fault ≡ Disk))
      → IsStopped tells faults roster needed given shards (reverse after) why
  stopped_at needed shards before after fault position why so fails at few cause =
      let (taken_length, shards_length) = opened_lengths tells faults roster so.front so.taken shards so.opened in
      let was = next_of before fails.front fails.old fails.was in
      let is = next_of after fails.front fails.new fails.is in
      record {
        front = so.front;
        taken = so.taken;
        tail = fails.old ∷ reverse fails.front;
        racks_are = so.racks_are ∙ ap (λ (rs : List (Rack D G)). so.taken ++ rs) was;
        opened = so.opened;
        back = subst (AreSame faults (fails.old ∷ reverse fails.front)) (sym is)
            (fails.same, all_unchanged faults (reverse fails.front));
        few = omega (arith, few, at, shards_length);
        further = ap (λ (rs : List (Rack D G)). drop needed (so.taken ++ rs)) is
            ∙ drop_past_one so.taken fails.new fails.old (reverse fails.front) needed
            (omega (arith, few, at, shards_length))
            ∙ ap (drop needed) (sym (so.racks_are ∙ ap (λ (rs : List (Rack D G)). so.taken ++ rs) was));
        failed = λ i is_fault.
            let (here, disk) = cause i is_fault in (
              here ∙ sym at ∙ shards_length,
              record {
                old = fails.old;
                new = fails.new;
                olds = reverse fails.front;
                news = reverse fails.front;
                was = refl;
                is = is;
                rose = fails.rose disk;
              },
            );
      }

  -- the next one is blank, where all that are needed are
  pub blank_at_last : (seen : D → List ℕ) (needed : ℕ) (shards : List (JournaledShardRecord D G))
      (racks : List (Rack D G)) → IsOpening tells faults roster codes given shards (reverse racks)
      → length shards < needed → AreBlank tells seen (take needed given) → IsBlankAtLast tells seen racks
  blank_at_last seen needed shards racks so more blank front rack is =
      let (taken_length, shards_length) = opened_lengths tells faults roster so.front so.taken shards so.opened in
      let there : slice_get given (length so.taken) ≡ Some rack =
      ap (λ (rs : List (Rack D G)). slice_get rs (length so.taken))
      (so.racks_are ∙ ap (λ (rs : List (Rack D G)). so.taken ++ rs) (next_of racks front rack is))
      ∙ at_length so.taken rack (reverse front) in
      among_first (IsBlank tells seen) needed given (length so.taken) rack blank there (omega (arith, more, shards_length))

  -- ---- all of them

  pub all_codes : (shards : List (JournaledShardRecord D G)) (left : List (Rack D G))
      → (so : IsOpening tells faults roster codes given shards left) → length shards ≡ length codes
      → so.front ≡ codes
  all_codes shards left so all =
      let (taken_length, shards_length) = opened_lengths tells faults roster so.front so.taken shards so.opened in
      sym (so.codes_are ∙ none_behind so.front so.behind
      (sym taken_length ∙ sym shards_length ∙ all ∙ ap (λ (cs : List PlatformCode). length cs) so.codes_are))

  pub left_behind : (shards : List (JournaledShardRecord D G)) (left : List (Rack D G)) (needed : ℕ)
      → (so : IsOpening tells faults roster codes given shards left) → length shards ≡ needed
      → (so.taken ≡ take needed given) × (left ≡ drop needed given)
  left_behind shards left needed so all =
      let (taken_length, shards_length) = opened_lengths tells faults roster so.front so.taken shards so.opened in
      let count : length so.taken ≡ needed = sym shards_length ∙ all in (
        sym (ap (λ (n : ℕ). take n given) (sym count) ∙ ap (take (length so.taken)) so.racks_are
            ∙ take_front so.taken left),
        sym (ap (λ (n : ℕ). drop n given) (sym count) ∙ ap (drop (length so.taken)) so.racks_are
            ∙ drop_front so.taken left),
      )

  -- ---- and where it stopped

  pub stopped_back : (needed : ℕ) (shards : List (JournaledShardRecord D G)) (left : List (Rack D G)) (why : WorldFault)
      (racks : List (Rack D G)) → IsStopped tells faults roster needed given shards left why
      → racks ≡ map (rack_of tells faults roster) shards ++ left → AreBack faults given racks
  stopped_back needed shards left why racks so is =
      subst (AreBack faults given) (sym is)
      (subst (λ (rs : List (Rack D G)). AreBack faults rs (map (rack_of tells faults roster) shards ++ left))
      (sym so.racks_are)
      (all_back faults (so.taken ++ so.tail) (map (rack_of tells faults roster) shards ++ left)
      (same_append faults so.taken (map (rack_of tells faults roster) shards) so.tail left
      (opened_back tells faults roster so.front so.taken shards so.opened) so.back)))

  pub stopped_further : (needed : ℕ) (shards : List (JournaledShardRecord D G)) (left : List (Rack D G))
      (why : WorldFault) (racks : List (Rack D G)) → IsStopped tells faults roster needed given shards left why
      → racks ≡ map (rack_of tells faults roster) shards ++ left → drop needed racks ≡ drop needed given
  stopped_further needed shards left why racks so is =
      let (taken_length, shards_length) = opened_lengths tells faults roster so.front so.taken shards so.opened in
      let count : length (map (rack_of tells faults roster) shards) ≡ length so.taken =
      length-map shards (rack_of tells faults roster) ∙ shards_length in
      ap (drop needed) is
      ∙ drop_past (map (rack_of tells faults roster) shards) so.taken left needed count (omega (arith, so.few, count))
      ∙ so.further

  pub stopped_rose : (needed : ℕ) (shards : List (JournaledShardRecord D G)) (left : List (Rack D G))
      (why : WorldFault) (racks : List (Rack D G)) (i : ℕ)
      → IsStopped tells faults roster needed given shards left why
      → racks ≡ map (rack_of tells faults roster) shards ++ left → why ≡ world.OpenFault i → RoseAt faults i given racks
  stopped_rose needed shards left why racks i so is fault =
      let (at, first) = so.failed i fault in
      let (taken_length, shards_length) = opened_lengths tells faults roster so.front so.taken shards so.opened in
      let count : length (map (rack_of tells faults roster) shards) ≡ i =
      length-map shards (rack_of tells faults roster) ∙ shards_length ∙ sym at in
      record {
        old = first.old;
        new = first.new;
        was = ap (λ (rs : List (Rack D G)). slice_get rs i)
            (so.racks_are ∙ ap (λ (rs : List (Rack D G)). so.taken ++ rs) first.was)
            ∙ ap (slice_get (so.taken ++ first.old ∷ first.olds)) at ∙ at_length so.taken first.old first.olds;
        is = ap (λ (rs : List (Rack D G)). slice_get rs i)
            (is ∙ ap (λ (rs : List (Rack D G)). map (rack_of tells faults roster) shards ++ rs) first.is)
            ∙ ap (slice_get (map (rack_of tells faults roster) shards ++ first.new ∷ first.news)) (sym count)
            ∙ at_length (map (rack_of tells faults roster) shards) first.new first.news;
        rose = first.rose;
      }
