-- Racks that come back, and what a pass knows of the shards that were opened from them.
use Rattle.std.proofs.Common.{◌≡◌, ◌≢◌, ◌⊎◌, inl, inr, ℕ, suc, drop, drop-cons, ◌+◌, ◌<◌, ◌≤◌, Bool, true, false, List, [], ◌∷◌, ◌++◌, length, map, reverse, take, get_or, Option, Some, None, refl, sym, ap, subst, ◌∙◌, arith, append_assoc, All}
use Rattle.std.specs.Prelude.{IfSome, is_some, slice_get}
use Rattle.std.specs.List.{AllZip}
use Rattle.std.proofs.lemmas.List.{append-nil, length-map, map-append, reverse-append, reverse-reverse, take-append-drop, take_more}
use Rattle.std.proofs.lemmas.List.Elements.{All-append, All-cons, All-nil}
use Rattle.ebl_base.specs.Faults.{Rose}
use Rattle.ebl_base.specs.declared.platform_code.PlatformCode.{PlatformCode}
use Rattle.signed_envelope.specs.KeyRing.{Keys}
use Rattle.transfer_judge.specs.Legal.{IsLegal}
use Rattle.party_roster.specs.RosterRecord.{RosterRecord}
use Rattle.bill_diary.specs.declared.frame.Frame.{Frame}
use Rattle.bill_journal.specs.Frames.{front_of}
use Rattle.bill_journal.proofs.FrameLemmas.{length-front_of-push}
use Rattle.bill_journal.specs.declared.fault.OpenFault.{OpenFault}
use Rattle.bill_journal.specs.declared.fault.OpenFault.TheVariants as opening
use Rattle.bill_locks.specs.declared.view.Opened.{Opened}
use Rattle.bill_locks.specs.Pass.{PassRecord}
use Rattle.bill_locks.specs.View.{first_view, one_if, unopened}
use Rattle.bill_locks.specs.Rule.{opened_as}
use Rattle.journal_room.proofs.RoomLemmas.{contents_more}
use Rattle.journaled_shard.specs.Shard.{IsLegalWith, JournaledShardRecord}
use Rattle.journaled_shard.specs.Written.{IsOnDisk, IsRead}
use Rattle.journaled_shard.specs.declared.rack.Rack.{Rack}
use Rattle.record_bytes.specs.Grammar.{frame_bytes}
use Rattle.platform_office.specs.declared.fault.OfficeFault.{OfficeFault}
use Rattle.platform_office.specs.declared.fault.OfficeFault.TheVariants as faults
use Rattle.platform_office.specs.Office.{IsPassOf, IsPostIn, Knows, OfficeRecord, post_at}
use Rattle.journaled_diary.specs.Contents.{IsJournalOf, contents_in}
use Rattle.platform_office.specs.Opening.{AreBack, Beside, IsBack, IsDamagedShard, IsKnown, IsOpened, IsRefusal, IsStray, fault_at, rack_of}
use Rattle.platform_office.specs.declared.post.Post.{Post}
use Rattle.platform_office.specs.Post.{IsInOrder, IsOfShard, OfficeShardRecord, post_of}
use Rattle.platform_office.proofs.BesideLemmas.{beside_at, beside_long, beside_map, beside_push, beside_zip, get_behind, zip_append, zip_same}

module _ {D G : Type 0} (tells : D → Bool) (seen : D → List ℕ) (disk_faults : D → ℕ) (me : PlatformCode)
    (roster : RosterRecord) where
  abbrev Back : Rack D G → Rack D G → Type 0
  Back = IsBack tells seen disk_faults

  back_itself : (x : Rack D G) → Back x x
  back_itself x = record { ring = refl; told = refl; same = λ _ _. refl; later = omega arith }

  abbrev Opens : ℕ → Rack D G → OfficeShardRecord D G → Type 0
  Opens = IsOpened tells seen disk_faults me roster

  opened_back : (k : ℕ) (x : Rack D G) (s : OfficeShardRecord D G) → Opens k x s → Back x (rack_of s)
  opened_back k x s is = record { ring = is.ring; told = is.told; same = is.same; later = is.later }

  -- ---- one rack after the other

  -- the first of the racks are opened; the rest stand in the opposite order
  pub record AreOpened (given : List (Rack D G)) (opened : List (OfficeShardRecord D G)) (rest : List (Rack D G))
      : Type 0 where
    pub front : List (Rack D G)
    pub parts : given ≡ front ++ reverse rest
    pub beside : Beside Opens 0 front opened

  pub none_opened : (given rest : List (Rack D G)) (opened : List (OfficeShardRecord D G)) → rest ≡ reverse given
      → opened ≡ [] → AreOpened given opened rest
  none_opened given rest opened is none = record {
    front = [];
    parts = sym (ap reverse is ∙ reverse-reverse given);
    beside = subst (Beside Opens 0 []) (sym none) tt;
  }

  -- the rack that comes next
  next_parts : (given rest left : List (Rack D G)) (opened : List (OfficeShardRecord D G)) (x : Rack D G)
      → (so : AreOpened given opened rest) → rest ≡ left ++ x ∷ [] → given ≡ so.front ++ x ∷ reverse left
  next_parts given rest left opened x so popped =
      so.parts ∙ ap (λ (l : List (Rack D G)). so.front ++ reverse l) popped
      ∙ ap (λ (l : List (Rack D G)). so.front ++ l) (reverse-append left (x ∷ []))

  pub one_opened : (given rest left : List (Rack D G)) (opened more : List (OfficeShardRecord D G)) (x : Rack D G)
      (s : OfficeShardRecord D G) (k : ℕ) → AreOpened given opened rest → rest ≡ left ++ x ∷ []
      → more ≡ opened ++ s ∷ [] → k ≡ length opened → Opens k x s → AreOpened given more left
  one_opened given rest left opened more x s k so popped pushed at is =
      let here : k ≡ 0 + length so.front = omega (arith, at, beside_long Opens 0 so.front opened so.beside) in record {
        front = so.front ++ x ∷ [];
        parts = next_parts given rest left opened x so popped ∙ sym (append_assoc so.front (x ∷ []) (reverse left));
        beside = subst (Beside Opens 0 (so.front ++ x ∷ [])) (sym pushed)
            (beside_push Opens 0 so.front opened x s so.beside
            (subst (λ (n : ℕ). Opens n x s) here is));
      }

  pub all_opened : (given rest : List (Rack D G)) (opened : List (OfficeShardRecord D G)) → AreOpened given opened rest
      → rest ≡ [] → Beside Opens 0 given opened
  all_opened given rest opened so none =
      subst (λ (l : List (Rack D G)). Beside Opens 0 l opened)
      (sym (so.parts ∙ ap (λ (l : List (Rack D G)). so.front ++ reverse l) none ∙ append-nil so.front)) so.beside

  -- where a rack is refused, all are back
  pub all_back : (given front rest : List (Rack D G)) (opened : List (OfficeShardRecord D G)) (x y : Rack D G)
      → given ≡ front ++ x ∷ rest → Beside Opens 0 front opened → Back x y
      → AreBack tells seen disk_faults given (map rack_of opened ++ y ∷ rest)
  all_back given front rest opened x y parts beside is =
      subst (λ (l : List (Rack D G)). AllZip Back l (map rack_of opened ++ y ∷ rest)) (sym parts)
      (zip_append Back front (x ∷ rest) (map rack_of opened) (y ∷ rest)
      (beside_zip Opens Back rack_of opened_back 0 front opened beside) (is, zip_same Back back_itself rest))

  -- and the one that was refused is where the fault says
  pub refused_at : (keys : G → Keys) (given front rest : List (Rack D G)) (opened : List (OfficeShardRecord D G))
      (x y : Rack D G) (i : ℕ) (fault : OpenFault) → given ≡ front ++ x ∷ rest → Beside Opens 0 front opened
      → i ≡ length opened → (fault ≡ opening.Disk → Rose (disk_faults x.disk) (disk_faults y.disk))
      → ((place : ℕ) → fault ≡ opening.Damaged place → tells x.disk ≡ true
      → IsDamagedShard roster (keys x.ring) me i (seen x.disk) place)
      → IsRefusal tells seen disk_faults me roster keys given (map rack_of opened ++ y ∷ rest) (fault_at i fault)
  refused_at keys given front rest opened x y i opening.Disk parts beside at failed damaged = (
    x,
    y,
    ap (λ (l : List (Rack D G)). slice_get l i) parts
        ∙ get_behind front rest x i (at ∙ beside_long Opens 0 front opened beside),
    get_behind (map rack_of opened) rest y i (at ∙ sym (length-map opened rack_of)),
    failed refl,
  )
  refused_at keys given front rest opened x y i (opening.Damaged place) parts beside at failed damaged = (
    x,
    ap (λ (l : List (Rack D G)). slice_get l i) parts
        ∙ get_behind front rest x i (at ∙ beside_long Opens 0 front opened beside),
    damaged place refl,
  )
  refused_at keys given front rest opened x y i opening.NoMemory parts beside at failed damaged = tt

  -- the same of the racks that come back
  pub racks_back : (given rest left back : List (Rack D G)) (opened : List (OfficeShardRecord D G)) (x y : Rack D G)
      → AreOpened given opened rest → rest ≡ left ++ x ∷ [] → back ≡ map rack_of opened ++ y ∷ reverse left → Back x y
      → AreBack tells seen disk_faults given back
  racks_back given rest left back opened x y so popped is same =
      subst (AreBack tells seen disk_faults given) (sym is)
      (all_back given so.front (reverse left) opened x y (next_parts given rest left opened x so popped) so.beside same)

  pub rack_refused : (keys : G → Keys) (given rest left back : List (Rack D G)) (opened : List (OfficeShardRecord D G))
      (x y : Rack D G) (i : ℕ) (fault : OpenFault) (why : OfficeFault) → AreOpened given opened rest
      → rest ≡ left ++ x ∷ [] → back ≡ map rack_of opened ++ y ∷ reverse left → i ≡ length opened
      → why ≡ fault_at i fault → (fault ≡ opening.Disk → Rose (disk_faults x.disk) (disk_faults y.disk))
      → ((place : ℕ) → fault ≡ opening.Damaged place → tells x.disk ≡ true
      → IsDamagedShard roster (keys x.ring) me i (seen x.disk) place)
      → IsRefusal tells seen disk_faults me roster keys given back why
  rack_refused keys given rest left back opened x y i fault why so popped is at because failed damaged =
      subst (λ (l : List (Rack D G)). IsRefusal tells seen disk_faults me roster keys given l why) (sym is)
      (subst (λ (f : OfficeFault). IsRefusal tells seen disk_faults me roster keys given
      (map rack_of opened ++ y ∷ reverse left) f) (sym because)
      (refused_at keys given so.front (reverse left) opened x y i fault
      (next_parts given rest left opened x so popped) so.beside at failed damaged))

  -- none of the shards is loose
  pub none_loose : (racks : List (Rack D G)) (shards : List (OfficeShardRecord D G)) → Beside Opens 0 racks shards
      → All (λ s. is_some s.shard.written.loose ≡ false) shards
  none_loose racks shards beside k d lt =
      let (x, is) = beside_at Opens 0 racks shards k d beside lt in ap is_some is.read.nothing_loose

  module _ (ring_faults : G → ℕ) where
    abbrev Known : ℕ → Rack D G → Opened (Post D G) → Type 0
    Known = IsKnown tells seen disk_faults me roster ring_faults

    abbrev as_opened : OfficeShardRecord D G → Opened (Post D G)
    as_opened = opened_as post_of (λ s. s.shard.written.diary) (λ s. is_some s.shard.written.loose)
        (λ s. disk_faults s.shard.written.journal.disk) (λ s. ring_faults s.shard.ring)

    known_one : (k : ℕ) (x : Rack D G) (s : OfficeShardRecord D G) → Opens k x s → Known k x (as_opened s)
    known_one k x s is = record {
      post = ap Some is.post;
      disk = is.later;
      ring = ap ring_faults is.ring;
      diary = s.shard.written.diary;
      frames = refl;
      stands = is.stands;
    }

    -- the first pass knows each shard as it was opened
    pub all_known : (racks : List (Rack D G)) (shards : List (OfficeShardRecord D G)) → Beside Opens 0 racks shards
        → Beside Known 0 racks (map as_opened shards)
    all_known racks shards beside = beside_map Opens Known as_opened known_one 0 racks shards beside

    -- and so each shard's post
    pub posts_known : (o : OfficeRecord) → o.me ≡ me → o.roster ≡ roster → (racks : List (Rack D G))
        (known : List (Opened (Post D G))) → Beside Known 0 racks known → (k : ℕ) → k < length racks
        → IsPostIn o k (get_or known k unopened).fixed
    posts_known o by under racks known beside k lt =
        let long = beside_long Known 0 racks known beside in
        let (x, is) = beside_at Known 0 racks known k unopened beside (omega arith) in
        subst (IsPostIn o k) (sym is.post) (sym by, sym under, omega arith)

    -- the first pass is one of the office
    pub first_pass : (o : OfficeRecord) (p : PassRecord Frame (Post D G)) (racks : List (Rack D G))
        (shards : List (OfficeShardRecord D G)) → o.me ≡ me → o.roster ≡ roster → p.table ≡ o.table
        → p.knows ≡ first_view (map as_opened shards) → Beside Opens 0 racks shards → length racks ≡ 16 → IsPassOf o p
    first_pass o p racks shards by under table knows beside long = record {
      table = table;
      posts = λ k lt. subst (λ (v : Knows D G). IsPostIn o k (post_at k v)) (sym knows)
          (posts_known o by under racks (map as_opened shards) (all_known racks shards beside) k (omega (arith, lt, long)));
    }

    -- and knows each shard as it was opened
    pub known_so : (racks : List (Rack D G)) (shards : List (OfficeShardRecord D G)) (v : Knows D G)
        → v ≡ first_view (map as_opened shards) → Beside Opens 0 racks shards → Beside Known 0 racks v.opened
    known_so racks shards v is beside =
        subst (Beside Known 0 racks) (sym (ap (λ (w : Knows D G). w.opened) is)) (all_known racks shards beside)

pub first_again : {D G : Type 0} (v : Knows D G) (os : List (Opened (Post D G))) → v ≡ first_view os
    → v ≡ first_view v.opened
first_again {D} {G} v os is = is ∙ ap (λ (l : List (Opened (Post D G))). first_view l)
    (sym (ap (λ (w : Knows D G). w.opened) is))

-- ---- racks given back

-- the last of the shards gives back its rack, which stands behind those of the shards after it
pub rack_more : {D G : Type 0} (opened left : List (OfficeShardRecord D G)) (s : OfficeShardRecord D G)
    (racks more : List (Rack D G)) (r : Rack D G) → opened ≡ left ++ s ∷ [] → more ≡ racks ++ r ∷ [] → r ≡ rack_of s
    → map rack_of left ++ reverse more ≡ map rack_of opened ++ reverse racks
rack_more {D} {G} opened left s racks more r popped pushed is =
    ap (λ (l : List (Rack D G)). map rack_of left ++ reverse l) pushed
    ∙ ap (λ (l : List (Rack D G)). map rack_of left ++ l) (reverse-append racks (r ∷ []))
    ∙ ap (λ (x : Rack D G). map rack_of left ++ x ∷ reverse racks) is
    ∙ sym (append_assoc (map rack_of left) (rack_of s ∷ []) (reverse racks))
    ∙ ap (λ (l : List (Rack D G)). l ++ reverse racks) (sym (map-append rack_of left (s ∷ [])))
    ∙ ap (λ (l : List (OfficeShardRecord D G)). map rack_of l ++ reverse racks) (sym popped)

-- ---- a frame of another shard's bill

no_front : (front rest : List Frame) (frame : Frame) → [] ≡ front ++ frame ∷ rest → ⊥
no_front [] rest frame parts = cc parts
no_front (f ∷ front) rest frame parts = cc parts

-- a diary with a stray frame isn't empty, so its disk wasn't blank
pub stray_damages : (roster : RosterRecord) (keys : Keys) (me : PlatformCode) (number : ℕ) (file : List ℕ)
    (diary : List Frame) (place : ℕ) → (file ≡ [] → diary ≡ []) → (0 < length file → IsJournalOf file diary)
    → IsStray number diary place → IsDamagedShard roster keys me number file place
stray_damages roster keys me number [] diary place blank journal stray =
    absurd (no_front stray.front stray.rest stray.frame (sym (blank refl) ∙ stray.parts))
stray_damages roster keys me number (b ∷ bs) diary place blank journal stray =
    inr (diary, journal (omega arith), stray)

-- one frame more of the shard
pub own_next : (number : ℕ) (diary : List Frame) (i : ℕ) (frame : Frame) → i < length diary
    → frame ≡ get_or diary i frame → All (IsOfShard number) (take i diary) → IsOfShard number frame
    → All (IsOfShard number) (take (i + 1) diary)
own_next number diary i frame lt is all own =
    subst (All (IsOfShard number))
    (sym (take_more diary i frame lt ∙ ap (λ (f : Frame). take i diary ++ f ∷ []) (sym is)))
    (All-append (IsOfShard number) (take i diary) (frame ∷ []) all
    (All-cons (IsOfShard number) frame [] own (All-nil (IsOfShard number))))

-- the gate behind one frame more
pub gate_behind : (frames : List Frame) (frame : Frame) (gate behind length_is : ℕ)
    → gate ≡ length (front_of (contents_in frames)) → length_is ≡ length (frame_bytes frame)
    → behind ≡ gate + 5 + length_is → behind ≡ length (front_of (contents_in (frames ++ frame ∷ [])))
gate_behind frames frame gate behind length_is here long is =
    omega (
      arith,
      ap (λ (xs : List (List ℕ)). length (front_of xs)) (contents_more frames frame),
      length-front_of-push (contents_in frames) (frame_bytes frame),
      here,
      long,
      is,
    )

pub gate_next : (frames : List Frame) (i : ℕ) (frame : Frame) (gate behind long : ℕ) → i < length frames
    → frame ≡ get_or frames i frame → gate ≡ length (front_of (contents_in (take i frames)))
    → long ≡ length (frame_bytes frame) → behind ≡ gate + 5 + long
    → behind ≡ length (front_of (contents_in (take (i + 1) frames)))
gate_next frames i frame gate behind long lt is here size then =
    gate_behind (take i frames) frame gate behind long here size then
    ∙ ap (λ (l : List Frame). length (front_of (contents_in l)))
    (sym (take_more frames i frame lt ∙ ap (λ (f : Frame). take i frames ++ f ∷ []) (sym is)))

-- the frame at this place is stray, and none before it
pub stray_here : (number : ℕ) (diary : List Frame) (i count : ℕ) (frame : Frame) → i ≡ count → i < length diary
    → frame ≡ get_or diary i frame → All (IsOfShard number) (take i diary) → ¬ IsOfShard number frame
    → (f : Frame) × (rest : List Frame) × (diary ≡ take count diary ++ f ∷ rest)
    × All (IsOfShard number) (take count diary) × ¬ IsOfShard number f
stray_here number diary i count frame here lt is own stray =
    subst (λ (n : ℕ). (f : Frame) × (rest : List Frame) × (diary ≡ take n diary ++ f ∷ rest)
    × All (IsOfShard number) (take n diary) × ¬ IsOfShard number f) here (
      frame,
      drop (suc i) diary,
      sym (take-append-drop i diary) ∙ ap (λ (l : List Frame). take i diary ++ l)
          (drop-cons diary i frame lt ∙ ap (λ (f : Frame). f ∷ drop (suc i) diary) (sym is)),
      own,
      stray,
    )

-- the first stray frame, and the place of its gate
pub stray_at : (number : ℕ) (diary : List Frame) (count place : ℕ)
    → ((frame : Frame) × (rest : List Frame) × (diary ≡ take count diary ++ frame ∷ rest)
    × All (IsOfShard number) (take count diary) × ¬ IsOfShard number frame)
    → place ≡ length (front_of (contents_in (take count diary))) → IsStray number diary place
stray_at number diary count place (frame, rest, parts, own, stray) here = record {
  front = take count diary;
  frame = frame;
  rest = rest;
  parts = parts;
  own = own;
  stray = stray;
  here = here;
}

pub stray_place : (number : ℕ) (diary : List Frame) (count place found : ℕ) (front : List Frame)
    → ((frame : Frame) × (rest : List Frame) × (diary ≡ take count diary ++ frame ∷ rest)
    × All (IsOfShard number) (take count diary) × ¬ IsOfShard number frame) → front ≡ take count diary
    → found ≡ length (front_of (contents_in front)) → Some (opening.Damaged found) ≡ Some (opening.Damaged place)
    → IsStray number diary place
stray_place number diary count place found front stray is here same =
    let at : found ≡ place = cc same in
    stray_at number diary count place stray
    (sym at ∙ here ∙ ap (λ (l : List Frame). length (front_of (contents_in l))) is)

-- ---- a shard that was opened

module _ {D G : Type 0} where
  abbrev post_with : PlatformCode → RosterRecord → ℕ → Rack D G → Post D G
  post_with me roster number rack = record { me = me; roster = roster; number = number; rack = rack }

  same_post : (a b : PlatformCode) (r q : RosterRecord) (m n : ℕ) (x y : Rack D G) → a ≡ b → r ≡ q → m ≡ n → x ≡ y
      → post_with a r m x ≡ post_with b q n y
  same_post a b r q m n x y me roster number rack =
      ap (λ (p : PlatformCode). post_with p r m x) me ∙ ap (λ (s : RosterRecord). post_with b s m x) roster
      ∙ ap (λ (k : ℕ). post_with b q k x) number ∙ ap (λ (z : Rack D G). post_with b q n z) rack

  pub opened_so : (tells : D → Bool) (seen : D → List ℕ) (disk_faults : D → ℕ) (me : PlatformCode)
      (roster : RosterRecord) (k : ℕ) (rack : Rack D G) (s : OfficeShardRecord D G) → s.shard.me ≡ me
      → s.shard.roster ≡ roster → s.number ≡ k → s.rack ≡ rack → s.shard.ring ≡ rack.ring
      → tells s.shard.written.journal.disk ≡ tells rack.disk
      → (tells rack.disk ≡ true → 0 < length (seen rack.disk)
      → seen s.shard.written.journal.disk ≡ seen rack.disk)
      → disk_faults rack.disk ≤ disk_faults s.shard.written.journal.disk → IsRead s.shard.written
      → (tells rack.disk ≡ true → seen rack.disk ≡ [] → s.shard.written.diary ≡ [])
      → (tells rack.disk ≡ true → 0 < length (seen rack.disk) → IsJournalOf (seen rack.disk) s.shard.written.diary)
      → IsOpened tells seen disk_faults me roster k rack s
  opened_so tells seen disk_faults me roster k rack s me_is roster_is number rack_is ring told same later read blank
      journal = record {
        post = same_post s.shard.me me s.shard.roster roster s.number k s.rack rack me_is roster_is number rack_is;
        ring = ring;
        told = told;
        same = same;
        later = later;
        read = read;
        stands = record { blank = blank; journal = journal };
      }

  -- it is in order
  pub order_when_opened : (tells : D → Bool) (keys : G → Keys) (seen : D → List ℕ)
      (may_leave : D → List ℕ → Type 0) (i : ℕ) (s : JournaledShardRecord D G)
      → IsLegal s.roster (keys s.ring) s.me s.written.diary → IsRead s.written → All (IsOfShard i) s.written.diary
      → length s.written.diary ≤ 4294967293
      → (tells s.written.journal.disk ≡ true → IsOnDisk seen may_leave s.written)
      → IsInOrder tells keys seen may_leave i s
  order_when_opened tells keys seen may_leave i s legal read own few on_disk = record {
    legal = record {
      dropped = legal;
      kept = λ frame is. let clash : None ≡ Some frame = sym read.nothing_loose ∙ is in cc clash;
    };
    own = own;
    own_loose = subst (λ (o : Option Frame). IfSome o (IsOfShard i)) (sym read.nothing_loose) tt;
    on_disk = on_disk;
    few = (let none : one_if (is_some s.written.loose) ≡ 0 =
        ap (λ (o : Option Frame). one_if (is_some o)) read.nothing_loose in
        omega (arith, few, none));
  }
