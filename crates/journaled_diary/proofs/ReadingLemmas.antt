-- The diary of a journal's frames.
use Rattle.std.proofs.Common.{◌≡◌, ℕ, ◌+◌, ◌<◌, ◌≤◌, Bool, true, false, List, [], ◌∷◌, ◌++◌, length, take, drop, get_or, refl, ap, sym, subst, ◌∙◌, arith}
use Rattle.std.proofs.lemmas.List.{drop_more, take-append-drop, take_more}
use Rattle.ebl_base.specs.declared.platform_code.PlatformCode.{PlatformCode}
use Rattle.signed_envelope.specs.KeyRing.{Keys}
use Rattle.party_roster.specs.RosterRecord.{RosterRecord}
use Rattle.bill_journal.specs.declared.frame_at.FrameAt.{FrameAt}
use Rattle.bill_journal.specs.Places.{contents_of}
use Rattle.bill_diary.specs.declared.frame.Frame.{Frame}
use Rattle.bill_diary.specs.Sound.{AreFrames, IsFrame}
use Rattle.record_bytes.specs.Forms.{HasSpelling}
use Rattle.record_bytes.specs.Grammar.{Spells, frame_bytes, kept}
use Rattle.transfer_judge.specs.Legal.{FollowsDiaryLegally, IsLegal}
use Rattle.transfer_judge.proofs.FrameLemmas.{each_follows, front_is_legal, one_more_is_legal}
use Rattle.bill_journal.specs.Journal.{room_for}
use Rattle.journal_room.specs.Room.{Fits, HasRoom, is_settling, journal_length}
use Rattle.journal_room.proofs.RoomLemmas.{contents_more, length_more, nothing_has_room, one_more_has_room, front_has_room}
use Rattle.journaled_diary.specs.Contents.{AreSpelled, contents_in}
use Rattle.journaled_diary.specs.Reading.{IsDiaryOf, IsRefusedAt, MayStandBehind}

-- bytes spell one frame at most
abbrev pub OneSpelling : Type 0
OneSpelling = (bytes : List ℕ) (a b : Frame) → Spells bytes a → Spells bytes b → a ≡ b

spells : (f : Frame) → IsFrame f → HasSpelling (kept f) → Spells (frame_bytes f) f
spells f is form = record { is_frame = is; form = form; bytes_are = refl }

first_of : (x y : List ℕ) (xs ys : List (List ℕ)) → x ∷ xs ≡ y ∷ ys → x ≡ y
first_of x y xs ys same = cc same

rest_of : (x y : List ℕ) (xs ys : List (List ℕ)) → x ∷ xs ≡ y ∷ ys → xs ≡ ys
rest_of x y xs ys same = cc same

-- no frame may make a journal longer than the larger room
pub room_most : (settling : Bool) → room_for settling ≤ 16777216
room_most true = omega arith
room_most false = omega arith

-- ---- one diary

-- frames with the same contents are the same
same_frames : OneSpelling → (a b : List Frame) → AreFrames a → AreFrames b → AreSpelled a → AreSpelled b
    → contents_in a ≡ contents_in b → a ≡ b
same_frames one [] [] fa fb sa sb same = refl
same_frames one [] (y ∷ b) fa fb sa sb same = cc same
same_frames one (x ∷ a) [] fa fb sa sb same = cc same
same_frames one (x ∷ a) (y ∷ b) fa fb sa sb same =
    let bytes : frame_bytes x ≡ frame_bytes y =
    first_of (frame_bytes x) (frame_bytes y) (contents_in a) (contents_in b) same in
    let here : x ≡ y =
    one (frame_bytes x) x y (spells x fa.0 sa.0)
    (subst (λ (t : List ℕ). Spells t y) (sym bytes) (spells y fb.0 sb.0)) in
    let rest = same_frames one a b fa.1 fb.1 sa.1 sb.1
    (rest_of (frame_bytes x) (frame_bytes y) (contents_in a) (contents_in b) same) in
    λ i. here i ∷ rest i

pub one_diary : OneSpelling → (roster : RosterRecord) (keys : Keys) (me : PlatformCode) (contents : List (List ℕ))
    (a b : List Frame) → IsDiaryOf roster keys me contents a → IsDiaryOf roster keys me contents b → a ≡ b
one_diary one roster keys me contents a b x y =
    same_frames one a b x.legal.frames y.legal.frames x.spelled y.spelled (sym x.contents_are ∙ y.contents_are)

-- ---- frame by frame

spelled_more : (diary : List Frame) (frame : Frame) → AreSpelled diary → HasSpelling (kept frame)
    → AreSpelled (diary ++ frame ∷ [])
spelled_more [] frame are is = (is, tt)
spelled_more (f ∷ diary) frame are is = (are.0, spelled_more diary frame are.1 is)

-- a frame fits where its content has room
fits_by : (diary : List Frame) (frame : Frame) (content : List ℕ) → content ≡ frame_bytes frame
    → journal_length diary + 5 + length content ≤ room_for (is_settling frame) → Fits diary frame
fits_by diary frame content is fits =
    omega (arith, length_more diary frame, ap (λ (t : List ℕ). length t) is, fits)

-- a content that spells a frame that may stand there makes a diary with that frame
pub one_more : (roster : RosterRecord) (keys : Keys) (me : PlatformCode) (contents : List (List ℕ)) (diary : List Frame)
    (content : List ℕ) (frame : Frame) → IsDiaryOf roster keys me contents diary → Spells content frame
    → MayStandBehind roster keys me diary frame
    → IsDiaryOf roster keys me (contents ++ content ∷ []) (diary ++ frame ∷ [])
one_more roster keys me contents diary content frame is spells may =
    let bytes = spells.bytes_are in
    record {
      contents_are = (λ i. is.contents_are i ++ bytes i ∷ []) ∙ sym (contents_more diary frame);
      spelled = spelled_more diary frame is.spelled spells.form;
      legal = one_more_is_legal roster keys me diary frame is.legal may.follows;
      room = one_more_has_room diary frame is.room may.fits;
    }

-- ---- a journal, frame by frame

contents_at : (front : List FrameAt) (at : FrameAt) (rest : List FrameAt)
    → contents_of (front ++ at ∷ rest) ≡ contents_of front ++ at.content ∷ contents_of rest
contents_at [] at rest = refl
contents_at (f ∷ front) at rest = ap (λ (xs : List (List ℕ)). f.content ∷ xs) (contents_at front at rest)

contents_next : (frames : List FrameAt) (i : ℕ) (at : FrameAt) → i < length frames → at ≡ get_or frames i at
    → contents_of (take (i + 1) frames) ≡ contents_of (take i frames) ++ at.content ∷ []
contents_next frames i at less is =
    ap contents_of (take_more frames i at less)
    ∙ contents_at (take i frames) (get_or frames i at) []
    ∙ ap (λ (x : FrameAt). contents_of (take i frames) ++ x.content ∷ []) (sym is)

-- no frame yet
pub nothing_read : (roster : RosterRecord) (keys : Keys) (me : PlatformCode) → IsDiaryOf roster keys me [] []
nothing_read roster keys me = record {
  contents_are = refl;
  spelled = tt;
  legal = record { frames = tt; records = tt };
  room = nothing_has_room;
}

-- the next frame may stand there
pub read_more : (roster : RosterRecord) (keys : Keys) (me : PlatformCode) (frames : List FrameAt) (i : ℕ) (at : FrameAt)
    (diary : List Frame) (frame : Frame) → i < length frames → at ≡ get_or frames i at
    → IsDiaryOf roster keys me (contents_of (take i frames)) diary → Spells at.content frame
    → FollowsDiaryLegally roster keys me diary frame
    → journal_length diary + 5 + length at.content ≤ room_for (is_settling frame)
    → IsDiaryOf roster keys me (contents_of (take (i + 1) frames)) (diary ++ frame ∷ [])
read_more roster keys me frames i at diary frame less item is spells follows fits =
    subst (λ (h : List (List ℕ)). IsDiaryOf roster keys me h (diary ++ frame ∷ []))
    (sym (contents_next frames i at less item))
    (one_more roster keys me (contents_of (take i frames)) diary at.content frame is spells
    (record { follows = follows; fits = fits_by diary frame at.content spells.bytes_are fits }))

-- it may not
pub refused_here : (roster : RosterRecord) (keys : Keys) (me : PlatformCode) (frames : List FrameAt) (i : ℕ)
    (at : FrameAt) (diary : List Frame) → i < length frames → at ≡ get_or frames i at
    → IsDiaryOf roster keys me (contents_of (take i frames)) diary
    → ((frame : Frame) → Spells at.content frame → ¬ MayStandBehind roster keys me diary frame)
    → IsRefusedAt roster keys me frames at.place
refused_here roster keys me frames i at diary less item is refused = record {
  front = take i frames;
  at = at;
  rest = drop (i + 1) frames;
  parts = sym (take-append-drop i frames)
      ∙ ap (λ (xs : List FrameAt). take i frames ++ xs) (drop_more frames i at less)
      ∙ ap (λ (x : FrameAt). take i frames ++ x ∷ drop (i + 1) frames) (sym item);
  here = refl;
  diary = diary;
  reads = is;
  refused = refused;
}

-- it has no room
pub no_room_here : OneSpelling → (roster : RosterRecord) (keys : Keys) (me : PlatformCode) (frames : List FrameAt) (i : ℕ)
    (at : FrameAt) (diary : List Frame) (frame : Frame) → i < length frames → at ≡ get_or frames i at
    → IsDiaryOf roster keys me (contents_of (take i frames)) diary → Spells at.content frame
    → room_for (is_settling frame) < journal_length diary + 5 + length at.content
    → IsRefusedAt roster keys me frames at.place
no_room_here one roster keys me frames i at diary frame less item is spells long =
    refused_here roster keys me frames i at diary less item is
    (λ other others may.
    let same : other ≡ frame = one at.content other frame others spells in
    let fits : Fits diary frame = subst (Fits diary) same may.fits in
    let bytes = ap (λ (t : List ℕ). length t) spells.bytes_are in
    let more = length_more diary frame in
    omega arith)

-- ---- refused nowhere

-- a list of frames whose contents have one among them
record Among (front : List (List ℕ)) (content : List ℕ) (diary : List Frame) : Type 0 where
  before : List Frame
  frame : Frame
  behind : List Frame
  parts : diary ≡ before ++ frame ∷ behind
  before_is : contents_in before ≡ front
  frame_is : frame_bytes frame ≡ content

among : (front : List (List ℕ)) (content : List ℕ) (rest : List (List ℕ)) (diary : List Frame)
    → front ++ content ∷ rest ≡ contents_in diary → Among front content diary
among [] content rest [] same = cc same
among [] content rest (f ∷ diary) same = record {
  before = [];
  frame = f;
  behind = diary;
  parts = refl;
  before_is = refl;
  frame_is = sym (first_of content (frame_bytes f) rest (contents_in diary) same);
}
among (x ∷ front) content rest [] same = cc same
among (x ∷ front) content rest (f ∷ diary) same =
    let further = among front content rest diary
    (rest_of x (frame_bytes f) (front ++ content ∷ rest) (contents_in diary) same) in
    let here = first_of x (frame_bytes f) (front ++ content ∷ rest) (contents_in diary) same in
    record {
      before = f ∷ further.before;
      frame = further.frame;
      behind = further.behind;
      parts = ap (λ (d : List Frame). f ∷ d) further.parts;
      before_is = λ i. sym here i ∷ further.before_is i;
      frame_is = further.frame_is;
    }

spelled_at : (before : List Frame) (frame : Frame) (behind : List Frame) → AreSpelled (before ++ frame ∷ behind)
    → AreSpelled before × HasSpelling (kept frame)
spelled_at [] frame behind are = (tt, are.0)
spelled_at (f ∷ before) frame behind are =
    let further = spelled_at before frame behind are.1 in
    ((are.0, further.0), further.1)

frame_at : (before : List Frame) (frame : Frame) (behind : List Frame) → AreFrames (before ++ frame ∷ behind)
    → IsFrame frame
frame_at [] frame behind are = are.0
frame_at (f ∷ before) frame behind are = frame_at before frame behind are.1

-- frames that are a legal diary's are refused nowhere
pub refused_nowhere : OneSpelling → (roster : RosterRecord) (keys : Keys) (me : PlatformCode) (frames : List FrameAt)
    (diary : List Frame) (place : ℕ) → IsDiaryOf roster keys me (contents_of frames) diary
    → IsRefusedAt roster keys me frames place → ⊥
refused_nowhere one roster keys me frames diary place is x =
    let whole : contents_of x.front ++ x.at.content ∷ contents_of x.rest ≡ contents_in diary =
    sym (contents_at x.front x.at x.rest) ∙ ap contents_of (sym x.parts) ∙ is.contents_are in
    let a = among (contents_of x.front) x.at.content (contents_of x.rest) diary whole in
    let legal : IsLegal roster keys me (a.before ++ a.frame ∷ a.behind) = subst (IsLegal roster keys me) a.parts is.legal in
    let spelled = spelled_at a.before a.frame a.behind (subst AreSpelled a.parts is.spelled) in
    let front : IsDiaryOf roster keys me (contents_of x.front) a.before = record {
      contents_are = sym a.before_is;
      spelled = spelled.0;
      legal = front_is_legal roster keys me a.before (a.frame ∷ a.behind) legal;
      room = front_has_room a.before (a.frame ∷ a.behind) (subst HasRoom a.parts is.room);
    } in
    let same : a.before ≡ x.diary = one_diary one roster keys me (contents_of x.front) a.before x.diary front x.reads in
    let is_spelled : Spells x.at.content a.frame = record {
      is_frame = frame_at a.before a.frame a.behind legal.frames;
      form = spelled.1;
      bytes_are = sym a.frame_is;
    } in
    let may : MayStandBehind roster keys me a.before a.frame = record {
      follows = each_follows roster keys me a.before a.behind a.frame legal;
      fits = is.room.each a.before a.behind a.frame a.parts;
    } in
    x.refused a.frame is_spelled (subst (λ (d : List Frame). MayStandBehind roster keys me d a.frame) same may)
