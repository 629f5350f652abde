use Rattle.std.proofs.Common.{◌≡◌, ◌+◌, ◌<◌, ◌≤◌, ℕ, true, false, List, [], length, take, ap, sym, subst, ◌∙◌, arith, lt_of_not-le}
use Rattle.std.proofs.lemmas.List.{take_all}
use Rattle.bill_diary.specs.declared.frame.Frame.{Frame}
use Rattle.bill_journal.specs.declared.frame_at.FrameAt.{FrameAt}
use Rattle.bill_journal.specs.Places.{contents_of}
use Rattle.record_bytes.specs.Grammar.{Spells}
use Rattle.bill_journal.specs.Journal.{room_for}
use Rattle.journal_room.specs.Room.{is_settling, journal_length}
use Rattle.journal_room.proofs.RoomLemmas.{length_more}
use Rattle.journaled_diary.specs.Reading.{IsDiaryOf, IsRefusedAt, MayStandBehind}
use Rattle.journaled_diary.proofs.ReadingLemmas.{no_room_here, nothing_read, read_more, refused_here, room_most}
use Rattle.journaled_diary.proofs.reading.read_frames.Goals as goal

pub loop-at-init : goal.loop-at-init
loop-at-init g c = record {
  diary_is = subst (λ (d : List Frame). IsDiaryOf c.args.roster.now (g.G.KeyRing.keys c.args.ring.now) c.args.me [] d)
      (sym c.requires.diary) (nothing_read c.args.roster.now (g.G.KeyRing.keys c.args.ring.now) c.args.me);
  used_is = ap journal_length (sym c.requires.diary);
  short = omega arith;
  no_room = c.requires.room;
}

pub loop-at-preserved : goal.loop-at-preserved
loop-at-preserved g c =
    let keys = g.G.KeyRing.keys c.args.ring.now in
    let frames = c.args.frames.now in
    let i = c.loop-at.at-index in
    let frame = c.in-Some.frame in
    let content = c.as_slice-content.result.now in
    let here = rw c.in-Some.is at c.in_ok-found.ensures in
    let spells : Spells c.at-item.result.content frame =
    subst (λ (bytes : List ℕ). Spells bytes frame) c.as_slice-content.ensures here.0 in
    let fits : c.loop-at.used + 5 + length content ≤ room_for (is_settling frame) =
    c.has_room.ensures.0 c.if-not-has_room.false in
    let size = ap (λ (bytes : List ℕ). length bytes) c.as_slice-content.ensures in
    let bytes = ap (λ (t : List ℕ). length t) spells.bytes_are in
    let used = c.loop-at.invariant.used_is in
    let more = length_more c.loop-at.register.diary frame in
    let after = ap journal_length c.in_ok-add.ensures.diary in
    let most = room_most (is_settling frame) in
    let room : journal_length c.loop-at.register.diary + 5 + length c.at-item.result.content ≤ room_for (is_settling frame) =
    omega (arith, fits, size, used) in
    record {
      diary_is = subst (λ (d : List Frame). IsDiaryOf c.args.roster.now keys c.args.me (contents_of (take (i + 1) frames)) d)
          (sym c.in_ok-add.ensures.diary)
          (read_more c.args.roster.now keys c.args.me frames i c.at-item.result c.loop-at.register.diary frame
          c.loop-at-test.true c.at-item.is c.loop-at.invariant.diary_is spells here.1 room);
      used_is = omega (arith, size, bytes, used, more, after);
      short = omega (arith, fits, most);
      no_room = c.in_ok-add.ensures.room;
    }

-- the frame has no room
pub returns-then-not-has_room-clause-refused : goal.returns-then-not-has_room-clause-refused
returns-then-not-has_room-clause-refused g c = λ place is.
    let keys = g.G.KeyRing.keys c.args.ring.now in
    let frames = c.args.frames.now in
    let frame = c.in-Some.frame in
    let content = c.as_slice-content.result.now in
    let here = rw c.in-Some.is at c.in_ok-found.ensures in
    let spells : Spells c.at-item.result.content frame =
    subst (λ (bytes : List ℕ). Spells bytes frame) c.as_slice-content.ensures here.0 in
    let size = ap (λ (bytes : List ℕ). length bytes) c.as_slice-content.ensures in
    let used = c.loop-at.invariant.used_is in
    let long : room_for (is_settling frame) < c.loop-at.used + 5 + length content =
    lt_of_not-le (λ le. let clash : true ≡ false = sym (c.has_room.ensures.1 le) ∙ c.if-not-has_room.true in cc clash) in
    let past : room_for (is_settling frame) < journal_length c.loop-at.register.diary + 5 + length c.at-item.result.content =
    omega (arith, long, size, used) in
    let refused = no_room_here c.frame_has_one_spelling.ensures.frame c.args.roster.now keys c.args.me frames
    c.loop-at.at-index c.at-item.result c.loop-at.register.diary frame c.loop-at-test.true c.at-item.is
    c.loop-at.invariant.diary_is spells past in
    let same : c.at-item.result.place ≡ place = cc is in
    subst (λ (p : ℕ). IsRefusedAt c.args.roster.now keys c.args.me frames p) same refused

pub returns-in_default-clause-refused : goal.returns-in_default-clause-refused
returns-in_default-clause-refused g c = λ place is.
    let keys = g.G.KeyRing.keys c.args.ring.now in
    let frames = c.args.frames.now in
    let none = rw c.in_default.is at c.in_ok-found.ensures in
    let refused = subst (λ (bytes : List ℕ). (frame : Frame) → Spells bytes frame
    → ¬ MayStandBehind c.args.roster.now keys c.args.me c.loop-at.register.diary frame) c.as_slice-content.ensures
    (λ (frame : Frame) (spells : Spells _ frame) (may : MayStandBehind c.args.roster.now keys c.args.me c.loop-at.register.diary frame).
    none frame spells may.follows) in
    let here = refused_here c.args.roster.now keys c.args.me frames c.loop-at.at-index c.at-item.result c.loop-at.register.diary
    c.loop-at-test.true c.at-item.is c.loop-at.invariant.diary_is refused in
    let same : c.at-item.result.place ≡ place = cc is in
    subst (λ (p : ℕ). IsRefusedAt c.args.roster.now keys c.args.me frames p) same here

pub returns-clause-ok : goal.returns-clause-ok
returns-clause-ok g c =
    let keys = g.G.KeyRing.keys c.args.ring.now in
    let frames = c.args.frames.now in
    subst (λ (fs : List FrameAt). IsDiaryOf c.args.roster.now keys c.args.me (contents_of fs) c.loop-at.register.diary)
    (take_all c.loop-at.at-index frames c.loop-at-test.false) c.loop-at.invariant.diary_is
