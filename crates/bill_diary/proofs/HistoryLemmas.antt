-- The records of one bill in a sound diary are sound by themselves.
use Rattle.std.proofs.Common.{◌≡◌, Bool, true, false, ◌||◌, cond, reverse, List, [], ◌∷◌, ◌++◌, refl, ap, sym, subst, ◌∙◌}
use Rattle.std.specs.List.{list_any, filter, flat_map}
use Rattle.std.proofs.lemmas.Bool.{or_parts}
use Rattle.std.proofs.lemmas.List.{reverse-append, append_assoc, append-nil}
use Rattle.std.proofs.lemmas.List.Concat.{flat_map-append}
use Rattle.std.proofs.lemmas.List.Elements.{filter-append}
use Rattle.ebl_base.specs.Checksum.{checksum_eq}
use Rattle.ebl_base.specs.declared.checksum.Checksum.{Checksum}
use Rattle.ebl_base.specs.declared.chain.ChainLink.{ChainLink}
use Rattle.ebl_base.specs.declared.platform_code.PlatformCode.{PlatformCode}
use Rattle.ebl_base.proofs.ChecksumLemmas.{checksum_eq-Decides}
use Rattle.bill_diary.specs.declared.record.Record.{Record}
use Rattle.bill_diary.specs.declared.record.Record.TheVariants.{Signed, Acted, Attached, Parted, Settled, Regained, Begun, Stored, Taken, Declined}
use Rattle.bill_diary.specs.declared.frame.Frame.{Frame}
use Rattle.bill_diary.specs.History.{bill_of, records_of, newest_first, of_bill, history}
use Rattle.bill_diary.specs.Sound.{MayReceive, MayFollow, MayFollowEach, MayFollowDiary, AreSound, IsFrame, AreFrames, IsSound, IsSoundHistory}

none_kept_on : (test : Record → Bool) (r : Record) (kept : List Record) (keeps : Bool)
    → test r ≡ false → list_any test kept ≡ false → list_any test (cond keeps (r ∷ kept) kept) ≡ false
none_kept_on test r kept true here later = ap (λ b. b || list_any test kept) here ∙ later
none_kept_on test r kept false here later = later

-- what no record passes, none of those that are kept does
none_kept : (test keeps : Record → Bool) (records : List Record)
    → list_any test records ≡ false → list_any test (filter keeps records) ≡ false
none_kept test keeps [] h = refl
none_kept test keeps (r ∷ records) h =
    let (here, later) = or_parts (test r) (list_any test records) h in
    none_kept_on test r (filter keeps records) (keeps r) here (none_kept test keeps records later)

-- a chain that may be received by all records of a diary may be so by those of one bill
receives_alone : (me : PlatformCode) (bill : Checksum) (records h : List Record) (chain : List ChainLink)
    → MayReceive me records h chain → MayReceive me (of_bill bill records) h chain
receives_alone me bill records h chain receives =
    let keeps : Record → Bool = λ r. checksum_eq (bill_of r) bill in
    record {
      last = receives.last;
      last_is = receives.last_is;
      destination_is = receives.destination_is;
      not_taken = none_kept _ keeps records receives.not_taken;
      not_declined = none_kept _ keeps records receives.not_declined;
      continues_place = receives.continues_place;
    }

-- a record that may follow those of a diary may follow those of one bill alone
follows_alone : (me : PlatformCode) (b : Checksum) (records h : List Record) (r : Record)
    → MayFollow me records h r → MayFollow me (of_bill b records) h r
unfolding receives_alone
follows_alone me b records h (Signed bill document transaction) follows = follows
follows_alone me b records h (Acted bill transaction) follows = follows
follows_alone me b records h (Attached bill piece bytes) follows = follows
follows_alone me b records h (Parted bill link manifest manifest_text) follows = follows
follows_alone me b records h (Settled bill entry) follows = follows
follows_alone me b records h (Regained bill entry) follows = follows
follows_alone me b records h (Begun bill chain manifest body) follows = record {
  body_is = follows.body_is;
  room = follows.room;
  good = follows.good;
  links_are = follows.links_are;
  receives = receives_alone me b records h chain follows.receives;
  manifest_form = follows.manifest_form;
  names_bill = follows.names_bill;
  names_last = follows.names_last;
}
follows_alone me b records h (Stored bill entry checksum bytes) follows = follows
follows_alone me b records h (Taken bill entry) follows = record {
  begun = follows.begun;
  begun_is = follows.begun_is;
  receives = receives_alone me b records h follows.begun.chain follows.receives;
  whole = follows.whole;
}
follows_alone me b records h (Declined bill entry code reason evidence) follows =
    let keeps : Record → Bool = λ r. checksum_eq (bill_of r) b in
    record {
      not_taken = none_kept _ keeps records follows.not_taken;
      not_declined = none_kept _ keeps records follows.not_declined;
      cause = follows.cause;
      evidence_is = follows.evidence_is;
    }

alone_on : (me : PlatformCode) (bill : Checksum) (records : List Record) (r : Record) (test : Bool)
    → (test ≡ true → bill_of r ≡ bill)
    → MayFollow me records (of_bill (bill_of r) records) r
    → IsSoundHistory me (of_bill bill records)
    → IsSoundHistory me (cond test (r ∷ of_bill bill records) (of_bill bill records))
alone_on me bill records r true is_of follows sound = (
  subst (λ b. MayFollow me (of_bill b records) (of_bill b records) r) (is_of refl)
      (follows_alone me (bill_of r) records (of_bill (bill_of r) records) r follows),
  sound,
)
alone_on me bill records r false is_of follows sound = sound

-- the records of one bill among sound ones
pub sound_alone : (me : PlatformCode) (bill : Checksum) (records : List Record)
    → AreSound me records → IsSoundHistory me (of_bill bill records)
sound_alone me bill [] sound = tt
sound_alone me bill (r ∷ records) sound =
    alone_on me bill records r (checksum_eq (bill_of r) bill) (checksum_eq-Decides (bill_of r) bill).0
    sound.0 (sound_alone me bill records sound.2)

-- the history of each bill of a sound diary is sound
pub history_of_sound : (me : PlatformCode) (diary : List Frame) (bill : Checksum)
    → IsSound me diary → IsSoundHistory me (history bill diary)
history_of_sound me diary bill sound = sound_alone me bill (newest_first diary) sound.records

-- ---- further frames

pub newest_first-append : (diary more : List Frame)
    → newest_first (diary ++ more) ≡ newest_first more ++ newest_first diary
newest_first-append diary more =
    ap reverse (flat_map-append records_of diary more)
    ∙ reverse-append (flat_map records_of diary) (flat_map records_of more)

-- the history after further frames: theirs, and then that before them
pub history-append : (diary more : List Frame) (bill : Checksum)
    → history bill (diary ++ more) ≡ history bill more ++ history bill diary
history-append diary more bill =
    ap (of_bill bill) (newest_first-append diary more)
    ∙ filter-append (λ r. checksum_eq (bill_of r) bill) (newest_first more) (newest_first diary)

pub frames_before : (diary more : List Frame) → AreFrames (diary ++ more) → AreFrames diary
frames_before [] more are = tt
frames_before (frame ∷ frames) more are = (are.0, frames_before frames more are.1)

sound_behind : (me : PlatformCode) (newer records : List Record) → AreSound me (newer ++ records)
    → AreSound me records
sound_behind me [] records sound = sound
sound_behind me (r ∷ newer) records sound = sound_behind me newer records sound.2

-- the front of a sound diary is sound
pub front_is_sound : (me : PlatformCode) (diary more : List Frame) → IsSound me (diary ++ more) → IsSound me diary
front_is_sound me diary more sound = record {
  frames = frames_before diary more sound.frames;
  records = sound_behind me (newest_first more) (newest_first diary)
      (subst (AreSound me) (newest_first-append diary more) sound.records);
}

-- ---- one frame more

pub frames_with : (diary : List Frame) (frame : Frame) → AreFrames diary → IsFrame frame
    → AreFrames (diary ++ frame ∷ [])
frames_with [] frame are is = (is, tt)
frames_with (first ∷ diary) frame are is = (are.0, frames_with diary frame are.1 is)

pub last_frame : (diary : List Frame) (frame : Frame) → AreFrames (diary ++ frame ∷ []) → IsFrame frame
last_frame [] frame are = are.0
last_frame (first ∷ diary) frame are = last_frame diary frame are.1

-- records that may follow sound ones, one after the other, keep them sound
sound_each : (me : PlatformCode) (rs records : List Record)
    → AreSound me records → MayFollowEach me records rs → AreSound me (reverse rs ++ records)
sound_each me [] records sound follow = sound
sound_each me (r ∷ rs) records sound follow =
    subst (AreSound me)
    (sym (append_assoc (reverse rs) (r ∷ []) records) ∙ ap (λ xs. xs ++ records) (sym (reverse-append (r ∷ []) rs)))
    (sound_each me rs (r ∷ records) (follow.0, follow.1, sound) follow.2)

each_followed : (me : PlatformCode) (rs records : List Record)
    → AreSound me (reverse rs ++ records) → MayFollowEach me records rs
each_followed me [] records sound = tt
each_followed me (r ∷ rs) records sound =
    let whole : AreSound me (reverse rs ++ (r ∷ records)) =
    subst (AreSound me)
    (ap (λ xs. xs ++ records) (reverse-append (r ∷ []) rs) ∙ append_assoc (reverse rs) (r ∷ []) records) sound in
    let here = sound_behind me (reverse rs) (r ∷ records) whole in
    (here.0, here.1, each_followed me rs (r ∷ records) whole)

pub one_frame : (diary : List Frame) (frame : Frame)
    → newest_first (diary ++ frame ∷ []) ≡ reverse (records_of frame) ++ newest_first diary
one_frame diary frame =
    newest_first-append diary (frame ∷ [])
    ∙ ap (λ rs. reverse rs ++ newest_first diary) (append-nil (records_of frame))

-- a frame that may follow a sound diary keeps it sound
pub one_more_is_sound : (me : PlatformCode) (diary : List Frame) (frame : Frame) → IsSound me diary
    → MayFollowDiary me diary frame → IsSound me (diary ++ frame ∷ [])
one_more_is_sound me diary frame sound follows = record {
  frames = frames_with diary frame sound.frames follows.is_frame;
  records = subst (AreSound me) (sym (one_frame diary frame))
      (sound_each me (records_of frame) (newest_first diary) sound.records follows.records);
}

last_may_follow : (me : PlatformCode) (diary : List Frame) (frame : Frame) → IsSound me (diary ++ frame ∷ [])
    → MayFollowDiary me diary frame
last_may_follow me diary frame sound = record {
  is_frame = last_frame diary frame sound.frames;
  records = each_followed me (records_of frame) (newest_first diary)
      (subst (AreSound me) (one_frame diary frame) sound.records);
}

-- each frame of a sound diary may follow those before it
pub each_may_follow : (me : PlatformCode) (diary more : List Frame) (frame : Frame)
    → IsSound me (diary ++ frame ∷ more) → MayFollowDiary me diary frame
each_may_follow me diary more frame sound =
    last_may_follow me diary frame
    (front_is_sound me (diary ++ frame ∷ []) more
    (subst (IsSound me) (sym (append_assoc diary (frame ∷ []) more)) sound))
