-- Legal diaries, frame by frame.
use Rattle.std.proofs.Common.{reverse, List, [], ◌∷◌, ◌++◌, ap, sym, subst, ◌∙◌}
use Rattle.std.proofs.lemmas.List.{reverse-append, append_assoc}
use Rattle.ebl_base.specs.declared.platform_code.PlatformCode.{PlatformCode}
use Rattle.signed_envelope.specs.KeyRing.{Keys}
use Rattle.party_roster.specs.RosterRecord.{RosterRecord}
use Rattle.bill_diary.specs.declared.record.Record.{Record}
use Rattle.bill_diary.specs.declared.frame.Frame.{Frame}
use Rattle.bill_diary.specs.History.{records_of, newest_first}
use Rattle.bill_diary.proofs.HistoryLemmas.{newest_first-append, one_frame, frames_before, frames_with, last_frame}
use Rattle.transfer_judge.specs.Legal.{FollowEachLegally, FollowsDiaryLegally, AreLegal, IsLegal}

pub legal_behind : (roster : RosterRecord) (keys : Keys) (me : PlatformCode) (newer records : List Record)
    → AreLegal roster keys me (newer ++ records) → AreLegal roster keys me records
legal_behind roster keys me [] records legal = legal
legal_behind roster keys me (r ∷ newer) records legal = legal_behind roster keys me newer records legal.2

-- the front of a legal diary is legal
pub front_is_legal : (roster : RosterRecord) (keys : Keys) (me : PlatformCode) (diary more : List Frame)
    → IsLegal roster keys me (diary ++ more) → IsLegal roster keys me diary
front_is_legal roster keys me diary more legal = record {
  frames = frames_before diary more legal.frames;
  records = legal_behind roster keys me (newest_first more) (newest_first diary)
      (subst (AreLegal roster keys me) (newest_first-append diary more) legal.records);
}

legal_each : (roster : RosterRecord) (keys : Keys) (me : PlatformCode) (rs records : List Record)
    → AreLegal roster keys me records → FollowEachLegally roster keys me records rs
    → AreLegal roster keys me (reverse rs ++ records)
legal_each roster keys me [] records legal follow = legal
legal_each roster keys me (r ∷ rs) records legal follow =
    subst (AreLegal roster keys me)
    (sym (append_assoc (reverse rs) (r ∷ []) records) ∙ ap (λ xs. xs ++ records) (sym (reverse-append (r ∷ []) rs)))
    (legal_each roster keys me rs (r ∷ records) (follow.0, follow.1, legal) follow.2)

each_followed : (roster : RosterRecord) (keys : Keys) (me : PlatformCode) (rs records : List Record)
    → AreLegal roster keys me (reverse rs ++ records) → FollowEachLegally roster keys me records rs
each_followed roster keys me [] records legal = tt
each_followed roster keys me (r ∷ rs) records legal =
    let whole : AreLegal roster keys me (reverse rs ++ (r ∷ records)) =
    subst (AreLegal roster keys me)
    (ap (λ xs. xs ++ records) (reverse-append (r ∷ []) rs) ∙ append_assoc (reverse rs) (r ∷ []) records) legal in
    let here = legal_behind roster keys me (reverse rs) (r ∷ records) whole in
    (here.0, here.1, each_followed roster keys me rs (r ∷ records) whole)

-- a frame that may follow a legal diary keeps it legal
pub one_more_is_legal : (roster : RosterRecord) (keys : Keys) (me : PlatformCode) (diary : List Frame) (frame : Frame)
    → IsLegal roster keys me diary → FollowsDiaryLegally roster keys me diary frame
    → IsLegal roster keys me (diary ++ frame ∷ [])
one_more_is_legal roster keys me diary frame legal follows = record {
  frames = frames_with diary frame legal.frames follows.is_frame;
  records = subst (AreLegal roster keys me) (sym (one_frame diary frame))
      (legal_each roster keys me (records_of frame) (newest_first diary) legal.records follows.records);
}

last_follows : (roster : RosterRecord) (keys : Keys) (me : PlatformCode) (diary : List Frame) (frame : Frame)
    → IsLegal roster keys me (diary ++ frame ∷ []) → FollowsDiaryLegally roster keys me diary frame
last_follows roster keys me diary frame legal = record {
  is_frame = last_frame diary frame legal.frames;
  records = each_followed roster keys me (records_of frame) (newest_first diary)
      (subst (AreLegal roster keys me) (one_frame diary frame) legal.records);
}

-- each frame of a legal diary may follow those before it
pub each_follows : (roster : RosterRecord) (keys : Keys) (me : PlatformCode) (diary more : List Frame) (frame : Frame)
    → IsLegal roster keys me (diary ++ frame ∷ more) → FollowsDiaryLegally roster keys me diary frame
each_follows roster keys me diary more frame legal =
    last_follows roster keys me diary frame
    (front_is_legal roster keys me (diary ++ frame ∷ []) more
    (subst (IsLegal roster keys me) (sym (append_assoc diary (frame ∷ []) more)) legal))
