-- Which diary the contents of a journal's frames are, and which frame shows that they are none.
use Rattle.std.specs.Prelude.{◌≡◌, ℕ, List, ◌∷◌, ◌++◌}
use Rattle.ebl_base.specs.declared.platform_code.PlatformCode.{PlatformCode}
use Rattle.signed_envelope.specs.KeyRing.{Keys}
use Rattle.party_roster.specs.RosterRecord.{RosterRecord}
use Rattle.bill_journal.specs.declared.frame_at.FrameAt.{FrameAt}
use Rattle.bill_journal.specs.Places.{contents_of}
use Rattle.bill_diary.specs.declared.frame.Frame.{Frame}
use Rattle.record_bytes.specs.Grammar.{Spells}
use Rattle.transfer_judge.specs.Legal.{FollowsDiaryLegally, IsLegal}
use Rattle.journal_room.specs.Room.{Fits, HasRoom}
use Rattle.journaled_diary.specs.Contents.{AreSpelled, contents_in}

-- a frame may stand behind a diary: it may follow, and has room
pub record MayStandBehind (roster : RosterRecord) (keys : Keys) (me : PlatformCode) (diary : List Frame) (frame : Frame)
    : Type 0 where
  pub follows : FollowsDiaryLegally roster keys me diary frame
  pub fits : Fits diary frame

-- the contents are those of a legal diary's frames, each of which has room behind those before it
pub record IsDiaryOf (roster : RosterRecord) (keys : Keys) (me : PlatformCode) (contents : List (List ℕ))
    (diary : List Frame) : Type 0 where
  pub contents_are : contents ≡ contents_in diary
  pub spelled : AreSpelled diary
  pub legal : IsLegal roster keys me diary
  pub room : HasRoom diary

-- the frames before this place are a legal diary's, and its content spells no frame that may stand there
pub record IsRefusedAt (roster : RosterRecord) (keys : Keys) (me : PlatformCode) (frames : List FrameAt) (place : ℕ)
    : Type 0 where
  pub front : List FrameAt
  pub at : FrameAt
  pub rest : List FrameAt
  pub parts : frames ≡ front ++ at ∷ rest
  pub here : at.place ≡ place
  pub diary : List Frame
  pub reads : IsDiaryOf roster keys me (contents_of front) diary
  pub refused : (frame : Frame) → Spells at.content frame → ¬ MayStandBehind roster keys me diary frame
