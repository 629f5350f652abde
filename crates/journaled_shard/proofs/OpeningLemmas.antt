-- What a disk stands for, where its diary is read from nothing.
use Rattle.std.proofs.Common.{◌≡◌, ℕ, ◌<◌, List, [], ◌∷◌, ◌++◌, Option, length, refl, sym, subst, ◌∙◌, append_assoc, arith}
use Rattle.ebl_base.specs.declared.platform_code.PlatformCode.{PlatformCode}
use Rattle.signed_envelope.specs.KeyRing.{Keys}
use Rattle.party_roster.specs.RosterRecord.{RosterRecord}
use Rattle.bill_diary.specs.declared.frame.Frame.{Frame}
use Rattle.bill_diary.specs.declared.record.Record.{Record}
use Rattle.bill_diary.specs.declared.record.Record.TheVariants.{Signed, Acted, Attached, Parted, Settled, Regained, Begun, Stored, Taken, Declined}
use Rattle.bill_diary.specs.Sound.{IsSound}
use Rattle.bill_journal.specs.declared.fault.OpenFault.TheVariants as opening
use Rattle.bill_journal.specs.declared.frame_at.FrameAt.{FrameAt}
use Rattle.bill_journal.specs.Journal.{HasContents}
use Rattle.record_bytes.specs.Forms.{HasNames, HasSpelling}
use Rattle.record_bytes.specs.Grammar.{Spells, frame_bytes, kept}
use Rattle.transfer_judge.specs.Legal.{IsLegal}
use Rattle.journaled_diary.specs.declared.reading.DiaryFault.{DiaryFault}
use Rattle.journaled_diary.specs.declared.reading.DiaryFault.TheVariants.{NoMemory, Refused}
use Rattle.journaled_diary.specs.Contents.{AreSpelled, contents_in}
use Rattle.journaled_diary.specs.Reading.{IsDiaryOf, IsRefusedAt}
use Rattle.journaled_shard.specs.Opening.{fault_of}
use Rattle.journaled_shard.specs.Shard.{HasRoomWith, IsLegalWith}
use Rattle.journaled_shard.specs.Written.{AreNamed, IsKeptOrDropped, IsNamedIfAny, IsOnDisk, WrittenRecord}
use Rattle.journaled_shard.proofs.ShardLemmas.{found_has_room, found_legal}
use Rattle.journaled_shard.proofs.WrittenLemmas.{named_found, settled_on_disk}

-- ---- names and spellings

names_of : (r : Record) → HasSpelling r → HasNames r
names_of (Signed bill document t) is = tt
names_of (Acted bill t) is = is.bill_is
names_of (Attached bill piece bytes) is = is.bill_is
names_of (Parted bill link manifest text) is = is.bill_is
names_of (Settled bill entry) is = is
names_of (Regained bill entry) is = is
names_of (Begun bill chain manifest body) is = tt
names_of (Stored bill entry checksum bytes) is = (is.names, is.checksum_is)
names_of (Taken bill entry) is = is
names_of (Declined bill entry code reason evidence) is = is.names

-- what has a spelling has its names
pub spelled_are_named : (diary : List Frame) → AreSpelled diary → AreNamed diary
spelled_are_named [] spelled = tt
spelled_are_named (frame ∷ diary) spelled = (names_of (kept frame) spelled.0, spelled_are_named diary spelled.1)

-- each frame of a sound diary has a spelling
abbrev pub SoundAreSpelled : PlatformCode → Type 0
SoundAreSpelled me = (diary more : List Frame) (frame : Frame) → IsSound me (diary ++ frame ∷ more)
    → HasNames (kept frame) → Spells (frame_bytes frame) frame

spelled_behind : (me : PlatformCode) → SoundAreSpelled me → (front rest : List Frame) → IsSound me (front ++ rest)
    → AreNamed rest → AreSpelled rest
spelled_behind me law front [] sound named = tt
spelled_behind me law front (frame ∷ rest) sound named = (
  (law front rest frame sound named.0).form,
  spelled_behind me law (front ++ frame ∷ []) rest (rw append_assoc sound) named.1,
)

-- what was written down is a legal diary's, with the loose frame or without it
pub found_is_diary : (roster : RosterRecord) (keys : Keys) (me : PlatformCode) (diary found : List Frame)
    (loose : Option Frame) (contents : List (List ℕ)) → SoundAreSpelled me
    → (IsLegal roster keys me found → IsSound me found) → IsLegalWith roster keys me diary loose → AreNamed diary
    → IsNamedIfAny loose → IsKeptOrDropped diary loose found → contents ≡ contents_in found
    → HasRoomWith diary loose → IsDiaryOf roster keys me contents found
found_is_diary roster keys me diary found loose contents law sound legal named name is same room =
    let fine : IsLegal roster keys me found = found_legal roster keys me diary found loose is legal in
    record {
      contents_are = same;
      spelled = spelled_behind me law [] found (sound fine) (named_found diary found loose is named name);
      legal = fine;
      room = found_has_room diary found loose is room;
    }

-- ---- the frame that is refused

pub refused_there : (fault : DiaryFault) (place : ℕ) → fault_of fault ≡ opening.Damaged place → fault ≡ Refused place
refused_there (Refused other) place is = cc
refused_there NoMemory place is = cc

nothing_there : (front : List FrameAt) (at : FrameAt) (rest : List FrameAt) → front ++ at ∷ rest ≡ [] → ⊥
nothing_there [] at rest is = cc is
nothing_there (other ∷ front) at rest is = cc is

-- a blank disk has none
pub is_not_blank : (roster : RosterRecord) (keys : Keys) (me : PlatformCode) (file : List ℕ) (frames : List FrameAt)
    (place : ℕ) → (file ≡ [] → frames ≡ []) → IsRefusedAt roster keys me frames place → 0 < length file
is_not_blank roster keys me [] frames place blank refused =
    absurd (nothing_there refused.front refused.at refused.rest (sym refused.parts ∙ blank refl))
is_not_blank roster keys me (byte ∷ file) frames place blank refused = omega arith

-- ---- on the disk

-- a journal of a diary, blank before or not
pub opened_on_disk : {D : Type 0} (seen : D → List ℕ) (may_leave : D → List ℕ → Type 0) (w : WrittenRecord D)
    (file : List ℕ) (contents : List (List ℕ)) → contents ≡ contents_in w.diary
    → (file ≡ [] → contents ≡ []) → (file ≡ [] → HasContents seen may_leave w.journal [])
    → (0 < length file → HasContents seen may_leave w.journal contents) → IsOnDisk seen may_leave w
opened_on_disk seen may_leave w [] contents is blank fresh settled =
    settled_on_disk seen may_leave w
    (subst (HasContents seen may_leave w.journal) (sym (blank refl) ∙ is) (fresh refl))
opened_on_disk seen may_leave w (byte ∷ file) contents is blank fresh settled =
    settled_on_disk seen may_leave w (subst (HasContents seen may_leave w.journal) is (settled (omega arith)))
