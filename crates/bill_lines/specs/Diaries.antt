-- The histories of a bill, by the diaries of its shard on the platforms.
use Rattle.std.specs.Prelude.{List, [], find, map}
use Rattle.std.specs.Option.{option_map_or}
use Rattle.ebl_base.specs.PlatformCode.{code_eq}
use Rattle.ebl_base.specs.declared.checksum.Checksum.{Checksum}
use Rattle.ebl_base.specs.declared.platform_code.PlatformCode.{PlatformCode}
use Rattle.bill_diary.specs.History.{history}
use Rattle.bill_diary.specs.declared.frame.Frame.{Frame}
use Rattle.closed_family.specs.Closed.{Histories}
use Rattle.bill_lines.specs.declared.diaries.DiaryRef.{DiaryRef}
use Rattle.bill_lines.specs.declared.diaries.DiaryRef.TheVariants.{Whole, Indexed}
use Rattle.bill_lines.specs.declared.diaries.PlatformDiary.{PlatformDiary}

-- the frames of a diary
abbrev pub frames_of : DiaryRef → List Frame
frames_of (Whole diary) = diary.now
frames_of (Indexed index) = index.now

-- the history of a bill on a platform; empty where no diary of it is given
abbrev pub histories_in : Checksum → List PlatformDiary → Histories
histories_in bill diaries p =
    option_map_or (λ d. history bill (frames_of d.diary)) (find (λ d. code_eq d.platform p) diaries) []

-- the platforms, in their order
abbrev pub platforms_in : List PlatformDiary → List PlatformCode
platforms_in diaries = map (λ d. d.platform) diaries
