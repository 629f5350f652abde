-- A register: what is kept of each bill and each frame is what a diary says, and there may be room for one frame more.
use Rattle.std.specs.Prelude.{◌≡◌, ◌<◌, true, List, [], ◌∷◌, ◌++◌, Option, Some, None, IfSome, IsSome, length, unwrap_or}
use Rattle.std.specs.BTreeMap.{BTreeMap, get}
use Rattle.std.specs.Vec.{vec_len, vec_capacity}
use Rattle.ebl_base.specs.Checksum.{checksum_cmp}
use Rattle.ebl_base.specs.declared.checksum.Checksum.{Checksum}
use Rattle.bill_diary.specs.declared.frame.Frame.{Frame}
use Rattle.bill_diary.specs.History.{history}
use Rattle.bill_diary.specs.Linked.{bill_in}
use Rattle.title_register.specs.declared.bill_state.BillState.{BillState}
use Rattle.title_register.specs.declared.frame_key.FrameKey.{FrameKey}
use Rattle.title_register.specs.declared.frame_numbers.FrameNumbers.{FrameNumbers}
use Rattle.title_register.specs.declared.room.Room.{Room}
use Rattle.title_register.specs.declared.room.Reserved.{Reserved}
use Rattle.title_register.specs.BillState.{state_of, state_with, unknown}
use Rattle.title_register.specs.Frames.{has_key, number_in, number_of, with_number}

-- what a register is seen as: its diary, and the room that was taken for one frame more, if any was
pub record Registered : Type 0 where
  pub diary : List Frame
  pub room : Option Room

-- what is kept of a bill among some
abbrev pub state_in : BTreeMap Checksum BillState → Checksum → BillState
state_in bills bill = unwrap_or (get checksum_cmp bills bill) unknown

-- whether there is room for a number under a key, if there is a key
abbrev pub HasRoom : FrameNumbers → Option FrameKey → Type 0
HasRoom numbers key = IfSome key (λ k. has_key numbers.numbers k ≡ true)

-- room is one for a frame after a diary: it has what changes of the frame's bill, and the keys that get the frame's
-- number
pub record IsRoomFor (frame : Frame) (diary : List Frame) (room : Room) : Type 0 where
  pub bill_is : room.bill ≡ bill_in frame
  pub change_is : state_with room.change (state_of (history room.bill diary))
      ≡ state_of (history room.bill (diary ++ frame ∷ []))
  pub numbers_are : (key : FrameKey)
      → with_number room.taken (length diary) (with_number room.came (length diary)
      (with_number room.kept (length diary) (λ k. number_of k diary))) key
      ≡ number_of key (diary ++ frame ∷ [])

-- room was taken for this frame
pub record IsReadyFor (frame : Frame) (register : Registered) : Type 0 where
  pub room : Room
  pub room_is : register.room ≡ Some room
  pub is_for : IsRoomFor frame register.diary room

-- the frames of a register: while room is taken they stand there
abbrev pub frames_in : List Frame → Option Reserved → List Frame
frames_in diary None = diary
frames_in diary (Some reserved) = reserved.frames.items

-- the room of a register
abbrev pub room_in : Option Reserved → Option Room
room_in None = None
room_in (Some reserved) = Some reserved.room

-- what is kept of each bill is what its records in the diary say, under each key is the number of its frame, and what
-- was taken as room is there
pub record IsRegister (diary : List Frame) (bills : BTreeMap Checksum BillState) (numbers : FrameNumbers)
    (reserved : Option Reserved) : Type 0 where
  pub states : (bill : Checksum) → state_in bills bill ≡ state_of (history bill (frames_in diary reserved))
  pub numbers_are : (key : FrameKey) → number_in numbers.numbers key ≡ number_of key (frames_in diary reserved)
  pub bill_room : IfSome reserved (λ r. IsSome (get checksum_cmp bills r.room.bill))
  pub kept_room : IfSome reserved (λ r. HasRoom numbers r.room.kept)
  pub came_room : IfSome reserved (λ r. HasRoom numbers r.room.came)
  pub taken_room : IfSome reserved (λ r. HasRoom numbers r.room.taken)
  pub space : IfSome reserved (λ r. vec_len r.frames < vec_capacity r.frames)
