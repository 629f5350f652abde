-- What is kept of a bill, beside the numbers of frames.
use Rattle.std.specs.Prelude.{◌≡◌, List}
use Rattle.ebl_base.specs.declared.checksum.Checksum.{Checksum}
use Rattle.bill_diary.specs.declared.frame.Frame.{Frame}
use Rattle.bill_diary.specs.History.{history}
use Rattle.title_register.specs.declared.bill_state.BillState.{BillState}
use Rattle.title_register.specs.declared.frame_key.FrameKey.{FrameKey}
use Rattle.title_register.specs.declared.frame_numbers.FrameNumbers.{FrameNumbers}
use Rattle.title_register.specs.BillState.{state_of}
use Rattle.title_register.specs.Frames.{number_in, number_of}

-- these are what some frames say of the numbers, and of one bill
pub record AreKept (frames : List Frame) (numbers : FrameNumbers) (state : BillState) (bill : Checksum) : Type 0 where
  pub numbers_are : (key : FrameKey) → number_in numbers.numbers key ≡ number_of key frames
  pub state_is : state ≡ state_of (history bill frames)
