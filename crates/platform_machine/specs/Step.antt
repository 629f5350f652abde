-- What a step gives beside its frame: a bill's view, and steps that only reply.
use Rattle.std.specs.Prelude.{◌≡◌, ℕ, List, [], ◌++◌, Option, None, Ok, Err, length}
use Rattle.std.specs.Option.{option_map_or, option_to_list}
use Rattle.ebl_base.specs.declared.checksum.Checksum.{Checksum}
use Rattle.ebl_base.specs.declared.platform_code.PlatformCode.{PlatformCode}
use Rattle.signed_envelope.specs.KeyRing.{Keys}
use Rattle.pint_responses.specs.declared.response.Response.{Response}
use Rattle.title_fold.specs.Fold.{Folded}
use Rattle.title_fold.specs.declared.title.Title.{Title}
use Rattle.platform_requests.specs.declared.message.Message.{Message}
use Rattle.platform_requests.specs.declared.reply.Reply.{Reply}
use Rattle.platform_requests.specs.declared.reply.Reply.TheVariants.{Done}
use Rattle.platform_requests.specs.declared.view.View.{View}
use Rattle.bill_diary.specs.declared.frame.Frame.{Frame}
use Rattle.bill_diary.specs.declared.bill_place.BillPlace.{BillPlace}
use Rattle.bill_diary.specs.History.{history}
use Rattle.bill_diary.specs.Place.{known_at, place_of, tag_of, title_at}
use Rattle.platform_machine.specs.declared.step.Step.{Step}
use Rattle.platform_machine.specs.Answer.{IsAnswer}

-- ---- how a bill is

-- how many entries the known chain has
abbrev pub entries_at : BillPlace → ℕ
entries_at place = option_map_or length (known_at place) 0

-- the title, where the fold gives one
abbrev pub title_in : Folded → Option Title
title_in (Ok title) = title
title_in (Err at) = None

-- a bill at a place, as a holder is shown it
abbrev pub view_at : Checksum → BillPlace → View
view_at bill place = record {
  bill = bill;
  place = tag_of place;
  entries = entries_at place;
  title = title_in (title_at place);
}

-- by a diary
abbrev pub view_of : Checksum → List Frame → View
view_of bill diary = view_at bill (place_of (history bill diary))

-- a diary with a frame, if one is written
abbrev pub with_frame : List Frame → Option Frame → List Frame
with_frame diary frame = diary ++ option_to_list frame

-- ---- steps

-- nothing is written, and nothing is sent
pub record OnlyReplies (reply : Reply) (step : Step) : Type 0 where
  pub nothing_written : step.frame ≡ None
  pub reply_is : step.reply ≡ reply
  pub nothing_sent : step.messages ≡ []

-- this is written, the reply is this response, sealed, and nothing is sent
pub record Answers (keys : Keys) (me : PlatformCode) (frame : Option Frame) (response : Response) (step : Step)
    : Type 0 where
  pub frame_is : step.frame ≡ frame
  pub says : IsAnswer keys me response step.reply
  pub nothing_sent : step.messages ≡ []

-- it is done: this is written and sent, and the reply shows how the bill is then
pub record IsDone (bill : Checksum) (diary : List Frame) (frame : Option Frame) (messages : List Message) (step : Step)
    : Type 0 where
  pub frame_is : step.frame ≡ frame
  pub reply_is : step.reply ≡ Done (view_of bill (with_frame diary frame))
  pub messages_are : step.messages ≡ messages
