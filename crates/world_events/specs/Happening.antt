-- What an event comes to before any platform is asked: a bill's number becomes its name, a message's number its
-- content.
use Rattle.std.specs.Prelude.{ℕ, ◌-◌, List, Option, Some, None, nat_eq, slice_get, if◌then◌else◌}
use Rattle.std.specs.Option.{option_or}
use Rattle.ebl_base.specs.declared.checksum.Checksum.{Checksum}
use Rattle.ebl_base.specs.declared.moment.Moment.{Moment}
use Rattle.ebl_base.specs.declared.party.Party.{Party}
use Rattle.ebl_base.specs.declared.platform_code.PlatformCode.{PlatformCode}
use Rattle.holder_commands.specs.Command.{CommandRecord}
use Rattle.holder_commands.specs.Command as commands
use Rattle.platform_requests.specs.Request.{RequestRecord}
use Rattle.platform_requests.specs.Request as requests
use Rattle.world_script.specs.declared.deed.BillName.{BillName}
use Rattle.world_script.specs.declared.deed.BillName.TheVariants.{Name, Number}
use Rattle.world_script.specs.Event.{DeedRecord, ForeignRecord, EventRecord}
use Rattle.world_script.specs.Event as events
use Rattle.answer_lines.specs.declared.answer.Answer.{Answer}
use Rattle.answer_lines.specs.declared.answer.Answer.TheVariants.{NoBill, NoMessage, Shown}
use Rattle.answer_lines.specs.declared.parcel.Parcel.{Parcel}
use Rattle.answer_lines.specs.declared.parcel.Content.{Content}
use Rattle.answer_lines.specs.declared.parcel.Content.TheVariants as contents
use Rattle.platform_requests.specs.Request.{request_view}
use Rattle.world_events.specs.declared.happening.Asking as asking
use Rattle.world_events.specs.declared.happening.Sender.{Sender}
use Rattle.world_events.specs.declared.happening.Happening as code
use Rattle.world_events.specs.declared.happening.Happening.TheVariants.{Answered, Asked, StartsAgain}

-- a request to a platform; a command has a moment, and what was delivered a sender, who gets the reply
pub record Asking : Type 0 where
  pub at : PlatformCode
  pub now : Option Moment
  pub request : RequestRecord
  pub sender : Option Sender

pub data Happening : Type 0 where
  -- it is answered at once, and nothing changes
  answers : Answer → Happening
  -- a platform is asked
  asks : Asking → Happening
  -- a platform starts again
  starts_again : PlatformCode → Happening

-- ---- numbers

-- the item of this number, counted from 1
abbrev pub numbered : {X : Type 0} → ℕ → List X → Option X
numbered number xs = if nat_eq number 0 then None else slice_get xs (number - 1)

-- the name of a bill
abbrev pub bill_named : List Checksum → BillName → Option Checksum
bill_named signed (Name bill) = Some bill
bill_named signed (Number number) = numbered number signed

-- ---- requests

-- a command, a question, or bytes from outside
abbrev pub asked : PlatformCode → Option Moment → RequestRecord → Happening
asked at now request = asks (record { at = at; now = now; request = request; sender = None })

-- for a bill that the script names
abbrev pub on_bill : Option Checksum → (Checksum → Happening) → Happening
on_bill None happens = answers NoBill
on_bill (Some bill) happens = happens bill

abbrev pub at_command : List Checksum → PlatformCode → Party → Moment → DeedRecord → Happening
at_command signed at party now (events.signs document) =
    asked at (Some now) (requests.commands party (commands.signs document))
at_command signed at party now (events.acts bill kind recipient) =
    on_bill (bill_named signed bill)
    (λ name. asked at (Some now) (requests.commands party (commands.acts name kind recipient)))
at_command signed at party now (events.attaches bill name media bytes) =
    on_bill (bill_named signed bill)
    (λ checksum. asked at (Some now) (requests.commands party (commands.attaches checksum name media bytes)))

abbrev pub at_foreign : List Checksum → PlatformCode → ForeignRecord → Happening
at_foreign signed at (events.starts body) = asked at None (requests.starts body)
at_foreign signed at (events.puts reference checksum bytes) =
    asked at None (requests.puts reference checksum bytes)
at_foreign signed at (events.finishes reference) = asked at None (requests.finishes reference)
at_foreign signed at (events.start_replies bill text) =
    on_bill (bill_named signed bill) (λ name. asked at None (requests.start_replies name text))
at_foreign signed at (events.finish_replies bill text) =
    on_bill (bill_named signed bill) (λ name. asked at None (requests.finish_replies name text))

-- ---- deliveries

-- the request that a parcel is when it is delivered
abbrev pub request_in : Checksum → Content → RequestRecord
request_in bill (contents.Start body) = requests.starts body
request_in bill (contents.Put reference checksum bytes) = requests.puts reference checksum bytes
request_in bill (contents.Finish reference) = requests.finishes reference
request_in bill (contents.StartReply bytes) = requests.start_replies bill bytes
request_in bill (contents.FinishReply bytes) = requests.finish_replies bill bytes

-- a delivery to the platform that is named, or else to the one that the parcel is for
abbrev pub delivered_to : Option PlatformCode → Parcel → Happening
delivered_to None parcel = answers NoMessage
delivered_to (Some at) parcel = asks (record {
  at = at;
  now = None;
  request = request_in parcel.bill parcel.content;
  sender = Some (record { platform = parcel.from; bill = parcel.bill });
})

abbrev pub at_delivery : Option PlatformCode → Option Parcel → Happening
at_delivery at None = answers NoMessage
at_delivery at (Some parcel) = delivered_to (option_or at parcel.to) parcel

abbrev pub at_show : Option Parcel → Happening
at_show None = answers NoMessage
at_show (Some parcel) = answers (Shown parcel)

-- ---- events

-- by the bills that were signed and the parcels that were sent before it
abbrev pub comes_to : List Checksum → List Parcel → EventRecord → Happening
comes_to signed sent (events.commands at party now deed) = at_command signed at party now deed
comes_to signed sent (events.delivers number at) = at_delivery at (numbered number sent)
comes_to signed sent (events.restarts at) = starts_again at
comes_to signed sent (events.resends at bill) =
    on_bill (bill_named signed bill) (λ name. asked at None (requests.resends name))
comes_to signed sent (events.asks at bill) =
    on_bill (bill_named signed bill) (λ name. asked at None (requests.asks name))
comes_to signed sent (events.receives at bytes) = at_foreign signed at bytes
comes_to signed sent (events.shows number) = at_show (numbered number sent)

-- ---- how contracts see them

abbrev pub asking_view : asking.Asking → Asking
asking_view a = record { at = a.at; now = a.now; request = request_view a.request; sender = a.sender }

abbrev pub happening_view : code.Happening → Happening
happening_view (Answered answer) = answers answer
happening_view (Asked a) = asks (asking_view a)
happening_view (StartsAgain at) = starts_again at
