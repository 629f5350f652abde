-- What a line of a script asks, with a document as its JSON value.
use Rattle.std.specs.Prelude.{ℕ, List, Option}
use Rattle.canonical_json.specs.Value.{Value}
use Rattle.canonical_json.specs.View.{view}
use Rattle.ebl_base.specs.declared.checksum.Checksum.{Checksum}
use Rattle.ebl_base.specs.declared.kind.Kind.{Kind}
use Rattle.ebl_base.specs.declared.moment.Moment.{Moment}
use Rattle.ebl_base.specs.declared.party.Party.{Party}
use Rattle.ebl_base.specs.declared.platform_code.PlatformCode.{PlatformCode}
use Rattle.ebl_base.specs.declared.reference.Reference.{Reference}
use Rattle.world_script.specs.declared.deed.BillName.{BillName}
use Rattle.world_script.specs.declared.deed.Deed.{Deed}
use Rattle.world_script.specs.declared.deed.Deed.TheVariants as deeds
use Rattle.world_script.specs.declared.event.Event.{Event}
use Rattle.world_script.specs.declared.event.Event.TheVariants as events
use Rattle.world_script.specs.declared.foreign.Foreign.{Foreign}
use Rattle.world_script.specs.declared.foreign.Foreign.TheVariants as foreign

-- a command whose bill may be a number
pub data DeedRecord : Type 0 where
  -- sign this document: a bill begins
  signs : Value → DeedRecord
  -- a transaction of this kind on the bill, to the recipient if there is one
  acts : BillName → Kind → Option Party → DeedRecord
  -- attach a document to the bill: its name, its media type, its bytes
  attaches : BillName → List ℕ → List ℕ → List ℕ → DeedRecord

-- bytes that come from outside
pub data ForeignRecord : Type 0 where
  -- the start of a transfer, with the text of its body
  starts : List ℕ → ForeignRecord
  -- the bytes of a document, under a reference and its checksum
  puts : Reference → Checksum → List ℕ → ForeignRecord
  -- the end of the upload under a reference
  finishes : Reference → ForeignRecord
  -- the text of a reply to the start of this bill's transfer
  start_replies : BillName → List ℕ → ForeignRecord
  -- the text of a reply to a document or to the end of its upload
  finish_replies : BillName → List ℕ → ForeignRecord

pub data EventRecord : Type 0 where
  -- a party's command at a platform, at a moment
  commands : PlatformCode → Party → Moment → DeedRecord → EventRecord
  -- the message of this number is delivered, at this platform or where it is sent to
  delivers : ℕ → Option PlatformCode → EventRecord
  -- a platform starts again
  restarts : PlatformCode → EventRecord
  -- a platform sends the start of the bill's transfer again
  resends : PlatformCode → BillName → EventRecord
  -- a platform is asked how the bill is
  asks : PlatformCode → BillName → EventRecord
  -- bytes that no platform of the script sent come to a platform
  receives : PlatformCode → ForeignRecord → EventRecord
  -- the message of this number is shown
  shows : ℕ → EventRecord

-- how contracts see them
abbrev pub deed_view : Deed → DeedRecord
deed_view (deeds.Sign document) = signs (view document)
deed_view (deeds.Act bill kind recipient) = acts bill kind recipient
deed_view (deeds.Attach bill name media bytes) = attaches bill name media bytes

abbrev pub foreign_view : Foreign → ForeignRecord
foreign_view (foreign.Start body) = starts body
foreign_view (foreign.Put reference checksum bytes) = puts reference checksum bytes
foreign_view (foreign.Finish reference) = finishes reference
foreign_view (foreign.StartReply bill text) = start_replies bill text
foreign_view (foreign.FinishReply bill text) = finish_replies bill text

abbrev pub event_view : Event → EventRecord
event_view (events.Command at party now deed) = commands at party now (deed_view deed)
event_view (events.Deliver number at) = delivers number at
event_view (events.Restart at) = restarts at
event_view (events.Resend at bill) = resends at bill
event_view (events.Ask at bill) = asks at bill
event_view (events.Foreign at bytes) = receives at (foreign_view bytes)
event_view (events.Show number) = shows number
