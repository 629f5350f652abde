-- What a platform is asked, with a holder's command as its record.
use Rattle.std.specs.Prelude.{ℕ, List}
use Rattle.ebl_base.specs.declared.checksum.Checksum.{Checksum}
use Rattle.ebl_base.specs.declared.moment.Moment.{Moment}
use Rattle.ebl_base.specs.declared.party.Party.{Party}
use Rattle.ebl_base.specs.declared.reference.Reference.{Reference}
use Rattle.holder_commands.specs.Command.{CommandRecord, command_view}
use Rattle.platform_requests.specs.declared.request.Request.{Request}
use Rattle.platform_requests.specs.declared.request.Request.TheVariants.{Command, Start, Put, Finish, StartReply, FinishReply, Resend, Ask}

pub data RequestRecord : Type 0 where
  -- a party's command
  commands : Party → CommandRecord → RequestRecord
  -- another platform starts a transfer with this body
  starts : List ℕ → RequestRecord
  -- it sends these bytes for the transfer of the reference, under a checksum
  puts : Reference → Checksum → List ℕ → RequestRecord
  -- it finishes the transfer of the reference
  finishes : Reference → RequestRecord
  -- another platform's reply to the start, to the finish of this bill's transfer
  start_replies : Checksum → List ℕ → RequestRecord
  finish_replies : Checksum → List ℕ → RequestRecord
  -- send the start of this bill's transfer again; tell how the bill is
  resends : Checksum → RequestRecord
  asks : Checksum → RequestRecord

-- how contracts see a request
abbrev pub request_view : Request → RequestRecord
request_view (Command party command) = commands party (command_view command)
request_view (Start body) = starts body
request_view (Put reference checksum bytes) = puts reference checksum bytes
request_view (Finish reference) = finishes reference
request_view (StartReply bill bytes) = start_replies bill bytes
request_view (FinishReply bill bytes) = finish_replies bill bytes
request_view (Resend bill) = resends bill
request_view (Ask bill) = asks bill
