-- What is done for one request.
use Rattle.std.specs.Prelude.{◌≡◌, ℕ, Bool, List, Option}
use Rattle.ebl_base.specs.declared.moment.Moment.{Moment}
use Rattle.ebl_base.specs.declared.party.Party.{Party}
use Rattle.ebl_edge.specs.Clock.{Gives}
use Rattle.platform_requests.specs.Desk.{Call}
use Rattle.http_requests.specs.Next.{Incoming}
use Rattle.pint_http.specs.Session.{Exchange, incoming_of, call_of, moment_of, reply_of, Wrote}
use Rattle.http_requests.specs.declared.end.LinkEnd.{LinkEnd}
use Rattle.http_requests.specs.declared.end.LinkEnd.TheVariants.{Closed, Cut, ReadFault, WriteFault, Limit, NoMemory}

-- The desk went on by the call, and the reply was written: whole, or at a failure its first part. `Run` tells of calls
-- that the desk went on by them.
pub record Answered (end : LinkEnd) (request : Incoming) (written now_written : Option (List ℕ))
    (given now_given : Option (List Moment)) (known : Party → Bool) (Run : List Call → Type 0) : Type 0 where
  pub exchange : Exchange
  pub is_asked : incoming_of exchange ≡ request
  pub run : Run (call_of exchange)
  pub moments : Gives given (moment_of exchange) now_given
  pub wrote : Wrote end written now_written (reply_of known exchange)

-- a reply was written, or failed
abbrev pub IsReplyEnd : LinkEnd → Type 0
IsReplyEnd Closed = Unit {0}
IsReplyEnd Cut = ⊥
IsReplyEnd ReadFault = ⊥
IsReplyEnd WriteFault = Unit {0}
IsReplyEnd Limit = ⊥
IsReplyEnd NoMemory = Unit {0}

abbrev pub IsReplyFault : LinkEnd → Type 0
IsReplyFault Closed = ⊥
IsReplyFault Cut = ⊥
IsReplyFault ReadFault = ⊥
IsReplyFault WriteFault = Unit {0}
IsReplyFault Limit = ⊥
IsReplyFault NoMemory = Unit {0}
