-- What one exchange writes and reads.
use Rattle.std.specs.Prelude.{◌≡◌, ◌⊎◌, ℕ, ◌≤◌, List, [], length, Option, Result, Ok, Err}
use Rattle.std.specs.Io.KnownBytes.{Appends, Consumes, IsAtEnd}
use Rattle.http_heads.specs.declared.scan.TheConstants.{MAX_HEAD}
use Rattle.ebl_edge.specs.Sink.{AppendsFirst}
use Rattle.pint_client.specs.declared.client_fault.ClientFault.{ClientFault}
use Rattle.pint_client.specs.declared.client_fault.ClientFault.TheVariants.{Fault, BadReply, NoMemory}
use Rattle.pint_client.specs.declared.incoming.Incoming.{Incoming}
use Rattle.pint_client.specs.Reply.{IsReply, HasNoReply, NeverHasReply}

-- how much of a request was written, by the answer: all of it, unless the link failed or memory ran out
abbrev pub Wrote : Result Incoming ClientFault → Option (List ℕ) → Option (List ℕ) → List ℕ → Type 0
Wrote (Ok incoming) old new request = Appends old new request
Wrote (Err BadReply) old new request = Appends old new request
Wrote (Err Fault) old new request = AppendsFirst old new request
Wrote (Err NoMemory) old new request = AppendsFirst old new request

-- what an answer says of all the bytes that were to come
abbrev pub IsAnswerTo : List ℕ → Result Incoming ClientFault → Type 0
IsAnswerTo came (Ok incoming) = (after : List ℕ) × IsReply came incoming.status incoming.body after
IsAnswerTo came (Err BadReply) = HasNoReply came
IsAnswerTo came (Err Fault) = Unit {0}
IsAnswerTo came (Err NoMemory) = Unit {0}

-- what an answer says of the bytes that were read, and of what is left: a reply is read to its end, and beyond it only
-- within the first 16,384 bytes; no reply can come, or the input ended before one; a fault came before a whole reply
abbrev pub Decides : Result Incoming ClientFault → List ℕ → Option (List ℕ) → Type 0
Decides (Ok incoming) read left =
    (after : List ℕ) × IsReply read incoming.status incoming.body after × ((length read ≤ MAX_HEAD) ⊎ (after ≡ []))
Decides (Err BadReply) read left = NeverHasReply read ⊎ (HasNoReply read × IsAtEnd left)
Decides (Err Fault) read left = HasNoReply read
Decides (Err NoMemory) read left = Unit {0}

-- some bytes were read, and these decide the answer
pub record ReadsReply (result : Result Incoming ClientFault) (left now_left : Option (List ℕ)) : Type 0 where
  pub read : List ℕ
  pub consumed : Consumes left now_left read
  pub decides : Decides result read now_left
