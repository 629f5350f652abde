-- What a desk may be asked, and what it gives then.
use Rattle.std.specs.Prelude.{◌≡◌, ◌≤◌, ◌⊎◌, ℕ, List, [], ◌∷◌, ◌++◌, Bool, true, false, IsTrue, length}
use Rattle.std.specs.List.{list_all}
use Rattle.ebl_base.specs.declared.limits.TheConstants.{MAX_DOCUMENTS}
use Rattle.canonical_json.specs.Value.{depth}
use Rattle.ebl_base.specs.declared.moment.Moment.{Moment}
use Rattle.holder_commands.specs.Command.{CommandRecord, signs, acts, attaches}
use Rattle.holder_commands.specs.Form.{IsCommand}
use Rattle.platform_requests.specs.Request.{RequestRecord, commands, starts, puts, finishes, start_replies, finish_replies, resends, asks}
use Rattle.platform_requests.specs.declared.message.Message.{Message}
use Rattle.platform_requests.specs.declared.message.Message.TheVariants.{Start, Put, Finish}
use Rattle.platform_requests.specs.declared.outcome.Outcome.{Outcome}
use Rattle.platform_requests.specs.declared.reply.Reply.{Reply}
use Rattle.platform_requests.specs.declared.reply.Reply.TheVariants as replies

-- one call of a desk: its moment, what it was asked, and what came of it
pub record Call : Type 0 where
  pub now : Moment
  pub request : RequestRecord
  pub outcome : Outcome

-- ---- what may be asked

-- a document to sign nests at most 126 deep, as every document does that was read inside another value
abbrev pub IsFlatEnough : CommandRecord → Type 0
IsFlatEnough (signs document) = depth document ≤ 126
IsFlatEnough (acts bill kind recipient) = Unit {0}
IsFlatEnough (attaches bill name media bytes) = Unit {0}

-- a command has its form, and the document that it signs nests at most 126 deep; every other request may hold any
-- bytes
abbrev pub MayAsk : RequestRecord → Type 0
MayAsk (commands party command) = IsCommand command × IsFlatEnough command
MayAsk (starts body) = Unit {0}
MayAsk (puts reference checksum bytes) = Unit {0}
MayAsk (finishes reference) = Unit {0}
MayAsk (start_replies bill bytes) = Unit {0}
MayAsk (finish_replies bill bytes) = Unit {0}
MayAsk (resends bill) = Unit {0}
MayAsk (asks bill) = Unit {0}

-- ---- what is given

abbrev pub is_start : Message → Bool
is_start (Start to bill body) = true
is_start (Put to bill reference checksum bytes) = false
is_start (Finish to bill reference) = false

abbrev pub is_put : Message → Bool
is_put (Start to bill body) = false
is_put (Put to bill reference checksum bytes) = true
is_put (Finish to bill reference) = false

abbrev pub is_finish : Message → Bool
is_finish (Start to bill body) = false
is_finish (Put to bill reference checksum bytes) = false
is_finish (Finish to bill reference) = true

-- no message, or one that passes the test
abbrev pub AtMostOne : (Message → Bool) → List Message → Type 0
AtMostOne test messages = (messages ≡ []) ⊎ ((m : Message) × (messages ≡ m ∷ []) × IsTrue (test m))

-- at most 16 Puts and then at most one Finish
abbrev pub ArePutsAndFinish : List Message → Type 0
ArePutsAndFinish messages =
    (puts : List Message) × (last : List Message) × (messages ≡ puts ++ last) × IsTrue (list_all is_put puts)
    × (length puts ≤ MAX_DOCUMENTS) × AtMostOne is_finish last

-- the messages that may come of a request: of a Resend at most one, a Start; of a reply to a Start the Puts and the
-- Finish; of a reply to a Finish none
abbrev pub MayGive : RequestRecord → List Message → Type 0
MayGive (commands party command) messages = Unit {0}
MayGive (starts body) messages = Unit {0}
MayGive (puts reference checksum bytes) messages = Unit {0}
MayGive (finishes reference) messages = Unit {0}
MayGive (start_replies bill bytes) messages = ArePutsAndFinish messages
MayGive (finish_replies bill bytes) messages = messages ≡ []
MayGive (resends bill) messages = AtMostOne is_start messages
MayGive (asks bill) messages = Unit {0}

-- a Started names 1 to 16 documents
abbrev pub NamesMissing : Reply → Type 0
NamesMissing (replies.Started reference missing) = (1 ≤ length missing) × (length missing ≤ MAX_DOCUMENTS)
NamesMissing reply = Unit {0}
