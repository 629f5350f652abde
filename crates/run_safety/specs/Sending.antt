-- What a platform sends by a step.
use Rattle.std.specs.Prelude.{◌≡◌, ℕ, true, List}
use Rattle.ebl_base.specs.declared.checksum.Checksum.{Checksum}
use Rattle.ebl_base.specs.declared.platform_code.PlatformCode.{PlatformCode}
use Rattle.platform_requests.specs.declared.message.Message.TheVariants.{Start}
use Rattle.platform_requests.specs.declared.reply.Reply.{Reply}
use Rattle.platform_requests.specs.declared.reply.Reply.TheVariants.{Answer, Started}
use Rattle.platform_machine.specs.declared.step.Step.{Step}
use Rattle.platform_machine.specs.Hearing.{begins_object}
use Rattle.closed_family.specs.Chains.{IsAmong}
use Rattle.run_safety.specs.Network.{Sent, sent_start, sent_reply}

-- the bytes with which another platform is replied to: the text of an answer, or a JSON object that asks for documents
abbrev pub IsReplyText : Reply → List ℕ → Type 0
IsReplyText (Answer response text) bytes = text.0 ≡ bytes
IsReplyText (Started reference missing) bytes = begins_object bytes ≡ true
IsReplyText reply bytes = ⊥

-- a platform sends this by a step: the start of a transfer, or its reply
abbrev pub IsSentBy : PlatformCode → Step → Sent → Type 0
IsSentBy p step (sent_start from body) =
    (from ≡ p) × ((to : PlatformCode) × (bill : Checksum) × IsAmong (Start to bill body) step.messages)
IsSentBy p step (sent_reply from bytes) = (from ≡ p) × IsReplyText step.reply bytes
