-- The step that a decision is over a diary: its reply is read once its frame is in the diary.
use Rattle.std.specs.Prelude.{List}
use Rattle.platform_requests.specs.declared.reply.Reply.{Reply}
use Rattle.platform_requests.specs.declared.reply.Reply.TheVariants as replies
use Rattle.bill_diary.specs.declared.frame.Frame.{Frame}
use Rattle.platform_machine.specs.declared.step.Step.{Step}
use Rattle.platform_machine.specs.Step.{view_of, with_frame}
use Rattle.transfer_core.specs.declared.decision.Decision.{Decision}
use Rattle.transfer_core.specs.declared.decision.DecidedReply.{DecidedReply}
use Rattle.transfer_core.specs.declared.decision.DecidedReply.TheVariants.{Ready, Done}

-- the reply, by the diary as it is when it is given
abbrev pub reply_by : List Frame → DecidedReply → Reply
reply_by diary (Ready reply) = reply
reply_by diary (Done bill) = replies.Done (view_of bill diary)

-- the step, over the diary by which it was decided
abbrev pub step_by : List Frame → Decision → Step
step_by diary d = record {
  frame = d.frame;
  reply = reply_by (with_frame diary d.frame) d.reply;
  messages = d.messages;
}
