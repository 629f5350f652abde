use Rattle.std.proofs.Common.{List, None, subst}
use Rattle.platform_requests.specs.declared.message.Message.{Message}
use Rattle.platform_machine.specs.Step.{IsDone}
use Rattle.transfer_core.specs.Decision.{step_by}
use Rattle.transfer_core.proofs.showing.ask.Goals as goal

pub returns : goal.returns
returns c = λ diary.
    subst (λ (sent : List Message). IsDone c.args.bill diary None sent (step_by diary c.done.result)) c.new.ensures
    (c.done.ensures diary)
