use Rattle.std.proofs.Common.{List, [], Some, subst}
use Rattle.ebl_base.specs.declared.checksum.Checksum.{Checksum}
use Rattle.platform_requests.specs.declared.message.Message.{Message}
use Rattle.bill_diary.specs.declared.frame.Frame.TheVariants.{One}
use Rattle.platform_machine.specs.Step.{IsDone}
use Rattle.transfer_core.specs.Decision.{step_by}
use Rattle.transfer_core.proofs.commanding.add.Goals as goal

pub returns : goal.returns
returns c = λ diary.
    let step = step_by diary c.done_with.result in
    subst (λ (bill : Checksum). IsDone bill diary (Some (One c.args.written)) [] step) c.bill-bill.ensures
    (subst (λ (sent : List Message). IsDone c.bill-bill.result diary (Some (One c.args.written)) sent step)
    c.new.ensures (c.done_with.ensures diary))
