-- Whatever is asked, a step of the machine keeps a legal diary legal.
use Rattle.std.proofs.Common.{List}
use Rattle.ebl_base.specs.declared.moment.Moment.{Moment}
use Rattle.ebl_base.specs.declared.platform_code.PlatformCode.{PlatformCode}
use Rattle.signed_envelope.specs.KeyRing.{Keys}
use Rattle.party_roster.specs.RosterForm.{IsRoster}
use Rattle.party_roster.specs.RosterRecord.{RosterRecord}
use Rattle.platform_requests.specs.Request.{RequestRecord, commands, starts, puts, finishes, start_replies, finish_replies, resends, asks}
use Rattle.bill_diary.specs.declared.frame.Frame.{Frame}
use Rattle.transfer_judge.specs.Legal.{IsLegal}
use Rattle.platform_machine.specs.declared.step.Step.{Step}
use Rattle.platform_machine.specs.Machine.{MayBeAsked, Steps}
use Rattle.platform_machine.specs.Step.{with_frame}
use Rattle.platform_machine.proofs.BegunLemmas.{AreBodiesReadBack}
use Rattle.platform_machine.proofs.CommandLemmas.{AreWritten, command_keeps}
use Rattle.platform_machine.proofs.StepLaws.{answer_keeps, ask_keeps, finish_keeps, put_keeps, resend_keeps, start_keeps, start_reply_keeps}

pub step_keeps : (roster : RosterRecord) (keys : Keys) (me : PlatformCode) (diary : List Frame) (now : Moment)
    (request : RequestRecord) (step : Step) → AreWritten → AreBodiesReadBack → IsRoster roster
    → IsLegal roster keys me diary → MayBeAsked diary now request → Steps roster keys me diary now request step
    → IsLegal roster keys me (with_frame diary step.frame)
step_keeps roster keys me diary now (commands party command) step written back listed legal asked steps =
    command_keeps roster keys me diary now party command step written listed legal asked.0 asked.1 steps
step_keeps roster keys me diary now (starts body) step written back listed legal asked steps =
    start_keeps roster keys me diary body step back legal steps
step_keeps roster keys me diary now (puts reference checksum bytes) step written back listed legal asked steps =
    put_keeps roster keys me diary reference checksum bytes step legal steps
step_keeps roster keys me diary now (finishes reference) step written back listed legal asked steps =
    finish_keeps roster keys me diary reference step legal steps
step_keeps roster keys me diary now (start_replies bill bytes) step written back listed legal asked steps =
    start_reply_keeps roster keys me diary bill bytes step legal steps
step_keeps roster keys me diary now (finish_replies bill bytes) step written back listed legal asked steps =
    answer_keeps roster keys me diary bill bytes step legal steps
step_keeps roster keys me diary now (resends bill) step written back listed legal asked steps =
    resend_keeps roster keys me diary bill step legal steps
step_keeps roster keys me diary now (asks bill) step written back listed legal asked steps =
    ask_keeps roster keys me diary bill step legal steps
