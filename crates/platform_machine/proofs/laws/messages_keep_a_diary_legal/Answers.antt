use Rattle.platform_machine.proofs.StepLaws.{answer_keeps, finish_keeps, put_keeps, start_keeps, start_reply_keeps}
use Rattle.platform_machine.proofs.laws.messages_keep_a_diary_legal.Goals as goal

pub returns-clause-start : goal.returns-clause-start
returns-clause-start c =
    λ roster keys me diary body step legal steps.
    start_keeps roster keys me diary body step c.written_bodies_read_back.ensures legal steps

pub returns-clause-put : goal.returns-clause-put
returns-clause-put c = put_keeps

pub returns-clause-finish : goal.returns-clause-finish
returns-clause-finish c = finish_keeps

pub returns-clause-start_reply : goal.returns-clause-start_reply
returns-clause-start_reply c = start_reply_keeps

pub returns-clause-finish_reply : goal.returns-clause-finish_reply
returns-clause-finish_reply c = answer_keeps
