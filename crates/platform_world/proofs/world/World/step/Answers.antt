use Rattle.world_script.specs.Event.{event_view}
use Rattle.world_events.specs.Happening.{comes_to}
use Rattle.platform_world.proofs.Asked.{cut_behind, on_err_so}
use Rattle.platform_world.proofs.world.World.step.Goals as goal

pub returns-clause-short : goal.returns-clause-short
returns-clause-short g c =
    on_err_so c.line_of.result
    (cut_behind g.M.Machine.seen g.M.Machine.faults c.args.self.now
    (comes_to c.args.self.now.signed c.args.self.now.sent (event_view c.args.event)) c.in_ok-answer.answer
    c.take.new.self c.in_ok-answer.ensures.ok)
