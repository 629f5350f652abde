use Rattle.canonical_json.specs.View.{view}
use Rattle.world_script.specs.Event.{event_view}
use Rattle.world_events.proofs.Nesting.{if_some_nested, nested_event}
use Rattle.world_events.proofs.script.event_of.Goals as goal

pub returns-in-Ok-clause-nests : goal.returns-in-Ok-clause-nests
returns-in-Ok-clause-nests c =
    if_some_nested c.if_listed.result (event_view c.in-Ok.event) c.if_listed.ensures.same
    (nested_event (view c.args.json.now) (event_view c.in-Ok.event) c.requires.nests c.in-Ok.ensures.ok)
