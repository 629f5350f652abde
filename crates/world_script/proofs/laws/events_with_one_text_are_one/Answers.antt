use Rattle.std.proofs.Common.{Result, sym, ap, ◌∙◌}
use Rattle.std.specs.Result.{result_unwrap_or}
use Rattle.world_script.specs.Event.{EventRecord}
use Rattle.world_script.specs.declared.fault.EventFault.{EventFault}
use Rattle.world_script.specs.Reading.{event_of}
use Rattle.world_script.specs.Writing.{event_value}
use Rattle.world_script.proofs.CanonicalForms.{event-lawful}
use Rattle.world_script.proofs.RoundTrips.{event_of-event_value}
use Rattle.world_script.proofs.laws.events_with_one_text_are_one.Goals as goal

pub returns : goal.returns
returns c a b first second same =
    let values = c.equal_texts_have_equal_values.ensures (event_value a) (event_value b) (event-lawful a first) (event-lawful b second) same in
    ap (λ (r : Result EventRecord EventFault). result_unwrap_or r a)
    (sym (event_of-event_value a first) ∙ ap event_of values ∙ event_of-event_value b second)
