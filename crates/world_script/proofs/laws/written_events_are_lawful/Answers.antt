use Rattle.world_script.proofs.CanonicalForms.{event-lawful, event-texts}
use Rattle.world_script.proofs.laws.written_events_are_lawful.Goals as goal

pub returns-clause-lawful : goal.returns-clause-lawful
returns-clause-lawful c = event-lawful

pub returns-clause-texts : goal.returns-clause-texts
returns-clause-texts c = event-texts
