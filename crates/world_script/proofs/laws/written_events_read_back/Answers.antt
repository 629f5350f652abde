use Rattle.world_script.proofs.RoundTrips.{event_of-event_value}
use Rattle.world_script.proofs.laws.written_events_read_back.Goals as goal

pub returns : goal.returns
returns c = event_of-event_value
