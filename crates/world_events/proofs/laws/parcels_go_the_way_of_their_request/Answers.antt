use Rattle.world_events.proofs.Paths.{path_leads}
use Rattle.world_events.proofs.laws.parcels_go_the_way_of_their_request.Goals as goal

pub returns : goal.returns
returns c = path_leads
