-- The parcels are those of the messages so far.
use Rattle.std.proofs.Common.{◌≡◌, map}
use Rattle.world_events.specs.Parcels.{message_parcel}
use Rattle.world_events.proofs.parcels.message_parcels.Given as goal

abbrev pub invariant-loop-message : goal.invariant-loop-message
invariant-loop-message l = l.parcels.items ≡ map (message_parcel l.from) l.yielded
