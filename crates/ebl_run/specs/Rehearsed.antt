-- What a rehearsal has written, and what it leaves.
use Rattle.std.specs.Prelude.{◌≡◌, ℕ, List, Option}
use Rattle.signed_envelope.specs.KeyRing.{Keys}
use Rattle.journaled_shard.specs.declared.rack.Rack.{Rack}
use Rattle.platform_world.specs.World.{opening}
use Rattle.rehearsal.specs.Roster.{made_roster}
use Rattle.rehearsal.specs.Run.{Rehearsal, Rehearses, complete}
use Rattle.ebl_run.specs.Racks.{AreLeft, keys_of}
use Rattle.ebl_run.specs.Rehearse.{HasFates, output_of}
use Rattle.ebl_run.specs.Status.{EndsAs}
use Rattle.ebl_run.specs.declared.ended.Ended.{Ended}
use Rattle.ebl_run.specs.declared.status.Status.TheVariants.{WriteFault}

-- what was written is, by the status, the line of such a rehearsal; where the sink fails, of a whole one. The events of
-- a whole one have the fates that are handed back, and the racks are as it leaves them
pub record Rehearsed {D G : Type 0} (seen : D → List ℕ) (may_leave : D → List ℕ → Type 0) (disk_faults : D → ℕ)
    (keys : G → Keys) (ring_faults : G → ℕ) (seed bills steps : ℕ) (racks : List (Rack D G)) (ended : Ended D G)
    (old new : Option (List ℕ)) : Type 0 where
  pub run : Rehearsal
  pub goes : Rehearses seed bills steps (opening made_roster (keys_of keys racks)) run
  pub wrote : EndsAs ended.status (λ out. out ≡ output_of bills run) old new
  pub whole : ended.status ≡ WriteFault → run.end ≡ complete
  pub fates : HasFates run ended.fates
  pub left : run.end ≡ complete
      → AreLeft seen may_leave disk_faults keys ring_faults run.happened run.last.platforms racks ended.racks
