-- So many disks were measured, and all of them are blank.
use Rattle.std.proofs.Common.{◌≡◌, ◌<◌, ℕ, [], drop}
use Rattle.std.specs.Prelude.{Some, slice_get}
use Rattle.ebl_run.specs.Racks.{AreMeasured}
use Rattle.ebl_run.proofs.racks.measure.Given as goal

abbrev pub invariant-loop-place : goal.invariant-loop-place
invariant-loop-place g l =
    let disk = g.D.Disk in
    record {
      measured : AreMeasured disk.tells disk.seen disk.faults l.fn.racks.items l.racks.items;
      further : drop l.needed l.racks.items ≡ drop l.needed l.fn.racks.items;
      blank : (k : ℕ) (rack : _) → k < l.place → slice_get l.fn.racks.items k ≡ Some rack → disk.seen rack.disk ≡ [];
    }
