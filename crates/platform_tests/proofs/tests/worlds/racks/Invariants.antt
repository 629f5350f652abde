-- So many racks have blank disks.
use Rattle.std.proofs.Common.{◌≡◌, length, true}
use Rattle.disk_model.specs.Record.{DiskRecord}
use Rattle.platform_world.specs.Opening.{AreBlank}
use Rattle.platform_tests.proofs.tests.worlds.racks.Given as goal

abbrev pub invariant-loop-place : goal.invariant-loop-place
invariant-loop-place l = record {
  count : length l.racks.items ≡ l.place;
  blank : AreBlank (λ (d : DiskRecord). true) (λ (d : DiskRecord). d.seen) l.racks.items;
}
