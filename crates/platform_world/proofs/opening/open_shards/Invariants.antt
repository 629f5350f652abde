-- The shards so far are opened, on the first of the racks.
use Rattle.std.proofs.Common.{◌≡◌, ◌≤◌, ◌+◌, length, reverse}
use Rattle.std.specs.Prelude.{vec_capacity, vec_len}
use Rattle.platform_world.specs.Opening.{IsOpening}
use Rattle.platform_world.specs.Platforms.{codes_of}
use Rattle.platform_world.proofs.opening.open_shards.Given as goal

abbrev pub invariant-loop-position : goal.invariant-loop-position
invariant-loop-position g l = record {
  opening : IsOpening g.D.Disk.tells g.D.Disk.faults l.roster (codes_of l.roster.platforms)
      (reverse l.initial.racks.items) l.shards.items (reverse l.racks.items);
  count : length l.shards.items ≡ l.position;
  len : vec_len l.racks + l.position ≡ vec_len l.initial.racks;
  capacity : vec_capacity l.racks ≡ vec_capacity l.initial.racks;
  room : l.needed ≤ vec_capacity l.shards;
}
