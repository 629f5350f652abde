-- The shards so far were opened from the first racks; the rest stand in the opposite order.
use Rattle.std.proofs.Common.{◌≡◌, ◌≤◌, ◌+◌}
use Rattle.std.specs.Prelude.{vec_capacity, vec_len}
use Rattle.platform_office.proofs.OpeningLemmas.{AreOpened}
use Rattle.platform_office.proofs.opening.open_all.Given as goal

abbrev pub invariant-loop-rack : goal.invariant-loop-rack
invariant-loop-rack g l = record {
  opened : AreOpened g.D.Disk.tells g.D.Disk.seen g.D.Disk.faults l.me l.roster l.fn.racks.items l.opened.items
      l.rest.items;
  len : vec_len l.opened + vec_len l.rest ≡ vec_len l.fn.racks;
  room : vec_len l.fn.racks ≤ vec_capacity l.opened;
  rest : vec_len l.fn.racks ≤ vec_capacity l.rest;
}

abbrev pub decreases-loop-rack : goal.decreases-loop-rack
decreases-loop-rack g l = vec_len l.rest
