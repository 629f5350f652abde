use Rattle.std.proofs.Common.{◌≡◌, ◌≤◌, ◌-◌, length, take}
use Rattle.std.specs.Prelude.{Err}
use Rattle.std.specs.Io.KnownBytes.{Consumes}
use Rattle.http_heads.specs.declared.scan.Scan.TheVariants.{Blank}
use Rattle.http_heads.specs.Scan.{scan}
use Rattle.pint_client.proofs.receiving.await_head.Given as goal

abbrev pub invariant-loop-count : goal.invariant-loop-count
invariant-loop-count g l = record {
  within : l.count ≤ length l.buffer;
  room : length l.buffer ≡ 16384;
  scanned : scan 0 Blank (take l.count l.buffer) ≡ Err l.scan;
  consumed : Consumes (g.L.Link.left l.fn.link) (g.L.Link.left l.link) (take l.count l.buffer);
  written : g.L.Link.written l.link ≡ g.L.Link.written l.fn.link;
  later : g.L.Link.faults l.fn.link ≤ g.L.Link.faults l.link;
}

abbrev pub decreases-loop-count : goal.decreases-loop-count
decreases-loop-count g l = length l.buffer - l.count
