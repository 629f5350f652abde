use Rattle.std.proofs.Common.{◌≡◌, ◌≤◌, ◌-◌, List, ℕ, ◌++◌, take, length}
use Rattle.std.specs.Prelude.{Err, max}
use Rattle.std.specs.Io.KnownBytes.{Consumes}
use Rattle.http_heads.specs.Scan.{scan}
use Rattle.http_heads.specs.declared.scan.Scan.TheVariants.{Blank}
use Rattle.http_requests.specs.Reading.{Fills}
use Rattle.http_requests.proofs.reading.await_head.Given as goal

abbrev pub invariant-loop-len : goal.invariant-loop-len
invariant-loop-len g l = record {
  filled : Fills (g.L.Link.left l.fn.link) (g.L.Link.left l.link) l.fn.buffer.items l.buffer.items;
  scanned : scan 0 Blank (take l.seen l.buffer.items) ≡ Err l.state;
  seen : l.seen ≤ length l.buffer.items;
  short : l.seen ≤ 16384;
  most : length l.buffer.items ≤ max (length l.fn.buffer.items) 16384;
  written : g.L.Link.written l.link ≡ g.L.Link.written l.fn.link;
  later : g.L.Link.faults l.fn.link ≤ g.L.Link.faults l.link;
}

abbrev pub decreases-loop-len : goal.decreases-loop-len
decreases-loop-len g l = 16384 - length l.buffer.items
