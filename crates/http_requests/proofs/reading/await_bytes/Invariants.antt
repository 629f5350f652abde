use Rattle.std.proofs.Common.{◌≡◌, ◌≤◌, ◌-◌, length}
use Rattle.std.specs.Prelude.{max}
use Rattle.http_requests.specs.Reading.{Fills}
use Rattle.http_requests.proofs.reading.await_bytes.Given as goal

abbrev pub invariant-loop-link : goal.invariant-loop-link
invariant-loop-link g l = record {
  filled : Fills (g.L.Link.left l.fn.link) (g.L.Link.left l.link) l.fn.buffer.items l.buffer.items;
  most : length l.buffer.items ≤ max (length l.fn.buffer.items) l.count;
  written : g.L.Link.written l.link ≡ g.L.Link.written l.fn.link;
  later : g.L.Link.faults l.fn.link ≤ g.L.Link.faults l.link;
}

abbrev pub decreases-loop-link : goal.decreases-loop-link
decreases-loop-link g l = l.count - length l.buffer.items
