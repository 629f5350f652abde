use Rattle.std.proofs.Common.{◌≡◌, ◌≤◌, length}
use Rattle.ebl_base.specs.declared.party.Party.{Party}
use Rattle.pint_http.specs.Session.{GoesOn}
use Rattle.pint_http.proofs.SessionLemmas.{Progress}
use Rattle.pint_http.proofs.serve.serve_with.Given as goal

abbrev pub invariant-loop-count : goal.invariant-loop-count
invariant-loop-count g l =
    let left = g.L.Link.left in
    let written = g.L.Link.written in
    let given = g.C.Clock.given in
    record {
      progress : Progress (left l.fn.link) (left l.link) (written l.fn.link) (written l.link) (given l.fn.clock) (given l.clock)
          l.buffer.items (g.K.Desk.known l.fn.desk) (λ calls. GoesOn g.K.Desk.run l.fn.desk calls l.desk) l._count;
      room : length l.buffer.items ≤ 16384;
      known : (party : Party) → g.K.Desk.known l.desk party ≡ g.K.Desk.known l.fn.desk party;
      later : g.L.Link.faults l.fn.link ≤ g.L.Link.faults l.link;
    }
