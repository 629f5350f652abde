-- So many lines were answered, and what was written is their answers.
use Rattle.std.proofs.Common.{◌≡◌, ◌+◌, ◌≤◌, length}
use Rattle.ebl_base.specs.Segments.{segments_of}
use Rattle.ebl_run.specs.Drive.{first_bad}
use Rattle.ebl_run.proofs.RunLemmas.{Reached}
use Rattle.ebl_run.proofs.drive.run_events.Given as goal

abbrev pub invariant-loop-line : goal.invariant-loop-line
invariant-loop-line g l =
    let written = g.K.Sink.written in
    let roster = l.fn.world.platforms.roster in
    record {
      reached : Reached g.M.Machine.seen g.M.Machine.faults roster (segments_of 10 l.fn.lines) l.fn.world (segments_of 10 l.rest) l.n l.world (written l.fn.sink) (written l.sink);
      left : first_bad roster l.n (segments_of 10 l.rest) ≡ first_bad roster 1 (segments_of 10 l.fn.lines);
      numbered : l.n ≤ 100000;
      counted : length l.world.fates + 1 ≡ l.n;
      same_roster : l.world.platforms.roster ≡ roster;
      spare : l.world.platforms.spare ≡ l.fn.world.platforms.spare;
      later : g.K.Sink.faults l.fn.sink ≤ g.K.Sink.faults l.sink;
    }

abbrev pub decreases-loop-line : goal.decreases-loop-line
decreases-loop-line g l = length l.rest
