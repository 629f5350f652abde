-- What a thread takes with it, and what it gives back, may cross.
use denote.Exit.{no}
use denote.Param.{param}
use denote.Param.Send.{param_send, arg_send, sendable}
use denote.Struct.Tuple.{TupleAt}
use Rattle.std.specs.Prelude.{codes}
use Rattle.std.specs.contracts.option.Option as Option
use Rattle.office_bench.proofs.Sending.{Given, Taken, given_send, taken_send}
use Rattle.office_bench.proofs.threads.+fn-spread-join+arg2+fn-spread-join+arg3+spread.Goals as goal

pub join-mine-requires-send-F : goal.join-mine-requires-send-F
join-mine-requires-send-F g t c κs within =
    param_send 1 _ (arg_send _ no (TupleAt (codes "office_bench::threads::fn::spread::join+arg2+Self")
    (Taken (param 0 g.row.D) g.D.Disk g.row.R _ _))
    (taken_send (param 0 g.row.D) g.D.Disk (codes "office_bench::threads::fn::spread::join+arg2+Self") g.row.R _ _
    (search (sendable, c.requires.crosses)) (search (sendable, c.requires.crosses))))

pub join-mine-requires-send-A : goal.join-mine-requires-send-A
join-mine-requires-send-A g t c κs within =
    param_send 3 _ (arg_send _ no (Option.the_row (Given (param 0 g.row.D) g.D.Disk))
    (given_send (param 0 g.row.D) g.D.Disk (search (sendable, c.requires.crosses))))
