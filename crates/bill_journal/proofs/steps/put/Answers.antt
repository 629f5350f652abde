use Rattle.std.proofs.Common.{◌∙◌, length}
use Rattle.disk_model.proofs.EventLemmas.{Torn-same}
use Rattle.disk_model.proofs.Moments.{started, goes_on}
use Rattle.bill_journal.specs.Journal.{TornFrom}
use Rattle.bill_journal.proofs.steps.put.Goals as goal

pub returns-in_err-write_at-clause-time : goal.returns-in_err-write_at-clause-time
returns-in_err-write_at-clause-time g c told =
    let n = length c.args.bytes.now in
    let P = TornFrom c.args.place n (g.D.Disk.may_leave c.args.disk.now) in
    let start = started g.D.Disk.moment g.D.Disk.left_since c.args.disk.now P
    (λ f left. (f, g.met.D.Disk.only_now c.args.disk.now f told left, Torn-same c.args.place n f)) in
    goes_on g.D.Disk.moment g.D.Disk.left_since c.args.disk.now c.args.disk.now c.write_at.new.self P _ start
    (c.write_at.ensures.time told) (c.write_at.ensures.crash told)

pub returns-clause-time : goal.returns-clause-time
returns-clause-time g c told =
    let n = length c.args.bytes.now in
    let P = TornFrom c.args.place n (g.D.Disk.may_leave c.args.disk.now) in
    let start = started g.D.Disk.moment g.D.Disk.left_since c.args.disk.now P
    (λ f left. (f, g.met.D.Disk.only_now c.args.disk.now f told left, Torn-same c.args.place n f)) in
    let wrote = goes_on g.D.Disk.moment g.D.Disk.left_since c.args.disk.now c.args.disk.now c.write_at.new.self P _ start
    (c.write_at.ensures.time told) (c.write_at.ensures.crash told) in
    let still = c.write_at.ensures.told ∙ told in
    goes_on g.D.Disk.moment g.D.Disk.left_since c.args.disk.now c.write_at.new.self c.sync.new.self P _ wrote
    (c.sync.ensures.time still)
    (λ f left. c.write_at.ensures.crash told f (c.sync.ensures.crash still f left))
