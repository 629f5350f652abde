use Rattle.std.proofs.Common.{◌+◌, ◌∙◌, inl, ap}
use Rattle.disk_model.specs.Disk.{written}
use Rattle.disk_model.proofs.Moments.{LeavesOnly-weaker, LeavesOnly-trans}
use Rattle.bill_journal.specs.Journal.{WithOrWithout}
use Rattle.bill_journal.proofs.StageLemmas.{torn_behind, torn_gate, staged, first_torn, second_torn, settled_after}
use Rattle.bill_journal.proofs.steps.write_frame.Goals as goal

pub returns-in_err-put-clause-loose : goal.returns-in_err-put-clause-loose
returns-in_err-put-clause-loose g c h x told settled short is = record {
  now = inl (torn_behind _ _ h c.args.end _ settled.stands settled.place (c.put.ensures.seen told));
  crash = λ f left. inl (first_torn _ _ h c.args.end _ settled f (c.put.ensures.crash told f left));
}

pub returns-in_err-put-clause-any_moment : goal.returns-in_err-put-clause-any_moment
returns-in_err-put-clause-any_moment g c h x told settled short is =
    LeavesOnly-weaker g.D.Disk.moment g.D.Disk.left_since c.args.disk.now c.put.new.disk _ (WithOrWithout h x)
    (λ f torn. inl (first_torn _ _ h c.args.end _ settled f torn)) (c.put.ensures.time told)

pub returns-clause-appended : goal.returns-clause-appended
returns-clause-appended g c h x told settled short is =
    let still = c.put.ensures.told ∙ told in
    let stage = staged _ _ h x c.args.end settled.stands settled.place
    (c.in_ok-put.ensures.done told ∙ ap (written (g.D.Disk.seen c.args.disk.now) (c.args.end + 1)) is) in
    settled_after c.put-2.result _ _ _ h x c.args.bytes.now c.args.end stage short settled.place is
    (c.put-2.ensures.done still) (c.put-2.ensures.durable still)

pub returns-clause-loose : goal.returns-clause-loose
returns-clause-loose g c h x told settled short is =
    let still = c.put.ensures.told ∙ told in
    let stage = staged _ _ h x c.args.end settled.stands settled.place
    (c.in_ok-put.ensures.done told ∙ ap (written (g.D.Disk.seen c.args.disk.now) (c.args.end + 1)) is) in
    record {
      now = torn_gate _ _ h x c.args.end stage short settled.place (c.put-2.ensures.seen still);
      crash = λ f left. second_torn _ _ h x c.args.end stage short settled.place (c.in_ok-put.ensures.durable told) f
          (c.put-2.ensures.crash still f left);
    }

pub returns-clause-any_moment : goal.returns-clause-any_moment
returns-clause-any_moment g c h x told settled short is =
    let still = c.put.ensures.told ∙ told in
    let stage = staged _ _ h x c.args.end settled.stands settled.place
    (c.in_ok-put.ensures.done told ∙ ap (written (g.D.Disk.seen c.args.disk.now) (c.args.end + 1)) is) in
    let first = LeavesOnly-weaker g.D.Disk.moment g.D.Disk.left_since c.args.disk.now c.put.new.disk _
    (WithOrWithout h x)
    (λ f torn. inl (first_torn _ _ h c.args.end _ settled f torn)) (c.put.ensures.time told) in
    let second = LeavesOnly-weaker g.D.Disk.moment g.D.Disk.left_since c.put.new.disk c.put-2.new.disk _
    (WithOrWithout h x)
    (λ f torn. second_torn _ _ h x c.args.end stage short settled.place (c.in_ok-put.ensures.durable told) f torn)
    (c.put-2.ensures.time still) in
    LeavesOnly-trans g.D.Disk.moment g.D.Disk.left_since c.args.disk.now c.put.new.disk c.put-2.new.disk
    (WithOrWithout h x) first second
