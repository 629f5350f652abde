use Rattle.std.proofs.Common.{sym, ◌∙◌}
use Rattle.closed_family.specs.Family.{histories_of}
use Rattle.closed_family.proofs.Lacks.{unparted-stands, unparted-lacks, if_ok-same}
use Rattle.closed_family.proofs.lacking.first_unparted.Goals as goal

pub returns-then-not-stands : goal.returns-then-not-stands
returns-then-not-stands c =
    let link = c.link-item.result in
    if_ok-same c.of_entry.result _ _
    (sym (unparted-lacks (histories_of c.args.bill c.args.family.now) c.args.chain.now c.loop-link.link-index link
    c.loop-link-test.true c.link-item.is (sym c.stands.ensures ∙ c.if-not-stands.true))
    ∙ sym c.loop-link.invariant)
    c.of_entry.ensures

pub loop-link-preserved : goal.loop-link-preserved
loop-link-preserved c =
    let link = c.link-item.result in
    c.loop-link.invariant
    ∙ unparted-stands (histories_of c.args.bill c.args.family.now) c.args.chain.now c.loop-link.link-index link
    c.loop-link-test.true c.link-item.is (sym c.stands.ensures ∙ c.if-not-stands.false)
