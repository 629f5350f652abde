use Rattle.std.proofs.Common.{Ok, Err, sym, ◌∙◌}
use Rattle.bill_diary.proofs.LinkLemmas.{links_on-behind}
use Rattle.bill_diary.proofs.links.title_after.Goals as goal

pub returns-in-Err : goal.returns-in-Err
returns-in-Err c =
    sym (links_on-behind c.args.links.now c.loop-link.link-index c.link-item.result c.loop-link.title
    (Err c.in-Err.rule) c.as_slice.result.now c.loop-link-test.true c.link-item.is c.as_slice.ensures c.in-Err.ensures)
    ∙ c.loop-link.invariant

pub loop-link-preserved : goal.loop-link-preserved
loop-link-preserved c =
    sym (links_on-behind c.args.links.now c.loop-link.link-index c.link-item.result c.loop-link.title
    (Ok c.in-Ok.after) c.as_slice.result.now c.loop-link-test.true c.link-item.is c.as_slice.ensures c.in-Ok.ensures)
    ∙ c.loop-link.invariant
