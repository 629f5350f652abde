use Rattle.std.proofs.Common.{◌≡◌, ℕ, ◌+◌, Option, Some, ap, subst, ◌∙◌}
use Rattle.std.specs.Prelude.{unwrap_or}
use Rattle.std.specs.BTreeMap.{get, Updates}
use Rattle.ebl_base.specs.Checksum.{checksum_cmp}
use Rattle.ebl_base.specs.declared.checksum.Checksum.{Checksum}
use Rattle.bill_diary.specs.Linked.{bill_in, end_in}
use Rattle.bill_diary.proofs.LinkedLemmas.{indexed_more}
use Rattle.bill_diary.proofs.index.DiaryIndex.of.Goals as goal

pub loop-i-preserved : goal.loop-i-preserved
loop-i-preserved c =
    let i = c.loop-i.i in
    let ends = c.loop-i.ends in
    let frame = c.index-frames-i.result in
    let link_is : c.unwrap_or.result ≡ end_in ends (bill_in frame)
    = c.unwrap_or.ensures
    ∙ ap (λ (o : Option ℕ). unwrap_or o 0)
    (c.in_ok-end.ensures.old ∙ ap (get checksum_cmp ends) c.bill.ensures) in
    let updates : Updates checksum_cmp ends c.insert.new.self (bill_in frame) (Some (i + 1))
    = subst (λ (bill : Checksum). Updates checksum_cmp ends c.insert.new.self bill (Some (i + 1))) c.bill.ensures
    c.in_ok-end.ensures.updates in
    indexed_more c.args.frames.now c.loop-i.links.items c.push.new.self.items ends c.insert.new.self i
    c.unwrap_or.result frame c.loop-i-test.true c.index-frames-i.is link_is c.in_ok-push.ensures.items updates
    c.loop-i.invariant.0 c.loop-i.invariant.1 c.loop-i.invariant.2
