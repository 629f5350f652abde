use Rattle.std.proofs.Common.{◌≡◌, sym, ap, ◌∙◌, arith}
use Rattle.platform_requests.specs.Shard.{shard_of_bill}
use Rattle.platform_office.proofs.OpeningLemmas.{own_next, stray_here}
use Rattle.platform_office.proofs.shard.first_stray.Goals as goal

pub loop-frame-preserved : goal.loop-frame-preserved
loop-frame-preserved c = record {
  count = omega (arith, c.loop-frame.invariant.count);
  own = own_next c.args.number c.args.diary.now c.loop-frame.frame-index c.frame-item.result c.loop-frame-test.true
      c.frame-item.is c.loop-frame.invariant.own
      (ap shard_of_bill (sym c.bill.ensures) ∙ sym c.shard_of_bill.ensures.shard ∙ c.if-shard_of_bill-number.false);
}

pub returns-then-shard_of_bill-number-clause-stray : goal.returns-then-shard_of_bill-number-clause-stray
returns-then-shard_of_bill-number-clause-stray c =
    stray_here c.args.number c.args.diary.now c.loop-frame.frame-index c.loop-frame.count c.frame-item.result
    (sym c.loop-frame.invariant.count) c.loop-frame-test.true c.frame-item.is c.loop-frame.invariant.own
    (λ own. c.if-shard_of_bill-number.true (c.shard_of_bill.ensures.shard ∙ ap shard_of_bill c.bill.ensures ∙ own))

pub returns-then-shard_of_bill-number-clause-within : goal.returns-then-shard_of_bill-number-clause-within
returns-then-shard_of_bill-number-clause-within c =
    omega (arith, c.loop-frame.invariant.count, c.loop-frame-test.true)
