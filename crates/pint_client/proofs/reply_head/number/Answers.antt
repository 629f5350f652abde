use Rattle.std.proofs.Common.{arith}
use Rattle.pint_client.proofs.NumberLemmas.{next_digit}
use Rattle.pint_client.proofs.reply_head.number.Goals as goal

pub overflow_mul-count : goal.overflow_mul-count
overflow_mul-count c =
    let next = next_digit c.args.digits.now c.loop-digit.digit-index c.requires c.loop-digit-test.true in
    let same = c.loop-digit.invariant in
    omega (arith, next.more, next.most, same)

pub overflow_sub-digit : goal.overflow_sub-digit
overflow_sub-digit c = (next_digit c.args.digits.now c.loop-digit.digit-index c.requires c.loop-digit-test.true).low

pub overflow_add-count : goal.overflow_add-count
overflow_add-count c =
    let next = next_digit c.args.digits.now c.loop-digit.digit-index c.requires c.loop-digit-test.true in
    let same = c.loop-digit.invariant in
    let digit = c.from.ensures in
    omega (arith, next.more, next.most, same, digit)

pub loop-digit-preserved : goal.loop-digit-preserved
loop-digit-preserved c =
    let next = next_digit c.args.digits.now c.loop-digit.digit-index c.requires c.loop-digit-test.true in
    let same = c.loop-digit.invariant in
    let digit = c.from.ensures in
    omega (arith, next.more, same, digit)
