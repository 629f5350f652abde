use Rattle.std.proofs.Common.{arith}
use Rattle.pint_client.proofs.ReplyLemmas.{stated_by_parts, none_is_some, one_some}
use Rattle.pint_client.proofs.reply_head.reply_head.Goals as goal

pub returns-in_default-stated_length-clause-none : goal.returns-in_default-stated_length-clause-none
returns-in_default-stated_length-clause-none c status size states =
    let some = c.in-Some.ensures.some in
    let found = stated_by_parts c.args.piece.now some.0 c.in-Some.head.code _ c.stated_length.result
    some.1 some.3.code some.3.fields c.stated_length.ensures status size states in
    none_is_some c.stated_length.result size c.in_default-stated_length.is found

pub returns-then-size-gt-MAX_BODY-clause-none : goal.returns-then-size-gt-MAX_BODY-clause-none
returns-then-size-gt-MAX_BODY-clause-none c status size states =
    let some = c.in-Some.ensures.some in
    let found = stated_by_parts c.args.piece.now some.0 c.in-Some.head.code _ c.stated_length.result
    some.1 some.3.code some.3.fields c.stated_length.ensures status size states in
    let same = one_some c.stated_length.result c.in-Some-stated_length.size size c.in-Some-stated_length.is found in
    absurd (omega (arith, same))
