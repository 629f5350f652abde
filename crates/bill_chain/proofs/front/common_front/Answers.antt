use Rattle.std.proofs.Common.{◌+◌, ◌∙◌, add-zero, ap, drop, sym}
use Rattle.std.proofs.lemmas.List.{at_drop_all}
use Rattle.bill_chain.specs.Chain.{common_front}
use Rattle.bill_chain.proofs.FrontLemmas.{common_with_none}
use Rattle.bill_chain.proofs.front.common_front.Goals as goal

pub returns-else-place-b : goal.returns-else-place-b
returns-else-place-b c =
    let place = c.loop-place.place in
    let rest = drop place c.args.a.now in
    sym (add-zero place)
    ∙ sym (ap (λ n. place + n)
    (at_drop_all (common_front rest) c.args.b.now place c.if-place-b.false ∙ common_with_none rest))
    ∙ c.loop-place.invariant.common
