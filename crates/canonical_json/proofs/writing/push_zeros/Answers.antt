use Rattle.std.proofs.Common.{◌≡◌, ◌+◌, ◌-◌, ◌++◌, [], ◌∷◌, replicate, sym, ap, ap₂, ◌∙◌, append_assoc, arith}
use Rattle.canonical_json.proofs.Numbers.{zeros_more}
use Rattle.canonical_json.proofs.writing.push_zeros.Goals as goal

pub loop-preserved : goal.loop-preserved
loop-preserved c =
    let left = c.args.count - c.loop.counter in
    let less : c.args.count - (c.loop.counter + 1) ≡ left - 1 = omega arith in
    ap₂ (λ a n. a ++ replicate n 48) c.in_ok-push.ensures.items less ∙ append_assoc c.loop.out.items (48 ∷ []) (replicate (left - 1) 48)
    ∙ ap (λ l. c.loop.out.items ++ l) (sym (zeros_more left (omega arith))) ∙ c.loop.invariant
