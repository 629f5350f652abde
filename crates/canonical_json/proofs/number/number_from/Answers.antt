use Rattle.std.proofs.Common.{◌≡◌, ◌==◌, length, true, min, sym, ap, ◌∙◌, subst, rules}
use Rattle.std.specs.Str.Parse.{digits_value_after}
use Rattle.canonical_json.specs.Faults.{IsNoted}
use Rattle.canonical_json.specs.Number.{from_parts, lowest}
use Rattle.canonical_json.proofs.Numbers.{capped_start, from_parts-exact}
use Rattle.canonical_json.proofs.number.number_from.Goals as goal

pub returns-clause-noted : goal.returns-clause-noted
returns-clause-noted c =
    let p = c.scan-numeral.result in
    let v = digits_value_after 10 0 p.whole in
    let f = c.without_ending_zeros-fraction.result.now in
    let low : lowest (digits_value_after 10 v p.fraction) (length p.fraction) ≡ (digits_value_after 10 v f, length f) =
    ap (λ l. lowest (digits_value_after 10 v l) (length l)) (sym c.fraction.ensures.value) ∙ c.without_ending_zeros-fraction.ensures.lowest v in
    let none : (length p.exponent == 0) ≡ true = search rules in
    let size : c.capped_size-size.result ≡ min (digits_value_after 10 v f) 9007199254740992 =
    c.capped_size-size.ensures ∙ ap (λ k. min (digits_value_after 10 k f) 9007199254740992) (c.capped_size.ensures ∙ ap (λ l. min (digits_value_after 10 0 l) 9007199254740992) c.whole.ensures.value)
    ∙ capped_start v f in
    let same = ap (from_parts c.args.negative) (sym c.scan-numeral.ensures.parts) ∙ from_parts-exact c.args.negative p (digits_value_after 10 v f) (length f) none low in
    subst (λ r. IsNoted r c.args.faults.now c.exact.new.faults c.exact.result) (sym same) (c.exact.ensures.noted (digits_value_after 10 v f) size)
