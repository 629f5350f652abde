use Rattle.std.proofs.Common.{◌≡◌, suc, ◌-◌, ◌<◌, true, false, take, slice_index, ap, ◌∙◌, arith, rules}
use Rattle.std.specs.Str.Parse.{digits_value_after}
use Rattle.std.proofs.lemmas.Bool.{and_parts, eqb-true}
use Rattle.canonical_json.specs.Number.{lowest}
use Rattle.canonical_json.specs.Faults.{ends_in_zero}
use Rattle.canonical_json.proofs.Numbers.{zero_stripped, stripped, AllDigits-take}
use Rattle.canonical_json.proofs.number.without_ending_zeros.Goals as goal

pub loop-end-preserved : goal.loop-end-preserved
loop-end-preserved c =
    let xs = c.args.digits.now in
    let end = c.loop-end.end in
    let yes : ends_in_zero xs end ≡ true = search rules in
    let some : 0 < end = search rules in
    let zero : slice_index xs (end - 1) ≡ 48 = eqb-true _ 48 (and_parts _ _ yes).1 in
    let more : end ≡ suc (end - 1) = omega arith in (
      omega (arith, c.loop-end.invariant.0),
      λ n. c.loop-end.invariant.1 n ∙ ap (λ k. lowest (digits_value_after 10 n (take k xs)) k) more ∙ zero_stripped n xs (end - 1) 0 (omega (arith, c.loop-end.invariant.0)) zero,
    )

pub returns-clause-lowest : goal.returns-clause-lowest
returns-clause-lowest c n =
    let no : ends_in_zero c.args.digits.now c.loop-end.end ≡ false = search rules in
    c.loop-end.invariant.1 n ∙ stripped n c.args.digits.now c.loop-end.end c.loop-end.invariant.0 c.requires no

pub returns-clause-digits : goal.returns-clause-digits
returns-clause-digits c = AllDigits-take c.args.digits.now c.loop-end.end c.requires
