use Rattle.std.proofs.Common.{◌≡◌, ◌+◌, ◌*◌, ◌-◌, min, drop, get_or, sym, ap, ◌∙◌, subst, arith}
use Rattle.std.proofs.lemmas.List.{drop_more}
use Rattle.std.proofs.lemmas.Str.{digit_value_digit}
use Rattle.std.proofs.lemmas.Str.Parse.{digit_from_value}
use Rattle.std.specs.Char.{digit_value}
use Rattle.std.specs.Str.Parse.{AllDigits, digits_value_after}
use Rattle.http_heads.proofs.LengthLemmas.{capped_start}
use Rattle.http_heads.proofs.fields.capped_length.Goals as goal

pub loop-digit-preserved : goal.loop-digit-preserved
loop-digit-preserved c =
    let xs = c.args.digits.now in
    let i = c.loop-digit.digit-index in
    let size = c.loop-digit.size in
    let d = get_or xs i 0 in
    let rest = drop (i + 1) xs in
    let split = drop_more xs i 0 c.loop-digit-test.true in
    let all = subst (AllDigits 10) split c.loop-digit.invariant.1 in
    let value : d - 48 ≡ digit_value d = omega (arith, digit_value_digit d (digit_from_value d all.0)) in
    let new : c.capped-size.result ≡ min (size * 10 + digit_value d) 4194305 = c.capped-size.ensures ∙ ap (λ k. min (size * 10 + k) 4194305) value in (
      omega (arith, new),
      all.1,
      ap (λ k. min (digits_value_after 10 k rest) 4194305) new ∙ capped_start (size * 10 + digit_value d) rest
          ∙ ap (λ l. min (digits_value_after 10 size l) 4194305) (sym split) ∙ c.loop-digit.invariant.2,
    )
