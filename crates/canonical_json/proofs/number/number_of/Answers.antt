use Rattle.std.proofs.Common.{◌≡◌, ◌-◌, true, false, length, take, drop, sym, ap, ◌∙◌, subst}
use Rattle.fast_float.specs.Text.{scan}
use Rattle.canonical_json.specs.Faults.{IsNoted}
use Rattle.canonical_json.specs.Number.{from_parts, number_in}
use Rattle.canonical_json.proofs.Numbers.{number_in-minus, number_in-plain, behind_first}
use Rattle.canonical_json.proofs.number.number_of.Goals as goal

pub returns-then-is_negative-clause-noted : goal.returns-then-is_negative-clause-noted
returns-then-is_negative-clause-noted c =
    let bytes = c.as_bytes-bytes.result.now in
    let same : from_parts true (scan (take (length bytes - 1) (drop 1 bytes))) ≡ number_in c.args.text.now =
    ap (λ l. from_parts true (scan l)) (behind_first bytes) ∙ sym (number_in-minus bytes (sym c.is_negative.ensures.value ∙ c.if-is_negative.true)) ∙ ap number_in c.as_bytes-bytes.ensures.value in
    subst (λ r. IsNoted r c.args.faults.now c.number_from.new.faults c.number_from.result) same c.number_from.ensures.noted

pub returns-else-is_negative-clause-noted : goal.returns-else-is_negative-clause-noted
returns-else-is_negative-clause-noted c =
    let bytes = c.as_bytes-bytes.result.now in
    let same : from_parts false (scan bytes) ≡ number_in c.args.text.now =
    sym (number_in-plain bytes (sym c.is_negative.ensures.value ∙ c.if-is_negative.false)) ∙ ap number_in c.as_bytes-bytes.ensures.value in
    subst (λ r. IsNoted r c.args.faults.now c.number_from-else-is_negative.new.faults c.number_from-else-is_negative.result) same c.number_from-else-is_negative.ensures.noted
