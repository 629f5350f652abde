use Rattle.std.proofs.Common.{◌≡◌, ℕ, ◌+◌, ◌*◌, slice_index, Some, sym, ◌∙◌, arith}
use Rattle.std.proofs.lemmas.List.{length-set}
use Rattle.hex.proofs.Pairs.{decode_step}
use Rattle.document_checksum.proofs.Pairs.{is_lower-some, lower_step, lower_value, pair_of, whole}
use Rattle.document_checksum.proofs.text.from_text.Goals as goal

pub bytes-preserved : goal.bytes-preserved
bytes-preserved c =
    let text = c.args.text.now in
    let at = c.bytes.at in
    let first : ℕ = slice_index text (2 * at) in
    let second : ℕ = slice_index text (2 * at + 1) in
    let high : lower_value first ≡ Some c.in_ok-high.high = sym c.digit_value.ensures.value ∙ c.in_ok-high.was in
    let low : lower_value second ≡ Some c.in_ok-low.low = sym c.digit_value-in-bytes.ensures.value ∙ c.in_ok-low.was in (
      length-set _ _ _ ∙ c.bytes.invariant.0,
      lower_step text at (omega arith) (is_lower-some first _ high) (is_lower-some second _ low) c.bytes.invariant.1,
      decode_step text _ at _ (omega arith) (omega (arith, c.bytes.invariant.0))
          (pair_of first second (2 * at) _ _ high low) c.bytes.invariant.2,
    )

pub returns-clause-value : goal.returns-clause-value
returns-clause-value c =
    whole c.args.text.now c.bytes.bytes c.bytes.at (omega arith) c.bytes.invariant.0 (omega arith)
    c.bytes.invariant.1 c.bytes.invariant.2
