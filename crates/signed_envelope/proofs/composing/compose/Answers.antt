use Rattle.std.proofs.Common.{◌≡◌, ◌++◌, ◌∷◌, length, ap, ◌∙◌, arith}
use Rattle.std.specs.String.{string_bytes}
use Rattle.canonical_json.specs.Canon.{canon}
use Rattle.canonical_json.specs.View.{view}
use Rattle.signed_envelope.specs.Compact.{base64url, compact_text}
use Rattle.signed_envelope.specs.Header.{header_text}
use Rattle.signed_envelope.proofs.LengthLemmas.{length-compact_text, length-header}
use Rattle.signed_envelope.proofs.composing.compose.Goals as goal

pub returns-then-len-most-clause-long : goal.returns-then-len-most-clause-long
returns-then-len-most-clause-long g c same =
    let head = header_text c.alg.result c.args.who in
    let payload = canon (view c.args.payload.now) in
    let signed = c.as_bytes-2.result.now in
    let made : string_bytes c.push_part.new.text ≡ compact_text head payload signed =
    c.in_ok-push_part.ensures ∙ ap (λ bytes. bytes ++ 46 ∷ base64url signed) c.in_ok-text.ensures.text in
    let long = c.if-len-most.true in
    let count = c.len.ensures in
    omega (
      arith,
      length-compact_text head payload signed,
      length-header c.alg.result c.args.who c.in_ok-text.ensures.code,
      c.as_bytes-2.ensures.most,
      ap length made,
      long,
      count,
    )
