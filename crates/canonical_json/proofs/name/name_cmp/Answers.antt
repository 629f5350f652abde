use Rattle.std.proofs.Common.{rules, ◌≡◌, ◌<◌, length, slice_index, sym, ap₂, ◌∙◌, inl, inr, ◌⊎◌, arith}
use Rattle.std.specs.Cmp.Lexicographic.{slice_cmp}
use Rattle.canonical_json.proofs.Bytes.{byte_cmp, byte_rank-apart, name_cmp-bytes, by_byte, by_length}
use Rattle.canonical_json.proofs.name.name_cmp.Goals.{else-same-left-via-then-same-left+else-same-right, else-same-left-via-else-same-left}
use Rattle.canonical_json.proofs.name.name_cmp.Goals as goal

pub returns-then-same-right : goal.returns-then-same-right
returns-then-same-right c =
    let n = c.common_len-same.result in
    let a = c.as_bytes-left.result.now in
    let b = c.as_bytes-right.result.now in
    let p : n < length a = omega (arith, c.if-same-left.true) in
    let q : n < length b = omega (arith, c.if-same-right.true) in
    let x : slice_index a n < 256 = search rules in
    let y : slice_index b n < 256 = search rules in
    let met : c.cmp.result ≡ byte_cmp (slice_index a n) (slice_index b n) = search rules in
    met ∙ by_byte n a b p q c.common_len-same.ensures.same (λ e. c.common_len-same.ensures.apart p q (byte_rank-apart _ _ x y e))
    ∙ ap₂ (slice_cmp byte_cmp) c.as_bytes-left.ensures.value c.as_bytes-right.ensures.value ∙ sym (name_cmp-bytes c.args.a.now c.args.b.now c.utf8.a c.utf8.b)

pub returns-else-same-left : goal.returns-else-same-left
returns-else-same-left c =
    let n = c.common_len-same.result in
    let a = c.as_bytes-left.result.now in
    let b = c.as_bytes-right.result.now in
    let bounds = c.common_len-same.ensures.bounds in
    let end : (length a ≡ n) ⊎ (length b ≡ n) = elim c.else-same-left.branch [
      | else-same-left-via-then-same-left+else-same-right w ↦ inr (omega (arith, w.if-same-right, bounds))
      | else-same-left-via-else-same-left w ↦ inl (omega (arith, w.if-same-left, bounds))
    ] in
    let met : c.cmp-else-same-left.result ≡ slice_cmp byte_cmp a b = (search rules) ∙ by_length n a b bounds.0 bounds.1 c.common_len-same.ensures.same end in
    met ∙ ap₂ (slice_cmp byte_cmp) c.as_bytes-left.ensures.value c.as_bytes-right.ensures.value ∙ sym (name_cmp-bytes c.args.a.now c.args.b.now c.utf8.a c.utf8.b)
