use Rattle.std.proofs.Common.{◌<◌, length, slice_index, bit_xor, arith, ap, sym}
use Rattle.std.proofs.lemmas.List.Edits.{map_over_more}
use Rattle.std.proofs.lemmas.List.{length-append, length-map, length-take, length-drop}
use Rattle.std.proofs.lemmas.Grind.{get_or_default_zero}
use Rattle.test_signer.proofs.hmac.masked.Goals as goal

pub loop-byte-preserved : goal.loop-byte-preserved
loop-byte-preserved c =
    let index = c.loop-byte.byte-index in
    let size = simp (length-append, length-map, length-take, length-drop) at (ap length c.loop-byte.invariant) in
    let within : index < length c.loop-byte.byte-items = omega (arith, size) in
    map_over_more (λ byte. bit_xor byte c.args.pad) c.args.block.now c.loop-byte.byte-items index
    (slice_index c.loop-byte.byte-items index) (omega arith) c.loop-byte.invariant
    (sym (get_or_default_zero c.loop-byte.byte-items index _ within))
