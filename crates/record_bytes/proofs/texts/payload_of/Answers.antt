use Rattle.record_bytes.proofs.TextLemmas.{payload_result}
use Rattle.record_bytes.proofs.texts.payload_of.Goals as goal

pub returns-in-Ok : goal.returns-in-Ok
returns-in-Ok c =
    payload_result c.args.text.now c.as_slice.result.now c.as_slice-in-Ok.result.now c.in-Ok.parts c.read_if_any.result
    c.as_slice.ensures c.in-Ok.ensures.ok c.as_slice-in-Ok.ensures c.read_if_any.ensures.value
