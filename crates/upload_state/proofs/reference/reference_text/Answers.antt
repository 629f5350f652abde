use Rattle.std.proofs.Common.{length, sym, ap, ◌∙◌}
use Rattle.uuid.specs.Text.{lower, hyphenated_text}
use Rattle.upload_state.proofs.ReferenceLemmas.{length-reference_text}
use Rattle.upload_state.proofs.reference.reference_text.Goals as goal

pub copy_from_slice-requires : goal.copy_from_slice-requires
copy_from_slice-requires c =
    sym (ap length (c.as_bytes.ensures.value ∙ c.encode_lower-chars.ensures.text)
    ∙ ap (λ id. length (hyphenated_text lower id)) (c.hyphenated.ensures ∙ c.from_bytes.ensures)
    ∙ length-reference_text c.args.reference)
