use Rattle.std.proofs.Common.{sym, subst}
use Rattle.uuid.specs.Text.{parsed}
use Rattle.upload_state.specs.Reference.{IsReference, reference_with}
use Rattle.upload_state.proofs.ReferenceLemmas.{IsReference-parsed, none_parsed}
use Rattle.upload_state.proofs.reference.reference_from.Goals as goal

pub returns-in-Ok-clause-form : goal.returns-in-Ok-clause-form
returns-in-Ok-clause-form c =
    subst (λ bytes. IsReference (reference_with bytes)) (sym c.into_bytes.ensures)
    (IsReference-parsed c.args.text.now c.in-Ok.id (sym c.in-Ok.ensures.bytes))

pub returns-in-Err-clause-value : goal.returns-in-Err-clause-value
returns-in-Err-clause-value c =
    none_parsed (parsed c.args.text.now) (λ u is. let ok = c.in-Err.ensures.ok.1 (u, is) in cc)
