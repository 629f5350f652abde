use Rattle.std.proofs.Common.{◌≡◌, ℕ, List, Some, None, sym, subst}
use Rattle.envelope_manifest.specs.Body.{body_view, IsBodyFault}
use Rattle.closed_family.specs.Texts.{body_in}
use Rattle.closed_family.proofs.Bodies.{body_in-ok, body_in-wrong}
use Rattle.closed_family.proofs.texts.body_in.Goals as goal

pub returns-in-Ok : goal.returns-in-Ok
returns-in-Ok c =
    sym (subst (λ (bytes : List ℕ). body_in bytes ≡ Some (body_view c.in-Ok.body)) c.as_slice.ensures
    (body_in-ok c.as_slice.result.now (body_view c.in-Ok.body) c.in-Ok.ensures.ok))

pub returns-in-Err-BodyForm : goal.returns-in-Err-BodyForm
returns-in-Err-BodyForm c =
    sym (subst (λ (bytes : List ℕ). body_in bytes ≡ None) c.as_slice.ensures
    (body_in-wrong c.as_slice.result.now c.in-Err-BodyForm.field-0-0
    (subst (IsBodyFault c.as_slice.result.now) c.in-Err-BodyForm.field-0-is c.in-Err-BodyForm.ensures.err)))
