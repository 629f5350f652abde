use Rattle.std.proofs.Common.{◌≡◌, ◌==◌, ℕ, List, length, true, ap}
use Rattle.record_bytes.proofs.FindLemmas.{if_none}
use Rattle.record_bytes.proofs.FieldLemmas.{one_text, text_ends}
use Rattle.record_bytes.proofs.fields.one_text.Goals as goal

pub returns-in_err-text-clause-none : goal.returns-in_err-text-clause-none
returns-in_err-text-clause-none c =
    if_none c.from_residual.result _
    (λ text is. c.in_err-text.ensures.none text _ (one_text c.args.bytes.now text is))

pub returns-else-is_empty-clause-none : goal.returns-else-is_empty-clause-none
returns-else-is_empty-clause-none c text is =
    let none = text_ends c.args.bytes.now c.in_ok-text.text.now c.in_ok-text.rest.now text c.in_ok-text.ensures.found is in
    let full : (length c.in_ok-text.rest.now == 0) ≡ true = ap (λ (l : List ℕ). length l == 0) none in
    cc
