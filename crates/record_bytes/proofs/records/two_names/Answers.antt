use Rattle.record_bytes.proofs.FindLemmas.{if_none}
use Rattle.record_bytes.proofs.FieldLemmas.{two_names, same_names}
use Rattle.std.proofs.Common.{◌≡◌, ◌==◌, ℕ, List, length, true, ap}
use Rattle.record_bytes.proofs.records.two_names.Goals as goal

pub returns-in_err-bill-clause-none : goal.returns-in_err-bill-clause-none
returns-in_err-bill-clause-none c =
    if_none c.from_residual.result _
    (λ bill entry are. c.in_err-bill.ensures.none bill entry _ (two_names c.args.fields.now bill entry are))

pub returns-else-is_empty-clause-none : goal.returns-else-is_empty-clause-none
returns-else-is_empty-clause-none c bill entry are =
    let same = same_names c.args.fields.now c.in_ok-bill.bill c.in_ok-bill.entry bill entry c.in_ok-bill.rest.now _
    c.in_ok-bill.ensures.found (two_names c.args.fields.now bill entry are) in
    let full : (length c.in_ok-bill.rest.now == 0) ≡ true = ap (λ (l : List ℕ). length l == 0) same.2 in
    cc
