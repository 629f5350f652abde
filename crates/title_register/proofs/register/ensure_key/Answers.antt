-- A bill of which there is no record changes nothing.
use Rattle.std.proofs.Common.{Some, subst}
use Rattle.std.specs.BTreeMap.{get, Updates}
use Rattle.ebl_base.specs.Checksum.{checksum_cmp}
use Rattle.title_register.specs.declared.bill_state.BillState.{BillState}
use Rattle.title_register.proofs.AddLemmas.{none_by}
use Rattle.title_register.proofs.RegisterLemmas.{added}
use Rattle.title_register.proofs.register.ensure_key.Goals as goal

pub returns-in_ok-insert-clause-same : goal.returns-in_ok-insert-clause-same
returns-in_ok-insert-clause-same c =
    let bills = c.args.bills.now in
    let absent = none_by (get checksum_cmp bills c.args.bill) c.contains_key.result c.contains_key.ensures
    c.if-not-contains_key.true in
    λ q. added bills c.insert.new.self c.args.bill q
    (subst (λ (s : BillState). Updates checksum_cmp bills c.insert.new.self c.args.bill (Some s)) c.unknown.ensures
    c.in_ok-insert.ensures.updates) absent
