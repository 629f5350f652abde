-- The state is taken out, changed and put back; neither fails, since the bill is there.
use Rattle.std.proofs.Common.{◌≡◌, Some, None, sym, subst, ◌∙◌}
use Rattle.std.specs.BTreeMap.{get, Updates}
use Rattle.ebl_base.specs.Checksum.{checksum_cmp}
use Rattle.title_register.specs.declared.bill_state.BillState.{BillState}
use Rattle.title_register.proofs.AddLemmas.{on_ok, put_back}
use Rattle.title_register.proofs.register.put.Goals as goal

pub returns : goal.returns
returns c =
    let bill = c.args.bill in
    let between = c.insert.new.self in
    let new = c.insert-2.new.self in
    let first : Updates checksum_cmp c.args.bills.now between bill (Some c.unknown.result)
    = c.in-Ok-Some.ensures.updates in
    let second : Updates checksum_cmp between new bill (Some c.changed.result) =
    on_ok (Updates checksum_cmp between new bill (Some c.changed.result)) (get checksum_cmp between bill ≡ None)
    c.insert-2.result c.insert-2.ensures.updates c.insert-2.ensures.absent
    (λ none. let no : Some c.unknown.result ≡ None = sym first.1 ∙ none in cc) in
    λ q. put_back c.args.bills.now between new bill q c.unknown.result c.in-Ok-Some.state c.args.change
    (sym c.in-Ok-Some.ensures.old ∙ c.in-Ok-Some.field-0-is) first
    (subst (λ (s : BillState). Updates checksum_cmp between new bill (Some s)) c.changed.ensures second)
