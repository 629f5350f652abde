-- What is kept of a bill, found or not, is what its records say.
use Rattle.std.proofs.Common.{◌≡◌, ◌∷◌, [], ◌++◌, IfOk, Option, sym, ap, subst, ◌∙◌}
use Rattle.std.specs.Prelude.{unwrap_or}
use Rattle.ebl_base.specs.declared.checksum.Checksum.{Checksum}
use Rattle.bill_diary.specs.History.{bill_of, history}
use Rattle.title_register.specs.declared.bill_state.BillState.{BillState}
use Rattle.title_register.specs.BillState.{state_of, state_with, unknown}
use Rattle.bill_diary.specs.Linked.{bill_in}
use Rattle.title_register.proofs.AddLemmas.{found}
use Rattle.title_register.proofs.room.change_among.Goals as goal

pub change_by-requires-clause-state_is : goal.change_by-requires-clause-state_is
change_by-requires-clause-state_is c =
    found c.args.bills.now c.bill-bill.result c.in-Some.state.now (sym c.in-Some.ensures.value)
    ∙ c.requires.states c.bill-bill.result
    ∙ ap (λ (bill : Checksum). state_of (history bill c.args.frames.now))
    (c.bill-bill.ensures ∙ ap bill_of c.kept_in.ensures)

pub returns-in-Some : goal.returns-in-Some
returns-in-Some c =
    let frames = c.args.frames.now in
    let bill = bill_in c.args.frame.now in
    let state_is : c.in-Some.state.now ≡ state_of (history bill frames) =
    found c.args.bills.now c.bill-bill.result c.in-Some.state.now (sym c.in-Some.ensures.value)
    ∙ c.requires.states c.bill-bill.result
    ∙ ap (λ (b : Checksum). state_of (history b frames)) (c.bill-bill.ensures ∙ ap bill_of c.kept_in.ensures) in
    subst (λ (s : BillState). IfOk c.change_by.result (λ x.
    state_with x s ≡ state_of (history bill (frames ++ c.args.frame.now ∷ [])))) state_is c.change_by.ensures

pub returns-in-None : goal.returns-in-None
returns-in-None c =
    let frames = c.args.frames.now in
    let bill = bill_in c.args.frame.now in
    let state_is : c.unknown.result ≡ state_of (history bill frames) =
    c.unknown.ensures ∙ ap (λ (o : Option BillState). unwrap_or o unknown) c.in-None.ensures.value
    ∙ c.requires.states c.bill-bill.result
    ∙ ap (λ (b : Checksum). state_of (history b frames)) (c.bill-bill.ensures ∙ ap bill_of c.kept_in.ensures) in
    subst (λ (s : BillState). IfOk c.change_by-in-None.result (λ x.
    state_with x s ≡ state_of (history bill (frames ++ c.args.frame.now ∷ [])))) state_is c.change_by-in-None.ensures
