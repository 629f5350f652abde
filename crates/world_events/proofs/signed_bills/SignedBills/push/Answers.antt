-- The numbers are those of the list with the bill.
use Rattle.std.proofs.Common.{arith, ◌≡◌, ◌+◌, List, ◌++◌, [], ◌∷◌, length, subst, sym, ap, ◌∙◌}
use Rattle.ebl_base.specs.declared.checksum.Checksum.{Checksum}
use Rattle.world_events.specs.Signed.{AreNumbered}
use Rattle.world_events.proofs.SignedNumbers.{numbered_with}
use Rattle.world_events.proofs.signed_bills.SignedBills.push.Goals as goal

pub invariant_of-self-2 : goal.invariant_of-self-2
invariant_of-self-2 c =
    let bills = c.self.inside.bills.items in
    let number : c.len.result + 1 ≡ 1 + length bills =
    grind (arith, c.len.ensures, c.reserve.ensures.len, c.self.inside.bills.ok) in
    let items : c.push_reserved.new.self.items ≡ bills ++ c.args.bill ∷ [] =
    c.push_reserved.ensures.items
    ∙ ap (λ (all : List Checksum). all ++ c.args.bill ∷ []) c.reserve.ensures.items in
    subst (λ (all : List Checksum). AreNumbered all c.number_bill.new.numbers) (sym items)
    (numbered_with bills c.self.inside.numbers c.number_bill.new.numbers c.args.bill (c.len.result + 1)
    c.self.invariant number c.in_ok-number_bill.ensures.ok)
