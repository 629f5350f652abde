-- While the known chain is fresh, the entry that is parting follows it.
use Rattle.std.proofs.Common.{◌≡◌, Some, true, sym, ap, ◌∙◌}
use Rattle.ebl_base.specs.Checksum.{checksum_eq}
use Rattle.bill_diary.specs.Known.{known}
use Rattle.bill_diary.specs.Place.{parting}
use Rattle.title_register.specs.declared.bill_state.BillState.{BillState}
use Rattle.title_register.specs.BillState.{state_of}
use Rattle.title_register.specs.Past.{is_fresh}
use Rattle.title_register.proofs.PastLemmas.{parting_tells}
use Rattle.title_register.proofs.past.Past.settled_chain.Goals as goal

pub returns-then-eq : goal.returns-then-eq
returns-then-eq c =
    let h = c.args.self.now in
    let link = c.in-Some-parting.link in
    let chain = c.in-Some.known in
    let state_is : c.self.inside.state.now ≡ state_of h = c.self.invariant.state_is ∙ ap state_of c.self.view_is in
    let parting_is : parting h ≡ Some link =
    sym (ap (λ (s : BillState). s.standing.parting) state_is) ∙ c.in-Some-parting.is in
    let known_is : known h ≡ Some chain = sym (ap (λ (s : BillState). s.standing.known) state_is) ∙ c.in-Some.is in
    let fresh : is_fresh h ≡ true = sym (ap (λ (s : BillState). s.fresh) state_is) ∙ c.if-self.true in
    let named : checksum_eq link.name c.args.entry ≡ true = cc in
    ap Some c.in_ok-followed_by.ensures ∙ sym (parting_tells c.args.entry h link chain parting_is known_is fresh named)
