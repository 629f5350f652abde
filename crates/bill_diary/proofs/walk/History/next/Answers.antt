use Rattle.std.proofs.Common.{◌≡◌, true, false, List, [], ◌∷◌, sym, ap, subst, ◌∙◌}
use Rattle.std.specs.Prelude.{option_copied}
use Rattle.std.specs.List.{cons_option}
use Rattle.ebl_base.specs.Checksum.{checksum_eq}
use Rattle.ebl_base.specs.declared.checksum.Checksum.{Checksum}
use Rattle.bill_diary.specs.declared.frame.Frame.{Frame}
use Rattle.bill_diary.specs.History.{history, record_at}
use Rattle.bill_diary.specs.Linked.{AreLinked, bill_in}
use Rattle.bill_diary.proofs.LinkedLemmas.{link_within, linked_front, linked_up_to, next_own, other_history}
use Rattle.bill_diary.proofs.walk.History.next.Goals as goal

pub up_to_link-self-inside-requires : goal.up_to_link-self-inside-requires
up_to_link-self-inside-requires c =
    let inside = c.loop-frame.self-inside in
    let item = c.in-Some-split_last in
    link_within item.before.now item.frame.now inside.links.now
    (subst (λ (fs : List Frame). AreLinked fs inside.links.now) item.ensures.cases.0 c.loop-frame.invariant.2)

pub invariant_of-self-then-eq : goal.invariant_of-self-then-eq
invariant_of-self-then-eq c =
    let inside = c.loop-frame.self-inside in
    let item = c.in-Some-split_last in
    subst (λ (fs : List Frame). AreLinked fs inside.links.now) (sym c.up_to_link-self-inside.ensures)
    (linked_up_to item.before.now item.frame.now inside.links.now
    (subst (λ (fs : List Frame). AreLinked fs inside.links.now) item.ensures.cases.0 c.loop-frame.invariant.2))

pub returns-then-eq : goal.returns-then-eq
returns-then-eq c =
    let inside = c.loop-frame.self-inside in
    let item = c.in-Some-split_last in
    let newest = record_at c.newest_of.result.0 in
    let begun = option_copied c.newest_of.result.1 in
    let is : checksum_eq (bill_in item.frame.now) inside.bill ≡ true
    = ap (λ (b : Checksum). checksum_eq b inside.bill) (sym c.bill.ensures) ∙ sym c.eq.ensures ∙ c.if-eq.true in
    c.loop-frame.invariant.0
    ∙ ap (history inside.bill) item.ensures.cases.0
    ∙ next_own inside.bill item.before.now item.frame.now inside.links.now newest begun is
    (subst (λ (fs : List Frame). AreLinked fs inside.links.now) item.ensures.cases.0 c.loop-frame.invariant.2)
    c.newest_of.ensures
    ∙ ap (λ (fs : List Frame). newest ∷ cons_option begun (history inside.bill fs)) (sym c.up_to_link-self-inside.ensures)

pub loop-frame-preserved : goal.loop-frame-preserved
loop-frame-preserved c =
    let inside = c.loop-frame.self-inside in
    let item = c.in-Some-split_last in
    let isnt : checksum_eq (bill_in item.frame.now) inside.bill ≡ false
    = ap (λ (b : Checksum). checksum_eq b inside.bill) (sym c.bill.ensures) ∙ sym c.eq.ensures ∙ c.if-eq.false in (
      c.loop-frame.invariant.0 ∙ ap (history inside.bill) item.ensures.cases.0
          ∙ other_history item.before.now item.frame.now inside.bill isnt,
      c.loop-frame.invariant.1,
      linked_front item.before.now (item.frame.now ∷ []) inside.links.now
          (subst (λ (fs : List Frame). AreLinked fs inside.links.now) item.ensures.cases.0 c.loop-frame.invariant.2),
    )
