use Rattle.std.proofs.Common.{◌≡◌, ℕ, ◌≤◌, List, Option, length, take, sym, ap, subst, ◌∙◌}
use Rattle.std.specs.Prelude.{unwrap_or}
use Rattle.std.proofs.lemmas.List.{length-take-le}
use Rattle.bill_diary.specs.Linked.{AreLinked, end_in}
use Rattle.bill_diary.proofs.LinkedLemmas.{linked_take}
use Rattle.bill_diary.proofs.index.DiaryIndex.history.Goals as goal

pub slice_bounds-along-end : goal.slice_bounds-along-end
slice_bounds-along-end c =
    let frames = c.self.inside.frames.now in
    let end_is : c.unwrap_or-end.result ≡ end_in c.self.inside.ends c.args.bill
    = c.unwrap_or-end.ensures
    ∙ ap (λ (o : Option ℕ). unwrap_or o 0) (c.copied.ensures ∙ c.get.ensures.value) in
    let within : c.unwrap_or-end.result ≤ length frames
    = subst (λ (n : ℕ). n ≤ length frames) (sym end_is) (c.self.invariant.ended c.args.bill).0 in
    sym (length-take-le c.unwrap_or-end.result frames within)

pub along-requires : goal.along-requires
along-requires c =
    let end = c.unwrap_or-end.result in
    let frames = c.self.inside.frames.now in
    subst (λ (links : List ℕ). AreLinked (take end frames) links) (sym c.deref.ensures.value)
    (linked_take end frames c.self.inside.links.items c.self.invariant.linked)
