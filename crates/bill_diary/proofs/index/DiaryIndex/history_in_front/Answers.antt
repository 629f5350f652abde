use Rattle.std.proofs.Common.{ℕ, List, take, sym, subst}
use Rattle.bill_diary.specs.Linked.{AreLinked}
use Rattle.bill_diary.proofs.LinkedLemmas.{linked_take}
use Rattle.bill_diary.proofs.index.DiaryIndex.history_in_front.Goals as goal

pub along-requires : goal.along-requires
along-requires c =
    let frames = c.self.inside.frames.now in
    subst (λ (links : List ℕ). AreLinked (take c.args.count frames) links) (sym c.deref.ensures.value)
    (linked_take c.args.count frames c.self.inside.links.items c.self.invariant.linked)
