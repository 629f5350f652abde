use Rattle.std.proofs.Common.{◌≡◌, take}
use Rattle.ebl_base.proofs.shared_items.SharedItems.followed_by.Given as goal

abbrev pub invariant-loop-one : goal.invariant-loop-one
invariant-loop-one g l = l.items.items ≡ take l.one-index l.own
