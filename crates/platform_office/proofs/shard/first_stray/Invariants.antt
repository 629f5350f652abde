-- The frames so far are all of bills of the shard.
use Rattle.std.proofs.Common.{◌≡◌, All, take}
use Rattle.platform_office.specs.Post.{IsOfShard}
use Rattle.platform_office.proofs.shard.first_stray.Given as goal

abbrev pub invariant-loop-frame : goal.invariant-loop-frame
invariant-loop-frame l = record {
  count : l.count ≡ l.frame-index;
  own : All (IsOfShard l.number) (take l.frame-index l.diary);
}
