-- The copies so far.
use Rattle.std.proofs.Common.{◌≡◌, map, take}
use Rattle.bill_diary.proofs.links.Links.chain.Given as goal

abbrev pub invariant-loop-link : goal.invariant-loop-link
invariant-loop-link l = l.chain ≡ map (λ link. link.now) (take l.link-index l.link-items)
