-- The links so far.
use Rattle.std.proofs.Common.{◌≡◌, take}
use Rattle.bill_diary.proofs.links.Links.of.Given as goal

abbrev pub invariant-loop-link : goal.invariant-loop-link
invariant-loop-link l = l.links ≡ take l.link-index l.chain
