-- The links that are left make of the title so far what all links make.
use Rattle.std.proofs.Common.{◌≡◌, None, drop}
use Rattle.bill_chain.proofs.TitleLemmas.{links_on}
use Rattle.bill_diary.proofs.LinkLemmas.{behind}
use Rattle.bill_diary.proofs.links.title_after.Given as goal

abbrev pub invariant-loop-link : goal.invariant-loop-link
invariant-loop-link l = links_on (behind (drop l.link-index l.links)) l.title ≡ links_on (behind l.links) None
