-- The links that are left make of the title so far what all links make.
use Rattle.std.proofs.Common.{◌≡◌, None, drop}
use Rattle.bill_chain.proofs.TitleLemmas.{links_on}
use Rattle.bill_chain.proofs.title.fold_links.Given as goal

abbrev pub invariant-loop-link : goal.invariant-loop-link
invariant-loop-link l = links_on (drop l.link-index l.chain) l.title ≡ links_on l.chain None
