use Rattle.std.proofs.Common.{◌∙◌, ap}
use Rattle.std.specs.List.{list_any}
use Rattle.bill_lines.specs.Bills.{part_ways}
use Rattle.bill_lines.proofs.ChainLists.{forks_seen}
use Rattle.bill_lines.proofs.lines.forks.Goals as goal

pub returns : goal.returns
returns c =
    c.is_forked.ensures
    ∙ forks_seen (λ link. link.now) c.args.chains.now
    ∙ ap (λ chains. list_any (λ a. list_any (part_ways a) chains) chains) c.requires
