use Rattle.std.proofs.Common.{ap, ◌∙◌}
use Rattle.bill_chain.specs.Chain.{destination}
use Rattle.transfer_chain.proofs.DestinationLemmas.{destination-none}
use Rattle.transfer_chain.proofs.destination.dest.Goals as goal

pub returns-clause-none : goal.returns-clause-none
returns-clause-none c checked =
    destination-none c.args.chain.now c.destination.result checked (c.destination.ensures ∙ ap destination c.as_slice.ensures)
