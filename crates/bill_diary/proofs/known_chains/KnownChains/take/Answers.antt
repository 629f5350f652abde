use Rattle.std.proofs.Common.{sym, ◌∙◌}
use Rattle.bill_diary.proofs.KnownChainsLemmas.{taken_more}
use Rattle.bill_diary.proofs.known_chains.KnownChains.take.Goals as goal

pub returns : goal.returns
returns c =
    λ bill h is.
    taken_more bill c.args.entry h c.args.self.now c.tell.new.self c.in_ok-more.more is
    (sym c.taken.ensures ∙ sym c.in_ok-more.ensures)
    c.tell.ensures.known c.tell.ensures.begun c.tell.ensures.parted
