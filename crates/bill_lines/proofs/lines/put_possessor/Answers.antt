use Rattle.bill_lines.proofs.lines.put_possessor.Goals as goal

pub returns : goal.returns
returns c = rw (c.possessor.ensures) at c.put_party.ensures
