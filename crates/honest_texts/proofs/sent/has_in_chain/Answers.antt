use Rattle.honest_texts.proofs.sent.has_in_chain.Goals as goal

pub returns-in-Start : goal.returns-in-Start
returns-in-Start c = rw (c.in-Start.is, ← c.as_slice.ensures) c.has_in_body.ensures
