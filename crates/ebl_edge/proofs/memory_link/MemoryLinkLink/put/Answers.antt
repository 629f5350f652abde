use Rattle.ebl_edge.proofs.memory_link.MemoryLinkLink.put.Goals as goal

pub returns-clause-unlisted : goal.returns-clause-unlisted
returns-clause-unlisted c = rw (← c.self.view_is) c.put.ensures.unlisted
