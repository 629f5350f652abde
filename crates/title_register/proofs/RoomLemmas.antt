-- The lemmas from which the room for one frame follows.
use Rattle.title_register.proofs.RegisterLemmas.{own_history, begun_taken}
use Rattle.title_register.proofs.FrameLemmas.{numbers_more}

pub ruleset rooms = (own_history, begun_taken)

pub ruleset numbers = (numbers_more)
