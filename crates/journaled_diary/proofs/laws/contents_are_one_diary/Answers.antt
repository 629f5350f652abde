use Rattle.journaled_diary.proofs.ReadingLemmas.{one_diary}
use Rattle.journaled_diary.proofs.laws.contents_are_one_diary.Goals as goal

pub returns : goal.returns
returns c roster keys me contents a b = one_diary c.frame_has_one_spelling.ensures.frame roster keys me contents a b
