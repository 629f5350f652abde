use Rattle.journaled_diary.proofs.ReadingLemmas.{refused_nowhere}
use Rattle.journaled_diary.proofs.laws.diary_is_refused_nowhere.Goals as goal

pub returns : goal.returns
returns c roster keys me frames diary place =
    refused_nowhere c.frame_has_one_spelling.ensures.frame roster keys me frames diary place
