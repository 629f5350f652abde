-- The title to a bill, and who has which part in it.
use Rattle.ebl_base.specs.declared.party.Party.{Party}
use Rattle.title_fold.specs.declared.title.Title.{Title}
use Rattle.title_fold.specs.declared.title.Title.TheVariants.{Signed, Live, Asked, Ended}

-- the party that signed the bill
abbrev pub carrier : Title → Party
carrier (Signed c) = c
carrier (Live c p h) = c
carrier (Asked kind c by) = c
carrier (Ended kind c) = c

-- the party that has possession: the carrier, except while the bill is live
abbrev pub possessor : Title → Party
possessor (Signed c) = c
possessor (Live c p h) = p
possessor (Asked kind c by) = c
possessor (Ended kind c) = c

-- the party that holds the title: the carrier before the issue and after the end, the asker while a surrender is asked
-- for
abbrev pub title_holder : Title → Party
title_holder (Signed c) = c
title_holder (Live c p h) = h
title_holder (Asked kind c by) = by
title_holder (Ended kind c) = c
