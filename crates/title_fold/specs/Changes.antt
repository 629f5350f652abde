-- What a transaction that is allowed changes: whose possession and whose title it makes.
use Rattle.std.specs.Prelude.{◌≡◌, Option, Some}
use Rattle.ebl_base.specs.declared.kind.Kind.{Kind}
use Rattle.ebl_base.specs.declared.kind.Kind.TheVariants.{Sign, Issue, Endorse, Transfer, SurrenderForDelivery, SurrenderForAmendment, SurrenderAccepted, SurrenderRefused}
use Rattle.ebl_base.specs.declared.party.Party.{Party}
use Rattle.title_fold.specs.declared.title.Title.{Title}
use Rattle.title_fold.specs.Title.{carrier, possessor, title_holder}

-- who has possession after a kind of transaction for this recipient
abbrev pub GivesPossession : Kind → Option Party → Title → Title → Type 0
-- a title stands already
GivesPossession Sign recipient before after = ⊥
-- the recipient
GivesPossession Issue recipient before after = recipient ≡ Some (possessor after)
GivesPossession Transfer recipient before after = recipient ≡ Some (possessor after)
-- the carrier
GivesPossession SurrenderForDelivery recipient before after = possessor after ≡ carrier before
GivesPossession SurrenderForAmendment recipient before after = possessor after ≡ carrier before
-- the asker again, who stayed title holder
GivesPossession SurrenderRefused recipient before after = possessor after ≡ title_holder before
-- who had it before
GivesPossession Endorse recipient before after = possessor after ≡ possessor before
GivesPossession SurrenderAccepted recipient before after = possessor after ≡ possessor before

-- who holds the title after a kind of transaction for this recipient
abbrev pub GivesTitle : Kind → Option Party → Title → Title → Type 0
-- a title stands already
GivesTitle Sign recipient before after = ⊥
-- the recipient
GivesTitle Issue recipient before after = recipient ≡ Some (title_holder after)
GivesTitle Endorse recipient before after = recipient ≡ Some (title_holder after)
-- the carrier
GivesTitle SurrenderAccepted recipient before after = title_holder after ≡ carrier before
-- who held it before
GivesTitle Transfer recipient before after = title_holder after ≡ title_holder before
GivesTitle SurrenderForDelivery recipient before after = title_holder after ≡ title_holder before
GivesTitle SurrenderForAmendment recipient before after = title_holder after ≡ title_holder before
GivesTitle SurrenderRefused recipient before after = title_holder after ≡ title_holder before
