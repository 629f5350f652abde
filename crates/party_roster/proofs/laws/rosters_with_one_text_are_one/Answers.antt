use Rattle.party_roster.specs.Writing.{roster_value}
use Rattle.party_roster.proofs.WritingLemmas.{one_roster, roster-lawful}
use Rattle.party_roster.proofs.laws.rosters_with_one_text_are_one.Goals as goal

pub returns : goal.returns
returns c a b first second same =
    one_roster a b first second
    (c.equal_texts_have_equal_values.ensures (roster_value a) (roster_value b) (roster-lawful a) (roster-lawful b) same)
