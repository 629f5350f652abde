-- The nine rules that refuse a transaction, in the order in which they are asked.
use Rattle.std.specs.Prelude.{Bool, true, false, not, ◌&&◌, Option, Some, None, List, [], ◌∷◌, find}
use Rattle.ebl_base.specs.declared.kind.Kind.{Kind}
use Rattle.ebl_base.specs.declared.kind.Kind.TheVariants.{Sign, Endorse, Transfer}
use Rattle.ebl_base.specs.declared.party.Party.{Party}
use Rattle.ebl_base.specs.declared.transaction.Transaction.{Transaction}
use Rattle.ebl_base.specs.Party.{party_eq}
use Rattle.title_fold.specs.declared.title.Title.{Title}
use Rattle.title_fold.specs.declared.refusal.FoldRefusal.{FoldRefusal}
use Rattle.title_fold.specs.declared.refusal.FoldRefusal.TheVariants.{F1, F2, F3, F4, F5, F6, F7, F8, F9}
use Rattle.title_fold.specs.Title.{carrier, possessor, title_holder}
use Rattle.title_fold.specs.Table.{unsigned, ended, table, stands_at, is_for_carrier, is_for_possessor, is_for_title_holder, is_recipient_right}

-- whether the kind makes a title where none stands
abbrev pub is_sign : Kind → Bool
is_sign Sign = true
is_sign kind = false

-- whether the kind hands something on from the actor to the recipient
abbrev pub is_handing_on : Kind → Bool
is_handing_on Endorse = true
is_handing_on Transfer = true
is_handing_on kind = false

-- whether a party has this part in the title, if one stands
abbrev pub has_part : (Title → Party) → Option Title → Party → Bool
has_part part None party = false
has_part part (Some title) party = party_eq party (part title)

-- whether a party was named, and is this one
abbrev pub is_named : Option Party → Party → Bool
is_named None party = false
is_named (Some named) party = party_eq named party

-- whether a rule refuses a transaction on this title
abbrev pub fits : FoldRefusal → Option Title → Transaction → Bool
-- a SIGN when there is a title
fits F1 before t = is_sign t.kind && not (stands_at unsigned before)
-- another kind when there is none
fits F2 before t = not (is_sign t.kind) && stands_at unsigned before
-- the title is ended
fits F3 before t = stands_at ended before
-- the kind isn't for a title at this stage
fits F4 before t = not (stands_at (table t.kind).from before)
-- a recipient is missing, or there is one too many
fits F5 before t = not (is_recipient_right (table t.kind).recipient t.recipient)
-- the actor must be the carrier and isn't
fits F6 before t = is_for_carrier (table t.kind).actor && not (has_part carrier before t.actor)
-- the actor must be the possessor and isn't
fits F7 before t = is_for_possessor (table t.kind).actor && not (has_part possessor before t.actor)
-- the actor must be the title holder and isn't
fits F8 before t = is_for_title_holder (table t.kind).actor && not (has_part title_holder before t.actor)
-- what is handed on goes to the actor itself
fits F9 before t = is_handing_on t.kind && is_named t.recipient t.actor

-- the rules in their order
abbrev pub rules : List FoldRefusal
rules = F1 ∷ F2 ∷ F3 ∷ F4 ∷ F5 ∷ F6 ∷ F7 ∷ F8 ∷ F9 ∷ []

-- the first rule that applies
abbrev pub first_refusal : Option Title → Transaction → Option FoldRefusal
first_refusal before t = find (λ rule. fits rule before t) rules
