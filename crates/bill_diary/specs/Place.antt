-- The place of a bill, the title there, and whether its possessor may act.
use Rattle.std.specs.Prelude.{Bool, false, not, ◌||◌, List, [], ◌∷◌, ◌++◌, Option, Some, None, Ok, Err, option_and_then, if◌then◌else◌}
use Rattle.std.specs.List.{list_any}
use Rattle.std.specs.Option.{option_to_list, option_map_or}
use Rattle.ebl_base.specs.Checksum.{checksum_eq}
use Rattle.ebl_base.specs.declared.checksum.Checksum.{Checksum}
use Rattle.ebl_base.specs.declared.chain.ChainLink.{ChainLink}
use Rattle.ebl_base.specs.declared.place_tag.PlaceTag.{PlaceTag}
use Rattle.ebl_base.specs.declared.place_tag.PlaceTag.TheVariants as tags
use Rattle.ebl_base.specs.declared.transaction.Transaction.{Transaction}
use Rattle.title_fold.specs.Fold.{Folded, fold}
use Rattle.title_fold.specs.Table.{ended, stands_at}
use Rattle.bill_chain.specs.Chain.{has_entry, last_of, transactions_of}
use Rattle.bill_diary.specs.declared.record.Record.{Record}
use Rattle.bill_diary.specs.declared.record.Record.TheVariants.{Signed, Acted, Parted, Settled, Regained, Taken}
use Rattle.bill_diary.specs.declared.bill_place.BillPlace.{BillPlace}
use Rattle.bill_diary.specs.declared.bill_place.BillPlace.TheVariants.{Absent, Held, Parting, Gone}
use Rattle.bill_diary.specs.Known.{known, taken_chain}

-- ---- what the records say of an entry

-- whether a record is the Settled of an entry, or the Regained of it
abbrev pub settles : Checksum → Record → Bool
settles entry (Settled bill other) = checksum_eq other entry
settles entry r = false

abbrev pub regains : Checksum → Record → Bool
regains entry (Regained bill other) = checksum_eq other entry
regains entry r = false

abbrev pub is_settled : Checksum → List Record → Bool
is_settled entry h = list_any (settles entry) h

abbrev pub is_regained : Checksum → List Record → Bool
is_regained entry h = list_any (regains entry) h

-- the chains of all Taken records, newest first
abbrev pub taken_chains : List Record → List (List ChainLink)
taken_chains [] = []
taken_chains (Taken bill entry ∷ h) = option_to_list (taken_chain entry h) ++ taken_chains h
taken_chains (r ∷ h) = taken_chains h

-- whether the parting of an entry is over: it is settled or regained, or a chain with it was taken
abbrev pub is_over : Checksum → List Record → Bool
is_over entry h = is_settled entry h || is_regained entry h || list_any (has_entry entry) (taken_chains h)

-- the entry of the last Parted
abbrev pub last_parted : List Record → Option ChainLink
last_parted [] = None
last_parted (Parted bill link manifest manifest_text ∷ h) = Some link
last_parted (r ∷ h) = last_parted h

-- ---- places

-- the entry of the last Parted, where its parting isn't over
abbrev pub parting : List Record → Option ChainLink
parting h = option_and_then (λ link. if is_over link.name h then None else Some link) (last_parted h)

-- whether a Settled names the last entry of a chain
abbrev pub is_left : List ChainLink → List Record → Bool
is_left chain h = option_map_or (λ link. is_settled link.name h) (last_of chain) false

-- the transactions of Signed and Acted that stand after the last Taken, in the order in which they were made
abbrev pub since : List Record → List Transaction
since [] = []
since (Signed bill document transaction ∷ h) = since h ++ transaction ∷ []
since (Acted bill transaction ∷ h) = since h ++ transaction ∷ []
since (Taken bill entry ∷ h) = []
since (r ∷ h) = since h

-- the first that applies: no chain is known; an entry is parting; the last entry of the known chain is settled; else
-- the bill is held
abbrev pub place_with : Option (List ChainLink) → Option ChainLink → List Record → BillPlace
place_with None parting h = Absent
place_with (Some known) (Some entry) h = Parting known entry
place_with (Some known) None h = if is_left known h then Gone known else Held known (since h)

-- the place of a bill, by its records
abbrev pub place_of : List Record → BillPlace
place_of h = place_with (known h) (parting h) h

-- the tag of a place
abbrev pub tag_of : BillPlace → PlaceTag
tag_of Absent = tags.Absent
tag_of (Held known since) = tags.Held
tag_of (Parting known link) = tags.Parting
tag_of (Gone known) = tags.Gone

-- the known chain at a place, if one is known
abbrev pub known_at : BillPlace → Option (List ChainLink)
known_at Absent = None
known_at (Held known since) = Some known
known_at (Parting known link) = Some known
known_at (Gone known) = Some known

-- the chain that is known at a place, followed by the entry that is parting, if one is
abbrev pub chain_at : BillPlace → List ChainLink
chain_at Absent = []
chain_at (Held known since) = known
chain_at (Parting known link) = known ++ link ∷ []
chain_at (Gone known) = known

-- ---- titles

-- the title at a place: the fold of the known chain's transactions, followed by those of the entry that is parting,
-- or by those made since
abbrev pub title_at : BillPlace → Folded
title_at Absent = Ok None
title_at (Held known since) = fold (transactions_of known ++ since)
title_at (Parting known link) = fold (transactions_of known ++ link.entry.transactions)
title_at (Gone known) = fold (transactions_of known)

-- whether the title is ended
abbrev pub is_ended : Folded → Bool
is_ended (Ok title) = stands_at ended title
is_ended (Err at) = false

-- whether the possessor may act: the bill is held, and its title isn't ended
abbrev pub may_act_at : BillPlace → Bool
may_act_at (Held known since) = not (is_ended (title_at (Held known since)))
may_act_at place = false

abbrev pub may_act_by : List Record → Bool
may_act_by h = may_act_at (place_of h)
