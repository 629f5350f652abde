-- What the line of a bill says of it, by its histories on all platforms: whether its accepted chains part ways, where
-- the longest of them ends, who has the bill there, and who may act.
use Rattle.std.specs.Prelude.{Bool, not, ◌&&◌, ◌||◌, List, [], ◌++◌, Option, None, filter, find, unwrap_or, if◌then◌else◌}
use Rattle.std.specs.List.{list_any, starts_with}
use Rattle.std.specs.Option.{option_map_or, option_or}
use Rattle.std.specs.Result.{result_ok}
use Rattle.ebl_base.specs.Checksum.{checksum_eq}
use Rattle.ebl_base.specs.declared.chain.ChainLink.{ChainLink}
use Rattle.ebl_base.specs.declared.platform_code.PlatformCode.{PlatformCode}
use Rattle.ebl_base.specs.declared.transaction.Transaction.{Transaction}
use Rattle.title_fold.specs.Fold.{fold}
use Rattle.title_fold.specs.declared.title.Title.{Title}
use Rattle.bill_chain.specs.Chain.{destination, names_of, transactions_of}
use Rattle.bill_diary.specs.declared.bill_place.BillPlace.{BillPlace}
use Rattle.bill_diary.specs.declared.bill_place.BillPlace.TheVariants.{Held, Parting}
use Rattle.bill_diary.specs.declared.record.Record.{Record}
use Rattle.bill_diary.specs.Place.{may_act_by, place_of}
use Rattle.closed_family.specs.Closed.{Histories}
use Rattle.closed_family.specs.Histories.{is_signed}
use Rattle.closed_family.specs.Longest.{accepted_chains, longest_accepted}
use Rattle.closed_family.specs.Safe.{front_of}

-- ---- forks

-- whether one chain is a front of another, by the names of their entries
abbrev pub is_front : List ChainLink → List ChainLink → Bool
is_front front chain = starts_with checksum_eq (names_of chain) (names_of front)

-- whether neither of two chains is a front of the other
abbrev pub part_ways : List ChainLink → List ChainLink → Bool
part_ways a b = not (is_front a b || is_front b a)

-- whether two accepted chains of the bill part ways
abbrev pub is_forked : Histories → List PlatformCode → Bool
is_forked at platforms =
    list_any (λ a. list_any (part_ways a) (accepted_chains at platforms)) (accepted_chains at platforms)

-- ---- the end

-- the platform that signed the bill
abbrev pub signed_on : Histories → List PlatformCode → Option PlatformCode
signed_on at platforms = find (λ p. is_signed (at p)) platforms

-- the platform where the longest accepted chain ends; the one that signed the bill, while that chain is empty
abbrev pub end_of : Histories → List PlatformCode → Option PlatformCode
end_of at platforms = option_or (destination (longest_accepted at platforms)) (signed_on at platforms)

-- the bill's history there
abbrev pub history_at_end : Histories → List PlatformCode → List Record
history_at_end at platforms = option_map_or at (end_of at platforms) []

-- ---- the title

-- whether two chains have the same entries, by their names
abbrev pub is_same : List ChainLink → List ChainLink → Bool
is_same a b = is_front a b && is_front b a

-- what was recorded at the end since the longest accepted chain: where the bill is held with that chain, the
-- transactions since; where it is parting with it, those of the parting entry but its last
abbrev pub further_at : List ChainLink → BillPlace → List Transaction
further_at line (Held known since) = if is_same known line then since else []
further_at line (Parting known link) = if is_same known line then front_of link.entry.transactions else []
further_at line place = []

abbrev pub further_of : Histories → List PlatformCode → List Transaction
further_of at platforms = further_at (longest_accepted at platforms) (place_of (history_at_end at platforms))

-- the title: the fold of the longest accepted chain, followed by what was recorded at the end since
abbrev pub title_of : Histories → List PlatformCode → Option Title
title_of at platforms =
    unwrap_or (result_ok (fold (transactions_of (longest_accepted at platforms) ++ further_of at platforms))) None

-- ---- who may act

-- the platforms on which somebody may act
abbrev pub acting : Histories → List PlatformCode → List PlatformCode
acting at platforms = filter (λ p. may_act_by (at p)) platforms
