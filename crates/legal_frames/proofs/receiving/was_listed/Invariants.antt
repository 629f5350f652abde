-- What is left lists the document where the whole does.
use Rattle.std.proofs.Common.{◌≡◌, length}
use Rattle.std.specs.List.{list_any}
use Rattle.bill_diary.specs.History.{history}
use Rattle.legal_frames.specs.Rows.{lists_as}
use Rattle.legal_frames.proofs.receiving.was_listed.Given as goal

abbrev pub invariant-loop-record : goal.invariant-loop-record
invariant-loop-record l =
    list_any (lists_as l.entry l.name l.size) (history l.fn.bill l.frames)
    ≡ list_any (lists_as l.entry l.name l.size) l.left

abbrev pub decreases-loop-record : goal.decreases-loop-record
decreases-loop-record l = length l.left
