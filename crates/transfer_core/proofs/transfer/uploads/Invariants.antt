-- The messages so far, followed by those of the documents that are left, are all but the last.
use Rattle.std.proofs.Common.{◌≡◌, ◌++◌, length}
use Rattle.std.specs.List.{flat_map}
use Rattle.std.specs.Option.{option_to_list}
use Rattle.bill_diary.specs.History.{history}
use Rattle.platform_machine.specs.Transfer.{put_of}
use Rattle.transfer_core.specs.Transfer.{transfer_view}
use Rattle.transfer_core.proofs.transfer.uploads.Given as goal

abbrev pub invariant-loop-piece : goal.invariant-loop-piece
invariant-loop-piece l =
    l.messages ++ flat_map (λ piece. option_to_list (put_of l.bill (history l.bill l.register.diary) (transfer_view l.t) l.missing piece)) l.left
    ≡ flat_map (λ piece. option_to_list (put_of l.bill (history l.bill l.register.diary) (transfer_view l.t) l.missing piece))
    l.t.parted.manifest.now.documents

abbrev pub decreases-loop-piece : goal.decreases-loop-piece
decreases-loop-piece l = length l.left
