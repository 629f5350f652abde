-- What is out, followed by what is left, is the whole.
use Rattle.std.proofs.Common.{◌≡◌, ◌++◌, drop}
use Rattle.std.specs.List.{flat_map}
use Rattle.bill_diary.specs.History.{records_of}
use Rattle.closed_family.specs.Texts.{named_texts}
use Rattle.closed_family.proofs.texts.push_diary.Given as goal

abbrev pub invariant-loop-frame : goal.invariant-loop-frame
invariant-loop-frame l =
    l.texts.items ++ named_texts (flat_map records_of (drop l.frame-index l.frame-items))
    ≡ l.fn.texts.items ++ named_texts (flat_map records_of l.fn.diary)
