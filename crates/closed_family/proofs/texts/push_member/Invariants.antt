-- What is out, followed by what is left, is the whole.
use Rattle.std.proofs.Common.{◌≡◌, ◌++◌, drop}
use Rattle.std.specs.List.{flat_map}
use Rattle.bill_diary.specs.History.{records_of}
use Rattle.closed_family.specs.Texts.{named_texts}
use Rattle.closed_family.proofs.texts.push_member.Given as goal

abbrev pub invariant-loop-diary : goal.invariant-loop-diary
invariant-loop-diary l =
    l.texts.items ++ named_texts (flat_map (λ d. flat_map records_of d) (drop l.diary-index l.diary-items))
    ≡ l.fn.texts.items ++ named_texts (flat_map (λ d. flat_map records_of d) l.fn.member.diaries)
