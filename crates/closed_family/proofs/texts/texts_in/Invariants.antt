-- What is out, followed by what is left, is the whole.
use Rattle.std.proofs.Common.{◌≡◌, ◌++◌, drop}
use Rattle.closed_family.specs.Family.{records_in}
use Rattle.closed_family.specs.Texts.{named_texts, texts_in}
use Rattle.closed_family.proofs.texts.texts_in.Given as goal

abbrev pub invariant-loop-member : goal.invariant-loop-member
invariant-loop-member l =
    l.texts.items ++ named_texts (records_in (drop l.member-index l.member-items)) ≡ texts_in l.fn.family
