use Rattle.std.proofs.Common.{◌≡◌, take, arith}
use Rattle.std.proofs.lemmas.Bool.Decides.{Decides-eqb, same_from_decides}
use Rattle.std.proofs.lemmas.List.{take_all}
use Rattle.std.proofs.lemmas.Slice.Eq.{bytes_eq-Decides}
use Rattle.test_signer.proofs.Differences.{difference_more}
use Rattle.test_signer.proofs.tags.are_equal.Goals as goal

pub loop-i-preserved : goal.loop-i-preserved
loop-i-preserved c =
    difference_more c.loop-i.difference c.loop-i.i c.args.tag.now c.args.other.now (omega arith) (omega arith) c.loop-i.invariant

pub returns : goal.returns
returns c =
    let tag = c.args.tag.now in
    let other = c.args.other.now in
    let whole_tag : take c.loop-i.i tag ≡ tag = take_all c.loop-i.i tag (omega arith) in
    let whole_other : take c.loop-i.i other ≡ other = take_all c.loop-i.i other (omega arith) in
    let none = Decides-eqb c.loop-i.difference 0 in
    let same = rw (whole_tag, whole_other) at c.loop-i.invariant in
    same_from_decides _ _ (λ h. same.0 (none.0 h), λ e. none.1 (same.1 e)) (bytes_eq-Decides tag other)
