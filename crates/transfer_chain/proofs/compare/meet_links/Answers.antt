use Rattle.std.proofs.Common.{sym, subst, arith}
use Rattle.bill_chain.specs.Chain.{names_of}
use Rattle.transfer_chain.specs.Meeting.{PartAt}
use Rattle.transfer_chain.proofs.MeetingLemmas.{chains_part, first_is_front, second_is_front, both_end}
use Rattle.transfer_chain.proofs.compare.meet_links.Goals as goal

pub returns-then-place-min : goal.returns-then-place-min
returns-then-place-min c =
    subst (PartAt (names_of c.args.a.now) (names_of c.args.b.now)) (sym c.common_front-place.ensures)
    (chains_part c.args.a.now c.args.b.now (omega arith) (omega arith))

pub returns-then-a-b : goal.returns-then-a-b
returns-then-a-b c = first_is_front c.args.a.now c.args.b.now (omega arith) (omega arith)

pub returns-then-b-a : goal.returns-then-b-a
returns-then-b-a c = second_is_front c.args.a.now c.args.b.now (omega arith) (omega arith)

pub returns : goal.returns
returns c = both_end c.args.a.now c.args.b.now (omega arith) (omega arith)
