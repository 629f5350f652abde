use Rattle.std.proofs.Common.{sym}
use Rattle.transfer_judge.proofs.PartingLemmas.{front_of_another, front_of_none, front_one_more, front_short}
use Rattle.transfer_judge.proofs.dispute.front_with.Goals as goal
use Rattle.transfer_judge.proofs.dispute.front_with.Goals.{else-front-known-via-then-front-known+then-front-shown+else-eq, else-front-known-via-then-front-known+else-front-shown, else-front-known-via-else-front-known}

pub returns-then-eq : goal.returns-then-eq
returns-then-eq c =
    front_one_more c.args.known.now c.args.shown.now c.args.entry.now c.index-shown-front.result
    c.common_front-front.result c.common_front-front.ensures c.if-front-known.true c.if-front-shown.true
    (sym c.if-eq.ensures)

pub returns-else-front-known : goal.returns-else-front-known
returns-else-front-known c =
    let known = c.args.known.now in
    let shown = c.args.shown.now in
    let entry = c.args.entry.now in
    let front = c.common_front-front.result in
    let common = c.common_front-front.ensures in
    elim c.else-front-known.branch [
      | else-front-known-via-then-front-known+then-front-shown+else-eq w ↦
          front_of_another known shown entry w.index-shown-front.result front common w.if-front-known.true
          w.if-front-shown.true (sym w.if-eq.ensures)
      | else-front-known-via-then-front-known+else-front-shown w ↦
          front_of_none known shown entry front common w.if-front-known.true w.if-front-shown.false
      | else-front-known-via-else-front-known w ↦
          front_short known shown entry front common w.if-front-known.false
    ]
