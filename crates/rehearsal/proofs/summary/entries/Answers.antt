use Rattle.std.proofs.Common.{List, min, sum_by, refl, ap, ◌∙◌, arith}
use Rattle.std.proofs.lemmas.List.{take_all}
use Rattle.json_forms.specs.Writing.{capped_value}
use Rattle.bill_lines.specs.declared.standing.Standing.{Standing}
use Rattle.rehearsal.proofs.Counts.{capped_alike, sum_more}
use Rattle.rehearsal.proofs.summary.entries.Goals as goal

pub loop-standing-preserved : goal.loop-standing-preserved
loop-standing-preserved c =
    c.saturating_add-sum.ensures
    ∙ sum_more (λ (s : Standing). s.entries) c.args.standings.now c.loop-standing.standing-index _ c.loop-standing.sum _
    18446744073709551615 (omega arith) refl c.loop-standing.invariant

pub returns : goal.returns
returns c =
    ap capped_value
    (c.loop-standing.invariant
    ∙ ap (λ (xs : List Standing). min (sum_by (λ (s : Standing). s.entries) xs) 18446744073709551615)
    (take_all c.loop-standing.standing-index c.args.standings.now (omega arith)))
    ∙ capped_alike (sum_by (λ (s : Standing). s.entries) c.args.standings.now)
