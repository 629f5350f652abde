use Rattle.std.proofs.Common.{arith}
use Rattle.std.proofs.lemmas.List.{nil_from_length}
use Rattle.std.proofs.lemmas.Grind.{common_steps}
use Rattle.ebl_base.proofs.SegmentLemmas.{segments_of-cut}
use Rattle.ebl_base.proofs.segments.first_segment.Goals as goal

pub returns-then-is_empty-2-clause-first : goal.returns-then-is_empty-2-clause-first
returns-then-is_empty-2-clause-first c =
    grind (arith, common_steps, segments_of-cut c.args.end c.args.text.now, nil_from_length c.split_at.result.1.now)

pub returns-clause-first : goal.returns-clause-first
returns-clause-first c = grind (arith, common_steps, segments_of-cut c.args.end c.args.text.now)
