use Rattle.std.proofs.Common.{length, ap, ◌∙◌}
use Rattle.platform_office.proofs.OpeningLemmas.{gate_next}
use Rattle.platform_office.proofs.shard.place_behind.Goals as goal

pub loop-frame-preserved : goal.loop-frame-preserved
loop-frame-preserved c =
    gate_next c.args.frames.now c.loop-frame.frame-index c.frame-item.result _ _ _ c.loop-frame-test.true
    c.frame-item.is c.loop-frame.invariant (c.len.ensures ∙ ap length c.in_ok-content.ensures.text)
    c.in_ok-place.ensures
