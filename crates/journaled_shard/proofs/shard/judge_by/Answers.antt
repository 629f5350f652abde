use Rattle.platform_requests.specs.Request.{request_view}
use Rattle.platform_machine.specs.Step.{with_frame}
use Rattle.platform_machine.proofs.EntryLemmas.{few_in}
use Rattle.transfer_core.specs.Decision.{step_by}
use Rattle.journaled_shard.proofs.shard.judge_by.Goals as goal

pub decide-requires-clause-sound : goal.decide-requires-clause-sound
decide-requires-clause-sound g c =
    c.legal_diary_is_sound.ensures c.args.roster.now (g.G.KeyRing.keys c.args.ring.now) c.args.me
    c.args.written.now.register.diary c.requires.legal

-- the diary with the frame is legal, and so its chains are short
pub carry_out-requires-clause-short : goal.carry_out-requires-clause-short
carry_out-requires-clause-short g c =
    let keys = g.G.KeyRing.keys c.args.ring.now in
    let diary = c.args.written.now.register.diary in
    let after = with_frame diary c.in-Ok.decision.frame in
    let legal =
    c.steps_keep_a_diary_legal.ensures c.args.roster.now keys c.args.me diary c.args.now (request_view c.args.request)
    (step_by diary c.in-Ok.decision) c.requires.form c.requires.legal c.requires.asked c.in-Ok.ensures.ok in
    λ bill.
    few_in c.args.me after bill (c.legal_diary_is_sound.ensures c.args.roster.now keys c.args.me after legal)
