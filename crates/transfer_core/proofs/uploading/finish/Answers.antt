use Rattle.platform_machine.proofs.SealLemmas.{sealable_at_finish}
use Rattle.transfer_core.specs.Begun.{begun_view}
use Rattle.transfer_core.proofs.StepLemmas.{finished}
use Rattle.transfer_core.proofs.uploading.finish.Goals as goal

pub finish_begun-requires : goal.finish_begun-requires
finish_begun-requires g c =
    sealable_at_finish c.args.roster.now c.args.me c.args.register.now.diary c.args.reference (begun_view c.in-Some.begun)
    c.requires c.in-Some.ensures

pub returns-in-Some-clause-ok : goal.returns-in-Some-clause-ok
returns-in-Some-clause-ok g c =
    finished c.args.roster.now (g.G.KeyRing.keys c.args.ring.now) c.args.me c.args.register.now.diary c.args.reference
    (begun_view c.in-Some.begun) c.finish_begun.result c.in-Some.ensures c.finish_begun.ensures.ok
