use Rattle.std.proofs.Common.{sym, ◌∙◌}
use Rattle.platform_office.proofs.AskingLemmas.{settled_order}
use Rattle.platform_office.proofs.asking.settle.Goals as goal

pub returns-in-Ok-clause-order : goal.returns-in-Ok-clause-order
returns-in-Ok-clause-order g c = λ i at.
    settled_order g.D.Disk.tells g.G.KeyRing.keys g.D.Disk.seen g.D.Disk.may_leave i c.args.shard.now c.settle.new.self
    c.in-Ok.ensures.found c.in-Ok.ensures.read c.settle.ensures.legal
    (λ told. c.settle.ensures.on_disk (sym c.settle.ensures.told ∙ told)) at
