use Rattle.std.proofs.Common.{◌∙◌, arith}
use Rattle.platform_office.proofs.ClosingLemmas.{shard_left}
use Rattle.platform_office.proofs.OfficeLemmas.{pass_back}
use Rattle.platform_office.proofs.office.Office.close.Goals as goal

pub returns-in-Ok-close-clause-left : goal.returns-in-Ok-close-clause-left
returns-in-Ok-close-clause-left g c = λ k lt.
    let (s, there, handed) = c.in-Ok-close.ensures.values k (omega (arith, lt, c.self.invariant)) in
    shard_left g.D.Disk.tells g.G.KeyRing.keys g.D.Disk.seen g.D.Disk.may_leave g.D.Disk.faults g.G.KeyRing.faults
    c.args.self k
    c.args.last.knows c.in-Ok-close.shards.items c.close_all.result.racks.items c.close_all.result.diaries s
    (c.requires.of.posts k lt) there handed c.close_all.ensures.racks c.close_all.ensures.diaries
    c.close_all.ensures.posts

pub returns-in-Err-clause-of : goal.returns-in-Err-clause-of
returns-in-Err-clause-of g c =
    pass_back _ c.args.last c.in-Err.last c.in-Err.fault c.requires.of c.in-Err.ensures.of c.in-Err.ensures.passes
    c.in-Err.ensures.no_memory
