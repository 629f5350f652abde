use Rattle.std.proofs.Common.{rules, ◌∙◌, arith}
use Rattle.platform_office.proofs.OpeningLemmas.{first_again, first_pass, known_so}
use Rattle.platform_office.proofs.office.Office.open.Goals as goal

pub returns-in-Ok-new-clause-of : goal.returns-in-Ok-new-clause-of
returns-in-Ok-new-clause-of g c =
    first_pass g.D.Disk.tells g.D.Disk.seen g.D.Disk.faults c.args.me c.args.roster g.G.KeyRing.faults _ _
    c.args.racks.items c.in-Ok.shards.items (search rules) (search rules) (search rules) c.in-Ok-new.ensures.first
    c.in-Ok.ensures.opened (omega (arith, c.requires.sixteen, c.args.racks.ok.0))

pub returns-in-Ok-new-clause-first : goal.returns-in-Ok-new-clause-first
returns-in-Ok-new-clause-first g c = first_again _ _ c.in-Ok-new.ensures.first

pub returns-in-Ok-new-clause-opened : goal.returns-in-Ok-new-clause-opened
returns-in-Ok-new-clause-opened g c =
    known_so g.D.Disk.tells g.D.Disk.seen g.D.Disk.faults c.args.me c.args.roster g.G.KeyRing.faults
    c.args.racks.items c.in-Ok.shards.items _ c.in-Ok-new.ensures.first c.in-Ok.ensures.opened
