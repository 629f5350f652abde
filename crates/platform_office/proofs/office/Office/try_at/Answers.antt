use Rattle.platform_requests.specs.Request.{request_view}
use Rattle.platform_office.proofs.OfficeLemmas.{served_at, turned_opened}
use Rattle.platform_office.proofs.office.Office.try_at.Goals as goal

pub returns-in-Ok-clause-served : goal.returns-in-Ok-clause-served
returns-in-Ok-clause-served g c =
    let (post, is, does) = c.in-Ok.ensures.does in
    served_at g.D.Disk.tells g.G.KeyRing.keys _ c.args.pass.now.knows c.try_turn.new.pass.knows c.args.now
    (request_view c.args.request) c.in-Ok.served post
    (turned_opened _ _ _ _ c.in-Ok.ensures.turned) is does.0 does.1
