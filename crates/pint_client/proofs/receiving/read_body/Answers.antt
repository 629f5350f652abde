use Rattle.std.proofs.Common.{ap, ◌∙◌, length}
use Rattle.pint_client.proofs.FillLemmas.{HoldsBody-same, written_back}
use Rattle.pint_client.proofs.receiving.read_body.Goals as goal

pub returns-in-Ok-fill_behind-clause-ok : goal.returns-in-Ok-fill_behind-clause-ok
returns-in-Ok-fill_behind-clause-ok g c =
    let left = g.L.Link.left in
    let body = c.in-Ok.body in
    let kept = written_back body.items c.fill_behind.new.body body.len (c.fill_behind.auto.body ∙ c.deref_mut.ensures.len) in
    HoldsBody-same c.fill_behind.new.body c.from_vec.result c.args.behind.now c.args.size _ (left c.args.link.now) (left c.fill_behind.new.link)
    (c.from_vec.ensures ∙ kept) (ap length c.deref_mut.ensures.value ∙ c.in-Ok.ensures) c.in-Ok-fill_behind.ensures.ok
