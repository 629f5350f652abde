use Rattle.std.proofs.Common.{Some, ap, sym, ◌∙◌}
use Rattle.std.proofs.lemmas.Option.{slice_get_past}
use Rattle.transfer_judge.proofs.PartingLemmas.{link_or, own_text_at}
use Rattle.transfer_judge.proofs.dispute.own_link_at.Goals as goal

pub returns-in-None : goal.returns-in-None
returns-in-None c =
    let known = c.args.known.now in
    let entry = c.args.entry.now in
    sym (own_text_at known entry c.args.index
    ∙ ap (λ link. Some (link_or link entry).text) (slice_get_past known c.args.index c.in-None.ensures.lookup.3))
