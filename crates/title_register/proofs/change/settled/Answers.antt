use Rattle.std.proofs.Common.{◌∷◌, None, ap, refl, ◌∙◌}
use Rattle.bill_diary.specs.declared.record.Record.TheVariants.{Settled}
use Rattle.title_register.specs.Standing.{left_by}
use Rattle.title_register.proofs.ChangeLemmas.{settled_standing}
use Rattle.title_register.proofs.change.settled.Goals as goal

pub returns : goal.returns
returns c bill is =
    let entry = c.args.entry in
    let before = c.args.before.now in
    settled_standing bill entry before c.in_ok-settled_chain.field-0
    (record {
      known = c.unless_shorter-known.result;
      parting = c.over_if.result;
      left = c.left_with-left.result;
      since = None;
    })
    c.names.result c.args.standing.now is c.in_ok-settled_chain.ensures c.unless_shorter-known.ensures c.over_if.ensures
    c.names.ensures
    (c.left_with-left.ensures bill ∙ ap (λ known. left_by known (Settled bill entry ∷ before)) c.known_now.ensures) refl
