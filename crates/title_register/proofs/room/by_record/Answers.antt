-- What a record changes, by what its own call says.
use Rattle.std.proofs.Common.{◌≡◌, ◌∷◌, IfOk, sym, subst}
use Rattle.bill_diary.specs.declared.record.Record.{Record}
use Rattle.title_register.specs.Standing.{standing_of, standing_with}
use Rattle.title_register.proofs.room.by_record.Goals as goal

pub returns-in-Signed : goal.returns-in-Signed
returns-in-Signed c =
    subst (λ (r : Record). IfOk c.signed.result
    (λ x. standing_with x c.args.standing.now ≡ standing_of (r ∷ c.args.before.now))) (sym c.in-Signed.is)
    (c.signed.ensures c.in-Signed.bill c.in-Signed.document c.args.before.now c.requires)

pub returns-in-Parted : goal.returns-in-Parted
returns-in-Parted c =
    subst (λ (r : Record). IfOk c.parted.result
    (λ x. standing_with x c.args.standing.now ≡ standing_of (r ∷ c.args.before.now))) (sym c.in-Parted.is)
    (c.parted.ensures c.in-Parted.bill c.in-Parted.manifest c.in-Parted.manifest_text c.requires)
