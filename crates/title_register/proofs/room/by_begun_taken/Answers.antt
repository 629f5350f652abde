-- A Begun that is taken changes what its Taken does.
use Rattle.std.proofs.Common.{◌≡◌, ◌∷◌, ◌++◌, List, Option, IfOk, is_some, true, reverse, refl, sym, ap, subst, ◌∙◌}
use Rattle.ebl_base.specs.declared.chain.ChainLink.{ChainLink}
use Rattle.bill_chain.specs.Chain.{last_of}
use Rattle.bill_diary.specs.declared.frame.Frame.TheVariants.{BegunTaken}
use Rattle.bill_diary.specs.declared.record.Record.{Record}
use Rattle.bill_diary.specs.declared.record.Record.TheVariants.{Begun}
use Rattle.bill_diary.specs.History.{records_of}
use Rattle.title_register.specs.Standing.{standing_of, standing_with}
use Rattle.title_register.proofs.AddLemmas.{begun_is_taken, is_some-option_copied}
use Rattle.title_register.proofs.room.by_begun_taken.Goals as goal

pub returns-then-is_some : goal.returns-then-is_some
returns-then-is_some c =
    let chain : List ChainLink = c.in-Begun.chain in
    let begun = Begun c.in-Begun.bill chain c.in-Begun.manifest c.in-Begun.body in
    let some : is_some (last_of chain) ≡ true =
    ap (λ (links : List ChainLink). is_some (last_of links)) (sym c.as_slice.ensures)
    ∙ ap (λ (o : Option ChainLink). is_some o) (sym c.last_link.ensures)
    ∙ is_some-option_copied c.last_link.result ∙ sym c.is_some.ensures ∙ c.if-is_some.true in
    subst (λ (r : Record). IfOk c.taken.result
    (λ x. standing_with x c.args.standing.now ≡ standing_of (reverse (records_of (BegunTaken r)) ++ c.args.before.now)))
    (sym c.in-Begun.is)
    (begun_is_taken
    (λ (h : List Record). IfOk c.taken.result (λ x. standing_with x c.args.standing.now ≡ standing_of h))
    c.in-Begun.bill chain c.in-Begun.manifest c.in-Begun.body c.args.before.now some
    (λ entry is. c.taken.ensures c.in-Begun.bill entry (begun ∷ c.args.before.now) c.requires is (λ _. refl)))
