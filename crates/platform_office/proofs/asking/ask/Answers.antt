use Rattle.std.proofs.Common.{rules, inl, inr, ⊎_elim, sym, ◌∙◌}
use Rattle.std.specs.Option.{option_to_list}
use Rattle.bill_locks.proofs.Prefixes.{prefix_trans}
use Rattle.platform_office.proofs.AskingLemmas.{found_begins, found_length}
use Rattle.platform_office.proofs.asking.ask.Goals as goal

pub returns-in-Ok-clause-grows : goal.returns-in-Ok-clause-grows
returns-in-Ok-clause-grows g c =
    let old = c.args.shard.now.written in
    let (added, is) = c.take-outcome.ensures.grows in
    prefix_trans old.diary c.settle.new.shard.written.diary c.take-outcome.new.shard.written.diary
    (found_begins old.diary c.settle.new.shard.written.diary old.loose c.in-Ok.ensures.found)
    (option_to_list added, sym is)

pub returns-in-Ok-clause-before : goal.returns-in-Ok-clause-before
returns-in-Ok-clause-before g c =
    let old = c.args.shard.now.written in
    ⊎_elim (λ e. inl (search rules)) (λ e. inr (search rules))
    (found_length old.diary c.settle.new.shard.written.diary old.loose c.in-Ok.ensures.found)
