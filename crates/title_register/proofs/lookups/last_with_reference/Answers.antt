use Rattle.std.proofs.Common.{sym, ◌∙◌}
use Rattle.bill_diary.specs.History.{newest_first}
use Rattle.title_register.proofs.FoundLemmas.{begun_is}
use Rattle.title_register.proofs.lookups.last_with_reference.Goals as goal

pub returns : goal.returns
returns c =
    begun_is c.args.reference (newest_first c.args.register.now.diary) c.in_ok-record_at.field-0.now c.begun_in.result
    (sym c.in_ok-begun.ensures.record ∙ sym c.in_ok-record_at.ensures) c.begun_in.ensures
