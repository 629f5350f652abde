use Rattle.std.proofs.Common.{sym, ◌∙◌}
use Rattle.bill_diary.specs.History.{history}
use Rattle.title_register.proofs.FoundLemmas.{parted_is}
use Rattle.title_register.proofs.lookups.last_parted_record.Goals as goal

pub returns : goal.returns
returns c =
    parted_is (history c.args.bill c.args.register.now.diary) c.in_ok-record_at.field-0.now c.parted_in.result
    (sym c.in_ok-parted.ensures.record ∙ sym c.in_ok-record_at.ensures) c.parted_in.ensures
