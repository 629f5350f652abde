-- The frame of the last number keeps the last such record.
use Rattle.std.proofs.Common.{◌≡◌, ap, ◌∙◌}
use Rattle.bill_diary.specs.Sound.{has_reference}
use Rattle.title_register.specs.declared.frame_key.FrameKey.TheVariants as keys
use Rattle.title_register.specs.Frames.{has, last_number, record_numbered}
use Rattle.title_register.specs.Register.{Registered}
use Rattle.title_register.proofs.LookUpLemmas.{begun_numbered}
use Rattle.title_register.proofs.register.Register.begun.Goals as goal

pub returns-clause-record : goal.returns-clause-record
returns-clause-record c =
    let reference = c.args.reference in
    let diary = c.args.self.now.diary in
    let number_is : c.number.result ≡ last_number (has (has_reference reference)) diary =
    c.number.ensures ∙ c.self.invariant.numbers_are (keys.Begun reference)
    ∙ ap (λ (r : Registered). last_number (has (has_reference reference)) r.diary) c.self.view_is in
    ap (record_numbered diary) number_is ∙ begun_numbered reference diary
