-- There is a number where there is a Taken.
use Rattle.std.proofs.Common.{◌≡◌, ℕ, Option, ap, ◌∙◌}
use Rattle.std.specs.Prelude.{is_some}
use Rattle.bill_diary.specs.Receiving.{takes}
use Rattle.title_register.specs.declared.frame_key.FrameKey.TheVariants as keys
use Rattle.title_register.specs.Frames.{has, last_number}
use Rattle.title_register.specs.Register.{Registered}
use Rattle.title_register.proofs.LookUpLemmas.{taken_numbered}
use Rattle.title_register.proofs.register.Register.taken.Goals as goal

pub returns : goal.returns
returns c =
    let entry = c.args.entry in
    let diary = c.args.self.now.diary in
    let number_is : c.number.result ≡ last_number (has (takes entry)) diary =
    c.number.ensures ∙ c.self.invariant.numbers_are (keys.Taken entry)
    ∙ ap (λ (r : Registered). last_number (has (takes entry)) r.diary) c.self.view_is in
    c.is_some.ensures ∙ ap (λ (n : Option ℕ). is_some n) number_is ∙ taken_numbered entry diary
