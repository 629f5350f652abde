-- There is a number where there is a Settled.
use Rattle.std.proofs.Common.{ℕ, Option, ap, ◌∙◌}
use Rattle.std.specs.Prelude.{is_some}
use Rattle.bill_diary.specs.Place.{is_settled}
use Rattle.title_register.specs.declared.frame_key.FrameKey.TheVariants as keys
use Rattle.title_register.proofs.LookUpLemmas.{settled_numbered}
use Rattle.title_register.proofs.past.Past.is_settled.Goals as goal

pub returns : goal.returns
returns c =
    let entry = c.args.entry in
    let bill = c.self.inside.bill in
    c.is_some.ensures
    ∙ ap (λ (n : Option ℕ). is_some n) (c.number.ensures ∙ c.self.invariant.numbers_are (keys.Settled bill entry))
    ∙ settled_numbered bill entry c.self.inside.frames.now ∙ ap (is_settled entry) c.self.view_is
