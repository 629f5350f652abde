-- The bytes in the frame of the first number are those that were there first.
use Rattle.std.proofs.Common.{◌≡◌, ℕ, Option, ap, ◌∙◌}
use Rattle.std.specs.Prelude.{option_and_then}
use Rattle.bill_diary.specs.Searches.{bytes_in}
use Rattle.title_register.specs.declared.frame_key.FrameKey.TheVariants as keys
use Rattle.title_register.specs.Frames.{brings_to, first_number, has, record_numbered}
use Rattle.title_register.specs.Register.{Registered}
use Rattle.title_register.proofs.LookUpLemmas.{bytes_numbered}
use Rattle.title_register.proofs.register.Register.kept.Goals as goal

pub returns-clause-bytes : goal.returns-clause-bytes
returns-clause-bytes c =
    let bill = c.args.bill in
    let checksum = c.args.checksum in
    let diary = c.args.self.now.diary in
    let number_is : c.number.result ≡ first_number (has (brings_to bill checksum)) diary =
    c.number.ensures ∙ c.self.invariant.numbers_are (keys.Document bill checksum)
    ∙ ap (λ (r : Registered). first_number (has (brings_to bill checksum)) r.diary) c.self.view_is in
    ap (λ (n : Option ℕ). option_and_then (bytes_in checksum) (record_numbered diary n)) number_is
    ∙ bytes_numbered bill checksum diary
