use Rattle.std.proofs.Common.{Result, sym, ap, ◌∙◌}
use Rattle.std.specs.Result.{result_unwrap_or}
use Rattle.holder_commands.specs.Command.{CommandRecord}
use Rattle.holder_commands.specs.declared.fault.CommandField.{CommandField}
use Rattle.holder_commands.specs.Reading.{command_of}
use Rattle.holder_commands.specs.Writing.{command_value}
use Rattle.holder_commands.proofs.CanonicalForms.{command-lawful}
use Rattle.holder_commands.proofs.RoundTrips.{command_of-command_value}
use Rattle.holder_commands.proofs.laws.commands_with_one_text_are_one.Goals as goal

pub returns : goal.returns
returns c a b first second same =
    let values = c.equal_texts_have_equal_values.ensures (command_value a) (command_value b) (command-lawful a first) (command-lawful b second) same in
    ap (λ (r : Result CommandRecord CommandField). result_unwrap_or r a)
    (sym (command_of-command_value a first) ∙ ap command_of values ∙ command_of-command_value b second)
