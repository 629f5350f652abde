use Rattle.std.proofs.Common.{Ok, ap, ◌∙◌}
use Rattle.bill_diary.specs.History.{newest_first}
use Rattle.holder_commands.specs.Command.{command_view}
use Rattle.transfer_judge.proofs.FollowLemmas.{nothing_is_new}
use Rattle.transfer_core.proofs.PartLemmas.{part_forms, part_is_held}
use Rattle.transfer_core.proofs.commanding.command.Goals as goal

pub nothing-requires : goal.nothing-requires
nothing-requires g c =
    nothing_is_new c.args.roster.now c.args.me (newest_first c.args.register.now.diary) c.args.party (command_view c.args.asked.now)
    c.args.now (c.in-Ok-Nothing.ensures.ok ∙ ap Ok c.in-Ok-Nothing.field-0-is)

pub part-requires-clause-held : goal.part-requires-clause-held
part-requires-clause-held g c =
    part_is_held c.args.roster.now c.args.me c.args.register.now.diary c.args.party (command_view c.args.asked.now) c.args.now
    c.in-Ok-Part.entry c.in-Ok-Part.documents c.in-Ok-Part.to
    (c.in-Ok-Part.ensures.ok ∙ ap Ok c.in-Ok-Part.field-0-is)

pub part-requires-clause-entry : goal.part-requires-clause-entry
part-requires-clause-entry g c =
    (part_forms c.args.roster.now c.args.me c.args.register.now.diary c.args.party (command_view c.args.asked.now) c.args.now
    c.in-Ok-Part.entry c.in-Ok-Part.documents c.in-Ok-Part.to c.requires.sound c.requires.handed c.requires.attempts
    (c.in-Ok-Part.ensures.ok ∙ ap Ok c.in-Ok-Part.field-0-is)).0

pub part-requires-clause-documents : goal.part-requires-clause-documents
part-requires-clause-documents g c =
    (part_forms c.args.roster.now c.args.me c.args.register.now.diary c.args.party (command_view c.args.asked.now) c.args.now
    c.in-Ok-Part.entry c.in-Ok-Part.documents c.in-Ok-Part.to c.requires.sound c.requires.handed c.requires.attempts
    (c.in-Ok-Part.ensures.ok ∙ ap Ok c.in-Ok-Part.field-0-is)).1
