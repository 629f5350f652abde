use Rattle.std.proofs.Common.{refl, sym, ◌∙◌}
use Rattle.transfer_core.specs.Transfer.{transfer_view}
use Rattle.transfer_core.proofs.WayLemmas.{goes_somewhere, transfer_is}
use Rattle.transfer_core.proofs.transfer.transfer_of.Goals as goal

pub unreachable-requires-in_default-platform_at : goal.unreachable-requires-in_default-platform_at
unreachable-requires-in_default-platform_at c =
    goes_somewhere c.args.me c.args.register.now.diary c.args.bill c.args.known.now c.args.entry.now c.requires.sound
    c.requires.parting (sym c.platform_at.ensures ∙ c.in_default-platform_at.is)

pub returns : goal.returns
returns c =
    transfer_is c.args.register.now.diary c.args.bill c.args.known.now c.args.entry.now c.in-Some.parted.bill
    (transfer_view (record { known = c.args.known; parted = c.in-Some.parted; to = c.in-Some-platform_at.to }))
    c.requires.parting (sym c.platform_at.ensures ∙ c.in-Some-platform_at.is) refl c.in-Some.ensures
