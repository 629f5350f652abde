use Rattle.std.proofs.Common.{sym}
use Rattle.title_register.proofs.BytesLemmas.{not_there}
use Rattle.title_register.proofs.lookups.are_there.Goals as goal

pub returns-in-None : goal.returns-in-None
returns-in-None c =
    sym (not_there c.args.me c.args.register.now.diary c.args.bill c.args.checksum c.args.bytes.now c.requires.sound
    c.requires.named (sym c.in-None.ensures))
