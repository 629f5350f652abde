use Rattle.std.proofs.Common.{◌≡◌, Some, None, sym, ◌∙◌}
use Rattle.transfer_core.proofs.commanding.start_of.Goals as goal

pub start_message-requires : goal.start_message-requires
start_message-requires c = λ none.
    let (known, since, held) = c.requires.held in
    let (document, there) =
    c.held_bill_has_its_document.ensures c.args.me c.args.register.now.diary c.args.bill known since c.requires.sound
    held in
    let both : Some document ≡ None = sym there ∙ none in
    cc both
