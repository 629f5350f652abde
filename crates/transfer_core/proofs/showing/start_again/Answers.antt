use Rattle.platform_machine.specs.Transfer.{document_in}
use Rattle.bill_diary.specs.History.{history}
use Rattle.transfer_core.specs.Transfer.{transfer_view}
use Rattle.transfer_core.proofs.WayLemmas.{not_none}
use Rattle.transfer_core.proofs.showing.start_again.Goals as goal

pub start_message-requires : goal.start_message-requires
start_message-requires c =
    let way = c.in-Ok.ensures.found in
    not_none (document_in (history c.args.bill c.args.register.now.diary))
    (c.parting_bill_is_under_way.ensures.document c.args.me c.args.register.now.diary c.args.bill way.known
    (transfer_view c.in-Ok.t).entry c.requires way.parting)
