use Rattle.bill_diary.specs.History.{history}
use Rattle.bill_diary.proofs.HistoryLemmas.{history_of_sound}
use Rattle.platform_machine.proofs.DocumentLemmas.{held_document}
use Rattle.platform_machine.proofs.laws.held_bill_has_its_document.Goals as goal

pub returns : goal.returns
returns c =
    λ me diary bill known since sound is.
    held_document me (history bill diary) known since c.document_texts_read_back.ensures
    (history_of_sound me diary bill sound) is
