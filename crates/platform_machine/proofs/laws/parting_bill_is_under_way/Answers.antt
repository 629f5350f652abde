use Rattle.bill_diary.specs.History.{history}
use Rattle.bill_diary.proofs.HistoryLemmas.{history_of_sound}
use Rattle.platform_machine.proofs.DocumentLemmas.{document_there}
use Rattle.platform_machine.proofs.TransferLemmas.{under_way_so}
use Rattle.platform_machine.proofs.laws.parting_bill_is_under_way.Goals as goal

pub returns-clause-transfer : goal.returns-clause-transfer
returns-clause-transfer c = under_way_so

pub returns-clause-document : goal.returns-clause-document
returns-clause-document c =
    λ me diary bill known entry sound is.
    document_there me (history bill diary) known entry c.document_texts_read_back.ensures
    (history_of_sound me diary bill sound) is
