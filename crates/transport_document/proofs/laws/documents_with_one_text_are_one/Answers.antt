use Rattle.std.proofs.Common.{sym, ◌∙◌}
use Rattle.transport_document.proofs.DocumentLemmas.{text-document_of, one_document}
use Rattle.transport_document.proofs.laws.documents_with_one_text_are_one.Goals as goal

pub returns : goal.returns
returns c v w a b first second lawful other same =
    one_document v w a b first second
    (c.equal_texts_have_equal_values.ensures v w lawful other (sym (text-document_of v a first) ∙ same ∙ text-document_of w b second))
