use Rattle.std.proofs.Common.{sym, subst}
use Rattle.canonical_json.specs.Reading.{Reads}
use Rattle.transport_document.proofs.DocumentLemmas.{text-document_of}
use Rattle.transport_document.proofs.laws.document_texts_read_back.Goals as goal

pub returns : goal.returns
returns c v document is lawful texts deep =
    subst (λ text. Reads text v) (sym (text-document_of v document is)) (c.canonical_reads.ensures v lawful texts deep)
