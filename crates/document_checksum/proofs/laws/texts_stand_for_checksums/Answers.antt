use Rattle.sha2.proofs.Facts256.{length-sha256}
use Rattle.document_checksum.proofs.DigestBytes.{IsBytes-sha256}
use Rattle.document_checksum.proofs.Texts.{checksum_of_text-checksum_text, checksum_text-checksum_of_text}
use Rattle.document_checksum.proofs.laws.texts_stand_for_checksums.Goals as goal

pub returns-clause-name : goal.returns-clause-name
returns-clause-name c text = record { size = length-sha256 text; bytes = IsBytes-sha256 text }

pub returns-clause-taken : goal.returns-clause-taken
returns-clause-taken c = checksum_of_text-checksum_text

pub returns-clause-again : goal.returns-clause-again
returns-clause-again c = checksum_text-checksum_of_text
