-- What a document of a bill is: its canonical text, and the carrier that it names.
use Rattle.std.specs.Prelude.{ℕ, List}
use Rattle.document_checksum.specs.Digest.{checksum_of}
use Rattle.ebl_base.specs.declared.checksum.Checksum.{Checksum}
use Rattle.ebl_base.specs.declared.provider.Provider.{Provider}
use Rattle.ebl_base.specs.declared.carrier_code.CarrierCode.{CarrierCode}

pub record DocumentRecord : Type 0 where
  pub text : List ℕ
  pub provider : Provider
  pub code : CarrierCode

-- the name of the bill: the checksum of the document's canonical text
abbrev pub bill_of : DocumentRecord → Checksum
bill_of document = checksum_of document.text
