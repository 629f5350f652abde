-- The texts of answers' codes and reasons read back.
use Rattle.std.proofs.Common.{◌≡◌, ℕ, Some, refl}
use Rattle.ebl_base.specs.Code.{response_code_of, response_code_text}
use Rattle.ebl_base.specs.Reason.{code_for, reason_at, reason_of, reason_text}
use Rattle.ebl_base.specs.declared.code.Code.{Code}
use Rattle.ebl_base.specs.declared.code.Code.TheVariants.{Received, Duplicate, BadSignature, BadEnvelope, InconsistentDocument, MissingDocuments, DisputedEnvelope}
use Rattle.ebl_base.specs.declared.reason.Reason.{Reason}
use Rattle.ebl_base.specs.declared.reason.Reason.TheVariants.{Body, Document, Length, Signature, Entry, Signer, Link, Bill, Carrier, Platform, Fold, Move, ManifestSignature, ManifestForm, ManifestNames, Destination, Party, Parts, NotListed, Bytes}

-- a code's text is that code's
pub response_code_of-response_code_text : (code : Code) → response_code_of (response_code_text code) ≡ Some code
response_code_of-response_code_text Received = refl
response_code_of-response_code_text Duplicate = refl
response_code_of-response_code_text BadSignature = refl
response_code_of-response_code_text BadEnvelope = refl
response_code_of-response_code_text InconsistentDocument = refl
response_code_of-response_code_text MissingDocuments = refl
response_code_of-response_code_text DisputedEnvelope = refl

-- a reason's text is that reason's, at the first entry where it is of one
pub reason_of-reason_text : (reason : Reason) → reason_of (reason_text reason) ≡ Some (reason_at 0 reason)
reason_of-reason_text Body = refl
reason_of-reason_text Document = refl
reason_of-reason_text Length = refl
reason_of-reason_text (Signature i) = refl
reason_of-reason_text (Entry i) = refl
reason_of-reason_text (Signer i) = refl
reason_of-reason_text (Link i) = refl
reason_of-reason_text (Bill i) = refl
reason_of-reason_text Carrier = refl
reason_of-reason_text (Platform i) = refl
reason_of-reason_text (Fold i) = refl
reason_of-reason_text (Move i) = refl
reason_of-reason_text ManifestSignature = refl
reason_of-reason_text ManifestForm = refl
reason_of-reason_text ManifestNames = refl
reason_of-reason_text Destination = refl
reason_of-reason_text Party = refl
reason_of-reason_text Parts = refl
reason_of-reason_text NotListed = refl
reason_of-reason_text Bytes = refl

-- at another entry it comes with the same code
pub code_for-reason_at : (other : ℕ) (reason : Reason) → code_for (reason_at other reason) ≡ code_for reason
code_for-reason_at other Body = refl
code_for-reason_at other Document = refl
code_for-reason_at other Length = refl
code_for-reason_at other (Signature i) = refl
code_for-reason_at other (Entry i) = refl
code_for-reason_at other (Signer i) = refl
code_for-reason_at other (Link i) = refl
code_for-reason_at other (Bill i) = refl
code_for-reason_at other Carrier = refl
code_for-reason_at other (Platform i) = refl
code_for-reason_at other (Fold i) = refl
code_for-reason_at other (Move i) = refl
code_for-reason_at other ManifestSignature = refl
code_for-reason_at other ManifestForm = refl
code_for-reason_at other ManifestNames = refl
code_for-reason_at other Destination = refl
code_for-reason_at other Party = refl
code_for-reason_at other Parts = refl
code_for-reason_at other NotListed = refl
code_for-reason_at other Bytes = refl
