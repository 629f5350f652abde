-- Why an envelope or a document isn't received, and with which code each reason comes.
use Rattle.std.specs.Prelude.{ℕ, List, Option, Some, None, codes, [], ◌∷◌, find}
use Rattle.std.specs.Str.{bytes_eq}
use Rattle.ebl_base.specs.declared.code.Code.{Code}
use Rattle.ebl_base.specs.declared.code.Code.TheVariants.{BadSignature, BadEnvelope, InconsistentDocument, DisputedEnvelope}
use Rattle.ebl_base.specs.declared.reason.Reason.{Reason}
use Rattle.ebl_base.specs.declared.reason.Reason.TheVariants.{Body, Document, Length, Signature, Entry, Signer, Link, Bill, Carrier, Platform, Fold, Move, ManifestSignature, ManifestForm, ManifestNames, Destination, Party, Parts, NotListed, Bytes}

-- the text of a reason, without its index
abbrev pub reason_text : Reason → List ℕ
reason_text Body = codes "BODY"
reason_text Document = codes "DOCUMENT"
reason_text Length = codes "LENGTH"
reason_text (Signature index) = codes "SIGNATURE"
reason_text (Entry index) = codes "ENTRY"
reason_text (Signer index) = codes "SIGNER"
reason_text (Link index) = codes "LINK"
reason_text (Bill index) = codes "BILL"
reason_text Carrier = codes "CARRIER"
reason_text (Platform index) = codes "PLATFORM"
reason_text (Fold index) = codes "FOLD"
reason_text (Move index) = codes "MOVE"
reason_text ManifestSignature = codes "MANIFEST_SIGNATURE"
reason_text ManifestForm = codes "MANIFEST_FORM"
reason_text ManifestNames = codes "MANIFEST_NAMES"
reason_text Destination = codes "DESTINATION"
reason_text Party = codes "PARTY"
reason_text Parts = codes "PARTS"
reason_text NotListed = codes "NOT_LISTED"
reason_text Bytes = codes "BYTES"

-- the index of the entry in the chain, where the reason is of one
abbrev pub reason_index : Reason → Option ℕ
reason_index Body = None
reason_index Document = None
reason_index Length = None
reason_index (Signature index) = Some index
reason_index (Entry index) = Some index
reason_index (Signer index) = Some index
reason_index (Link index) = Some index
reason_index (Bill index) = Some index
reason_index Carrier = None
reason_index (Platform index) = Some index
reason_index (Fold index) = Some index
reason_index (Move index) = Some index
reason_index ManifestSignature = None
reason_index ManifestForm = None
reason_index ManifestNames = None
reason_index Destination = None
reason_index Party = None
reason_index Parts = None
reason_index NotListed = None
reason_index Bytes = None

-- the reason at another entry, where it is of one
abbrev pub reason_at : ℕ → Reason → Reason
reason_at other Body = Body
reason_at other Document = Document
reason_at other Length = Length
reason_at other (Signature index) = Signature other
reason_at other (Entry index) = Entry other
reason_at other (Signer index) = Signer other
reason_at other (Link index) = Link other
reason_at other (Bill index) = Bill other
reason_at other Carrier = Carrier
reason_at other (Platform index) = Platform other
reason_at other (Fold index) = Fold other
reason_at other (Move index) = Move other
reason_at other ManifestSignature = ManifestSignature
reason_at other ManifestForm = ManifestForm
reason_at other ManifestNames = ManifestNames
reason_at other Destination = Destination
reason_at other Party = Party
reason_at other Parts = Parts
reason_at other NotListed = NotListed
reason_at other Bytes = Bytes

-- the code with which a reason comes
abbrev pub code_for : Reason → Code
code_for Body = BadEnvelope
code_for Document = BadEnvelope
code_for Length = BadEnvelope
code_for (Signature index) = BadSignature
code_for (Entry index) = BadEnvelope
code_for (Signer index) = BadSignature
code_for (Link index) = BadEnvelope
code_for (Bill index) = BadEnvelope
code_for Carrier = BadEnvelope
code_for (Platform index) = BadEnvelope
code_for (Fold index) = BadEnvelope
code_for (Move index) = BadEnvelope
code_for ManifestSignature = BadSignature
code_for ManifestForm = BadEnvelope
code_for ManifestNames = BadEnvelope
code_for Destination = BadEnvelope
code_for Party = BadEnvelope
code_for Parts = DisputedEnvelope
code_for NotListed = InconsistentDocument
code_for Bytes = InconsistentDocument

-- every reason, at the first entry where it is of one
abbrev pub reasons : List Reason
reasons =
    Body ∷ Document ∷ Length ∷ Signature 0 ∷ Entry 0 ∷ Signer 0 ∷ Link 0 ∷ Bill 0 ∷ Carrier ∷ Platform 0 ∷ Fold 0
    ∷ Move 0 ∷ ManifestSignature ∷ ManifestForm ∷ ManifestNames ∷ Destination ∷ Party ∷ Parts ∷ NotListed ∷ Bytes ∷ []

-- the reason with this text, at the first entry where it is of one
abbrev pub reason_of : List ℕ → Option Reason
reason_of text = find (λ reason. bytes_eq (reason_text reason) text) reasons
