-- The bytes of one reply.
use Rattle.std.specs.Prelude.{ℕ, Bool, true, false, List, [], ◌∷◌, ◌++◌, length, codes, decimal}
use Rattle.canonical_json.specs.Value.{flag, object, no_members, member}
use Rattle.canonical_json.specs.Canon.{canon}
use Rattle.ebl_base.specs.declared.code.Code.{Code}
use Rattle.ebl_base.specs.declared.code.Code.TheVariants.{Received, Duplicate, BadSignature, BadEnvelope, InconsistentDocument, MissingDocuments, DisputedEnvelope}
use Rattle.transport_document.specs.declared.fault.DocumentFault.{DocumentFault}
use Rattle.transport_document.specs.declared.fault.DocumentFault.TheVariants as documents
use Rattle.platform_requests.specs.declared.reply.Reply.{Reply}
use Rattle.platform_requests.specs.declared.reply.Reply.TheVariants.{Done, Started, Stored, Answer, UnknownReference, NotOurs, Document, NotCarrier, KnownBill, NotHere, NoParty, NotAllowed, Limit, Ignored, NotParting, Sign, Full, Disk, Damaged, NoMemory}
use Rattle.reply_forms.specs.declared.body.ReplyBody.{ReplyBody}
use Rattle.reply_forms.specs.declared.body.ReplyBody.TheVariants as bodies
use Rattle.http_heads.specs.Status.{status_number, phrase_of}
use Rattle.http_heads.specs.declared.status.Status.{Status}
use Rattle.http_heads.specs.declared.status.Status.TheVariants as statuses

-- ---- statuses

abbrev pub answer_status : Code → Status
answer_status Received = statuses.Ok
answer_status Duplicate = statuses.Ok
answer_status BadSignature = statuses.UnprocessableEntity
answer_status BadEnvelope = statuses.UnprocessableEntity
answer_status InconsistentDocument = statuses.Conflict
answer_status MissingDocuments = statuses.Conflict
answer_status DisputedEnvelope = statuses.Conflict

abbrev pub document_status : DocumentFault → Status
document_status (documents.DocumentForm field) = statuses.Conflict
document_status documents.NotTitle = statuses.Conflict
document_status documents.TooLarge = statuses.Conflict
document_status documents.NoMemory = statuses.InternalServerError

abbrev pub status_of : Reply → Status
status_of (Done v) = statuses.Ok
status_of (Started reference missing) = statuses.Created
status_of Stored = statuses.NoContent
status_of (Answer response text) = answer_status response.code
status_of UnknownReference = statuses.NotFound
status_of NotOurs = statuses.Conflict
status_of (Document fault) = document_status fault
status_of NotCarrier = statuses.Conflict
status_of KnownBill = statuses.Conflict
status_of (NotHere place) = statuses.Conflict
status_of (NoParty party) = statuses.Conflict
status_of (NotAllowed rule) = statuses.Conflict
status_of (Limit which) = statuses.Conflict
status_of (Ignored reason) = statuses.Conflict
status_of (NotParting place) = statuses.Conflict
status_of Sign = statuses.BadGateway
status_of Full = statuses.InsufficientStorage
status_of Disk = statuses.ServiceUnavailable
status_of (Damaged place) = statuses.ServiceUnavailable
status_of NoMemory = statuses.InternalServerError

-- ---- bytes

-- a line ends with CR LF
abbrev pub line : List ℕ → List ℕ
line text = text ++ 13 ∷ 10 ∷ []

abbrev pub bytes_of : ReplyBody → List ℕ
bytes_of bodies.Nothing = []
bytes_of (bodies.Json text) = text
bytes_of (bodies.Signed text) = text.0

abbrev pub status_line : Status → List ℕ
status_line status = line (codes "HTTP/1.1 " ++ decimal (status_number status) ++ codes " " ++ phrase_of status)

abbrev pub type_line : ReplyBody → List ℕ
type_line bodies.Nothing = []
type_line (bodies.Json text) = line (codes "content-type: application/json")
type_line (bodies.Signed text) = line (codes "content-type: application/jose")

abbrev pub stated_length : ReplyBody → List ℕ
stated_length body = line (codes "content-length: " ++ decimal (length (bytes_of body)))

-- a 204 states no length
abbrev pub length_line : Status → ReplyBody → List ℕ
length_line statuses.NoContent body = []
length_line statuses.Ok body = stated_length body
length_line statuses.Created body = stated_length body
length_line statuses.BadRequest body = stated_length body
length_line statuses.NotFound body = stated_length body
length_line statuses.MethodNotAllowed body = stated_length body
length_line statuses.Conflict body = stated_length body
length_line statuses.LengthRequired body = stated_length body
length_line statuses.PayloadTooLarge body = stated_length body
length_line statuses.UnprocessableEntity body = stated_length body
length_line statuses.InternalServerError body = stated_length body
length_line statuses.NotImplemented body = stated_length body
length_line statuses.BadGateway body = stated_length body
length_line statuses.ServiceUnavailable body = stated_length body
length_line statuses.InsufficientStorage body = stated_length body

abbrev pub closing_line : Bool → List ℕ
closing_line true = []
closing_line false = line (codes "connection: close")

-- with a line that says so where the link is closed after the reply
unfoldable pub reply_text : Status → ReplyBody → Bool → List ℕ
reply_text status body keeps =
    status_line status ++ type_line body ++ length_line status body ++ closing_line keeps ++ line [] ++ bytes_of body

-- the body of a reply to a receiver validation
abbrev pub known_body : Bool → ReplyBody
known_body known = bodies.Json (canon (object (member (codes "known") (flag known) no_members)))
