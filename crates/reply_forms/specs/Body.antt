-- What a reply says beside its status. Refusals say what they say in an answer line, without the event's number and the
-- messages that were sent.
use Rattle.std.specs.Prelude.{ℕ, List, Option, Some, None, codes}
use Rattle.canonical_json.specs.Value.{Value, text, object, Members, no_members, member}
use Rattle.canonical_json.specs.Canon.{canon}
use Rattle.json_forms.specs.Writing.{number_value, party_value, checksum_value}
use Rattle.ebl_base.specs.declared.limit_kind.LimitKind.{LimitKind}
use Rattle.ebl_base.specs.declared.party.Party.{Party}
use Rattle.ebl_base.specs.declared.place_tag.PlaceTag.{PlaceTag}
use Rattle.title_fold.specs.Title.{possessor, title_holder}
use Rattle.title_fold.specs.Refusal.{refusal_text}
use Rattle.title_fold.specs.declared.refusal.FoldRefusal.{FoldRefusal}
use Rattle.title_fold.specs.declared.title.Title.{Title}
use Rattle.transport_document.specs.declared.fault.DocumentField.{DocumentField}
use Rattle.transport_document.specs.declared.fault.DocumentFault.{DocumentFault}
use Rattle.transport_document.specs.declared.fault.DocumentFault.TheVariants as documents
use Rattle.upload_state.specs.Started.{started_value}
use Rattle.platform_requests.specs.Words.{ignore_text}
use Rattle.platform_requests.specs.declared.ignore_reason.IgnoreReason.{IgnoreReason}
use Rattle.platform_requests.specs.declared.reply.Reply.{Reply}
use Rattle.platform_requests.specs.declared.reply.Reply.TheVariants.{Done, Started, Stored, Answer, UnknownReference, NotOurs, Document, NotCarrier, KnownBill, NotHere, NoParty, NotAllowed, Limit, Ignored, NotParting, Sign, Full, Disk, Damaged, NoMemory}
use Rattle.platform_requests.specs.declared.view.View.{View}
use Rattle.reply_forms.specs.declared.body.ReplyBody.{ReplyBody}
use Rattle.reply_forms.specs.declared.body.ReplyBody.TheVariants as bodies
use Rattle.reply_forms.specs.Words.{field_name, limit_text, place_text, state_text}

-- ---- a bill that is shown

-- in front of these members, who has the bill, if there is a title
abbrev pub with_holder : Option Title → Members → Members
with_holder None ms = ms
with_holder (Some title) ms = member (codes "holder") (party_value (title_holder title)) ms

-- who may act, and the state of the title
abbrev pub possession : Option Title → Members
possession None = no_members
possession (Some title) =
    member (codes "possessor") (party_value (possessor title))
    (member (codes "state") (text (state_text title)) no_members)

abbrev pub view_value : View → Value
view_value v =
    object (member (codes "bill") (checksum_value v.bill)
    (member (codes "entries") (number_value v.entries)
    (with_holder v.title
    (member (codes "place") (text (place_text v.place)) (possession v.title)))))

-- ---- refusals

abbrev pub word_value : List ℕ → Value
word_value word = object (member (codes "reply") (text word) no_members)

-- a refusal by the place of the bill
abbrev pub place_value : List ℕ → PlaceTag → Value
place_value word place =
    object (member (codes "place") (text (place_text place)) (member (codes "reply") (text word) no_members))

-- a party to which nothing can go
abbrev pub no_party_value : Party → Value
no_party_value party =
    object (member (codes "party") (party_value party) (member (codes "reply") (text (codes "NO_PARTY")) no_members))

-- a rule of titles that the transaction breaks
abbrev pub not_allowed_value : FoldRefusal → Value
not_allowed_value rule =
    object (member (codes "reply") (text (codes "NOT_ALLOWED"))
    (member (codes "rule") (text (refusal_text rule)) no_members))

abbrev pub limit_value : LimitKind → Value
limit_value which =
    object (member (codes "reply") (text (codes "LIMIT"))
    (member (codes "which") (text (limit_text which)) no_members))

-- a reply of another platform that changes nothing
abbrev pub ignored_value : IgnoreReason → Value
ignored_value reason =
    object (member (codes "reason") (text (ignore_text reason))
    (member (codes "reply") (text (codes "IGNORED")) no_members))

-- a fault of a document that isn't in a member
abbrev pub fault_value : List ℕ → Value
fault_value fault =
    object (member (codes "fault") (text fault) (member (codes "reply") (text (codes "DOCUMENT")) no_members))

-- a malformed member of a document
abbrev pub form_value : DocumentField → Value
form_value field =
    object (member (codes "fault") (text (codes "FORM"))
    (member (codes "field") (text (field_name field)) (member (codes "reply") (text (codes "DOCUMENT")) no_members)))

-- why a document gives no bill; out of memory isn't said
abbrev pub document_value : DocumentFault → Option Value
document_value (documents.DocumentForm field) = Some (form_value field)
document_value documents.NotTitle = Some (fault_value (codes "NOT_TITLE"))
document_value documents.TooLarge = Some (fault_value (codes "TOO_LARGE"))
document_value documents.NoMemory = None

-- ---- bodies

abbrev pub said : Option Value → ReplyBody
said None = bodies.Nothing
said (Some v) = bodies.Json (canon v)

abbrev pub body_of : Reply → ReplyBody
body_of (Done v) = bodies.Json (canon (view_value v))
body_of (Started reference missing) = bodies.Json (canon (started_value
    (record { reference = reference; missing = missing })))
body_of Stored = bodies.Nothing
body_of (Answer response signed) = bodies.Signed signed
body_of UnknownReference = bodies.Nothing
body_of NotOurs = bodies.Json (canon (word_value (codes "NOT_OURS")))
body_of (Document fault) = said (document_value fault)
body_of NotCarrier = bodies.Json (canon (word_value (codes "NOT_CARRIER")))
body_of KnownBill = bodies.Json (canon (word_value (codes "KNOWN_BILL")))
body_of (NotHere place) = bodies.Json (canon (place_value (codes "NOT_HERE") place))
body_of (NoParty party) = bodies.Json (canon (no_party_value party))
body_of (NotAllowed rule) = bodies.Json (canon (not_allowed_value rule))
body_of (Limit which) = bodies.Json (canon (limit_value which))
body_of (Ignored reason) = bodies.Json (canon (ignored_value reason))
body_of (NotParting place) = bodies.Json (canon (place_value (codes "NOT_PARTING") place))
body_of Sign = bodies.Nothing
body_of Full = bodies.Nothing
body_of Disk = bodies.Nothing
body_of (Damaged place) = bodies.Nothing
body_of NoMemory = bodies.Nothing
