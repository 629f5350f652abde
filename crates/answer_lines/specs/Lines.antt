-- The line that answers an event: one object of canonical JSON, and a line feed. Its members are the event's number,
-- the answer's word, the numbers of the messages that were sent, and between them, in the order of the names, what the
-- answer says beside its word.
--
-- | Answer                                   | Further members                                         |
-- |------------------------------------------|---------------------------------------------------------|
-- | DONE                                     | `view`                                                  |
-- | STARTED                                  | `missing`, `reference`                                  |
-- | RECE, DUPE, BSIG, BENV, INCD, MDOC, DISE | `standing`; where there are any, `index`, `own`,        |
-- |                                          | `reason`, `theirs`; in MDOC `missing`                   |
-- | DOCUMENT                                 | `fault`; where a member is malformed, its name `field`  |
-- | NOT_HERE, NOT_PARTING                    | `place`                                                 |
-- | NO_PARTY                                 | `party`                                                 |
-- | NOT_ALLOWED                              | `rule`                                                  |
-- | LIMIT                                    | `which`                                                 |
-- | IGNORED                                  | `reason`                                                |
-- | SHOWN                                    | `bytes`, `from`, `kind`; unless it is for nobody, `to`  |
-- | any other                                | none                                                    |
use Rattle.std.specs.Prelude.{ℕ, List, [], ◌∷◌, ◌++◌, Option, Some, None, codes, option_and_then}
use Rattle.canonical_json.specs.Value.{Value, flag, text, list, object, member}
use Rattle.canonical_json.specs.Canon.{canon}
use Rattle.canonical_json.specs.View.{Entry, members_of}
use Rattle.json_forms.specs.Bytes.{bytes_value}
use Rattle.json_forms.specs.Writing.{capped_value, checksum_value, checksums_value, party_value, platform_value, each_written, signed_value}
use Rattle.ebl_base.specs.Reason.{reason_index}
use Rattle.ebl_base.specs.declared.checksum.Checksum.{Checksum}
use Rattle.ebl_base.specs.declared.code.Code.{Code}
use Rattle.ebl_base.specs.declared.code.Code.TheVariants.{MissingDocuments}
use Rattle.pint_responses.specs.Response.{IsOptionalEvidence}
use Rattle.pint_responses.specs.Writing.{reason_value}
use Rattle.title_fold.specs.Refusal.{refusal_text}
use Rattle.transport_document.specs.declared.fault.DocumentFault.{DocumentFault}
use Rattle.transport_document.specs.declared.fault.DocumentFault.TheVariants as documents
use Rattle.upload_state.specs.Reference.{reference_text}
use Rattle.platform_requests.specs.Words.{ignore_text}
use Rattle.platform_requests.specs.declared.reply.Reply.{Reply}
use Rattle.platform_requests.specs.declared.reply.Reply.TheVariants as replies
use Rattle.platform_requests.specs.declared.view.View.{View}
use Rattle.reply_forms.specs.Body.{with_holder, possession}
use Rattle.reply_forms.specs.Words.{field_name, limit_text, place_text}
use Rattle.answer_lines.specs.declared.answer.Answer.{Answer}
use Rattle.answer_lines.specs.declared.answer.Answer.TheVariants.{Replied, Shown}
use Rattle.answer_lines.specs.Words.{answer_text, content_bytes, content_text}

-- ---- values

-- a bill is its number, if the script signed it, and else its name
abbrev pub bill_value : Option ℕ → Checksum → Value
bill_value (Some number) bill = capped_value number
bill_value None bill = checksum_value bill

-- how a bill is
abbrev pub view_value : Option ℕ → View → Value
view_value number v =
    object (member (codes "bill") (bill_value number v.bill)
    (member (codes "entries") (capped_value v.entries)
    (with_holder v.title
    (member (codes "place") (text (place_text v.place)) (possession v.title)))))

-- a member, if there is one
abbrev pub optional : {T : Type 0} → List ℕ → (T → Value) → Option T → List Entry
optional name write None = []
optional name write (Some x) = (name, write x) ∷ []

-- ---- what an answer says beside its word

-- MDOC alone names what is missing
abbrev pub missing_by : Code → List Checksum → List Entry
missing_by MissingDocuments missing = (codes "missing", checksums_value missing) ∷ []
missing_by code missing = []

-- why a document gives no bill
abbrev pub fault_members : DocumentFault → List Entry
fault_members (documents.DocumentForm field) =
    (codes "fault", text (codes "FORM")) ∷ (codes "field", text (field_name field)) ∷ []
fault_members documents.NotTitle = (codes "fault", text (codes "NOT_TITLE")) ∷ []
fault_members documents.TooLarge = (codes "fault", text (codes "TOO_LARGE")) ∷ []
fault_members documents.NoMemory = []

-- of a reply, between `event` and `reply`
abbrev pub reply_front : Reply → List Entry
reply_front (replies.Started reference missing) =
    (codes "missing", checksums_value missing) ∷ (codes "reference", text (reference_text reference)) ∷ []
reply_front (replies.Answer r signed) =
    optional (codes "index") capped_value (option_and_then reason_index r.reason)
    ++ missing_by r.code r.missing
    ++ optional (codes "own") signed_value r.evidence.own
    ++ optional (codes "reason") reason_value r.reason
reply_front (replies.Document fault) = fault_members fault
reply_front (replies.NotHere place) = (codes "place", text (place_text place)) ∷ []
reply_front (replies.NotParting place) = (codes "place", text (place_text place)) ∷ []
reply_front (replies.NoParty party) = (codes "party", party_value party) ∷ []
reply_front (replies.Ignored reason) = (codes "reason", text (ignore_text reason)) ∷ []
reply_front reply = []

-- between `reply` and `sent`
abbrev pub reply_middle : Reply → List Entry
reply_middle (replies.NotAllowed rule) = (codes "rule", text (refusal_text rule)) ∷ []
reply_middle reply = []

-- after `sent`; the bill of a view has this number
abbrev pub reply_back : Option ℕ → Reply → List Entry
reply_back number (replies.Done v) = (codes "view", view_value number v) ∷ []
reply_back number (replies.Answer r signed) =
    (codes "standing", flag r.standing) ∷ optional (codes "theirs") signed_value r.evidence.theirs
reply_back number (replies.Limit which) = (codes "which", text (limit_text which)) ∷ []
reply_back number reply = []

-- ---- the line

-- `event`, with what is in front of it and behind it
abbrev pub front_of : ℕ → Answer → List Entry
front_of n (Shown parcel) =
    (codes "bytes", bytes_value (content_bytes parcel.content)) ∷ (codes "event", capped_value n)
    ∷ (codes "from", platform_value parcel.from) ∷ (codes "kind", text (content_text parcel.content)) ∷ []
front_of n (Replied reply) = (codes "event", capped_value n) ∷ reply_front reply
front_of n answer = (codes "event", capped_value n) ∷ []

abbrev pub middle_of : Answer → List Entry
middle_of (Replied reply) = reply_middle reply
middle_of answer = []

abbrev pub back_of : Option ℕ → Answer → List Entry
back_of number (Replied reply) = reply_back number reply
back_of number (Shown parcel) = optional (codes "to") platform_value parcel.to
back_of number answer = []

-- the answer to the event of this number, when the messages of these numbers were sent; a bill that is shown has this
-- number, if it has one
abbrev pub answer_members : ℕ → List ℕ → Option ℕ → Answer → List Entry
answer_members n sent number answer =
    front_of n answer
    ++ (codes "reply", text (answer_text answer)) ∷ middle_of answer
    ++ (codes "sent", list (each_written capped_value sent)) ∷ back_of number answer

-- a value's canonical text, and a line feed
unfoldable pub line_of : Value → List ℕ
line_of v = canon v ++ 10 ∷ []

-- an object of these members, in a line
abbrev pub members_line : List Entry → List ℕ
members_line entries = line_of (object (members_of entries))

abbrev pub answer_line : ℕ → List ℕ → Option ℕ → Answer → List ℕ
answer_line n sent number answer = members_line (answer_members n sent number answer)

-- ---- what can be written

-- the texts of a signed answer are compact, so that they are texts of JSON
abbrev pub IsWritable : Answer → Type 0
IsWritable (Replied (replies.Answer r signed)) =
    IsOptionalEvidence r.evidence.own × IsOptionalEvidence r.evidence.theirs
IsWritable answer = Unit {0}
