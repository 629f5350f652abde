-- Which JSON values are events of a script.
use Rattle.std.specs.Prelude.{◌≡◌, ⊤, ℕ, Bool, true, List, Option, Some, None, Result, Ok, Err, codes, is_some, option_map, option_and_then, if◌then◌else◌}
use Rattle.std.specs.Option.{option_or}
use Rattle.std.specs.Str.{bytes_eq}
use Rattle.ebl_base.specs.declared.limits.TheConstants.{MAX_DOCUMENT_MEDIA, MAX_DOCUMENT_NAME}
use Rattle.canonical_json.specs.Value.{Value}
use Rattle.canonical_json.specs.Field.{member_of, text_of, flag_of}
use Rattle.json_forms.specs.Reading.{required, unless_malformed, required_checksum, required_number, required_party, required_platform, optional, optional_party, platform_in}
use Rattle.json_forms.specs.Bytes.{required_bytes}
use Rattle.envelope_manifest.specs.Piece.{required_plain_text}
use Rattle.upload_state.specs.Reference.{reference_in}
use Rattle.ebl_base.specs.Kind.{kind_of}
use Rattle.ebl_base.specs.Moment.{moment_of}
use Rattle.ebl_base.specs.declared.kind.Kind.{Kind}
use Rattle.ebl_base.specs.declared.kind.Kind.TheVariants as kinds
use Rattle.ebl_base.specs.declared.limits.TheConstants.{MAX_WHOLE_NUMBER}
use Rattle.ebl_base.specs.declared.moment.Moment.{Moment}
use Rattle.ebl_base.specs.declared.party.Party.{Party}
use Rattle.ebl_base.specs.declared.platform_code.PlatformCode.{PlatformCode}
use Rattle.ebl_base.specs.declared.reference.Reference.{Reference}
use Rattle.world_script.specs.declared.deed.BillName.{BillName}
use Rattle.world_script.specs.declared.deed.BillName.TheVariants.{Name, Number}
use Rattle.world_script.specs.declared.fault.EventFault.{EventFault}
use Rattle.world_script.specs.declared.fault.EventFault.TheVariants.{EventForm, NoMemory}
use Rattle.world_script.specs.Event.{DeedRecord, signs, acts, attaches, ForeignRecord, starts, puts, finishes, start_replies, finish_replies, EventRecord, commands, delivers, restarts, resends, asks, receives, shows}

-- ---- members

-- a number of a message or a bill: from 1
abbrev pub numbered : List ℕ → Value → Option ℕ
numbered name v = required_number name 1 MAX_WHOLE_NUMBER v

-- `bill`: the number from 1 of a bill that the script signs, or a bill's name
abbrev pub named_bill : Value → Option BillName
named_bill v =
    option_or (option_map Number (numbered (codes "bill") v)) (option_map Name (required_checksum (codes "bill") v))

-- `at`: a platform's code
abbrev pub platform_at : Value → Option PlatformCode
platform_at v = required_platform (codes "at") v

-- `reference`: a UUID's text
abbrev pub named_reference : Value → Option Reference
named_reference v = option_and_then reference_in (text_of (codes "reference") v)

-- the moment of a number that stands there, and 0 where no member does
abbrev pub moment_or_none : Option Value → Option ℕ → Option Moment
moment_or_none None number = moment_of 0
moment_or_none (Some v) number = option_and_then moment_of number

-- `now`: a moment, 0 where there is no such member
abbrev pub moment_at : Value → Option Moment
moment_at v = moment_or_none (member_of (codes "now") v) (required_number (codes "now") 0 MAX_WHOLE_NUMBER v)

-- ---- commands

-- the document to sign is any value
abbrev pub signing_of : Value → Result DeedRecord EventFault
signing_of v = required EventForm (member_of (codes "document") v) (λ document. Ok (signs document))

-- a transaction of this kind on a bill
abbrev pub act_of : Kind → Value → Result DeedRecord EventFault
act_of kind v =
    required EventForm (named_bill v) (λ bill.
    unless_malformed EventForm (optional_party (codes "recipient") v) (λ recipient.
    Ok (acts bill kind recipient)))

-- an additional document for a bill
abbrev pub attachment_of : Value → Result DeedRecord EventFault
attachment_of v =
    required EventForm (named_bill v) (λ bill.
    required EventForm (required_plain_text (codes "name") MAX_DOCUMENT_NAME v) (λ name.
    required EventForm (required_plain_text (codes "media") MAX_DOCUMENT_MEDIA v) (λ media.
    required EventForm (required_bytes (codes "bytes") v) (λ bytes.
    Ok (attaches bill name media bytes)))))

-- what a value asks that names a kind: SIGN alone brings a document
abbrev pub deed_by : Kind → Value → Result DeedRecord EventFault
deed_by kinds.Sign v = signing_of v
deed_by kind v = act_of kind v

-- what it asks under this word: ATTACH, or the text of a kind
abbrev pub deed_under : List ℕ → Value → Result DeedRecord EventFault
deed_under word v =
    if bytes_eq word (codes "ATTACH") then attachment_of v
    else required EventForm (kind_of word) (λ kind. deed_by kind v)

abbrev pub deed_of : Value → Result DeedRecord EventFault
deed_of v = required EventForm (text_of (codes "do") v) (λ word. deed_under word v)

-- a deed of this party at this platform and moment
abbrev pub command_with : PlatformCode → Party → Moment → Result DeedRecord EventFault → Result EventRecord EventFault
command_with at party now (Err fault) = Err fault
command_with at party now (Ok deed) = Ok (commands at party now deed)

abbrev pub command_of : Value → Result EventRecord EventFault
command_of v =
    required EventForm (platform_at v) (λ at.
    required EventForm (required_party (codes "party") v) (λ party.
    required EventForm (moment_at v) (λ now.
    command_with at party now (deed_of v))))

-- ---- bytes from outside

abbrev pub start_of : Value → Result ForeignRecord EventFault
start_of v = required EventForm (text_of (codes "body") v) (λ body. Ok (starts body))

abbrev pub put_of : Value → Result ForeignRecord EventFault
put_of v =
    required EventForm (named_reference v) (λ reference.
    required EventForm (required_checksum (codes "checksum") v) (λ checksum.
    required EventForm (required_bytes (codes "bytes") v) (λ bytes.
    Ok (puts reference checksum bytes))))

abbrev pub finish_of : Value → Result ForeignRecord EventFault
finish_of v = required EventForm (named_reference v) (λ reference. Ok (finishes reference))

abbrev pub start_reply_of : Value → Result ForeignRecord EventFault
start_reply_of v =
    required EventForm (named_bill v) (λ bill.
    required EventForm (text_of (codes "text") v) (λ text.
    Ok (start_replies bill text)))

abbrev pub finish_reply_of : Value → Result ForeignRecord EventFault
finish_reply_of v =
    required EventForm (named_bill v) (λ bill.
    required EventForm (text_of (codes "text") v) (λ text.
    Ok (finish_replies bill text)))

-- what comes under this word
abbrev pub foreign_under : List ℕ → Value → Result ForeignRecord EventFault
foreign_under word v =
    if bytes_eq word (codes "START") then start_of v else
    if bytes_eq word (codes "PUT") then put_of v else
    if bytes_eq word (codes "FINISH") then finish_of v else
    if bytes_eq word (codes "START_REPLY") then start_reply_of v else
    if bytes_eq word (codes "FINISH_REPLY") then finish_reply_of v else Err EventForm

abbrev pub received_at : PlatformCode → Result ForeignRecord EventFault → Result EventRecord EventFault
received_at at (Err fault) = Err fault
received_at at (Ok bytes) = Ok (receives at bytes)

abbrev pub foreign_of : Value → Result EventRecord EventFault
foreign_of v =
    required EventForm (platform_at v) (λ at.
    required EventForm (text_of (codes "foreign") v) (λ word.
    received_at at (foreign_under word v)))

-- ---- the other events

-- `at` may be left out
abbrev pub delivery_of : Value → Result EventRecord EventFault
delivery_of v =
    required EventForm (numbered (codes "deliver") v) (λ number.
    unless_malformed EventForm (optional platform_in (member_of (codes "at") v)) (λ at.
    Ok (delivers number at)))

abbrev pub restart_of : Value → Result EventRecord EventFault
restart_of v = required EventForm (required_platform (codes "restart") v) (λ at. Ok (restarts at))

-- the mark is the value true
abbrev pub if_true : Option Bool → Result EventRecord EventFault → Result EventRecord EventFault
if_true (Some true) read = read
if_true mark read = Err EventForm

abbrev pub resend_of : Value → Result EventRecord EventFault
resend_of v =
    if_true (flag_of (codes "resend") v) (
    required EventForm (platform_at v) (λ at.
    required EventForm (named_bill v) (λ bill.
    Ok (resends at bill))))

abbrev pub question_of : Value → Result EventRecord EventFault
question_of v =
    if_true (flag_of (codes "ask") v) (
    required EventForm (platform_at v) (λ at.
    required EventForm (named_bill v) (λ bill.
    Ok (asks at bill))))

abbrev pub showing_of : Value → Result EventRecord EventFault
showing_of v = required EventForm (numbered (codes "show") v) (λ number. Ok (shows number))

-- ---- the event

-- whether a member has this name
abbrev pub has : List ℕ → Value → Bool
has name v = is_some (member_of name v)

-- the event that a value is: by the first of these marks that it has; no further member counts
abbrev pub event_of : Value → Result EventRecord EventFault
event_of v =
    if has (codes "do") v then command_of v else
    if has (codes "deliver") v then delivery_of v else
    if has (codes "restart") v then restart_of v else
    if has (codes "resend") v then resend_of v else
    if has (codes "ask") v then question_of v else
    if has (codes "foreign") v then foreign_of v else
    if has (codes "show") v then showing_of v else Err EventForm

-- the value is no event, or memory ran out
abbrev pub IsFault : {T : Type 0} → Result T EventFault → EventFault → Type 0
IsFault read EventForm = read ≡ Err EventForm
IsFault read NoMemory = ⊤
