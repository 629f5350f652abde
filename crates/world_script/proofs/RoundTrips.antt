-- An event is read from its written form.
use Rattle.std.proofs.Common.{◌≡◌, ◌≢◌, ◌≤◌, ℕ, pos, List, true, ◌&&◌, cond, nat_le, min, IsTrue, Option, Some, None, Result, Ok, refl, ap, ◌∙◌, arith}
use Rattle.std.specs.Prelude.{option_map, option_and_then}
use Rattle.std.specs.Option.{option_or}
use Rattle.std.proofs.lemmas.Bool.Decides.{nat_tests}
use Rattle.base64.specs.GeneralPurpose.{IsBytes}
use Rattle.canonical_json.specs.Value.{Value}
use Rattle.canonical_json.specs.Field.{as_int, as_text}
use Rattle.document_checksum.specs.Digest.{IsChecksum}
use Rattle.document_checksum.specs.Text.{checksum_of_text, checksum_text}
use Rattle.document_checksum.proofs.Texts.{checksum_of_text-checksum_text}
use Rattle.json_forms.specs.Reading.{required, unless_malformed, in_form, number_in}
use Rattle.json_forms.specs.Bytes.{bytes_of, base64}
use Rattle.json_forms.proofs.BytesLemmas.{bytes_of-base64}
use Rattle.json_forms.specs.declared.reading.Malformed.{Malformed}
use Rattle.ebl_base.specs.Moment.{IsMoment, moment_of, moment_number}
use Rattle.ebl_base.specs.Party.{IsParty, party_of, party_text}
use Rattle.ebl_base.specs.PlatformCode.{IsCode, code_of, code_text}
use Rattle.ebl_base.specs.declared.checksum.Checksum.{Checksum}
use Rattle.ebl_base.specs.declared.kind.Kind.{Kind}
use Rattle.ebl_base.specs.declared.kind.Kind.TheVariants as kinds
use Rattle.ebl_base.specs.declared.moment.Moment.{Moment}
use Rattle.ebl_base.specs.declared.party.Party.{Party}
use Rattle.ebl_base.specs.declared.platform_code.PlatformCode.{PlatformCode}
use Rattle.ebl_base.specs.declared.reference.Reference.{Reference}
use Rattle.envelope_manifest.specs.Piece.{is_plain_text, plain_text}
use Rattle.upload_state.specs.Reference.{IsReference, reference_in, reference_text}
use Rattle.upload_state.proofs.ReferenceLemmas.{reference_in-reference_text}
use Rattle.world_script.specs.declared.deed.BillName.{BillName}
use Rattle.world_script.specs.declared.deed.BillName.TheVariants.{Name, Number}
use Rattle.world_script.specs.declared.fault.EventFault.{EventFault}
use Rattle.world_script.specs.declared.fault.EventFault.TheVariants.{EventForm}
use Rattle.world_script.specs.Event.{DeedRecord, signs, acts, attaches, ForeignRecord, starts, puts, finishes, start_replies, finish_replies, EventRecord, commands, delivers, restarts, resends, asks, receives, shows}
use Rattle.world_script.specs.Form.{IsNumber, IsBillName, IsDeed, IsForeign, IsEvent}
use Rattle.world_script.specs.Reading.{command_with, deed_of, event_of, received_at}
use Rattle.world_script.specs.Writing.{bill_value, command_value, event_value}

-- ---- members

number_reads : (n : ℕ) → IsNumber n → number_in 1 9007199254740991 (pos (min n 9007199254740991)) ≡ Some n
number_reads n h =
    let least : 1 ≤ n = h.least in
    let most : n ≤ 9007199254740991 = h.most in
    let same : min n 9007199254740991 ≡ n = grind arith in
    let first : nat_le 1 n ≡ true = grind (arith, nat_tests) in
    let last : nat_le n 9007199254740991 ≡ true = grind (arith, nat_tests) in
    ap (λ m. number_in 1 9007199254740991 (pos m)) same
    ∙ ap (λ b. cond (b && nat_le n 9007199254740991) (Some n) None) first
    ∙ ap (λ b. cond b (Some n) None) last

-- the bill that stands under its name
abbrev bill_from : Option Value → Option BillName
bill_from v =
    option_or (option_map Number (option_and_then (number_in 1 9007199254740991) (option_and_then as_int v)))
    (option_map Name (option_and_then checksum_of_text (option_and_then as_text v)))

bill_reads : (bill : BillName) → IsBillName bill → bill_from (Some (bill_value bill)) ≡ Some bill
bill_reads (Name bill) form = ap (option_map Name) (checksum_of_text-checksum_text bill form)
bill_reads (Number n) form = ap (λ o. option_or (option_map Number o) (option_map Name None)) (number_reads n form)

-- the moment that a number is
abbrev moment_from : ℕ → Option Moment
moment_from n = option_and_then moment_of (number_in 0 9007199254740991 (pos (min n 9007199254740991)))

moment_reads : (now : Moment) → IsMoment now → moment_from (moment_number now) ≡ Some now
moment_reads now form =
    let same : min (moment_number now) 9007199254740991 ≡ moment_number now = grind (arith, nat_tests) in
    let least : nat_le 0 (moment_number now) ≡ true = grind (arith, nat_tests) in
    ap (λ n. option_and_then moment_of (number_in 0 9007199254740991 (pos n))) same
    ∙ ap (λ b. option_and_then moment_of
    (cond (b && nat_le (moment_number now) 9007199254740991) (Some (moment_number now)) None)) least
    ∙ ap (λ b. option_and_then moment_of (cond b (Some (moment_number now)) None)) form
    ∙ ap (λ b. cond b (Some now) None) form

-- ---- commands

-- an act of these parts
abbrev act_with : Kind → Option BillName → Result (Option Party) Malformed → Result DeedRecord EventFault
act_with kind bill recipient =
    required EventForm bill (λ b. unless_malformed EventForm recipient (λ r. Ok (acts b kind r)))

written_act : (kind : Kind) (bill : BillName) (recipient : Option Party) (found : Option BillName)
    (read : Result (Option Party) Malformed) → found ≡ Some bill → read ≡ Ok recipient
    → act_with kind found read ≡ Ok (acts bill kind recipient)
written_act kind bill recipient found read of_bill is =
    ap (λ b. act_with kind b read) of_bill ∙ ap (act_with kind (Some bill)) is

-- a deed under the word of its kind is an act
by_kind_none : (at : PlatformCode) (party : Party) (now : Moment) (bill : BillName) (kind : Kind) → kind ≢ kinds.Sign
    → deed_of (command_value at party now (acts bill kind None)) ≡ act_with kind (bill_from (Some (bill_value bill))) (Ok None)
by_kind_none at party now bill kinds.Sign h = absurd (h refl)
by_kind_none at party now bill kinds.Issue h = refl
by_kind_none at party now bill kinds.Endorse h = refl
by_kind_none at party now bill kinds.Transfer h = refl
by_kind_none at party now bill kinds.SurrenderForDelivery h = refl
by_kind_none at party now bill kinds.SurrenderForAmendment h = refl
by_kind_none at party now bill kinds.SurrenderAccepted h = refl
by_kind_none at party now bill kinds.SurrenderRefused h = refl

by_kind_some : (at : PlatformCode) (party : Party) (now : Moment) (bill : BillName) (kind : Kind) (to : Party)
    → kind ≢ kinds.Sign
    → deed_of (command_value at party now (acts bill kind (Some to)))
    ≡ act_with kind (bill_from (Some (bill_value bill))) (in_form (party_of (party_text to)))
by_kind_some at party now bill kinds.Sign to h = absurd (h refl)
by_kind_some at party now bill kinds.Issue to h = refl
by_kind_some at party now bill kinds.Endorse to h = refl
by_kind_some at party now bill kinds.Transfer to h = refl
by_kind_some at party now bill kinds.SurrenderForDelivery to h = refl
by_kind_some at party now bill kinds.SurrenderForAmendment to h = refl
by_kind_some at party now bill kinds.SurrenderAccepted to h = refl
by_kind_some at party now bill kinds.SurrenderRefused to h = refl

-- an attachment of these parts
abbrev attachment_with : Option BillName → Option (List ℕ) → Option (List ℕ) → Option (List ℕ)
    → Result DeedRecord EventFault
attachment_with bill name media bytes =
    required EventForm bill (λ b.
    required EventForm name (λ n.
    required EventForm media (λ m.
    required EventForm bytes (λ x.
    Ok (attaches b n m x)))))

written_attachment : (bill : BillName) (name media bytes : List ℕ) → IsBillName bill
    → IsTrue (is_plain_text 128 name) → IsTrue (is_plain_text 64 media) → IsBytes bytes
    → attachment_with (bill_from (Some (bill_value bill))) (plain_text 128 name) (plain_text 64 media)
    (bytes_of (base64 bytes))
    ≡ Ok (attaches bill name media bytes)
written_attachment bill name media bytes of_bill of_name of_media of_bytes =
    ap (λ b. attachment_with b (plain_text 128 name) (plain_text 64 media) (bytes_of (base64 bytes)))
    (bill_reads bill of_bill)
    ∙ ap (λ t. attachment_with (Some bill) (cond t (Some name) None) (plain_text 64 media) (bytes_of (base64 bytes)))
    of_name
    ∙ ap (λ t. attachment_with (Some bill) (Some name) (cond t (Some media) None) (bytes_of (base64 bytes))) of_media
    ∙ ap (attachment_with (Some bill) (Some name) (Some media)) (bytes_of-base64 bytes of_bytes)

written_deed : (at : PlatformCode) (party : Party) (now : Moment) (deed : DeedRecord) → IsDeed deed
    → deed_of (command_value at party now deed) ≡ Ok deed
written_deed at party now (signs document) form = refl
written_deed at party now (acts bill kind None) form =
    by_kind_none at party now bill kind form.1
    ∙ written_act kind bill None (bill_from (Some (bill_value bill))) (Ok None) (bill_reads bill form.0) refl
written_deed at party now (acts bill kind (Some to)) form =
    by_kind_some at party now bill kind to form.1
    ∙ written_act kind bill (Some to) (bill_from (Some (bill_value bill))) (in_form (party_of (party_text to)))
    (bill_reads bill form.0) (ap in_form form.2)
written_deed at party now (attaches bill name media bytes) form =
    written_attachment bill name media bytes form.0 form.1.0 form.2.0 form.3

-- a command of these parts
abbrev command_of_parts : Option PlatformCode → Option Party → Option Moment → Result DeedRecord EventFault
    → Result EventRecord EventFault
command_of_parts at party now deed =
    required EventForm at (λ a.
    required EventForm party (λ p.
    required EventForm now (λ n.
    command_with a p n deed)))

-- the parts of a command as it is written
command_parts : (at : PlatformCode) (party : Party) (now : Moment) (deed : DeedRecord)
    → event_of (command_value at party now deed)
    ≡ command_of_parts (code_of (code_text at)) (party_of (party_text party)) (moment_from (moment_number now))
    (deed_of (command_value at party now deed))
command_parts at party now (signs document) = refl
command_parts at party now (acts bill kind None) = refl
command_parts at party now (acts bill kind (Some to)) = refl
command_parts at party now (attaches bill name media bytes) = refl

written_command : (at : PlatformCode) (party : Party) (now : Moment) (deed : DeedRecord) → IsCode at → IsParty party
    → IsMoment now → IsDeed deed → event_of (command_value at party now deed) ≡ Ok (commands at party now deed)
written_command at party now deed of_at of_party of_now of_deed =
    let read = deed_of (command_value at party now deed) in
    let moment = moment_from (moment_number now) in
    command_parts at party now deed
    ∙ ap (λ a. command_of_parts a (party_of (party_text party)) moment read) of_at
    ∙ ap (λ p. command_of_parts (Some at) p moment read) of_party
    ∙ ap (λ n. command_of_parts (Some at) (Some party) n read) (moment_reads now of_now)
    ∙ ap (command_with at party now) (written_deed at party now deed of_deed)

-- ---- bytes from outside

abbrev received_of : Option PlatformCode → Result ForeignRecord EventFault → Result EventRecord EventFault
received_of at bytes = required EventForm at (λ a. received_at a bytes)

received : (at : PlatformCode) (found : Option PlatformCode) (read : Result ForeignRecord EventFault)
    (bytes : ForeignRecord) → found ≡ Some at → read ≡ Ok bytes → received_of found read ≡ Ok (receives at bytes)
received at found read bytes of_at of_bytes =
    ap (λ a. received_of a read) of_at ∙ ap (received_at at) of_bytes

abbrev put_with : Option Reference → Option Checksum → Option (List ℕ) → Result ForeignRecord EventFault
put_with reference checksum bytes =
    required EventForm reference (λ r.
    required EventForm checksum (λ c.
    required EventForm bytes (λ b.
    Ok (puts r c b))))

written_put : (reference : Reference) (checksum : Checksum) (bytes : List ℕ) → IsReference reference
    → IsChecksum checksum → IsBytes bytes
    → put_with (reference_in (reference_text reference)) (checksum_of_text (checksum_text checksum))
    (bytes_of (base64 bytes))
    ≡ Ok (puts reference checksum bytes)
written_put reference checksum bytes of_reference of_checksum of_bytes =
    ap (λ r. put_with r (checksum_of_text (checksum_text checksum)) (bytes_of (base64 bytes)))
    (reference_in-reference_text reference of_reference)
    ∙ ap (λ c. put_with (Some reference) c (bytes_of (base64 bytes))) (checksum_of_text-checksum_text checksum of_checksum)
    ∙ ap (put_with (Some reference) (Some checksum)) (bytes_of-base64 bytes of_bytes)

abbrev finish_with : Option Reference → Result ForeignRecord EventFault
finish_with reference = required EventForm reference (λ r. Ok (finishes r))

abbrev start_reply_with : List ℕ → Option BillName → Result ForeignRecord EventFault
start_reply_with text bill = required EventForm bill (λ b. Ok (start_replies b text))

abbrev finish_reply_with : List ℕ → Option BillName → Result ForeignRecord EventFault
finish_reply_with text bill = required EventForm bill (λ b. Ok (finish_replies b text))

written_foreign : (at : PlatformCode) (bytes : ForeignRecord) → IsCode at → IsForeign bytes
    → event_of (event_value (receives at bytes)) ≡ Ok (receives at bytes)
written_foreign at (starts body) of_at form =
    received at (code_of (code_text at)) (Ok (starts body)) (starts body) of_at refl
written_foreign at (puts reference checksum bytes) of_at form =
    received at (code_of (code_text at))
    (put_with (reference_in (reference_text reference)) (checksum_of_text (checksum_text checksum))
    (bytes_of (base64 bytes)))
    (puts reference checksum bytes) of_at (written_put reference checksum bytes form.0 form.1 form.2)
written_foreign at (finishes reference) of_at form =
    received at (code_of (code_text at)) (finish_with (reference_in (reference_text reference))) (finishes reference)
    of_at (ap finish_with (reference_in-reference_text reference form))
written_foreign at (start_replies bill text) of_at form =
    received at (code_of (code_text at)) (start_reply_with text (bill_from (Some (bill_value bill))))
    (start_replies bill text) of_at (ap (start_reply_with text) (bill_reads bill form.0))
written_foreign at (finish_replies bill text) of_at form =
    received at (code_of (code_text at)) (finish_reply_with text (bill_from (Some (bill_value bill))))
    (finish_replies bill text) of_at (ap (finish_reply_with text) (bill_reads bill form.0))

-- ---- the other events

abbrev delivery_with : Option ℕ → Result (Option PlatformCode) Malformed → Result EventRecord EventFault
delivery_with number at =
    required EventForm number (λ n. unless_malformed EventForm at (λ a. Ok (delivers n a)))

abbrev number_from : ℕ → Option ℕ
number_from n = number_in 1 9007199254740991 (pos (min n 9007199254740991))

abbrev event_at : (PlatformCode → BillName → EventRecord) → Option PlatformCode → Option BillName
    → Result EventRecord EventFault
event_at made at bill = required EventForm at (λ a. required EventForm bill (λ b. Ok (made a b)))

written_place : (made : PlatformCode → BillName → EventRecord) (at : PlatformCode) (bill : BillName) → IsCode at
    → IsBillName bill
    → event_at made (code_of (code_text at)) (bill_from (Some (bill_value bill))) ≡ Ok (made at bill)
written_place made at bill of_at of_bill =
    ap (λ a. event_at made a (bill_from (Some (bill_value bill)))) of_at
    ∙ ap (event_at made (Some at)) (bill_reads bill of_bill)

pub event_of-event_value : (e : EventRecord) → IsEvent e → event_of (event_value e) ≡ Ok e
event_of-event_value (commands at party now deed) form = written_command at party now deed form.0 form.1 form.2 form.3
event_of-event_value (delivers number None) form = ap (λ n. delivery_with n (Ok None)) (number_reads number form.0)
event_of-event_value (delivers number (Some at)) form =
    ap (λ n. delivery_with n (in_form (code_of (code_text at)))) (number_reads number form.0)
    ∙ ap (λ a. delivery_with (Some number) (in_form a)) form.1
event_of-event_value (restarts at) form = ap (λ a. required EventForm a (λ p. Ok (restarts p))) form
event_of-event_value (resends at bill) form = written_place resends at bill form.0 form.1
event_of-event_value (asks at bill) form = written_place asks at bill form.0 form.1
event_of-event_value (receives at bytes) form = written_foreign at bytes form.0 form.1
event_of-event_value (shows number) form =
    ap (λ n. required EventForm n (λ k. Ok (shows k))) (number_reads number form)
