-- A document that a line of at most 127 levels gives to a SIGN nests at most 126 deep.
use Rattle.std.proofs.Common.{◌≡◌, ℕ, ◌≤◌, Bool, true, false, cond, List, Option, Some, None, Result, Ok, Err, refl, sym, subst, arith}
use Rattle.std.specs.Prelude.{codes, IfSome}
use Rattle.std.specs.Str.{bytes_eq}
use Rattle.canonical_json.specs.Value.{Value, null, flag, int, decimal, text, list, object, Members, no_members, member, depth, members_depth}
use Rattle.canonical_json.specs.Field.{flag_of, member_of, text_of, under}
use Rattle.json_forms.specs.declared.reading.Malformed.{Malformed}
use Rattle.json_forms.specs.Reading.{optional, optional_party, platform_in, required, required_party, required_platform, unless_malformed}
use Rattle.json_forms.specs.Bytes.{required_bytes}
use Rattle.envelope_manifest.specs.Piece.{required_plain_text}
use Rattle.ebl_base.specs.Kind.{kind_of}
use Rattle.ebl_base.specs.declared.kind.Kind.{Kind}
use Rattle.ebl_base.specs.declared.kind.Kind.TheVariants as kinds
use Rattle.ebl_base.specs.declared.moment.Moment.{Moment}
use Rattle.ebl_base.specs.declared.party.Party.{Party}
use Rattle.ebl_base.specs.declared.platform_code.PlatformCode.{PlatformCode}
use Rattle.world_script.specs.declared.event.Event.{Event}
use Rattle.world_script.specs.declared.fault.EventFault.{EventFault}
use Rattle.world_script.specs.declared.fault.EventFault.TheVariants.{EventForm}
use Rattle.world_script.specs.declared.deed.BillName.{BillName}
use Rattle.world_script.specs.Event.{DeedRecord, signs, acts, attaches, EventRecord, delivers, restarts, resends, asks, shows, ForeignRecord, event_view}
use Rattle.world_script.specs.Reading as reading
use Rattle.world_script.specs.Reading.{event_of, has}
use Rattle.world_events.specs.Script.{IsNested}

-- ---- members

under_nests : (name : List ℕ) (ms : Members) (v : Value) → under name ms ≡ Some v → depth v ≤ members_depth ms
under_nests name no_members v is = cc is
under_nests name (member other w ms) v is = on_test (bytes_eq other name) (under_nests name ms v) is
  where
    on_test : (test : Bool) → (under name ms ≡ Some v → depth v ≤ members_depth ms)
        → cond test (Some w) (under name ms) ≡ Some v → depth v ≤ members_depth (member other w ms)
    on_test true further found =
        let same : w ≡ v = cc found in
        subst (λ x. depth x ≤ members_depth (member other w ms)) same (omega arith)
    on_test false further found = let below = further found in omega (arith, below)

member_nests : (name : List ℕ) (v d : Value) → member_of name v ≡ Some d → depth v ≤ 127 → depth d ≤ 126
member_nests name null d is deep = cc is
member_nests name (flag b) d is deep = cc is
member_nests name (int z) d is deep = cc is
member_nests name (decimal z s) d is deep = cc is
member_nests name (text s) d is deep = cc is
member_nests name (list vs) d is deep = cc is
member_nests name (object ms) d is deep = let below = under_nests name ms d is in omega (arith, below, deep)

-- ---- what is read

-- whatever is read has it
abbrev IfRead : {T : Type 0} → (T → Type 0) → Result T EventFault → Type 0
IfRead P (Ok x) = P x
IfRead P (Err fault) = Unit {0}

module _ {T : Type 0} (P : T → Type 0) where
  if_required : {X : Type 0} (o : Option X) (read : X → Result T EventFault)
      → ((x : X) → o ≡ Some x → IfRead P (read x)) → IfRead P (required EventForm o read)
  if_required None read each = tt
  if_required (Some x) read each = each x refl

  if_either : (test : Bool) (a b : Result T EventFault) → IfRead P a → IfRead P b → IfRead P (cond test a b)
  if_either true a b first second = first
  if_either false a b first second = second

abbrev NestsDeed : DeedRecord → Type 0
NestsDeed (signs document) = depth document ≤ 126
NestsDeed (acts bill kind recipient) = Unit {0}
NestsDeed (attaches bill name media bytes) = Unit {0}

-- ---- commands

signing_nests : (v : Value) → depth v ≤ 127 → IfRead NestsDeed (reading.signing_of v)
signing_nests v deep =
    if_required NestsDeed (member_of (codes "document") v) (λ (document : Value). Ok (signs document))
    (λ d is. member_nests (codes "document") v d is deep)

-- what brings no document nests
recipient_nests : (kind : Kind) (bill : BillName) (o : Result (Option Party) Malformed)
    → IfRead NestsDeed (unless_malformed EventForm o (λ (recipient : Option Party). Ok (acts bill kind recipient)))
recipient_nests kind bill (Ok recipient) = tt
recipient_nests kind bill (Err other) = tt

act_nests : (kind : Kind) (v : Value) → IfRead NestsDeed (reading.act_of kind v)
act_nests kind v =
    if_required NestsDeed (reading.named_bill v) (λ (bill : BillName). unless_malformed EventForm
    (optional_party (codes "recipient") v) (λ (recipient : Option Party). Ok (acts bill kind recipient)))
    (λ bill is. recipient_nests kind bill (optional_party (codes "recipient") v))

attachment_nests : (v : Value) → IfRead NestsDeed (reading.attachment_of v)
attachment_nests v =
    on_bill (reading.named_bill v) (required_plain_text (codes "name") 128 v)
    (required_plain_text (codes "media") 64 v) (required_bytes (codes "bytes") v)
  where
    on_bill : (bill : Option BillName) (name media bytes : Option (List ℕ)) → IfRead NestsDeed
        (required EventForm bill (λ (b : BillName). required EventForm name (λ (n : List ℕ).
        required EventForm media (λ (m : List ℕ). required EventForm bytes (λ (x : List ℕ). Ok (attaches b n m x))))))
    on_bill None name media bytes = tt
    on_bill (Some b) None media bytes = tt
    on_bill (Some b) (Some n) None bytes = tt
    on_bill (Some b) (Some n) (Some m) None = tt
    on_bill (Some b) (Some n) (Some m) (Some x) = tt

deed_nests_by : (kind : Kind) (v : Value) → depth v ≤ 127 → IfRead NestsDeed (reading.deed_by kind v)
deed_nests_by kinds.Sign v deep = signing_nests v deep
deed_nests_by kinds.Issue v deep = act_nests kinds.Issue v
deed_nests_by kinds.Endorse v deep = act_nests kinds.Endorse v
deed_nests_by kinds.Transfer v deep = act_nests kinds.Transfer v
deed_nests_by kinds.SurrenderForDelivery v deep = act_nests kinds.SurrenderForDelivery v
deed_nests_by kinds.SurrenderForAmendment v deep = act_nests kinds.SurrenderForAmendment v
deed_nests_by kinds.SurrenderAccepted v deep = act_nests kinds.SurrenderAccepted v
deed_nests_by kinds.SurrenderRefused v deep = act_nests kinds.SurrenderRefused v

deed_nests_under : (word : List ℕ) (v : Value) → depth v ≤ 127 → IfRead NestsDeed (reading.deed_under word v)
deed_nests_under word v deep =
    if_either NestsDeed (bytes_eq word (codes "ATTACH")) (reading.attachment_of v)
    (required EventForm (kind_of word) (λ (kind : Kind). reading.deed_by kind v)) (attachment_nests v)
    (if_required NestsDeed (kind_of word) (λ (kind : Kind). reading.deed_by kind v)
    (λ kind is. deed_nests_by kind v deep))

deed_nests : (v : Value) → depth v ≤ 127 → IfRead NestsDeed (reading.deed_of v)
deed_nests v deep =
    if_required NestsDeed (text_of (codes "do") v) (λ (word : List ℕ). reading.deed_under word v)
    (λ word is. deed_nests_under word v deep)

with_nests : (at : PlatformCode) (party : Party) (now : Moment) (deed : Result DeedRecord EventFault)
    → IfRead NestsDeed deed → IfRead IsNested (reading.command_with at party now deed)
with_nests at party now (Err fault) nests = tt
with_nests at party now (Ok (signs document)) nests = nests
with_nests at party now (Ok (acts bill kind recipient)) nests = tt
with_nests at party now (Ok (attaches bill name media bytes)) nests = tt

command_nests : (v : Value) → depth v ≤ 127 → IfRead IsNested (reading.command_of v)
command_nests v deep =
    on_place (reading.platform_at v) (required_party (codes "party") v) (reading.moment_at v)
  where
    on_place : (place : Option PlatformCode) (by : Option Party) (time : Option Moment) → IfRead IsNested
        (required EventForm place (λ (at : PlatformCode). required EventForm by (λ (party : Party).
        required EventForm time (λ (now : Moment). reading.command_with at party now (reading.deed_of v)))))
    on_place None by time = tt
    on_place (Some at) None time = tt
    on_place (Some at) (Some party) None = tt
    on_place (Some at) (Some party) (Some now) = with_nests at party now (reading.deed_of v) (deed_nests v deep)

-- ---- other events

delivery_nests : (v : Value) → IfRead IsNested (reading.delivery_of v)
delivery_nests v = on_number (reading.numbered (codes "deliver") v) (optional platform_in (member_of (codes "at") v))
  where
    on_number : (number : Option ℕ) (place : Result (Option PlatformCode) Malformed) → IfRead IsNested
        (required EventForm number (λ (n : ℕ). unless_malformed EventForm place
        (λ (at : Option PlatformCode). Ok (delivers n at))))
    on_number None place = tt
    on_number (Some n) (Ok at) = tt
    on_number (Some n) (Err other) = tt

restart_nests : (v : Value) → IfRead IsNested (reading.restart_of v)
restart_nests v =
    if_required IsNested (required_platform (codes "restart") v) (λ (at : PlatformCode). Ok (restarts at)) (λ at is. tt)

if_true_nests : (mark : Option Bool) (read : Result EventRecord EventFault) → IfRead IsNested read
    → IfRead IsNested (reading.if_true mark read)
if_true_nests None read nests = tt
if_true_nests (Some true) read nests = nests
if_true_nests (Some false) read nests = tt

on_bill_nests : (event : PlatformCode → BillName → EventRecord)
    → ((at : PlatformCode) (bill : BillName) → IsNested (event at bill))
    → (place : Option PlatformCode) (named : Option BillName) → IfRead IsNested
    (required EventForm place (λ (at : PlatformCode). required EventForm named (λ (bill : BillName). Ok (event at bill))))
on_bill_nests event each None named = tt
on_bill_nests event each (Some at) None = tt
on_bill_nests event each (Some at) (Some bill) = each at bill

resend_nests : (v : Value) → IfRead IsNested (reading.resend_of v)
resend_nests v =
    if_true_nests (flag_of (codes "resend") v) _
    (on_bill_nests resends (λ at bill. tt) (reading.platform_at v) (reading.named_bill v))

question_nests : (v : Value) → IfRead IsNested (reading.question_of v)
question_nests v =
    if_true_nests (flag_of (codes "ask") v) _
    (on_bill_nests asks (λ at bill. tt) (reading.platform_at v) (reading.named_bill v))

received_nests : (at : PlatformCode) (bytes : Result ForeignRecord EventFault)
    → IfRead IsNested (reading.received_at at bytes)
received_nests at (Ok bytes) = tt
received_nests at (Err fault) = tt

foreign_nests : (v : Value) → IfRead IsNested (reading.foreign_of v)
foreign_nests v = on_place (reading.platform_at v) (text_of (codes "foreign") v)
  where
    on_place : (place : Option PlatformCode) (named : Option (List ℕ)) → IfRead IsNested
        (required EventForm place (λ (at : PlatformCode). required EventForm named (λ (word : List ℕ).
        reading.received_at at (reading.foreign_under word v))))
    on_place None named = tt
    on_place (Some at) None = tt
    on_place (Some at) (Some word) = received_nests at (reading.foreign_under word v)

showing_nests : (v : Value) → IfRead IsNested (reading.showing_of v)
showing_nests v =
    if_required IsNested (reading.numbered (codes "show") v) (λ (number : ℕ). Ok (shows number)) (λ number is. tt)

-- ---- all events

event_nests : (v : Value) → depth v ≤ 127 → IfRead IsNested (event_of v)
event_nests v deep =
    if_either IsNested (has (codes "do") v) _ _ (command_nests v deep)
    (if_either IsNested (has (codes "deliver") v) _ _ (delivery_nests v)
    (if_either IsNested (has (codes "restart") v) _ _ (restart_nests v)
    (if_either IsNested (has (codes "resend") v) _ _ (resend_nests v)
    (if_either IsNested (has (codes "ask") v) _ _ (question_nests v)
    (if_either IsNested (has (codes "foreign") v) _ _ (foreign_nests v)
    (if_either IsNested (has (codes "show") v) (reading.showing_of v) (Err EventForm) (showing_nests v) tt))))))

-- the event that a value is, of which at most so many levels nest
pub nested_event : (v : Value) (event : EventRecord) → depth v ≤ 127 → event_of v ≡ Ok event → IsNested event
nested_event v event deep is = subst (IfRead IsNested) is (event_nests v deep)

pub if_some_nested : (o : Option Event) (event : EventRecord) → IfSome o (λ x. event_view x ≡ event) → IsNested event
    → IfSome o (λ x. IsNested (event_view x))
if_some_nested None event same nested = tt
if_some_nested (Some x) event same nested = subst IsNested (sym same) nested
