-- What is written of an event has a canonical text.
use Rattle.std.proofs.Common.{◌≡◌, ◌≤◌, ℕ, nat_lt, List, [], ◌∷◌, true, Some, None, codes, min, refl, arith}
use Rattle.std.specs.List.{list_all}
use Rattle.std.specs.Str.{chars, IsUtf8}
use Rattle.std.proofs.lemmas.Bool.{and_parts}
use Rattle.std.proofs.lemmas.Bool.Decides.{nat_tests}
use Rattle.canonical_json.specs.Lawful.{IsLawful, is_lawful, HasTexts}
use Rattle.canonical_json.specs.Name.{name_cmp}
use Rattle.document_checksum.proofs.ReadTexts.{IsUtf8-checksum_text}
use Rattle.json_forms.specs.Writing.{capped_value, number_value}
use Rattle.json_forms.proofs.BytesLemmas.{IsUtf8-base64}
use Rattle.chain_entry.proofs.CanonicalForms.{literal, party_is_text, kind_is_text, front_passes}
use Rattle.ebl_base.specs.Moment.{moment_number}
use Rattle.ebl_base.specs.PlatformCode.{code_text, is_code_character}
use Rattle.upload_state.proofs.ReferenceLemmas.{IsUtf8-reference_text}
use Rattle.ebl_base.specs.declared.moment.Moment.{Moment}
use Rattle.ebl_base.specs.declared.party.Party.{Party}
use Rattle.ebl_base.specs.declared.platform_code.PlatformCode.{PlatformCode}
use Rattle.world_script.specs.declared.deed.BillName.{BillName}
use Rattle.world_script.specs.declared.deed.BillName.TheVariants.{Name, Number}
use Rattle.world_script.specs.Event.{DeedRecord, signs, acts, attaches, ForeignRecord, starts, puts, finishes, start_replies, finish_replies, EventRecord, commands, delivers, restarts, resends, asks, receives, shows}
use Rattle.world_script.specs.Form.{IsDeed, IsForeign, IsEvent}
use Rattle.world_script.specs.Writing.{bill_value, command_value, event_value, reply_value}

-- ---- numbers are in range, and names in order

number_is_lawful : (n : ℕ) → n ≤ 9007199254740991 → is_lawful (number_value n) ≡ true
number_is_lawful n h = grind (arith, nat_tests)

capped_is_lawful : (n : ℕ) → is_lawful (capped_value n) ≡ true
capped_is_lawful n = number_is_lawful (min n 9007199254740991) (omega arith)

bill_is_lawful : (bill : BillName) → is_lawful (bill_value bill) ≡ true
bill_is_lawful (Name bill) = refl
bill_is_lawful (Number n) = capped_is_lawful n

command-lawful : (at : PlatformCode) (party : Party) (now : Moment) (deed : DeedRecord) → IsDeed deed
    → IsLawful (command_value at party now deed)
unfolding name_cmp chars
command-lawful at party now (signs document) form = rw (form.0, capped_is_lawful (moment_number now)) refl
command-lawful at party now (acts bill kind None) form =
    rw (bill_is_lawful bill, capped_is_lawful (moment_number now)) refl
command-lawful at party now (acts bill kind (Some to)) form =
    rw (bill_is_lawful bill, capped_is_lawful (moment_number now)) refl
command-lawful at party now (attaches bill name media bytes) form =
    rw (bill_is_lawful bill, capped_is_lawful (moment_number now)) refl

reply-lawful : (at : PlatformCode) (word : List ℕ) (bill : BillName) (reply : List ℕ)
    → IsLawful (reply_value at word bill reply)
unfolding name_cmp chars
reply-lawful at word bill reply = rw (bill_is_lawful bill) refl

pub event-lawful : (e : EventRecord) → IsEvent e → IsLawful (event_value e)
unfolding name_cmp chars
event-lawful (commands at party now deed) form = command-lawful at party now deed form.3
event-lawful (delivers number None) form = rw (capped_is_lawful number) refl
event-lawful (delivers number (Some at)) form = rw (capped_is_lawful number) refl
event-lawful (restarts at) form = refl
event-lawful (resends at bill) form = rw (bill_is_lawful bill) refl
event-lawful (asks at bill) form = rw (bill_is_lawful bill) refl
event-lawful (receives at (starts body)) form = refl
event-lawful (receives at (puts reference checksum bytes)) form = refl
event-lawful (receives at (finishes reference)) form = refl
event-lawful (receives at (start_replies bill reply)) form = reply-lawful at (codes "START_REPLY") bill reply
event-lawful (receives at (finish_replies bill reply)) form = reply-lawful at (codes "FINISH_REPLY") bill reply
event-lawful (shows number) form = rw (capped_is_lawful number) refl

-- ---- texts of forms are ASCII, and the others are texts by the form

-- the characters of a code are ASCII
all_below : (xs : List ℕ) → list_all is_code_character xs ≡ true → list_all (λ c. nat_lt c 128) xs ≡ true
all_below [] h = refl
all_below (c ∷ cs) h =
    let parts = and_parts (is_code_character c) (list_all is_code_character cs) h in
    let test : is_code_character c ≡ true = parts.0 in
    let first : nat_lt c 128 ≡ true = grind (arith, nat_tests) in
    rw (first, all_below cs parts.1) refl

code_is_text : (code : PlatformCode) → IsUtf8 (code_text code)
code_is_text code = literal (code_text code) (all_below (code_text code) (front_passes is_code_character code.bytes))

bill_is_text : (bill : BillName) → HasTexts (bill_value bill)
bill_is_text (Name bill) = IsUtf8-checksum_text bill
bill_is_text (Number n) = tt

command-texts : (at : PlatformCode) (party : Party) (now : Moment) (deed : DeedRecord) → IsDeed deed
    → HasTexts (command_value at party now deed)
command-texts at party now (signs document) form = (
  literal (codes "at") refl,
  code_is_text at,
  (
    literal (codes "do") refl,
    literal (codes "SIGN") refl,
    (
      literal (codes "document") refl,
      form.1,
      (literal (codes "now") refl, tt, (literal (codes "party") refl, party_is_text party, tt)),
    ),
  ),
)
command-texts at party now (acts bill kind None) form = (
  literal (codes "at") refl,
  code_is_text at,
  (
    literal (codes "bill") refl,
    bill_is_text bill,
    (
      literal (codes "do") refl,
      kind_is_text kind,
      (literal (codes "now") refl, tt, (literal (codes "party") refl, party_is_text party, tt)),
    ),
  ),
)
command-texts at party now (acts bill kind (Some to)) form = (
  literal (codes "at") refl,
  code_is_text at,
  (
    literal (codes "bill") refl,
    bill_is_text bill,
    (
      literal (codes "do") refl,
      kind_is_text kind,
      (
        literal (codes "now") refl,
        tt,
        (
          literal (codes "party") refl,
          party_is_text party,
          (literal (codes "recipient") refl, party_is_text to, tt),
        ),
      ),
    ),
  ),
)
command-texts at party now (attaches bill name media bytes) form = (
  literal (codes "at") refl,
  code_is_text at,
  (
    literal (codes "bill") refl,
    bill_is_text bill,
    (
      literal (codes "bytes") refl,
      IsUtf8-base64 bytes,
      (
        literal (codes "do") refl,
        literal (codes "ATTACH") refl,
        (
          literal (codes "media") refl,
          form.2.1,
          (
            literal (codes "name") refl,
            form.1.1,
            (literal (codes "now") refl, tt, (literal (codes "party") refl, party_is_text party, tt)),
          ),
        ),
      ),
    ),
  ),
)

reply-texts : (at : PlatformCode) (word : List ℕ) (bill : BillName) (reply : List ℕ) → IsUtf8 word → IsUtf8 reply
    → HasTexts (reply_value at word bill reply)
reply-texts at word bill reply of_word of_reply = (
  literal (codes "at") refl,
  code_is_text at,
  (
    literal (codes "bill") refl,
    bill_is_text bill,
    (literal (codes "foreign") refl, of_word, (literal (codes "text") refl, of_reply, tt)),
  ),
)

foreign-texts : (at : PlatformCode) (bytes : ForeignRecord) → IsForeign bytes → HasTexts (event_value (receives at bytes))
foreign-texts at (starts body) form = (
  literal (codes "at") refl,
  code_is_text at,
  (literal (codes "body") refl, form, (literal (codes "foreign") refl, literal (codes "START") refl, tt)),
)
foreign-texts at (puts reference checksum bytes) form = (
  literal (codes "at") refl,
  code_is_text at,
  (
    literal (codes "bytes") refl,
    IsUtf8-base64 bytes,
    (
      literal (codes "checksum") refl,
      IsUtf8-checksum_text checksum,
      (
        literal (codes "foreign") refl,
        literal (codes "PUT") refl,
        (literal (codes "reference") refl, IsUtf8-reference_text reference, tt),
      ),
    ),
  ),
)
foreign-texts at (finishes reference) form = (
  literal (codes "at") refl,
  code_is_text at,
  (
    literal (codes "foreign") refl,
    literal (codes "FINISH") refl,
    (literal (codes "reference") refl, IsUtf8-reference_text reference, tt),
  ),
)
foreign-texts at (start_replies bill reply) form =
    reply-texts at (codes "START_REPLY") bill reply (literal (codes "START_REPLY") refl) form.1
foreign-texts at (finish_replies bill reply) form =
    reply-texts at (codes "FINISH_REPLY") bill reply (literal (codes "FINISH_REPLY") refl) form.1

pub event-texts : (e : EventRecord) → IsEvent e → HasTexts (event_value e)
event-texts (commands at party now deed) form = command-texts at party now deed form.3
event-texts (delivers number None) form = (literal (codes "deliver") refl, tt, tt)
event-texts (delivers number (Some at)) form =
    (literal (codes "at") refl, code_is_text at, (literal (codes "deliver") refl, tt, tt))
event-texts (restarts at) form = (literal (codes "restart") refl, code_is_text at, tt)
event-texts (resends at bill) form = (
  literal (codes "at") refl,
  code_is_text at,
  (literal (codes "bill") refl, bill_is_text bill, (literal (codes "resend") refl, tt, tt)),
)
event-texts (asks at bill) form = (
  literal (codes "ask") refl,
  tt,
  (literal (codes "at") refl, code_is_text at, (literal (codes "bill") refl, bill_is_text bill, tt)),
)
event-texts (receives at bytes) form = foreign-texts at bytes form.1
event-texts (shows number) form = (literal (codes "show") refl, tt, tt)
