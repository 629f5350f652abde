-- What is written is lawful, has texts, and nests three deep.
use Rattle.std.proofs.Common.{◌≡◌, ◌≤◌, ◌<◌, ℕ, Bool, true, false, ◌&&◌, nat_lt, List, [], ◌∷◌, Option, Some, None, codes, cond, min, refl, ap, ◌∙◌, arith, ltb-true}
use Rattle.std.specs.Prelude.{All, IfSome}
use Rattle.std.specs.List.{list_all, take_while}
use Rattle.std.specs.Str.{IsAscii, IsUtf8, chars}
use Rattle.std.proofs.lemmas.Bool.{and_parts}
use Rattle.std.proofs.lemmas.Bool.Decides.{nat_tests}
use Rattle.std.proofs.lemmas.List.Elements.{All-head, All-tail}
use Rattle.std.proofs.lemmas.List.Sums.{take_while-cons}
use Rattle.std.proofs.lemmas.Str.{IsAscii-append, IsUtf8-from_ascii}
use Rattle.std.proofs.lemmas.Str.Ascii.{IsAscii-cons, IsAscii-nil}
use Rattle.canonical_json.specs.Value.{depth, values_depth}
use Rattle.canonical_json.specs.Lawful.{IsLawful, are_lawful, is_lawful, HasTexts, HaveTexts}
use Rattle.canonical_json.specs.Name.{name_cmp}
use Rattle.document_checksum.proofs.ReadTexts.{IsUtf8-checksum_text}
use Rattle.json_forms.specs.Writing.{capped_value, each_written, number_value}
use Rattle.ebl_base.specs.PlatformCode.{code_text, is_code_character}
use Rattle.ebl_base.specs.Name35.{name_text, is_name_character}
use Rattle.ebl_base.specs.Party.{party_text}
use Rattle.ebl_base.specs.Kind.{kind_text}
use Rattle.ebl_base.specs.Moment.{moment_number}
use Rattle.ebl_base.specs.declared.kind.Kind.{Kind}
use Rattle.ebl_base.specs.declared.kind.Kind.TheVariants.{Sign, Issue, Endorse, Transfer, SurrenderForDelivery, SurrenderForAmendment, SurrenderAccepted, SurrenderRefused}
use Rattle.ebl_base.specs.declared.party.Party.{Party}
use Rattle.ebl_base.specs.declared.platform_code.PlatformCode.{PlatformCode}
use Rattle.ebl_base.specs.declared.checksum.Checksum.{Checksum}
use Rattle.ebl_base.specs.declared.transaction.Transaction.{Transaction}
use Rattle.ebl_base.specs.declared.entry.Entry.{Entry}
use Rattle.chain_entry.specs.Writing.{transaction_value, entry_value}

-- ---- numbers are in range, and names in order

number_is_lawful : (n : ℕ) → n ≤ 9007199254740991 → is_lawful (number_value n) ≡ true
number_is_lawful n h = grind (arith, nat_tests)

capped_is_lawful : (n : ℕ) → is_lawful (capped_value n) ≡ true
capped_is_lawful n = number_is_lawful (min n 9007199254740991) (omega arith)

pub transaction-lawful : (t : Transaction) → IsLawful (transaction_value t)
unfolding name_cmp chars
transaction-lawful t = by_recipient t.recipient refl
  where
    by_recipient : (r : Option Party) → t.recipient ≡ r → IsLawful (transaction_value t)
    by_recipient None e = rw (e, capped_is_lawful (moment_number t.time)) refl
    by_recipient (Some party) e = rw (e, capped_is_lawful (moment_number t.time)) refl

transactions_are_lawful : (ts : List Transaction) → are_lawful (each_written transaction_value ts) ≡ true
transactions_are_lawful [] = refl
transactions_are_lawful (t ∷ ts) =
    ap (λ b. b && are_lawful (each_written transaction_value ts)) (transaction-lawful t) ∙ transactions_are_lawful ts

pub entry-lawful : (entry : Entry) → IsLawful (entry_value entry)
unfolding name_cmp chars
entry-lawful entry = by_previous entry.previous refl
  where
    attempt : is_lawful (capped_value entry.attempt) ≡ true
    attempt = capped_is_lawful entry.attempt

    transactions : are_lawful (each_written transaction_value entry.transactions) ≡ true
    transactions = transactions_are_lawful entry.transactions

    by_previous : (p : Option Checksum) → entry.previous ≡ p → IsLawful (entry_value entry)
    by_previous None e = rw (e, attempt, transactions) refl
    by_previous (Some name) e = rw (e, attempt, transactions) refl

-- ---- texts are ASCII

-- characters below 128
ascii_of : (p : ℕ → Bool) → ((c : ℕ) → p c ≡ true → c < 128) → (text : List ℕ) → list_all p text ≡ true → IsAscii text
ascii_of p below [] h = IsAscii-nil
ascii_of p below (c ∷ cs) h =
    let parts = and_parts (p c) (list_all p cs) h in
    IsAscii-cons c cs (below c parts.0) (ascii_of p below cs parts.1)

-- a text that computes
pub literal : (text : List ℕ) → list_all (λ c. nat_lt c 128) text ≡ true → IsUtf8 text
literal text h = IsUtf8-from_ascii text (ascii_of (λ c. nat_lt c 128) (λ c below. ltb-true c 128 below) text h)

front_passes_at : (p : ℕ → Bool) (x : ℕ) (xs : List ℕ) (b : Bool) → p x ≡ b → list_all p (take_while p xs) ≡ true
    → list_all p (take_while p (x ∷ xs)) ≡ true
front_passes_at p x xs true e h = rw (take_while-cons p x xs, e) (rw (e, h) refl)
front_passes_at p x xs false e h = rw (take_while-cons p x xs, e) refl

-- the characters that pass a test from the front on pass it
pub front_passes : (p : ℕ → Bool) (xs : List ℕ) → list_all p (take_while p xs) ≡ true
front_passes p [] = refl
front_passes p (x ∷ xs) = front_passes_at p x xs (p x) refl (front_passes p xs)

code_below : (c : ℕ) → is_code_character c ≡ true → c < 128
code_below c h = grind (arith, nat_tests)

name_below : (c : ℕ) → is_name_character c ≡ true → c < 128
name_below c h = grind (arith, nat_tests)

code_is_text : (code : PlatformCode) → IsUtf8 (code_text code)
code_is_text code =
    IsUtf8-from_ascii (code_text code)
    (ascii_of is_code_character code_below (code_text code) (front_passes is_code_character code.bytes))

pub party_is_text : (party : Party) → IsUtf8 (party_text party)
party_is_text party =
    IsUtf8-from_ascii (party_text party)
    (IsAscii-append (code_text party.platform) (47 ∷ name_text party.code)
    (ascii_of is_code_character code_below (code_text party.platform) (front_passes is_code_character party.platform.bytes))
    (IsAscii-cons 47 (name_text party.code) (ltb-true 47 128 refl)
    (ascii_of is_name_character name_below (name_text party.code) (front_passes is_name_character party.code.bytes))))

-- what is there was chosen by a test that holds
pub test_holds : {T : Type 0} (b : Bool) (o : Option T) (x : T) → cond b o None ≡ Some x → b ≡ true
test_holds true o x h = refl
test_holds false o x h = cc

pub kind_is_text : (kind : Kind) → IsUtf8 (kind_text kind)
kind_is_text Sign = literal (codes "SIGN") refl
kind_is_text Issue = literal (codes "ISSUE") refl
kind_is_text Endorse = literal (codes "ENDORSE") refl
kind_is_text Transfer = literal (codes "TRANSFER") refl
kind_is_text SurrenderForDelivery = literal (codes "SURRENDER_FOR_DELIVERY") refl
kind_is_text SurrenderForAmendment = literal (codes "SURRENDER_FOR_AMENDMENT") refl
kind_is_text SurrenderAccepted = literal (codes "SURRENDER_ACCEPTED") refl
kind_is_text SurrenderRefused = literal (codes "SURRENDER_REFUSED") refl

pub transaction-texts : (t : Transaction) → HasTexts (transaction_value t)
transaction-texts t = by_recipient t.recipient refl
  where
    by_recipient : (r : Option Party) → t.recipient ≡ r → HasTexts (transaction_value t)
    by_recipient None e =
        rw e (literal (codes "actor") refl, party_is_text t.actor, (literal (codes "kind") refl, kind_is_text t.kind, (literal (codes "time") refl, tt, tt)))
    by_recipient (Some party) e =
        rw e (literal (codes "actor") refl, party_is_text t.actor, (literal (codes "kind") refl, kind_is_text t.kind, (literal (codes "recipient") refl, party_is_text party, (literal (codes "time") refl, tt, tt))))

transactions_have_texts : (ts : List Transaction) → HaveTexts (each_written transaction_value ts)
transactions_have_texts [] = tt
transactions_have_texts (t ∷ ts) = (transaction-texts t, transactions_have_texts ts)

pub entry-texts : (entry : Entry) → HasTexts (entry_value entry)
entry-texts entry = by_previous entry.previous refl
  where
    by_previous : (p : Option Checksum) → entry.previous ≡ p → HasTexts (entry_value entry)
    by_previous None e =
        rw e (literal (codes "attempt") refl, tt, (literal (codes "bill") refl, IsUtf8-checksum_text entry.bill, (literal (codes "platform") refl, code_is_text entry.platform, (literal (codes "transactions") refl, transactions_have_texts entry.transactions, tt))))
    by_previous (Some name) e =
        rw e (literal (codes "attempt") refl, tt, (literal (codes "bill") refl, IsUtf8-checksum_text entry.bill, (literal (codes "platform") refl, code_is_text entry.platform, (literal (codes "previous") refl, IsUtf8-checksum_text name, (literal (codes "transactions") refl, transactions_have_texts entry.transactions, tt)))))

-- ---- how deep it nests

pub transaction-depth : (t : Transaction) → depth (transaction_value t) ≡ 1
transaction-depth t = by_recipient t.recipient refl
  where
    by_recipient : (r : Option Party) → t.recipient ≡ r → depth (transaction_value t) ≡ 1
    by_recipient None e = rw e refl
    by_recipient (Some party) e = rw e refl

transactions_depth : (ts : List Transaction) → values_depth (each_written transaction_value ts) ≤ 1
transactions_depth [] = omega arith
transactions_depth (t ∷ ts) =
    let first : depth (transaction_value t) ≡ 1 = transaction-depth t in
    let rest : values_depth (each_written transaction_value ts) ≤ 1 = transactions_depth ts in
    omega arith

pub entry-depth : (entry : Entry) → depth (entry_value entry) ≤ 3
entry-depth entry = by_previous entry.previous refl
  where
    inner : values_depth (each_written transaction_value entry.transactions) ≤ 1
    inner = transactions_depth entry.transactions

    by_previous : (p : Option Checksum) → entry.previous ≡ p → depth (entry_value entry) ≤ 3
    by_previous None e = rw e (omega (arith, inner))
    by_previous (Some name) e = rw e (omega (arith, inner))
