-- What is read has the form, and what has the form is read as it is written.
use Rattle.std.proofs.Common.{◌≡◌, ◌≤◌, ℕ, ℤ, pos, Bool, true, false, ◌&&◌, nat_le, List, [], ◌∷◌, Option, Some, None, Result, Ok, Err, codes, cond, length, min, refl, sym, ap, ◌∙◌, subst, arith}
use Rattle.std.specs.Prelude.{All, IfSome, option_and_then}
use Rattle.std.proofs.lemmas.Bool.{and_parts}
use Rattle.std.proofs.lemmas.List.Elements.{All-nil, All-cons, All-head, All-tail}
use Rattle.std.proofs.lemmas.Bool.Decides.{nat_tests}
use Rattle.canonical_json.specs.Value.{Value, Values, no_values, item, object, list, member, no_members}
use Rattle.canonical_json.specs.Field.{text_of, int_of, list_of, member_of, as_text}
use Rattle.document_checksum.specs.Digest.{IsChecksum}
use Rattle.document_checksum.proofs.Texts.{checksum_of_text-checksum_text}
use Rattle.json_forms.specs.Reading.{required, unless_malformed, required_platform, required_checksum, checksum_in, optional_checksum, number_in, required_number, party_in, required_party, optional_party, in_form, optional, count_of, within, with_more, all_of}
use Rattle.json_forms.specs.declared.reading.Malformed.{Malformed}
use Rattle.json_forms.specs.Writing.{capped_value, each_written, platform_value, party_value, checksum_value, optional_member}
use Rattle.json_forms.proofs.RoundTrips.{again, kept, count_of-each_written, count_of-all_of}
use Rattle.json_forms.proofs.ReadForms.{IsChecksum-read, least-read, most-read, optional_form, required-parts, unless_malformed-parts}
use Rattle.ebl_base.specs.PlatformCode.{code_of, code_text}
use Rattle.ebl_base.specs.Party.{party_of, party_text}
use Rattle.ebl_base.specs.Moment.{is_moment, moment_of, moment_number}
use Rattle.ebl_base.specs.declared.kind.Kind.{Kind}
use Rattle.ebl_base.specs.declared.party.Party.{Party}
use Rattle.ebl_base.specs.declared.platform_code.PlatformCode.{PlatformCode}
use Rattle.ebl_base.specs.declared.checksum.Checksum.{Checksum}
use Rattle.ebl_base.specs.declared.moment.Moment.{Moment}
use Rattle.ebl_base.specs.declared.transaction.Transaction.{Transaction}
use Rattle.ebl_base.specs.declared.entry.Entry.{Entry}
use Rattle.ebl_base.proofs.TextLemmas.{code_text-code_of, party_text-party_of, kind_of-kind_text}
use Rattle.chain_entry.specs.declared.fault.EntryField.{EntryField}
use Rattle.chain_entry.specs.declared.fault.EntryField.TheVariants.{Platform, Bill, Previous, Attempt, Transactions}
use Rattle.chain_entry.specs.Reading.{required_kind, required_time, transaction_with, transaction_of, transactions_of, entry_of}
use Rattle.ebl_base.specs.PlatformCode.{IsCode}
use Rattle.ebl_base.specs.Party.{IsParty}
use Rattle.chain_entry.specs.Form.{IsTransaction, IsEntry}
use Rattle.chain_entry.specs.Writing.{kind_value, transaction_value, entry_value}

-- ---- what is read has the form

-- the parts of a transaction that is there
record Parts (kind : Option Kind) (actor : Option Party) (recipient : Result (Option Party) Malformed)
    (time : Option Moment) (t : Transaction) : Type 0 where
  in_kind : kind ≡ Some t.kind
  in_actor : actor ≡ Some t.actor
  in_recipient : recipient ≡ Ok t.recipient
  in_time : time ≡ Some t.time

parts_of : (kind : Option Kind) (actor : Option Party) (recipient : Result (Option Party) Malformed)
    (time : Option Moment) (t : Transaction) → transaction_with kind actor recipient time ≡ Some t
    → Parts kind actor recipient time t
parts_of None actor recipient time t h = cc
parts_of (Some kind) None recipient time t h = cc
parts_of (Some kind) (Some actor) (Err other) time t h = cc
parts_of (Some kind) (Some actor) (Ok recipient) None t h = cc
parts_of (Some kind) (Some actor) (Ok recipient) (Some time) t h =
    let made : Transaction = record { kind = kind; actor = actor; recipient = recipient; time = time } in
    let same : made ≡ t = (kept true made t h).1 in
    record {
      in_kind = ap (λ (x : Transaction). Some x.kind) same;
      in_actor = ap (λ (x : Transaction). Some x.actor) same;
      in_recipient = ap (λ (x : Transaction). Ok x.recipient) same;
      in_time = ap (λ (x : Transaction). Some x.time) same;
    }

pub party_form : (v : Value) (p : Party) → party_in v ≡ Some p → IsParty p
party_form v p h = again party_of party_text party_text-party_of (as_text v) p h

-- a moment that was read is one
moment_form : (o : Option ℕ) (m : Moment) → option_and_then moment_of o ≡ Some m
    → is_moment (moment_number m) ≡ true
moment_form None m h = cc
moment_form (Some n) m h =
    let made : Moment = record { number = n } in
    let both = kept (is_moment n) made m h in
    ap (λ (x : Moment). is_moment x.number) (sym both.1) ∙ both.0

pub transaction_form : (v : Value) (t : Transaction) → transaction_of v ≡ Some t → IsTransaction t
transaction_form v t h =
    let parts = parts_of (required_kind v) (required_party (codes "actor") v) (optional_party (codes "recipient") v) (required_time v) t h in
    record {
      actor = again party_of party_text party_text-party_of (text_of (codes "actor") v) t.actor parts.in_actor;
      recipient = optional_form party_in IsParty party_form (member_of (codes "recipient") v) t.recipient parts.in_recipient;
      time = moment_form (required_number (codes "time") 0 9007199254740991 v) t.time parts.in_time;
    }

-- each of the transactions that were read has the form
transactions_form : (values : Values) (ts : List Transaction) → all_of transaction_of values ≡ Some ts
    → All IsTransaction ts
transactions_form no_values [] h = All-nil IsTransaction
transactions_form no_values (t ∷ ts) h = cc
transactions_form (item v values) ts h =
    by_parts (transaction_of v) refl (all_of transaction_of values) (transactions_form values) ts h
  where
    by_parts : (first : Option Transaction) → transaction_of v ≡ first → (more : Option (List Transaction))
        → ((found : List Transaction) → more ≡ Some found → All IsTransaction found)
        → (ts : List Transaction) → with_more first more ≡ Some ts → All IsTransaction ts
    by_parts None e more behind ts h = cc
    by_parts (Some t) e None behind ts h = cc
    by_parts (Some t) e (Some found) behind ts h =
        let same : t ∷ found ≡ ts = cc in
        subst (All IsTransaction) same (All-cons IsTransaction t found (transaction_form v t e) (behind found refl))

name_form : (v : Value) (c : Checksum) → checksum_in v ≡ Some c → IsChecksum c
name_form v c h = IsChecksum-read (as_text v) c h

-- how many transactions were read
transactions_count : (o : Option Values) (ts : List Transaction)
    → option_and_then (all_of transaction_of) (option_and_then (within 1 32) o) ≡ Some ts
    → (1 ≤ length ts) × (length ts ≤ 32) × All IsTransaction ts
transactions_count None ts h = cc
transactions_count (Some values) ts h = by_within (nat_le 1 (count_of values) && nat_le (count_of values) 32) refl h
  where
    by_within : (b : Bool) → (nat_le 1 (count_of values) && nat_le (count_of values) 32) ≡ b
        → option_and_then (all_of transaction_of) (cond b (Some values) None) ≡ Some ts
        → (1 ≤ length ts) × (length ts ≤ 32) × All IsTransaction ts
    by_within false e h = cc
    by_within true e h =
        let count : count_of values ≡ length ts = count_of-all_of transaction_of values ts h in
        let tests = and_parts (nat_le 1 (count_of values)) (nat_le (count_of values) 32) e in
        let least : 1 ≤ count_of values = grind (arith, nat_tests, tests.0) in
        let most : count_of values ≤ 32 = grind (arith, nat_tests, tests.1) in
        (omega arith, omega arith, transactions_form values ts h)

pub entry_form : (v : Value) (entry : Entry) → entry_of v ≡ Ok entry → IsEntry entry
entry_form v entry h =
    let platform = required-parts Platform (required_platform (codes "platform") v) _ entry h in
    let bill = required-parts Bill (required_checksum (codes "bill") v) _ entry platform.2 in
    let previous = unless_malformed-parts Previous (optional_checksum (codes "previous") v) _ entry bill.2 in
    let attempt = required-parts Attempt (required_number (codes "attempt") 1 4294967295 v) _ entry previous.2 in
    let transactions = required-parts Transactions (transactions_of v) _ entry attempt.2 in
    let count = transactions_count (list_of (codes "transactions") v) transactions.0 transactions.1 in
    let made : Entry = record {
      platform = platform.0;
      bill = bill.0;
      previous = previous.0;
      attempt = attempt.0;
      transactions = transactions.0;
    } in
    let same : made ≡ entry = cc in
    subst IsEntry same (record {
      platform = again code_of code_text code_text-code_of (text_of (codes "platform") v) platform.0 platform.1;
      bill = IsChecksum-read (text_of (codes "bill") v) bill.0 bill.1;
      previous = optional_form checksum_in IsChecksum name_form (member_of (codes "previous") v) previous.0 previous.1;
      first_attempt = least-read 1 4294967295 (int_of (codes "attempt") v) attempt.0 attempt.1;
      last_attempt = most-read 1 4294967295 (int_of (codes "attempt") v) attempt.0 attempt.1;
      some = count.0;
      most = count.1;
      transactions = count.2;
    })

-- ---- what has the form is read as it is written

time_reads : (m : Moment) → is_moment (moment_number m) ≡ true
    → option_and_then moment_of (number_in 0 9007199254740991 (pos (min (moment_number m) 9007199254740991))) ≡ Some m
time_reads m h =
    let same : min (moment_number m) 9007199254740991 ≡ moment_number m = grind (arith, nat_tests) in
    let least : nat_le 0 (moment_number m) ≡ true = grind (arith, nat_tests) in
    ap (λ n. option_and_then moment_of (number_in 0 9007199254740991 (pos n))) same
    ∙ ap (λ b. option_and_then moment_of (cond (b && nat_le (moment_number m) 9007199254740991) (Some (moment_number m)) None)) least
    ∙ ap (λ b. option_and_then moment_of (cond b (Some (moment_number m)) None)) h
    ∙ ap (λ b. cond b (Some m) None) h

all_parts : (kind : Option Kind) (actor : Option Party) (recipient : Result (Option Party) Malformed)
    (time : Option Moment) (t : Transaction) → kind ≡ Some t.kind → actor ≡ Some t.actor → recipient ≡ Ok t.recipient
    → time ≡ Some t.time → transaction_with kind actor recipient time ≡ Some t
all_parts kind actor recipient time t is_kind is_actor is_recipient is_time =
    ap (λ k. transaction_with k actor recipient time) is_kind
    ∙ ap (λ a. transaction_with (Some t.kind) a recipient time) is_actor
    ∙ ap (λ r. transaction_with (Some t.kind) (Some t.actor) r time) is_recipient
    ∙ ap (λ m. transaction_with (Some t.kind) (Some t.actor) (Ok t.recipient) m) is_time

-- the members of a transaction's object, with this recipient
abbrev transaction_members : Transaction → Option Party → Value
transaction_members t recipient =
    object (member (codes "actor") (party_value t.actor)
    (member (codes "kind") (kind_value t.kind)
    (optional_member (codes "recipient") party_value recipient
    (member (codes "time") (capped_value (moment_number t.time)) no_members))))

recipient_reads : (t : Transaction) (recipient : Option Party) → IfSome recipient IsParty
    → optional_party (codes "recipient") (transaction_members t recipient) ≡ Ok recipient
recipient_reads t None h = refl
recipient_reads t (Some party) h = ap (λ p. in_form p) h

time_under_reads : (t : Transaction) (recipient : Option Party) → is_moment (moment_number t.time) ≡ true
    → required_time (transaction_members t recipient) ≡ Some t.time
time_under_reads t None h = time_reads t.time h
time_under_reads t (Some party) h = time_reads t.time h

pub transaction-reads_back : (t : Transaction) → IsTransaction t → transaction_of (transaction_value t) ≡ Some t
transaction-reads_back t form =
    all_parts (required_kind (transaction_value t)) (required_party (codes "actor") (transaction_value t))
    (optional_party (codes "recipient") (transaction_value t)) (required_time (transaction_value t)) t
    (kind_of-kind_text t.kind) form.actor (recipient_reads t t.recipient form.recipient)
    (time_under_reads t t.recipient form.time)

-- transactions are read one after the other
transactions_read : (ts : List Transaction) → All IsTransaction ts
    → all_of transaction_of (each_written transaction_value ts) ≡ Some ts
transactions_read [] h = refl
transactions_read (t ∷ ts) h =
    ap (λ first. with_more first (all_of transaction_of (each_written transaction_value ts)))
    (transaction-reads_back t (All-head IsTransaction t ts h))
    ∙ ap (λ more. with_more (Some t) more) (transactions_read ts (All-tail IsTransaction t ts h))

-- 1 to 32 of them are within the limits
list_reads : (ts : List Transaction) → 1 ≤ length ts → length ts ≤ 32 → All IsTransaction ts
    → option_and_then (all_of transaction_of) (within 1 32 (each_written transaction_value ts)) ≡ Some ts
list_reads ts least most h =
    let written = each_written transaction_value ts in
    let count : count_of written ≡ length ts = count_of-each_written transaction_value ts in
    let first : nat_le 1 (count_of written) ≡ true = grind (arith, nat_tests) in
    let last : nat_le (count_of written) 32 ≡ true = grind (arith, nat_tests) in
    ap (λ b. option_and_then (all_of transaction_of) (cond (b && nat_le (count_of written) 32) (Some written) None)) first
    ∙ ap (λ b. option_and_then (all_of transaction_of) (cond b (Some written) None)) last
    ∙ transactions_read ts h

attempt_reads : (n : ℕ) → 1 ≤ n → n ≤ 4294967295 → number_in 1 4294967295 (pos (min n 9007199254740991)) ≡ Some n
attempt_reads n least most =
    let same : min n 9007199254740991 ≡ n = omega arith in
    let first : nat_le 1 n ≡ true = grind (arith, nat_tests) in
    let last : nat_le n 4294967295 ≡ true = grind (arith, nat_tests) in
    rw (same, first, last) refl

-- the members of an entry's object, with this previous entry
abbrev entry_members : Entry → Option Checksum → Value
entry_members entry previous =
    object (member (codes "attempt") (capped_value entry.attempt)
    (member (codes "bill") (checksum_value entry.bill)
    (member (codes "platform") (platform_value entry.platform)
    (optional_member (codes "previous") checksum_value previous
    (member (codes "transactions") (list (each_written transaction_value entry.transactions)) no_members)))))

previous_reads : (entry : Entry) (previous : Option Checksum) → IfSome previous IsChecksum
    → optional_checksum (codes "previous") (entry_members entry previous) ≡ Ok previous
previous_reads entry None h = refl
previous_reads entry (Some name) h = ap (λ c. in_form c) (checksum_of_text-checksum_text name h)

transactions_under_reads : (entry : Entry) (previous : Option Checksum) → IsEntry entry
    → transactions_of (entry_members entry previous) ≡ Some entry.transactions
transactions_under_reads entry None form = list_reads entry.transactions form.some form.most form.transactions
transactions_under_reads entry (Some name) form = list_reads entry.transactions form.some form.most form.transactions

-- the entry with these parts
abbrev entry_with : Option PlatformCode → Option Checksum → Result (Option Checksum) Malformed → Option ℕ
    → Option (List Transaction) → Result Entry EntryField
entry_with platform bill previous attempt transactions =
    required Platform platform (λ p. required Bill bill (λ b. unless_malformed Previous previous (λ q.
    required Attempt attempt (λ n. required Transactions transactions (λ ts.
    Ok (record { platform = p; bill = b; previous = q; attempt = n; transactions = ts }))))))

entry_reads : (platform : Option PlatformCode) (bill : Option Checksum) (previous : Result (Option Checksum) Malformed)
    (attempt : Option ℕ) (transactions : Option (List Transaction)) (entry : Entry) → platform ≡ Some entry.platform
    → bill ≡ Some entry.bill → previous ≡ Ok entry.previous → attempt ≡ Some entry.attempt
    → transactions ≡ Some entry.transactions → entry_with platform bill previous attempt transactions ≡ Ok entry
entry_reads platform bill previous attempt transactions entry is_platform is_bill is_previous is_attempt are =
    ap (λ p. entry_with p bill previous attempt transactions) is_platform
    ∙ ap (λ b. entry_with (Some entry.platform) b previous attempt transactions) is_bill
    ∙ ap (λ q. entry_with (Some entry.platform) (Some entry.bill) q attempt transactions) is_previous
    ∙ ap (λ n. entry_with (Some entry.platform) (Some entry.bill) (Ok entry.previous) n transactions) is_attempt
    ∙ ap (λ ts. entry_with (Some entry.platform) (Some entry.bill) (Ok entry.previous) (Some entry.attempt) ts) are

pub entry-reads_back : (entry : Entry) → IsEntry entry → entry_of (entry_value entry) ≡ Ok entry
entry-reads_back entry form =
    let written = entry_value entry in
    entry_reads (required_platform (codes "platform") written) (required_checksum (codes "bill") written)
    (optional_checksum (codes "previous") written) (required_number (codes "attempt") 1 4294967295 written)
    (transactions_of written) entry form.platform (checksum_of_text-checksum_text entry.bill form.bill)
    (previous_reads entry entry.previous form.previous)
    (attempt_reads entry.attempt form.first_attempt form.last_attempt)
    (transactions_under_reads entry entry.previous form)

-- ---- different values

-- one value is one entry
pub one_entry : (a b : Entry) → IsEntry a → IsEntry b → entry_value a ≡ entry_value b → a ≡ b
one_entry a b first second same =
    let ends : Ok a ≡ Ok b = sym (entry-reads_back a first) ∙ ap entry_of same ∙ entry-reads_back b second in
    cc

-- and one transaction
pub one_transaction : (a b : Transaction) → IsTransaction a → IsTransaction b
    → transaction_value a ≡ transaction_value b → a ≡ b
one_transaction a b first second same =
    let ends : Some a ≡ Some b = sym (transaction-reads_back a first) ∙ ap transaction_of same ∙ transaction-reads_back b second in
    cc
