-- What an entry, a transaction, a manifest and a header weigh at least, as values with names and texts.
use Rattle.std.proofs.Common.{◌≡◌, ℕ, ◌+◌, ◌≤◌, Bool, true, false, cond, ◌&&◌, ◌==◌, nat_le, List, [], ◌∷◌, length, codes, Option, Some, None, Ok, Err, Result, refl, sym, ap, ◌∙◌, subst, arith}
use Rattle.std.specs.Prelude.{bytes_eq, find, option_and_then}
use Rattle.std.specs.List.{list_all}
use Rattle.std.specs.Option.{option_map_or}
use Rattle.std.proofs.lemmas.Bool.{and_parts}
use Rattle.std.proofs.lemmas.Bool.Decides.{nat_tests}
use Rattle.std.proofs.lemmas.Slice.Eq.{bytes_eq-Decides}
use Rattle.hex.specs.Hex.{decode_sized}
use Rattle.hex.proofs.HexLemmas.{decode_sized-ok}
use Rattle.canonical_json.specs.Value.{Value, null, flag, int, decimal, text, list, object, Values, no_values, item, Members, no_members, member}
use Rattle.canonical_json.specs.Field.{under, member_of, as_text, as_int, as_list, text_of}
use Rattle.document_checksum.specs.Text.{checksum_from, checksum_of_text, is_lower_digit}
use Rattle.ebl_base.specs.Kind.{kind_of, kind_text, kinds}
use Rattle.ebl_base.specs.Moment.{moment_of}
use Rattle.ebl_base.specs.Party.{party_of}
use Rattle.ebl_base.specs.PlatformCode.{code_of, is_code, is_code_character}
use Rattle.ebl_base.specs.declared.checksum.Checksum.{Checksum}
use Rattle.ebl_base.specs.declared.entry.Entry.{Entry}
use Rattle.ebl_base.specs.declared.kind.Kind.{Kind}
use Rattle.ebl_base.specs.declared.kind.Kind.TheVariants.{Sign, Issue, Endorse, Transfer, SurrenderForDelivery, SurrenderForAmendment, SurrenderAccepted, SurrenderRefused}
use Rattle.ebl_base.specs.declared.limits.TheConstants.{MAX_DOCUMENTS, MAX_ENTRY_TRANSACTIONS, MAX_WHOLE_NUMBER}
use Rattle.ebl_base.specs.declared.moment.Moment.{Moment}
use Rattle.ebl_base.specs.declared.party.Party.{Party}
use Rattle.ebl_base.specs.declared.platform_code.PlatformCode.{PlatformCode}
use Rattle.ebl_base.specs.declared.transaction.Transaction.{Transaction}
use Rattle.json_forms.specs.Reading.{required_platform, required_party, required_checksum, required_number, required_items, number_in, within, count_of, all_of, with_more, optional_party, optional_checksum}
use Rattle.json_forms.specs.declared.reading.Malformed.{Malformed}
use Rattle.json_forms.proofs.ReadForms.{required-parts, unless_malformed-parts}
use Rattle.signed_envelope.specs.Alg.{alg_text}
use Rattle.signed_envelope.specs.Header.{names_alg, signer_of}
use Rattle.signed_envelope.specs.declared.alg.Alg.{Alg}
use Rattle.signed_envelope.specs.declared.alg.Alg.TheVariants.{Hs256, Es256}
use Rattle.chain_entry.specs.Reading.{required_kind, required_time, transaction_with, transaction_of, transactions_of, entry_of}
use Rattle.chain_entry.specs.declared.fault.EntryField.TheVariants as entries
use Rattle.envelope_manifest.specs.Manifest.{manifest_of, pieces_in, required_pieces}
use Rattle.envelope_manifest.specs.declared.fault.ManifestField.TheVariants as manifests
use Rattle.envelope_manifest.specs.declared.manifest.Manifest.{Manifest}
use Rattle.envelope_manifest.specs.declared.piece.Piece.{Piece}
use Rattle.journal_room.proofs.ReadingLengths.{weight, weight_of_values, weight_of_members}

-- ---- members by their names

-- the members of an object
abbrev members_in : Value → Members
members_in null = no_members
members_in (flag b) = no_members
members_in (int z) = no_members
members_in (decimal z s) = no_members
members_in (text s) = no_members
members_in (list vs) = no_members
members_in (object ms) = ms

members_weigh : (v : Value) → weight_of_members (members_in v) ≤ weight v
members_weigh null = omega arith
members_weigh (flag b) = omega arith
members_weigh (int z) = omega arith
members_weigh (decimal z s) = omega arith
members_weigh (text s) = omega arith
members_weigh (list vs) = omega arith
members_weigh (object ms) = omega arith

found_in : (name : List ℕ) (v w : Value) → member_of name v ≡ Some w → under name (members_in v) ≡ Some w
found_in name null w e = cc e
found_in name (flag b) w e = cc e
found_in name (int z) w e = cc e
found_in name (decimal z s) w e = cc e
found_in name (text s) w e = cc e
found_in name (list vs) w e = cc e
found_in name (object ms) w e = e

-- the members but the first of this name
abbrev without : List ℕ → Members → Members
without name no_members = no_members
without name (member other v ms) = cond (bytes_eq other name) ms (member other v (without name ms))

-- a member weighs beside the others
member_weighs : (name : List ℕ) (ms : Members) (w : Value) → under name ms ≡ Some w
    → 2 + length name + weight w + weight_of_members (without name ms) ≤ weight_of_members ms
member_weighs name no_members w e = cc e
member_weighs name (member other v ms) w e = by (bytes_eq other name) refl e (member_weighs name ms w)
  where
    by : (b : Bool) → bytes_eq other name ≡ b → cond b (Some v) (under name ms) ≡ Some w
        → (under name ms ≡ Some w
        → 2 + length name + weight w + weight_of_members (without name ms) ≤ weight_of_members ms)
        → 2 + length name + weight w + weight_of_members (cond b ms (member other v (without name ms)))
        ≤ 2 + length other + weight v + weight_of_members ms
    by true is e more =
        let same : v ≡ w = cc e in
        let one : other ≡ name = (bytes_eq-Decides other name).0 is in
        omega (arith, ap weight same, ap (λ (s : List ℕ). length s) one)
    by false is e more = omega (arith, more e)

-- another name is found as before
others_stay : (name wanted : List ℕ) (ms : Members) → bytes_eq name wanted ≡ false
    → under wanted (without name ms) ≡ under wanted ms
others_stay name wanted no_members differ = refl
others_stay name wanted (member other v ms) differ =
    by (bytes_eq other name) refl (others_stay name wanted ms differ)
  where
    by : (b : Bool) → bytes_eq other name ≡ b → under wanted (without name ms) ≡ under wanted ms
        → under wanted (cond b ms (member other v (without name ms))) ≡ under wanted (member other v ms)
    by true is more =
        let one : other ≡ name = (bytes_eq-Decides other name).0 is in
        let no : bytes_eq other wanted ≡ false = ap (λ (s : List ℕ). bytes_eq s wanted) one ∙ differ in
        sym (ap (λ (b : Bool). cond b (Some v) (under wanted ms)) no)
    by false is more = ap (λ (found : Option Value). cond (bytes_eq other wanted) (Some v) found) more

-- ---- what is read under a name

text_there : (name : List ℕ) (v : Value) (s : List ℕ) → text_of name v ≡ Some s → under name (members_in v) ≡ Some (text s)
text_there name v s e = by (member_of name v) refl e
  where
    by : (found : Option Value) → member_of name v ≡ found → option_and_then as_text found ≡ Some s
        → under name (members_in v) ≡ Some (text s)
    by None is e = cc e
    by (Some null) is e = cc e
    by (Some (flag b)) is e = cc e
    by (Some (int z)) is e = cc e
    by (Some (decimal z t)) is e = cc e
    by (Some (text t)) is e =
        let same : t ≡ s = cc e in found_in name v (text t) is ∙ ap (λ (x : List ℕ). Some (text x)) same
    by (Some (list vs)) is e = cc e
    by (Some (object ms)) is e = cc e

-- what was read of a text under a name was read of one that is there
record IsReadOf {T : Type 0} (name : List ℕ) (v : Value) (form : List ℕ → Option T) (x : T) : Type 0 where
  said : List ℕ
  there : under name (members_in v) ≡ Some (text said)
  reads : form said ≡ Some x

read_there : {T : Type 0} (name : List ℕ) (v : Value) (form : List ℕ → Option T) (x : T)
    → option_and_then form (text_of name v) ≡ Some x → IsReadOf name v form x
read_there {T} name v form x e = by (text_of name v) refl e
  where
    by : (said : Option (List ℕ)) → text_of name v ≡ said → option_and_then form said ≡ Some x
        → IsReadOf name v form x
    by None is e = cc e
    by (Some s) is e = record { said = s; there = text_there name v s is; reads = e }

-- a whole number is there
record IsThere (name : List ℕ) (v : Value) : Type 0 where
  value : Value
  there : under name (members_in v) ≡ Some value

number_there : (name : List ℕ) (least most : ℕ) (v : Value) (n : ℕ) → required_number name least most v ≡ Some n
    → IsThere name v
number_there name least most v n e = by (member_of name v) refl e
  where
    by : (found : Option Value) → member_of name v ≡ found
        → option_and_then (number_in least most) (option_and_then as_int found) ≡ Some n → IsThere name v
    by None is e = cc e
    by (Some w) is e = record { value = w; there = found_in name v w is }

-- a list is there, with so many values at least
record HasValues (name : List ℕ) (least most : ℕ) (v : Value) (values : Values) : Type 0 where
  there : under name (members_in v) ≡ Some (list values)
  enough : least ≤ count_of values

list_there : (name : List ℕ) (least most : ℕ) (v : Value) (values : Values)
    → required_items name least most v ≡ Some values → HasValues name least most v values
list_there name least most v values e = by (member_of name v) refl e
  where
    within_is : (vs : Values) → member_of name v ≡ Some (list vs) → (b : Bool)
        → (nat_le least (count_of vs) && nat_le (count_of vs) most) ≡ b → cond b (Some vs) None ≡ Some values
        → HasValues name least most v values
    within_is vs is true b e =
        let same : vs ≡ values = cc e in
        let tests = and_parts (nat_le least (count_of vs)) (nat_le (count_of vs) most) b in
        let some : least ≤ count_of vs = grind (arith, nat_tests, tests.0) in
        record {
          there = found_in name v (list vs) is ∙ ap (λ (x : Values). Some (list x)) same;
          enough = subst (λ (x : Values). least ≤ count_of x) same some;
        }
    within_is vs is false b e = cc e

    by : (found : Option Value) → member_of name v ≡ found
        → option_and_then (within least most) (option_and_then as_list found) ≡ Some values
        → HasValues name least most v values
    by None is e = cc e
    by (Some null) is e = cc e
    by (Some (flag b)) is e = cc e
    by (Some (int z)) is e = cc e
    by (Some (decimal z t)) is e = cc e
    by (Some (text t)) is e = cc e
    by (Some (list vs)) is e = within_is vs is (nat_le least (count_of vs) && nat_le (count_of vs) most) refl e
    by (Some (object ms)) is e = cc e

-- ---- how long the texts are

code_length : (s : List ℕ) (who : PlatformCode) → code_of s ≡ Some who → length s ≡ 4
code_length s who e = by (is_code s) refl e
  where
    by : (b : Bool) → is_code s ≡ b → cond b (Some (record { bytes = s })) None ≡ Some who → length s ≡ 4
    by true is e =
        let parts = and_parts (length s == 4) (list_all is_code_character s) is in
        grind (arith, nat_tests, parts.0)
    by false is e = cc e

checksum_length : (s : List ℕ) (c : Checksum) → checksum_of_text s ≡ Some c → length s ≡ 64
checksum_length s c e = by (list_all is_lower_digit s) (decode_sized s 32) refl e
  where
    by : (b : Bool) (bytes : Result (List ℕ) _) → decode_sized s 32 ≡ bytes → cond b (checksum_from bytes) None ≡ Some c
        → length s ≡ 64
    by true (Ok bytes) is e = omega (arith, decode_sized-ok s 32 bytes is)
    by true (Err fault) is e = cc e
    by false bytes is e = cc e

party_length : (s : List ℕ) (p : Party) → party_of s ≡ Some p → 5 ≤ length s
party_length [] p e = cc e
party_length (a ∷ []) p e = cc e
party_length (a ∷ b ∷ []) p e = cc e
party_length (a ∷ b ∷ c ∷ []) p e = cc e
party_length (a ∷ b ∷ c ∷ d ∷ []) p e = cc e
party_length (a ∷ b ∷ c ∷ d ∷ slash ∷ name) p e = omega arith

kind_text_length : (kind : Kind) → 4 ≤ length (kind_text kind)
kind_text_length Sign = omega arith
kind_text_length Issue = omega arith
kind_text_length Endorse = omega arith
kind_text_length Transfer = omega arith
kind_text_length SurrenderForDelivery = omega arith
kind_text_length SurrenderForAmendment = omega arith
kind_text_length SurrenderAccepted = omega arith
kind_text_length SurrenderRefused = omega arith

kind_found : (s : List ℕ) (ks : List Kind) (kind : Kind) → find (λ k. bytes_eq (kind_text k) s) ks ≡ Some kind
    → bytes_eq (kind_text kind) s ≡ true
kind_found s [] kind e = cc e
kind_found s (k ∷ ks) kind e = by (bytes_eq (kind_text k) s) refl e (kind_found s ks kind)
  where
    by : (b : Bool) → bytes_eq (kind_text k) s ≡ b
        → cond b (Some k) (find (λ k. bytes_eq (kind_text k) s) ks) ≡ Some kind
        → (find (λ k. bytes_eq (kind_text k) s) ks ≡ Some kind → bytes_eq (kind_text kind) s ≡ true)
        → bytes_eq (kind_text kind) s ≡ true
    by true is e more =
        let same : k ≡ kind = cc e in subst (λ (x : Kind). bytes_eq (kind_text x) s ≡ true) same is
    by false is e more = more e

kind_length : (s : List ℕ) (kind : Kind) → kind_of s ≡ Some kind → 4 ≤ length s
kind_length s kind e =
    let same : kind_text kind ≡ s = (bytes_eq-Decides (kind_text kind) s).0 (kind_found s kinds kind e) in
    omega (arith, ap (λ (x : List ℕ). length x) same, kind_text_length kind)

-- ---- headers

named : (alg : Alg) (head : Value) (who : PlatformCode) → signer_of alg head ≡ Some who
    → (names_alg alg head ≡ true) × (option_and_then code_of (text_of (codes "kid") head) ≡ Some who)
named alg head who e = by (names_alg alg head) refl e
  where
    by : (b : Bool) → names_alg alg head ≡ b
        → cond b (option_and_then code_of (text_of (codes "kid") head)) None ≡ Some who
        → (names_alg alg head ≡ true) × (option_and_then code_of (text_of (codes "kid") head) ≡ Some who)
    by true is e = (is, e)
    by false is e = cc e

alg_length : (alg : Alg) → length (alg_text alg) ≡ 5
alg_length Hs256 = refl
alg_length Es256 = refl

alg_there : (alg : Alg) (head : Value) → names_alg alg head ≡ true
    → (s : List ℕ) × (under (codes "alg") (members_in head) ≡ Some (text s)) × (length s ≡ 5)
alg_there alg head e = by (text_of (codes "alg") head) refl e
  where
    by : (said : Option (List ℕ)) → text_of (codes "alg") head ≡ said
        → option_map_or (bytes_eq (alg_text alg)) said false ≡ true
        → (s : List ℕ) × (under (codes "alg") (members_in head) ≡ Some (text s)) × (length s ≡ 5)
    by None is e = cc e
    by (Some s) is e =
        let same : alg_text alg ≡ s = (bytes_eq-Decides (alg_text alg) s).0 e in
        (s, text_there (codes "alg") head s is, sym (ap (λ (x : List ℕ). length x) same) ∙ alg_length alg)

pub header_weighs : (alg : Alg) (head : Value) (who : PlatformCode) → signer_of alg head ≡ Some who → 21 ≤ weight head
header_weighs alg head who e =
    let parts = named alg head who e in
    let by_alg = alg_there alg head parts.0 in
    let kid = read_there (codes "kid") head code_of who parts.1 in
    let ms = members_in head in
    let rest = others_stay (codes "alg") (codes "kid") ms refl ∙ kid.there in
    omega (
      arith,
      members_weigh head,
      by_alg.2,
      code_length kid.said who kid.reads,
      member_weighs (codes "alg") ms (text by_alg.0) by_alg.1,
      member_weighs (codes "kid") (without (codes "alg") ms) (text kid.said) rest,
    )

-- ---- transactions

record AreParts (kind : Option Kind) (actor : Option Party) (time : Option Moment) : Type 0 where
  k : Kind
  kind_is : kind ≡ Some k
  p : Party
  actor_is : actor ≡ Some p
  m : Moment
  time_is : time ≡ Some m

parts_there : (kind : Option Kind) (actor : Option Party) (recipient : Result (Option Party) Malformed)
    (time : Option Moment) (t : Transaction) → transaction_with kind actor recipient time ≡ Some t
    → AreParts kind actor time
parts_there None actor recipient time t e = cc e
parts_there (Some k) None recipient time t e = cc e
parts_there (Some k) (Some p) (Err other) time t e = cc e
parts_there (Some k) (Some p) (Ok recipient) None t e = cc e
parts_there (Some k) (Some p) (Ok recipient) (Some m) t e =
    record { k = k; kind_is = refl; p = p; actor_is = refl; m = m; time_is = refl }

time_there : (v : Value) (m : Moment) → required_time v ≡ Some m → IsThere (codes "time") v
time_there v m e = by (required_number (codes "time") 0 MAX_WHOLE_NUMBER v) refl e
  where
    by : (n : Option ℕ) → required_number (codes "time") 0 MAX_WHOLE_NUMBER v ≡ n → option_and_then moment_of n ≡ Some m
        → IsThere (codes "time") v
    by None is e = cc e
    by (Some n) is e = number_there (codes "time") 0 MAX_WHOLE_NUMBER v n is

transaction_weighs : (v : Value) (t : Transaction) → transaction_of v ≡ Some t → 30 ≤ weight v
transaction_weighs v t e =
    let parts = parts_there (required_kind v) (required_party (codes "actor") v) (optional_party (codes "recipient") v)
    (required_time v) t e in
    let kind = read_there (codes "kind") v kind_of parts.k parts.kind_is in
    let actor = read_there (codes "actor") v party_of parts.p parts.actor_is in
    let time = time_there v parts.m parts.time_is in
    let ms = members_in v in
    let first = without (codes "kind") ms in
    let second = without (codes "actor") first in
    let actor_there = others_stay (codes "kind") (codes "actor") ms refl ∙ actor.there in
    let there = others_stay (codes "actor") (codes "time") first refl ∙ others_stay (codes "kind") (codes "time") ms refl
    ∙ time.there in
    omega (
      arith,
      members_weigh v,
      kind_length kind.said parts.k kind.reads,
      party_length actor.said parts.p actor.reads,
      member_weighs (codes "kind") ms (text kind.said) kind.there,
      member_weighs (codes "actor") first (text actor.said) actor_there,
      member_weighs (codes "time") second time.value there,
    )

transactions_weigh : (values : Values) (ts : List Transaction) → 1 ≤ count_of values
    → all_of transaction_of values ≡ Some ts → 30 ≤ weight_of_values values
transactions_weigh no_values ts some e = absurd (omega arith)
transactions_weigh (item v vs) ts some e = by (transaction_of v) refl e
  where
    by : (first : Option Transaction) → transaction_of v ≡ first
        → with_more first (all_of transaction_of vs) ≡ Some ts → 30 ≤ weight v + weight_of_values vs
    by None is e = cc e
    by (Some t) is e = omega (arith, transaction_weighs v t is)

-- ---- entries

record HasTransactions (v : Value) : Type 0 where
  values : Values
  there : under (codes "transactions") (members_in v) ≡ Some (list values)
  weigh : 30 ≤ weight_of_values values

transactions_there : (v : Value) (ts : List Transaction) → transactions_of v ≡ Some ts → HasTransactions v
transactions_there v ts e = by (required_items (codes "transactions") 1 MAX_ENTRY_TRANSACTIONS v) refl e
  where
    by : (found : Option Values) → required_items (codes "transactions") 1 MAX_ENTRY_TRANSACTIONS v ≡ found
        → option_and_then (all_of transaction_of) found ≡ Some ts → HasTransactions v
    by None is e = cc e
    by (Some values) is e =
        let has = list_there (codes "transactions") 1 MAX_ENTRY_TRANSACTIONS v values is in
        record { values = values; there = has.there; weigh = transactions_weigh values ts has.enough e }

pub entry_weighs : (v : Value) (entry : Entry) → entry_of v ≡ Ok entry → 139 ≤ weight v
entry_weighs v entry e =
    let platform = required-parts entries.Platform (required_platform (codes "platform") v) _ entry e in
    let bill = required-parts entries.Bill (required_checksum (codes "bill") v) _ entry platform.2 in
    let previous = unless_malformed-parts entries.Previous (optional_checksum (codes "previous") v) _ entry bill.2 in
    let attempt = required-parts entries.Attempt (required_number (codes "attempt") 1 4294967295 v) _ entry previous.2 in
    let transactions = required-parts entries.Transactions (transactions_of v) _ entry attempt.2 in
    let code = read_there (codes "platform") v code_of platform.0 platform.1 in
    let name = read_there (codes "bill") v checksum_of_text bill.0 bill.1 in
    let count = number_there (codes "attempt") 1 4294967295 v attempt.0 attempt.1 in
    let made = transactions_there v transactions.0 transactions.1 in
    let ms = members_in v in
    let first = without (codes "platform") ms in
    let second = without (codes "bill") first in
    let third = without (codes "attempt") second in
    let name_there = others_stay (codes "platform") (codes "bill") ms refl ∙ name.there in
    let count_there = others_stay (codes "bill") (codes "attempt") first refl
    ∙ others_stay (codes "platform") (codes "attempt") ms refl ∙ count.there in
    let made_there = others_stay (codes "attempt") (codes "transactions") second refl
    ∙ others_stay (codes "bill") (codes "transactions") first refl
    ∙ others_stay (codes "platform") (codes "transactions") ms refl ∙ made.there in
    omega (
      arith,
      members_weigh v,
      code_length code.said platform.0 code.reads,
      checksum_length name.said bill.0 name.reads,
      made.weigh,
      member_weighs (codes "platform") ms (text code.said) code.there,
      member_weighs (codes "bill") first (text name.said) name_there,
      member_weighs (codes "attempt") second count.value count_there,
      member_weighs (codes "transactions") third (list made.values) made_there,
    )

-- ---- manifests

pieces_there : (v : Value) (pieces : List Piece) → required_pieces v ≡ Some pieces → IsThere (codes "documents") v
pieces_there v pieces e = by (required_items (codes "documents") 0 MAX_DOCUMENTS v) refl e
  where
    by : (found : Option Values) → required_items (codes "documents") 0 MAX_DOCUMENTS v ≡ found
        → option_and_then pieces_in found ≡ Some pieces → IsThere (codes "documents") v
    by None is e = cc e
    by (Some values) is e =
        record { value = list values; there = (list_there (codes "documents") 0 MAX_DOCUMENTS v values is).there }

pub manifest_weighs : (v : Value) (manifest : Manifest) → manifest_of v ≡ Ok manifest → 153 ≤ weight v
manifest_weighs v manifest e =
    let bill = required-parts manifests.Bill (required_checksum (codes "bill") v) _ manifest e in
    let last = required-parts manifests.Last (required_checksum (codes "last") v) _ manifest bill.2 in
    let documents = required-parts manifests.Documents (required_pieces v) _ manifest last.2 in
    let first = read_there (codes "bill") v checksum_of_text bill.0 bill.1 in
    let second = read_there (codes "last") v checksum_of_text last.0 last.1 in
    let listed = pieces_there v documents.0 documents.1 in
    let ms = members_in v in
    let rest = without (codes "bill") ms in
    let second_there = others_stay (codes "bill") (codes "last") ms refl ∙ second.there in
    let listed_there = others_stay (codes "last") (codes "documents") rest refl
    ∙ others_stay (codes "bill") (codes "documents") ms refl ∙ listed.there in
    omega (
      arith,
      members_weigh v,
      checksum_length first.said bill.0 first.reads,
      checksum_length second.said last.0 second.reads,
      member_weighs (codes "bill") ms (text first.said) first.there,
      member_weighs (codes "last") rest (text second.said) second_there,
      member_weighs (codes "documents") (without (codes "last") rest) listed.value listed_there,
    )
