-- How long the canonical texts of entries are.
use Rattle.std.proofs.Common.{◌≡◌, ◌≤◌, ◌+◌, ◌*◌, ℕ, Bool, true, false, ◌&&◌, ◌||◌, ◌==◌, nat_le, List, [], ◌∷◌, ◌++◌, Option, Some, None, codes, cond, length, refl, sym, ap, ◌∙◌, subst, arith}
use Rattle.std.specs.Prelude.{All, IfSome, IsSome}
use Rattle.std.specs.List.{list_all}
use Rattle.std.proofs.lemmas.Bool.{and_parts}
use Rattle.std.proofs.lemmas.Bool.Decides.{nat_tests}
use Rattle.std.proofs.lemmas.List.{length-append}
use Rattle.std.proofs.lemmas.List.Elements.{All-head, All-tail}
use Rattle.std.proofs.lemmas.List.Folds.{list_all-append}
use Rattle.json.specs.Print.{quoted, escape, escape_byte}
use Rattle.canonical_json.specs.Canon.{canon, comma_if, members_text, values_text}
use Rattle.canonical_json.specs.Value.{Value, Members, no_members, member}
use Rattle.document_checksum.specs.Digest.{IsChecksum}
use Rattle.ebl_base.specs.Moment.{moment_number}
use Rattle.ebl_base.specs.Name35.{name_of, name_text, is_name, is_name_character}
use Rattle.ebl_base.specs.Party.{party_at, party_of, party_text}
use Rattle.ebl_base.specs.PlatformCode.{code_of, code_text, is_code, is_code_character}
use Rattle.ebl_base.specs.declared.checksum.Checksum.{Checksum}
use Rattle.ebl_base.specs.declared.entry.Entry.{Entry}
use Rattle.ebl_base.specs.declared.kind.Kind.{Kind}
use Rattle.ebl_base.specs.declared.kind.Kind.TheVariants.{Sign, Issue, Endorse, Transfer, SurrenderForDelivery, SurrenderForAmendment, SurrenderAccepted, SurrenderRefused}
use Rattle.ebl_base.specs.declared.name35.Name35.{Name35}
use Rattle.ebl_base.specs.declared.party.Party.{Party}
use Rattle.ebl_base.specs.declared.platform_code.PlatformCode.{PlatformCode}
use Rattle.ebl_base.specs.declared.transaction.Transaction.{Transaction}
use Rattle.json_forms.specs.Writing.{capped_value, each_written, number_value, platform_value, party_value, checksum_value, optional_member}
use Rattle.ebl_base.specs.PlatformCode.{IsCode}
use Rattle.ebl_base.specs.Party.{IsParty}
use Rattle.chain_entry.specs.Form.{IsTransaction, IsEntry}
use Rattle.chain_entry.specs.Writing.{kind_value, transaction_value, entry_value}
use Rattle.json_forms.proofs.LengthLemmas.{is_unescaped, weaker, unescaped_length, checksum_length, capped_length, member_length, optional_member_length}
use Rattle.chain_entry.proofs.CanonicalForms.{front_passes, test_holds}

-- ---- texts that are written as they are

-- a character of a code, a name or a party's text
abbrev is_plain : ℕ → Bool
is_plain c = is_name_character c || (c == 47)

plain_unescaped : (c : ℕ) → is_plain c ≡ true → is_unescaped c ≡ true
plain_unescaped c h = grind (arith, nat_tests)

-- so its canonical text has two quotes more
text_length : (s : List ℕ) (n : ℕ) → list_all is_plain s ≡ true → length s ≤ n → length (quoted s) ≤ n + 2
text_length s n h short = unescaped_length s n (weaker is_plain is_unescaped plain_unescaped s h) short

code_plain : (c : ℕ) → is_code_character c ≡ true → is_plain c ≡ true
code_plain c h = grind (arith, nat_tests)

name_plain : (c : ℕ) → is_name_character c ≡ true → is_plain c ≡ true
name_plain c h = grind (arith, nat_tests)

-- ---- the small values

codes_are_plain : (code : PlatformCode) → list_all is_plain (code_text code) ≡ true
codes_are_plain code =
    weaker is_code_character is_plain code_plain (code_text code) (front_passes is_code_character code.bytes)

code_length : (code : PlatformCode) → IsCode code → length (code_text code) ≤ 4
code_length code h =
    let test = test_holds (is_code (code_text code)) _ code h in
    let parts = and_parts (length (code_text code) == 4) (list_all is_code_character (code_text code)) test in
    grind (arith, nat_tests, parts.0)

pub platform_length : (code : PlatformCode) → IsCode code → length (canon (platform_value code)) ≤ 6
platform_length code h = text_length (code_text code) 4 (codes_are_plain code) (code_length code h)

parties_are_plain : (party : Party) → list_all is_plain (party_text party) ≡ true
parties_are_plain party =
    list_all-append is_plain (code_text party.platform) (47 ∷ name_text party.code)
    ∙ ap (λ b. b && list_all is_plain (name_text party.code)) (codes_are_plain party.platform)
    ∙ weaker is_name_character is_plain name_plain (name_text party.code) (front_passes is_name_character party.code.bytes)

-- a name that was read is short
name_short : (s : List ℕ) (name : Name35) → name_of s ≡ Some name → length s ≤ 35
name_short s name h =
    let test = test_holds (is_name s) _ name h in
    let parts = and_parts (nat_le 1 (length s) && nat_le (length s) 35) (list_all is_name_character s) test in
    let limits = and_parts (nat_le 1 (length s)) (nat_le (length s) 35) parts.0 in
    grind (arith, nat_tests, limits.1)

name_there : (code : Option PlatformCode) (name : Option Name35) (party : Party) → party_at code name ≡ Some party
    → (x : Name35) × (name ≡ Some x)
name_there None name party h = cc
name_there (Some code) None party h = cc
name_there (Some code) (Some name) party h = (name, refl)

-- and so is a party's text
party_short : (s : List ℕ) (party : Party) → party_of s ≡ Some party → length s ≤ 40
party_short [] party h = omega arith
party_short (a ∷ []) party h = omega arith
party_short (a ∷ b ∷ []) party h = omega arith
party_short (a ∷ b ∷ c ∷ []) party h = omega arith
party_short (a ∷ b ∷ c ∷ d ∷ []) party h = omega arith
party_short (a ∷ b ∷ c ∷ d ∷ slash ∷ name) party h = by_slash (slash == 47) h
  where
    by_slash : (t : Bool) → cond t (party_at (code_of (a ∷ b ∷ c ∷ d ∷ [])) (name_of name)) None ≡ Some party
        → length (a ∷ b ∷ c ∷ d ∷ slash ∷ name) ≤ 40
    by_slash true e =
        let there = name_there (code_of (a ∷ b ∷ c ∷ d ∷ [])) (name_of name) party e in
        let short = name_short name there.0 there.1 in
        omega (arith, short)
    by_slash false e = cc

pub party_length : (party : Party) → IsParty party → length (canon (party_value party)) ≤ 42
party_length party h =
    text_length (party_text party) 40 (parties_are_plain party) (party_short (party_text party) party h)

pub kind_length : (kind : Kind) → length (canon (kind_value kind)) ≤ 25
unfolding escape_byte
kind_length Sign = omega arith
kind_length Issue = omega arith
kind_length Endorse = omega arith
kind_length Transfer = omega arith
kind_length SurrenderForDelivery = omega arith
kind_length SurrenderForAmendment = omega arith
kind_length SurrenderAccepted = omega arith
kind_length SurrenderRefused = omega arith

-- ---- objects

-- the quoted names
actor_name : length (quoted (codes "actor")) ≡ 7
unfolding escape_byte
actor_name = refl

kind_name : length (quoted (codes "kind")) ≡ 6
unfolding escape_byte
kind_name = refl

recipient_name : length (quoted (codes "recipient")) ≡ 11
unfolding escape_byte
recipient_name = refl

time_name : length (quoted (codes "time")) ≡ 6
unfolding escape_byte
time_name = refl

attempt_name : length (quoted (codes "attempt")) ≡ 9
unfolding escape_byte
attempt_name = refl

bill_name : length (quoted (codes "bill")) ≡ 6
unfolding escape_byte
bill_name = refl

platform_name : length (quoted (codes "platform")) ≡ 10
unfolding escape_byte
platform_name = refl

previous_name : length (quoted (codes "previous")) ≡ 10
unfolding escape_byte
previous_name = refl

transactions_name : length (quoted (codes "transactions")) ≡ 14
unfolding escape_byte
transactions_name = refl

pub transaction_length : (t : Transaction) → IsTransaction t → length (canon (transaction_value t)) ≤ 164
transaction_length t form =
    let time_v = capped_value (moment_number t.time) in
    let last = member (codes "time") time_v no_members in
    let more = optional_member (codes "recipient") party_value t.recipient last in
    let actor = member_length false (codes "actor") (party_value t.actor) (member (codes "kind") (kind_value t.kind) more) in
    let kind = member_length true (codes "kind") (kind_value t.kind) more in
    let recipient = optional_member_length (codes "recipient") party_value IsParty 42 party_length t.recipient form.recipient last in
    let time = member_length true (codes "time") time_v no_members in
    omega (
      arith,
      actor,
      kind,
      recipient,
      time,
      party_length t.actor form.actor,
      kind_length t.kind,
      capped_length (moment_number t.time),
      actor_name,
      kind_name,
      recipient_name,
      time_name,
    )

-- each transaction, with its comma
transactions_length : (later : Bool) (ts : List Transaction) → All IsTransaction ts
    → length (values_text later (each_written transaction_value ts)) ≤ 1 + 165 * length ts
transactions_length later [] h = omega arith
transactions_length later (t ∷ ts) h =
    let rest = values_text true (each_written transaction_value ts) in
    let outer = length-append (comma_if later) (canon (transaction_value t) ++ rest) in
    let inner = length-append (canon (transaction_value t)) rest in
    let comma = comma_length later in
    omega (
      arith,
      outer,
      inner,
      comma,
      transaction_length t (All-head IsTransaction t ts h),
      transactions_length true ts (All-tail IsTransaction t ts h),
    )
  where
    comma_length : (later : Bool) → length (comma_if later) ≤ 1
    comma_length true = omega arith
    comma_length false = omega arith

pub entry_length : (entry : Entry) → IsEntry entry → length (canon (entry_value entry)) ≤ 5500
entry_length entry form =
    let attempt_v = capped_value entry.attempt in
    let list_v = Value.list (each_written transaction_value entry.transactions) in
    let last = member (codes "transactions") list_v no_members in
    let more = optional_member (codes "previous") checksum_value entry.previous last in
    let at_platform = member (codes "platform") (platform_value entry.platform) more in
    let at_bill = member (codes "bill") (checksum_value entry.bill) at_platform in
    let attempt = member_length false (codes "attempt") attempt_v at_bill in
    let bill = member_length true (codes "bill") (checksum_value entry.bill) at_platform in
    let platform = member_length true (codes "platform") (platform_value entry.platform) more in
    let previous = optional_member_length (codes "previous") checksum_value IsChecksum 66 checksum_length entry.previous form.previous last in
    let transactions = member_length true (codes "transactions") list_v no_members in
    let most = form.most in
    omega (
      arith,
      attempt,
      bill,
      platform,
      previous,
      transactions,
      most,
      capped_length entry.attempt,
      checksum_length entry.bill form.bill,
      platform_length entry.platform form.platform,
      transactions_length false entry.transactions form.transactions,
      attempt_name,
      bill_name,
      platform_name,
      previous_name,
      transactions_name,
    )
