-- What a request asks may be asked of a desk.
use Rattle.std.proofs.Common.{◌≡◌, ℕ, suc, ◌+◌, ◌≤◌, max, Bool, true, false, cond, List, Option, Some, None, Result, Ok, Err, refl, sym, ap, ◌∙◌, subst, arith}
use Rattle.std.specs.Prelude.{option_map, option_and_then, codes, bytes_eq, MatchOption, IfOk}
use Rattle.canonical_json.specs.View.{view}
use Rattle.canonical_json.specs.declared.value.Json.{Json}
use Rattle.canonical_json.specs.Value.{Value, null, flag, int, decimal, text, list, object, Members, no_members, member, depth, members_depth}
use Rattle.canonical_json.specs.Field.{under, member_of, text_of}
use Rattle.canonical_json.specs.Reading.{value_in, IsUnread, Reads}
use Rattle.canonical_json.specs.declared.fault.ReadError.{ReadError}
use Rattle.json_forms.specs.Reading.{required, unless_malformed, required_checksum, optional_party}
use Rattle.json_forms.specs.Bytes.{required_bytes}
use Rattle.json_forms.specs.declared.reading.Malformed.{Malformed}
use Rattle.envelope_manifest.specs.Piece.{required_plain_text}
use Rattle.ebl_base.specs.Kind.{kind_of}
use Rattle.ebl_base.specs.declared.kind.Kind.{Kind}
use Rattle.holder_commands.specs.Command.{CommandRecord, signs, acts, attaches}
use Rattle.holder_commands.specs.Reading.{begins_a_bill, signing_of, act_of, attachment_of, deed_of, word_of, command_of}
use Rattle.holder_commands.specs.declared.fault.CommandField.{CommandField}
use Rattle.holder_commands.specs.declared.fault.CommandField.TheVariants as fields
use Rattle.platform_requests.specs.Desk.{IsFlatEnough}
use Rattle.http_requests.specs.Asked.{value_if_read, json_of}

-- the value of a text that is read
pub json_read : (body : List ℕ) (v : Value) → Reads body v → json_of body ≡ Some v
json_read body v reads = ap value_if_read reads

unread_result : (r : Result Value ReadError) → ((v : Value) → r ≡ Ok v → ⊥) → value_if_read r ≡ None
unread_result (Ok v) unread = absurd (unread v refl)
unread_result (Err e) unread = refl

pub json_unread : (body : List ℕ) → IsUnread body → json_of body ≡ None
json_unread body unread = unread_result (value_in body) unread

-- what is read is the value, if there is one
pub any_read : (any : Option Json) (body : List ℕ) → MatchOption any (IsUnread body) (λ json. Reads body (view json)) → option_map view any ≡ json_of body
any_read None body unread = sym (json_unread body unread)
any_read (Some json) body reads = sym (json_read body (view json) reads)

pub IfOk-to : {A E : Type 0} (r : Result A E) {P Q : A → Type 0} → ((a : A) → P a → Q a) → IfOk r P → IfOk r Q
IfOk-to (Ok a) f h = f a h
IfOk-to (Err e) f h = tt

-- ---- depth

-- a value under a name lies deeper than its object
depth-under : (name : List ℕ) (ms : Members) (w : Value) → under name ms ≡ Some w → depth w ≤ members_depth ms
depth-under name no_members w h = grind arith
depth-under name (member other v ms) w h = by (depth-under name ms w) (bytes_eq other name) h
  where
    by : (under name ms ≡ Some w → depth w ≤ members_depth ms) → (b : Bool) → cond b (Some v) (under name ms) ≡ Some w
        → depth w ≤ max (depth v) (members_depth ms)
    by deeper true g = let same : v ≡ w = cc in rw (sym same) (omega arith)
    by deeper false g = let rest = deeper g in omega (arith, rest)

pub depth-member : (name : List ℕ) (v w : Value) → member_of name v ≡ Some w → suc (depth w) ≤ depth v
depth-member name null w h = grind arith
depth-member name (flag b) w h = grind arith
depth-member name (int z) w h = grind arith
depth-member name (decimal z s) w h = grind arith
depth-member name (text s) w h = grind arith
depth-member name (list vs) w h = grind arith
depth-member name (object ms) w h = let inner = depth-under name ms w h in omega (arith, inner)

-- ---- a document to sign

not_required : {A : Type 0} (field : CommandField) (o : Option A) (next : A → Result CommandRecord CommandField) (c : CommandRecord)
    → ((a : A) → next a ≡ Ok c → ⊥) → required field o next ≡ Ok c → ⊥
not_required field None next c never h = cc
not_required field (Some a) next c never h = never a h

not_unless_malformed : {A : Type 0} (field : CommandField) (o : Result A Malformed) (next : A → Result CommandRecord CommandField) (c : CommandRecord)
    → ((a : A) → next a ≡ Ok c → ⊥) → unless_malformed field o next ≡ Ok c → ⊥
not_unless_malformed field (Err other) next c never h = cc
not_unless_malformed field (Ok a) next c never h = never a h

attachment_signs_nothing : (v document : Value) → attachment_of v ≡ Ok (signs document) → ⊥
attachment_signs_nothing v document h =
    not_required fields.Bill (required_checksum (codes "bill") v) _ (signs document) (λ bill g.
    not_required fields.Name (required_plain_text (codes "name") 128 v) _ (signs document) (λ name f.
    not_required fields.Media (required_plain_text (codes "media") 64 v) _ (signs document) (λ media e.
    not_required fields.Bytes (required_bytes (codes "bytes") v) _ (signs document) (λ bytes d. cc) e) f) g) h

act_signs_nothing : (kind : Kind) (v document : Value) → act_of kind v ≡ Ok (signs document) → ⊥
act_signs_nothing kind v document h =
    not_required fields.Bill (required_checksum (codes "bill") v) _ (signs document) (λ bill g.
    not_unless_malformed fields.Recipient (optional_party (codes "recipient") v) _ (signs document) (λ recipient f. cc) g) h

signed_member : (o : Option Value) (document : Value) → required fields.Document o (λ d. Ok (signs d)) ≡ Ok (signs document) → o ≡ Some document
signed_member None document h = cc
signed_member (Some d) document h = cc

signs_member : (v document : Value) → command_of v ≡ Ok (signs document) → member_of (codes "document") v ≡ Some document
signs_member v document h = by_word (text_of (codes "do") v) h
  where
    by_deed : (b : Bool) (kind : Kind) → cond b (signing_of v) (act_of kind v) ≡ Ok (signs document) → member_of (codes "document") v ≡ Some document
    by_deed true kind g = signed_member (member_of (codes "document") v) document g
    by_deed false kind g = absurd (act_signs_nothing kind v document g)

    by_kind : (o : Option Kind) → required fields.Do o (λ kind. deed_of kind v) ≡ Ok (signs document) → member_of (codes "document") v ≡ Some document
    by_kind None g = cc
    by_kind (Some kind) g = by_deed (begins_a_bill kind) kind g

    by_attach : (b : Bool) (word : List ℕ) → cond b (attachment_of v) (required fields.Do (kind_of word) (λ kind. deed_of kind v)) ≡ Ok (signs document)
        → member_of (codes "document") v ≡ Some document
    by_attach true word g = absurd (attachment_signs_nothing v document g)
    by_attach false word g = by_kind (kind_of word) g

    by_word : (o : Option (List ℕ)) → required fields.Do o (λ word. word_of word v) ≡ Ok (signs document) → member_of (codes "document") v ≡ Some document
    by_word None g = cc
    by_word (Some word) g = by_attach (bytes_eq word (codes "ATTACH")) word g

-- a document inside a value that was read nests less deep than it
pub flat_enough : (v : Value) (c : CommandRecord) → depth v ≤ 127 → command_of v ≡ Ok c → IsFlatEnough c
flat_enough v (acts bill kind recipient) small h = tt
flat_enough v (attaches bill name media bytes) small h = tt
flat_enough v (signs document) small h =
    let inside = depth-member (codes "document") v document (signs_member v document h) in omega (arith, small, inside)
