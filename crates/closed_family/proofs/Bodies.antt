-- The body that bytes are is the one that they read as.
use Rattle.std.proofs.Common.{◌≡◌, ℕ, List, Ok, Err, Result, refl, ap, ◌∙◌, inl, inr}
use Rattle.std.specs.Prelude.{Some, None}
use Rattle.std.specs.Result.{result_ok}
use Rattle.canonical_json.specs.Value.{Value}
use Rattle.canonical_json.specs.Reading.{Reads, value_in}
use Rattle.canonical_json.specs.declared.fault.ReadError.{ReadError}
use Rattle.canonical_json.specs.Reading.{IsUnread}
use Rattle.envelope_manifest.specs.Body.{BodyRecord, body_of, ReadsAs, IsWrongAt}
use Rattle.envelope_manifest.specs.declared.fault.BodyField.{BodyField}
use Rattle.closed_family.specs.Texts.{body_if_read, body_in}

-- bytes that read as a value are the body that it is
pub body_in-reads : (bytes : List ℕ) (v : Value) → Reads bytes v → body_in bytes ≡ result_ok (body_of v)
body_in-reads bytes v reads = ap body_if_read reads

-- the body that bytes read as
pub body_in-ok : (bytes : List ℕ) (parts : BodyRecord) → ReadsAs bytes parts → body_in bytes ≡ Some parts
body_in-ok bytes parts (v, reads, is) = body_in-reads bytes v reads ∙ ap result_ok is

-- bytes that read as no value are none
body_in-unread : (bytes : List ℕ) → IsUnread bytes → body_in bytes ≡ None
body_in-unread bytes unread = by (value_in bytes) refl
  where
    by : (r : Result Value ReadError) → value_in bytes ≡ r → body_if_read (value_in bytes) ≡ None
    by (Ok v) reads = absurd (unread v reads)
    by (Err e) fault = ap body_if_read fault

-- bytes that are wrong somewhere are none
pub body_in-wrong : (bytes : List ℕ) (field : BodyField) → IsWrongAt bytes field → body_in bytes ≡ None
body_in-wrong bytes field (inl (json, unread)) = body_in-unread bytes unread
body_in-wrong bytes field (inr (v, reads, is)) = body_in-reads bytes v reads ∙ ap result_ok is
