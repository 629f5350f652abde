-- The texts of a family in its order, each with its name, and the first name that two different ones share.
use Rattle.std.specs.Prelude.{◌≡◌, ◌≢◌, ℕ, List, [], ◌∷◌, ◌++◌, Option, Some, None, map, Result, Ok, Err}
use Rattle.std.specs.List.{flat_map}
use Rattle.std.specs.Result.{result_ok}
use Rattle.canonical_json.specs.Canon.{canon}
use Rattle.canonical_json.specs.Value.{Value}
use Rattle.canonical_json.specs.Reading.{value_in}
use Rattle.canonical_json.specs.declared.fault.ReadError.{ReadError}
use Rattle.document_checksum.specs.Digest.{checksum_of}
use Rattle.ebl_base.specs.declared.checksum.Checksum.{Checksum}
use Rattle.envelope_manifest.specs.Body.{BodyRecord, body_of}
use Rattle.bill_diary.specs.declared.record.Record.{Record}
use Rattle.bill_diary.specs.declared.record.Record.TheVariants.{Signed, Parted, Begun}
use Rattle.closed_family.specs.declared.family.Member.{Member}
use Rattle.closed_family.specs.Chains.{IsAmong}
use Rattle.closed_family.specs.Family.{records_in, IsTextIn}

-- ---- the texts of a record

-- the body that was read, where a value was
abbrev pub body_if_read : Result Value ReadError → Option BodyRecord
body_if_read (Ok v) = result_ok (body_of v)
body_if_read (Err e) = None

-- the body that bytes are, where they are one
abbrev pub body_in : List ℕ → Option BodyRecord
body_in bytes = body_if_read (value_in bytes)

-- the document's text and the manifest's
abbrev pub texts_of_body : Option BodyRecord → List (List ℕ)
texts_of_body None = []
texts_of_body (Some body) = canon body.document ∷ body.manifest.0 ∷ []

-- the document of a Signed; the entry and the manifest of a Parted; the document, the manifest and the chain of a Begun
abbrev pub texts_of : Record → List (List ℕ)
texts_of (Signed bill document transaction) = document ∷ []
texts_of (Parted bill link manifest manifest_text) = link.text.0 ∷ manifest_text.0 ∷ []
texts_of (Begun bill chain manifest body) = texts_of_body (body_in body) ++ map (λ link. link.text.0) chain
texts_of r = []

-- ---- the texts of a family

-- a text and its name
pub record Named : Type 0 where
  pub name : Checksum
  pub text : List ℕ

-- a text under the name that it has
abbrev pub named : List ℕ → Named
named text = record { name = checksum_of text; text = text }

-- the texts of records, in their order
abbrev pub named_texts : List Record → List Named
named_texts records = map named (flat_map texts_of records)

-- the texts of a family, in the order of its records
abbrev pub texts_in : List Member → List Named
texts_in family = named_texts (records_in family)

-- ---- names that are shared

-- texts of one name are one
abbrev pub AreDistinct : List Named → Type 0
AreDistinct texts = (a b : Named) → IsAmong a texts → IsAmong b texts → a.name ≡ b.name → a.text ≡ b.text

-- the first name that two different texts share: the one text stands before the other, before which no two do
pub record IsSharedFirst (texts : List Named) (name : Checksum) : Type 0 where
  pub before : List Named
  pub other : Named
  pub after : List Named
  pub texts_are : texts ≡ before ++ other ∷ after
  pub one : Named
  pub one_before : IsAmong one before
  pub one_named : one.name ≡ name
  pub other_named : other.name ≡ name
  pub differ : one.text ≢ other.text
  pub first : AreDistinct before

-- two different texts of the family share a name
pub record SharesName (family : List Member) (name : Checksum) : Type 0 where
  pub one : List ℕ
  pub other : List ℕ
  pub one_in : IsTextIn family one
  pub other_in : IsTextIn family other
  pub one_named : checksum_of one ≡ name
  pub other_named : checksum_of other ≡ name
  pub differ : one ≢ other
