-- A body beside its written form.
use Rattle.std.proofs.Common.{◌≡◌, ℕ, ◌≤◌, List, [], ◌∷◌, true, ◌&&◌, Option, Some, Result, Ok, codes, refl, sym, ap, ◌∙◌, arith}
use Rattle.std.specs.Result.{result_unwrap_or}
use Rattle.std.specs.Str.{chars}
use Rattle.canonical_json.specs.Value.{Value, depth, values_depth}
use Rattle.canonical_json.specs.Name.{name_cmp}
use Rattle.canonical_json.specs.Lawful.{IsLawful, is_lawful, are_lawful, HasTexts, HaveTexts}
use Rattle.canonical_json.proofs.Parts.{Reads_once}
use Rattle.json_forms.specs.Reading.{required, all_of, with_more, signed_in}
use Rattle.json_forms.specs.Writing.{each_written, signed_value}
use Rattle.ebl_base.specs.declared.signed_text.SignedText.{SignedText}
use Rattle.envelope_manifest.specs.declared.fault.BodyField.{BodyField}
use Rattle.envelope_manifest.specs.declared.fault.BodyField.TheVariants as fields
use Rattle.envelope_manifest.specs.Body.{BodyRecord, AreUtf8, IsBody, ReadsAs, object_in, body_of, body_value}
use Rattle.envelope_manifest.proofs.FormLemmas.{IsUtf8-ascii}

all_of-signed : (texts : List SignedText) → all_of signed_in (each_written signed_value texts) ≡ Some texts
all_of-signed [] = refl
all_of-signed (t ∷ texts) = ap (with_more (Some t)) (all_of-signed texts)

are_lawful-signed : (texts : List SignedText) → are_lawful (each_written signed_value texts) ≡ true
are_lawful-signed [] = refl
are_lawful-signed (t ∷ texts) = are_lawful-signed texts

HaveTexts-signed : (texts : List SignedText) → AreUtf8 texts → HaveTexts (each_written signed_value texts)
HaveTexts-signed [] h = tt
HaveTexts-signed (t ∷ texts) h = (h.0, HaveTexts-signed texts h.1)

values_depth-signed : (texts : List SignedText) → values_depth (each_written signed_value texts) ≡ 0
values_depth-signed [] = refl
values_depth-signed (t ∷ texts) = let behind = values_depth-signed texts in omega arith

-- the written form of a body is read as the body
pub body_of-body_value : (body : BodyRecord) → object_in body.document ≡ Some body.document
    → body_of (body_value body) ≡ Ok body
body_of-body_value body object = with_parts (object_in body.document)
    (all_of signed_in (each_written signed_value body.chain)) object (all_of-signed body.chain)
  where
    with_parts : (d : Option Value) (c : Option (List SignedText)) → d ≡ Some body.document → c ≡ Some body.chain
        → required fields.Document d (λ document. required fields.Manifest (Some body.manifest)
        (λ manifest. required fields.Chain c
        (λ chain. Ok (record { document = document; manifest = manifest; chain = chain })))) ≡ Ok body
    with_parts d c hd hc = rw (hd, hc) refl

pub IsLawful-body : (body : BodyRecord) → IsLawful body.document → IsLawful (body_value body)
unfolding name_cmp chars
IsLawful-body body document =
    ap (λ b. b && (is_lawful body.document && (true && true))) (are_lawful-signed body.chain)
    ∙ ap (λ b. b && (true && true)) document

pub HasTexts-body : (body : BodyRecord) → IsBody body → HasTexts (body_value body)
HasTexts-body body h = (
  IsUtf8-ascii (codes "chain") refl,
  HaveTexts-signed body.chain h.chain,
  (IsUtf8-ascii (codes "document") refl, h.texts, (IsUtf8-ascii (codes "manifest") refl, h.manifest, tt)),
)

pub depth-body : (body : BodyRecord) → depth body.document ≤ 126 → depth (body_value body) ≤ 127
depth-body body document = let chain = values_depth-signed body.chain in omega arith

-- two bodies with one written form are one
pub one_body : (a b : BodyRecord) → IsBody a → IsBody b → body_value a ≡ body_value b → a ≡ b
one_body a b first second same =
    ap (λ (r : Result BodyRecord BodyField). result_unwrap_or r a)
    (sym (body_of-body_value a first.object) ∙ ap body_of same ∙ body_of-body_value b second.object)

-- a text is read as one body at most
pub body_once : (bytes : List ℕ) (a b : BodyRecord) → ReadsAs bytes a → ReadsAs bytes b → a ≡ b
body_once bytes a b (v, first, is) (w, second, other) =
    ap (λ (r : Result BodyRecord BodyField). result_unwrap_or r a)
    (sym is ∙ ap body_of (Reads_once bytes v w first second) ∙ other)
