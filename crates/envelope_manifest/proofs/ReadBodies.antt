-- A body that was read is well-formed.
use Rattle.std.proofs.Common.{◌≡◌, ℕ, List, [], ◌∷◌, IsUtf8, Option, Some, None, Result, Ok, Err, codes, refl, sym, ap, ◌∙◌, subst}
use Rattle.std.specs.Prelude.{option_and_then, IfOk}
use Rattle.std.specs.Result.{result_unwrap_or}
use Rattle.canonical_json.specs.Value.{Value, null, flag, int, decimal, text, list, object, Values, no_values, item, Members}
use Rattle.canonical_json.specs.Field.{under}
use Rattle.canonical_json.specs.Lawful.{IsLawful, HasTexts, HaveTexts, MembersHaveTexts}
use Rattle.canonical_json.proofs.Parts.{HasTexts-under, is_lawful-member_of}
use Rattle.json_forms.specs.Reading.{all_of, with_more, signed_in}
use Rattle.ebl_base.specs.declared.signed_text.SignedText.{SignedText}
use Rattle.envelope_manifest.specs.declared.body.Body.{Body}
use Rattle.envelope_manifest.specs.declared.fault.BodyField.{BodyField}
use Rattle.envelope_manifest.specs.declared.fault.BodyField.TheVariants as fields
use Rattle.envelope_manifest.specs.declared.fault.BodyFault.{BodyFault}
use Rattle.envelope_manifest.specs.Body.{BodyRecord, AreUtf8, IsBody, object_in, all_signed_in, parts_of, body_of, body_view}
use Rattle.json_forms.proofs.ReadForms.{required-parts}

-- what was made of a value that is there
pub made_of : {A B : Type 0} (form : A → Option B) (found : Option A) (y : B) → option_and_then form found ≡ Some y
    → (x : A) × (found ≡ Some x) × (form x ≡ Some y)
made_of form None y h = cc
made_of form (Some x) y h = (x, refl, h)

-- an object is itself
pub object_same : (w d : Value) → object_in w ≡ Some d → w ≡ d
object_same null d h = cc
object_same (flag b) d h = cc
object_same (int z) d h = cc
object_same (decimal z s) d h = cc
object_same (text t) d h = cc
object_same (list vs) d h = cc
object_same (object ms) d h = cc

-- a text is UTF-8
signed_utf8 : (w : Value) (t : SignedText) → HasTexts w → signed_in w ≡ Some t → IsUtf8 t.0
signed_utf8 null t texts h = cc
signed_utf8 (flag b) t texts h = cc
signed_utf8 (int z) t texts h = cc
signed_utf8 (decimal z s) t texts h = cc
signed_utf8 (text s) t texts h = let same : s ≡ t.0 = ap (λ (o : Option SignedText). text_in o s) h in subst IsUtf8
    same texts
  where
    text_in : Option SignedText → List ℕ → List ℕ
    text_in None s = s
    text_in (Some t) s = t.0
signed_utf8 (list vs) t texts h = cc
signed_utf8 (object ms) t texts h = cc

-- so are those of a list
more_parts : (first : Option SignedText) (rest : Option (List SignedText)) (x : SignedText) (xs : List SignedText)
    → with_more first rest ≡ Some (x ∷ xs) → (first ≡ Some x) × (rest ≡ Some xs)
more_parts None rest x xs h = cc
more_parts (Some y) None x xs h = cc
more_parts (Some y) (Some ys) x xs h = (cc, cc)

all_utf8 : (vs : Values) (texts : List SignedText) → HaveTexts vs → all_of signed_in vs ≡ Some texts → AreUtf8 texts
all_utf8 no_values [] have h = tt
all_utf8 no_values (t ∷ texts) have h = cc
all_utf8 (item v vs) [] have h = tt
all_utf8 (item v vs) (t ∷ texts) have h =
    let parts = more_parts (signed_in v) (all_of signed_in vs) t texts h in
    (signed_utf8 v t have.0 parts.0, all_utf8 vs texts have.1 parts.1)

list_utf8 : (w : Value) (texts : List SignedText) → HasTexts w → all_signed_in w ≡ Some texts → AreUtf8 texts
list_utf8 null texts have h = cc
list_utf8 (flag b) texts have h = cc
list_utf8 (int z) texts have h = cc
list_utf8 (decimal z s) texts have h = cc
list_utf8 (text s) texts have h = cc
list_utf8 (list vs) texts have h = all_utf8 vs texts have h
list_utf8 (object ms) texts have h = cc

-- members that are a body
IsBody-parts_of : (ms : Members) (body : BodyRecord) → IsLawful (object ms) → MembersHaveTexts ms
    → parts_of ms ≡ Ok body
    → IsBody body
IsBody-parts_of ms body lawful texts h =
    let first = required-parts fields.Document (option_and_then object_in (under (codes "document") ms)) _ body h in
    let second = required-parts fields.Manifest (option_and_then signed_in (under (codes "manifest") ms)) _ body
    first.2 in
    let third = required-parts fields.Chain (option_and_then all_signed_in (under (codes "chain") ms)) _ body second.2 in
    let document = made_of object_in (under (codes "document") ms) first.0 first.1 in
    let manifest = made_of signed_in (under (codes "manifest") ms) second.0 second.1 in
    let chain = made_of all_signed_in (under (codes "chain") ms) third.0 third.1 in
    let same : document.0 ≡ first.0 = object_same document.0 first.0 document.2 in
    let made : BodyRecord = record { document = first.0; manifest = second.0; chain = third.0 } in
    let is : made ≡ body = ap (λ (r : Result BodyRecord BodyField). result_unwrap_or r body) third.2 in
    subst IsBody is (record {
      object = ap object_in (sym same) ∙ document.2;
      lawful = subst IsLawful same (is_lawful-member_of (codes "document") (object ms) document.0 lawful document.1);
      texts = subst HasTexts same (HasTexts-under (codes "document") ms document.0 texts document.1);
      manifest = signed_utf8 manifest.0 second.0 (HasTexts-under (codes "manifest") ms manifest.0 texts manifest.1)
          manifest.2;
      chain = list_utf8 chain.0 third.0 (HasTexts-under (codes "chain") ms chain.0 texts chain.1) chain.2;
    })

-- a value that is a body
pub IsBody-body_of : (v : Value) (body : BodyRecord) → IsLawful v → HasTexts v → body_of v ≡ Ok body → IsBody body
IsBody-body_of null body lawful texts h = cc
IsBody-body_of (flag b) body lawful texts h = cc
IsBody-body_of (int z) body lawful texts h = cc
IsBody-body_of (decimal z s) body lawful texts h = cc
IsBody-body_of (text t) body lawful texts h = cc
IsBody-body_of (list vs) body lawful texts h = cc
IsBody-body_of (object ms) body lawful texts h = IsBody-parts_of ms body lawful texts h

-- what is made of a value that was read
pub IsBody-read : (v : Value) (read : Result Body BodyFault) → IsLawful v → HasTexts v
    → IfOk read (λ body. body_of v ≡ Ok (body_view body)) → IfOk read (λ body. IsBody (body_view body))
IsBody-read v (Ok body) lawful texts h = IsBody-body_of v (body_view body) lawful texts h
IsBody-read v (Err fault) lawful texts h = tt
