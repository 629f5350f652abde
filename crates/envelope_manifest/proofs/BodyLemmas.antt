-- The parts of a body, taken out one after the other, and the text that is made of them.
use Rattle.std.proofs.Common.{◌≡◌, ℕ, List, ◌++◌, Bool, true, false, cond, Option, Some, None, Result, Ok, Err, codes, bytes_eq, refl, sym, ap, ◌∙◌, append_assoc}
use Rattle.std.specs.Prelude.{option_and_then}
use Rattle.std.proofs.lemmas.Slice.Eq.{bytes_eq-Decides}
use Rattle.canonical_json.specs.Value.{Value, Members, no_members, member}
use Rattle.canonical_json.specs.Canon.{canon, values_text}
use Rattle.canonical_json.specs.Field.{under}
use Rattle.canonical_json.specs.Taking.{without}
use Rattle.json.specs.Print.{escape_byte}
use Rattle.json_forms.specs.Writing.{each_written, signed_value}
use Rattle.ebl_base.specs.declared.signed_text.SignedText.{SignedText}
use Rattle.envelope_manifest.specs.declared.fault.BodyField.{BodyField}
use Rattle.envelope_manifest.specs.declared.fault.BodyField.TheVariants as fields
use Rattle.json_forms.specs.Reading.{required, signed_in}
use Rattle.envelope_manifest.specs.Body.{BodyRecord, object_in, all_signed_in, parts_of, body_value}

-- another name stands where it stood
under-without : (name other : List ℕ) (ms : Members) → bytes_eq name other ≡ false
    → under other (without name ms) ≡ under other ms
under-without name other no_members differ = refl
under-without name other (member n v ms) differ =
    by_test (under-without name other ms differ) (bytes_eq n name) refl
  where
    by_test : under other (without name ms) ≡ under other ms → (b : Bool) → bytes_eq n name ≡ b
        → under other (cond b ms (member n v (without name ms))) ≡ under other (member n v ms)
    by_test deeper true e =
        let same : n ≡ name = (bytes_eq-Decides n name).0 e in
        sym (ap (λ b. cond b (Some v) (under other ms)) (ap (λ t. bytes_eq t other) same ∙ differ))
    by_test deeper false e = ap (cond (bytes_eq n other) (Some v)) deeper

-- the body of three parts, or the first that is not there
abbrev parts_with : Option Value → Option SignedText → Option (List SignedText) → Result BodyRecord BodyField
parts_with document manifest chain =
    required fields.Document document (λ d.
    required fields.Manifest manifest (λ m.
    required fields.Chain chain (λ c.
    Ok (record { document = d; manifest = m; chain = c }))))

manifest_there : (ms first : Members) → first ≡ without (codes "document") ms
    → under (codes "manifest") first ≡ under (codes "manifest") ms
manifest_there ms first taken =
    ap (under (codes "manifest")) taken ∙ under-without (codes "document") (codes "manifest") ms refl

chain_there : (ms first second : Members) → first ≡ without (codes "document") ms
    → second ≡ without (codes "manifest") first
    → under (codes "chain") second ≡ under (codes "chain") ms
chain_there ms first second taken then_taken =
    ap (under (codes "chain")) then_taken ∙ under-without (codes "manifest") (codes "chain") first refl
    ∙ ap (under (codes "chain")) taken ∙ under-without (codes "document") (codes "chain") ms refl

-- there is a document and no manifest
pub parts-no_manifest : (ms first : Members) (document : Value)
    → Some document ≡ option_and_then object_in (under (codes "document") ms)
    → first ≡ without (codes "document") ms
    → None ≡ option_and_then signed_in (under (codes "manifest") first)
    → parts_of ms ≡ Err fields.Manifest
parts-no_manifest ms first document found taken none =
    ap (λ d. parts_with d (option_and_then signed_in (under (codes "manifest") ms))
    (option_and_then all_signed_in (under (codes "chain") ms))) (sym found)
    ∙ ap (λ m. parts_with (Some document) (option_and_then signed_in m)
    (option_and_then all_signed_in (under (codes "chain") ms))) (sym (manifest_there ms first taken))
    ∙ ap (λ m. parts_with (Some document) m (option_and_then all_signed_in (under (codes "chain") ms))) (sym none)

-- there are a document and a manifest
three : (ms first second : Members) (document : Value) (manifest : SignedText)
    → Some document ≡ option_and_then object_in (under (codes "document") ms)
    → first ≡ without (codes "document") ms
    → Some manifest ≡ option_and_then signed_in (under (codes "manifest") first)
    → second ≡ without (codes "manifest") first
    → parts_of ms ≡ parts_with (Some document) (Some manifest)
    (option_and_then all_signed_in (under (codes "chain") second))
three ms first second document manifest found taken next then_taken =
    ap (λ d. parts_with d (option_and_then signed_in (under (codes "manifest") ms))
    (option_and_then all_signed_in (under (codes "chain") ms))) (sym found)
    ∙ ap (λ m. parts_with (Some document) (option_and_then signed_in m)
    (option_and_then all_signed_in (under (codes "chain") ms))) (sym (manifest_there ms first taken))
    ∙ ap (λ m. parts_with (Some document) m (option_and_then all_signed_in (under (codes "chain") ms))) (sym next)
    ∙ ap (λ c. parts_with (Some document) (Some manifest) (option_and_then all_signed_in c))
    (sym (chain_there ms first second taken then_taken))

pub parts-no_chain : (ms first second : Members) (document : Value) (manifest : SignedText)
    → Some document ≡ option_and_then object_in (under (codes "document") ms)
    → first ≡ without (codes "document") ms
    → Some manifest ≡ option_and_then signed_in (under (codes "manifest") first)
    → second ≡ without (codes "manifest") first
    → None ≡ option_and_then all_signed_in (under (codes "chain") second)
    → parts_of ms ≡ Err fields.Chain
parts-no_chain ms first second document manifest found taken next then_taken none =
    three ms first second document manifest found taken next then_taken
    ∙ ap (parts_with (Some document) (Some manifest)) (sym none)

pub parts-all : (ms first second : Members) (document : Value) (manifest : SignedText) (chain : List SignedText)
    → Some document ≡ option_and_then object_in (under (codes "document") ms)
    → first ≡ without (codes "document") ms
    → Some manifest ≡ option_and_then signed_in (under (codes "manifest") first)
    → second ≡ without (codes "manifest") first
    → Some chain ≡ option_and_then all_signed_in (under (codes "chain") second)
    → parts_of ms ≡ Ok (record { document = document; manifest = manifest; chain = chain })
parts-all ms first second document manifest chain found taken next then_taken last =
    three ms first second document manifest found taken next then_taken
    ∙ ap (parts_with (Some document) (Some manifest)) (sym last)

-- the text of a body, part by part
pub canon-body_value : (body : BodyRecord)
    → canon (body_value body)
    ≡ codes "{\"chain\":[" ++ (values_text false (each_written signed_value body.chain)
    ++ (codes ",\"document\":" ++ (canon body.document
    ++ (codes ",\"manifest\":" ++ (canon (signed_value body.manifest) ++ codes "}")))))
unfolding escape_byte
canon-body_value body = refl

-- a part put behind others is the same as its equal
pub put_same : (from to part same : List ℕ) → to ≡ from ++ part → part ≡ same → to ≡ from ++ same
put_same from to part same put equal = put ∙ ap (λ x. from ++ x) equal

-- parts put one behind the other
pub joined : (a b c d e f g : List ℕ) (to_a to_b to_c to_d to_e to_f to_g : List ℕ)
    → to_a ≡ a → to_b ≡ to_a ++ b → to_c ≡ to_b ++ c → to_d ≡ to_c ++ d → to_e ≡ to_d ++ e → to_f ≡ to_e ++ f
    → to_g ≡ to_f ++ g
    → to_g ≡ a ++ (b ++ (c ++ (d ++ (e ++ (f ++ g)))))
joined a b c d e f g to_a to_b to_c to_d to_e to_f to_g ha hb hc hd he hf hg =
    hg ∙ ap (λ x. x ++ g) (hf
    ∙ ap (λ x. x ++ f) (he
    ∙ ap (λ x. x ++ e) (hd ∙ ap (λ x. x ++ d) (hc ∙ ap (λ x. x ++ c) (hb ∙ ap (λ x. x ++ b) ha)))))
    ∙ simp append_assoc
