-- How deep the document of a body nests.
use Rattle.std.proofs.Common.{◌≡◌, ◌≤◌, ◌<◌, ℕ, Bool, true, false, List, Some, Ok, bytes_eq, codes, cond, subst, arith}
use Rattle.std.specs.Prelude.{option_and_then}
use Rattle.canonical_json.specs.Value.{Value, null, flag, int, decimal, text, list, object, Members, no_members, member, depth, members_depth}
use Rattle.canonical_json.specs.Field.{under}
use Rattle.json_forms.proofs.ReadForms.{required-parts}
use Rattle.json_forms.specs.Reading.{signed_in}
use Rattle.envelope_manifest.specs.declared.fault.BodyField.TheVariants as fields
use Rattle.envelope_manifest.specs.Body.{BodyRecord, all_signed_in, body_of, object_in, parts_of}
use Rattle.envelope_manifest.proofs.ReadBodies.{made_of, object_same}

-- a member nests no deeper than the members together
under-depth : (name : List ℕ) (ms : Members) (v : Value) → under name ms ≡ Some v → depth v ≤ members_depth ms
under-depth name no_members v h = cc
under-depth name (member other w ms) v h = by_test (under-depth name ms v) (bytes_eq other name) h
  where
    by_test : (under name ms ≡ Some v → depth v ≤ members_depth ms) → (b : Bool)
        → cond b (Some w) (under name ms) ≡ Some v → depth v ≤ members_depth (member other w ms)
    by_test deeper true e =
        let same : w ≡ v = cc in
        subst (λ x. depth x ≤ members_depth (member other w ms)) same (omega arith)
    by_test deeper false e = let behind = deeper e in omega arith

document_below : (ms : Members) (body : BodyRecord) → parts_of ms ≡ Ok body → depth body.document ≤ members_depth ms
document_below ms body h =
    let document = required-parts fields.Document (option_and_then object_in (under (codes "document") ms)) _ body h in
    let manifest = required-parts fields.Manifest (option_and_then signed_in (under (codes "manifest") ms)) _ body document.2 in
    let chain = required-parts fields.Chain (option_and_then all_signed_in (under (codes "chain") ms)) _ body manifest.2 in
    let made : BodyRecord = record { document = document.0; manifest = manifest.0; chain = chain.0 } in
    let same : made ≡ body = cc in
    let found = made_of object_in (under (codes "document") ms) document.0 document.1 in
    let whole = object_same found.0 document.0 found.2 in
    let below = under-depth (codes "document") ms found.0 found.1 in
    subst (λ (b : BodyRecord). depth b.document ≤ members_depth ms) same
    (subst (λ d. depth d ≤ members_depth ms) whole below)

-- the document of a body nests less deep than the body
pub document_nests : (v : Value) (body : BodyRecord) → body_of v ≡ Ok body → depth body.document < depth v
document_nests null body h = cc
document_nests (flag b) body h = cc
document_nests (int z) body h = cc
document_nests (decimal z n) body h = cc
document_nests (text t) body h = cc
document_nests (list vs) body h = cc
document_nests (object ms) body h = let below = document_below ms body h in omega arith
