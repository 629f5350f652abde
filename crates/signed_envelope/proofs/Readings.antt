-- A text is read in one way.
use Rattle.std.proofs.Common.{◌≡◌, ℕ, true, false, List, ◌∷◌, ◌++◌, length, Option, Some, append_assoc, refl, sym, ap, ◌∙◌}
use Rattle.std.specs.Prelude.{◌≢◌}
use Rattle.ebl_base.specs.Signature.{signature_bytes, signature_of}
use Rattle.ebl_base.specs.declared.platform_code.PlatformCode.{PlatformCode}
use Rattle.ebl_base.specs.declared.signature.Signature.{Signature}
use Rattle.canonical_json.specs.Reading.{Reads}
use Rattle.canonical_json.proofs.Parts.{Reads_once}
use Rattle.canonical_json.specs.Value.{Value}
use Rattle.signed_envelope.specs.Compact.{IsCompact, base64url, signing_input}
use Rattle.signed_envelope.specs.KeyRing.{Keys}
use Rattle.signed_envelope.specs.Header.{has_crit}
use Rattle.signed_envelope.specs.Refusal.{IsRefused, is_asked}
use Rattle.signed_envelope.specs.SignedText.{IsHeader, IsSigned, is_verified}
use Rattle.signed_envelope.specs.declared.alg.Alg.{Alg}
use Rattle.signed_envelope.specs.declared.compact.Parts.{Parts}
use Rattle.signed_envelope.specs.declared.fault.BadSigned.{BadSigned}
use Rattle.signed_envelope.specs.declared.fault.BadSigned.TheVariants.{NotCompact, HeaderForm, Critical, WrongKey, Wrong, PayloadForm, NoMemory}
use Rattle.signed_envelope.proofs.PartsLemmas.{base64url-injective, base64url-no_stop, three_parts}

-- parts with equal fields
same_fields : (a b : Parts) → a.header ≡ b.header → a.payload ≡ b.payload → a.signature ≡ b.signature → a.input_len ≡ b.input_len → a ≡ b
same_fields a b header payload signature input_len =
    ap (λ (h : List ℕ). record { header = h; payload = a.payload; signature = a.signature; input_len = a.input_len }) header
    ∙ ap (λ (p : List ℕ). record { header = b.header; payload = p; signature = a.signature; input_len = a.input_len }) payload
    ∙ ap (λ (s : Signature). record { header = b.header; payload = b.payload; signature = s; input_len = a.input_len }) signature
    ∙ ap (λ (n : ℕ). record { header = b.header; payload = b.payload; signature = b.signature; input_len = n }) input_len

-- one division into parts
pub same_parts : (most : ℕ) (text : List ℕ) (a b : Parts) → IsCompact most text a → IsCompact most text b → a ≡ b
same_parts most text a b p q =
    let cut : text ≡ base64url a.header ++ 46 ∷ (base64url a.payload ++ 46 ∷ base64url (signature_bytes a.signature)) =
    p.layout ∙ append_assoc (base64url a.header) (46 ∷ base64url a.payload) (46 ∷ base64url (signature_bytes a.signature)) in
    let three = three_parts most text b (base64url a.header) _ (base64url a.payload) (base64url (signature_bytes a.signature))
    (base64url-no_stop a.header) cut (base64url-no_stop a.payload) refl q in
    let header = base64url-injective a.header b.header p.header q.header three.0 in
    let payload = base64url-injective a.payload b.payload p.payload q.payload three.1 in
    let bytes = base64url-injective (signature_bytes a.signature) (signature_bytes b.signature) p.signature.bytes q.signature.bytes three.2 in
    let some : Some a.signature ≡ Some b.signature = sym p.signature.made ∙ ap signature_of bytes ∙ q.signature.made in
    let signature : a.signature ≡ b.signature = cc some in
    let input : length (signing_input a.header a.payload) ≡ length (signing_input b.header b.payload) = rw (header, payload) refl in
    same_fields a b header payload signature (p.input_len ∙ input ∙ sym q.input_len)

-- one signer of a header
pub same_signer : (alg : Alg) (header : List ℕ) (v w : Value) (p q : PlatformCode) → IsHeader alg header v p → IsHeader alg header w q
    → (v ≡ w) × (p ≡ q)
same_signer alg header v w p q a b =
    let value = Reads_once header v w a.reads b.reads in
    let some : Some p ≡ Some q = sym a.signer ∙ rw value b.signer in
    (value, cc some)

-- one signer and one payload of a text
pub same_signed : (keys : Keys) (most : ℕ) (text : List ℕ) (p q : PlatformCode) (v w : Value)
    → IsSigned keys most text p v → IsSigned keys most text q w → (p ≡ q) × (v ≡ w)
same_signed keys most text p q v w a b =
    let parts = same_parts most text a.parts b.parts a.compact b.compact in
    let signer = same_signer keys.alg b.parts.header a.head b.head p q (rw parts at a.header) b.header in
    (signer.1, Reads_once b.parts.payload v w (rw parts at a.payload) b.payload)

-- the parts and the header of a signed text, where some were found
same_header : (keys : Keys) (most : ℕ) (text : List ℕ) (who other : PlatformCode) (value : Value) (parts : Parts) (head : Value)
    → IsSigned keys most text who value → IsCompact most text parts → IsHeader keys.alg parts.header head other
    → (who ≡ other) × (has_crit head ≡ false) × (is_verified keys parts who ≡ true) × Reads parts.payload value
same_header keys most text who other value parts head s is h =
    let same = same_parts most text s.parts parts s.compact is in
    let signer = same_signer keys.alg parts.header s.head head who other (rw same at s.header) h in
    (signer.1, ap has_crit (sym signer.0) ∙ s.not_critical, rw same at s.verified, rw same at s.payload)

-- what is refused is not signed
pub refused_or_signed : (keys : Keys) (most : ℕ) (asked : Option PlatformCode) (text : List ℕ) (e : BadSigned) (who : PlatformCode) (value : Value)
    → IsRefused keys most asked text e → e ≢ NoMemory → IsSigned keys most text who value → is_asked asked who ≡ true → ⊥
refused_or_signed keys most asked text NotCompact who value r memory s for = r s.parts s.compact
refused_or_signed keys most asked text HeaderForm who value r memory s for =
    r.2 s.head who (rw (same_parts most text s.parts r.0 s.compact r.1) at s.header)
refused_or_signed keys most asked text Critical who value r memory s for =
    let same = same_header keys most text who r.1 value r.0 r.2.head s r.2.compact r.2.header in
    absurd (cc (same.1, r.2.crit))
refused_or_signed keys most asked text WrongKey who value r memory s for =
    let same = same_header keys most text who r.1 value r.0 r.2.head s r.2.compact r.2.header in
    absurd (cc (for, ap (is_asked asked) same.0, r.3))
refused_or_signed keys most asked text Wrong who value r memory s for =
    let same = same_header keys most text who r.1 value r.0 r.2.head s r.2.compact r.2.header in
    absurd (cc (same.2, ap (is_verified keys r.0) same.0, r.4))
refused_or_signed keys most asked text PayloadForm who value r memory s for =
    let same = same_header keys most text who r.1 value r.0 r.2.head s r.2.compact r.2.header in
    r.5 value same.3
refused_or_signed keys most asked text NoMemory who value r memory s for = memory refl
