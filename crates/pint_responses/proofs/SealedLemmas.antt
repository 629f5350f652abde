-- A text is one response of one platform, or it is refused.
use Rattle.std.proofs.Common.{◌≡◌, ℕ, Bool, true, false, List, Some, Ok, Err, refl, sym, ap, subst, ◌∙◌}
use Rattle.std.specs.Prelude.{◌≢◌}
use Rattle.ebl_base.specs.declared.platform_code.PlatformCode.{PlatformCode}
use Rattle.ebl_base.proofs.SameLemmas.{code_eq-Decides}
use Rattle.canonical_json.specs.Value.{Value}
use Rattle.signed_envelope.specs.Header.{has_crit}
use Rattle.signed_envelope.specs.KeyRing.{Keys}
use Rattle.signed_envelope.specs.Refusal.{IsNamed, IsRefused, is_asked}
use Rattle.signed_envelope.specs.SignedText.{IsHeader, IsSigned}
use Rattle.signed_envelope.specs.declared.compact.Parts.{Parts}
use Rattle.signed_envelope.specs.declared.fault.BadSigned.{BadSigned}
use Rattle.signed_envelope.specs.declared.fault.BadSigned.TheVariants as refusal
use Rattle.signed_envelope.proofs.Readings.{refused_or_signed, same_parts, same_signed, same_signer}
use Rattle.pint_responses.specs.Reading.{response_of}
use Rattle.pint_responses.specs.Sealed.{IsSealed, IsUnsealFault}
use Rattle.pint_responses.specs.declared.fault.ResponseField.{ResponseField}
use Rattle.pint_responses.specs.declared.fault.UnsealFault.{UnsealFault}
use Rattle.pint_responses.specs.declared.fault.UnsealFault.TheVariants as faults
use Rattle.pint_responses.specs.declared.response.Response.{Response}

-- ---- one response

-- a value is one response
pub one_response : (v : Value) (r t : Response) → response_of v ≡ Ok r → response_of v ≡ Ok t → r ≡ t
one_response v r t a b = let oks : Ok r ≡ Ok t = sym a ∙ b in cc oks

pub one_sealed : (keys : Keys) (sealed : List ℕ) (p q : PlatformCode) (r t : Response)
    → IsSealed keys sealed p r → IsSealed keys sealed q t → (p ≡ q) × (r ≡ t)
one_sealed keys sealed p q r t a b =
    let same = same_signed keys 65536 sealed p q a.payload b.payload a.signed b.signed in
    (same.0, one_response b.payload r t (subst (λ v. response_of v ≡ Ok r) same.1 a.response) b.response)

-- ---- no response

-- a value with a wrong member is no response
pub wrong_is_none : (v : Value) (r : Response) (field : ResponseField) → response_of v ≡ Err field → response_of v ≡ Ok r
    → ⊥
wrong_is_none v r field wrong is = absurd (cc (sym wrong ∙ is))

asked_itself : (who : PlatformCode) → is_asked (Some who) who ≡ true
asked_itself who = (code_eq-Decides who who).1 refl

pub refused_is_none : (keys : Keys) (sealed : List ℕ) (who : PlatformCode) (r : Response) (e : UnsealFault)
    → IsUnsealFault keys sealed who e → e ≢ faults.NoMemory → IsSealed keys sealed who r → ⊥
refused_is_none keys sealed who r (faults.Signature why) h memory is =
    refused_or_signed keys 65536 (Some who) sealed why who is.payload h.1 h.0 is.signed (asked_itself who)
refused_is_none keys sealed who r (faults.Form field) h memory is =
    let same = same_signed keys 65536 sealed who who h.0 is.payload h.1 is.signed in
    wrong_is_none is.payload r field (subst (λ v. response_of v ≡ Err field) same.1 h.2) is.response
refused_is_none keys sealed who r faults.NoMemory h memory is = memory refl

-- ---- another platform

-- the header of a text that is signed names the signer
named_signer : (keys : Keys) (sealed : List ℕ) (who named : PlatformCode) (v : Value) (parts : Parts) (critical : Bool)
    → IsSigned keys 65536 sealed who v → IsNamed keys.alg 65536 sealed parts named critical
    → (who ≡ named) × (critical ≡ false)
named_signer keys sealed who named v parts critical s is =
    let same = same_parts 65536 sealed s.parts parts s.compact is.compact in
    let header : IsHeader keys.alg parts.header s.head who =
    subst (λ (p : Parts). IsHeader keys.alg p.header s.head who) same s.header in
    let signer = same_signer keys.alg parts.header s.head is.head who named header is.header in
    (signer.1, sym is.crit ∙ ap has_crit (sym signer.0) ∙ s.not_critical)

-- a platform that was asked for is the one
asked_is : (asked named : PlatformCode) → is_asked (Some asked) named ≡ true → asked ≡ named
asked_is asked named h = (code_eq-Decides asked named).0 h

other_cause : (keys : Keys) (sealed : List ℕ) (who other : PlatformCode) (v : Value) (why : BadSigned)
    → IsSigned keys 65536 sealed who v → who ≢ other → why ≢ refusal.NoMemory
    → IsRefused keys 65536 (Some other) sealed why → why ≡ refusal.WrongKey
other_cause keys sealed who other v refusal.NotCompact s differ memory h = absurd (h s.parts s.compact)
other_cause keys sealed who other v refusal.HeaderForm s differ memory h =
    let same = same_parts 65536 sealed s.parts h.0 s.compact h.1 in
    absurd (h.2 s.head who (subst (λ (p : Parts). IsHeader keys.alg p.header s.head who) same s.header))
other_cause keys sealed who other v refusal.Critical s differ memory h =
    let signer = named_signer keys sealed who h.1 v h.0 true s h.2 in
    absurd (cc signer.1)
other_cause keys sealed who other v refusal.WrongKey s differ memory h = refl
other_cause keys sealed who other v refusal.Wrong s differ memory h =
    let signer = named_signer keys sealed who h.1 v h.0 false s h.2 in
    absurd (differ (signer.0 ∙ sym (asked_is other h.1 h.3)))
other_cause keys sealed who other v refusal.PayloadForm s differ memory h =
    let signer = named_signer keys sealed who h.1 v h.0 false s h.2 in
    absurd (differ (signer.0 ∙ sym (asked_is other h.1 h.3)))
other_cause keys sealed who other v refusal.NoMemory s differ memory h = absurd (memory refl)

-- a response of another platform is refused for its key
pub other_platform : (keys : Keys) (sealed : List ℕ) (who other : PlatformCode) (r : Response) (e : UnsealFault)
    → IsSealed keys sealed who r → who ≢ other → IsUnsealFault keys sealed other e → e ≢ faults.NoMemory
    → e ≡ faults.Signature refusal.WrongKey
other_platform keys sealed who other r (faults.Signature why) is differ h memory =
    ap faults.Signature (other_cause keys sealed who other is.payload why is.signed differ h.0 h.1)
other_platform keys sealed who other r (faults.Form field) is differ h memory =
    absurd (differ (same_signed keys 65536 sealed who other is.payload h.0 is.signed h.1).0)
other_platform keys sealed who other r faults.NoMemory is differ h memory = absurd (memory refl)
