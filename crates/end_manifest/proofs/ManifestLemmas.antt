-- A text is one manifest, or is refused for one reason, and never both.
use Rattle.std.proofs.Common.{◌≡◌, ◌⊎◌, inl, inr, true, Some, Ok, Err, refl, sym, ap, subst, ◌∙◌}
use Rattle.ebl_base.specs.declared.chain.ChainLink.{ChainLink}
use Rattle.ebl_base.specs.declared.checksum.Checksum.{Checksum}
use Rattle.ebl_base.specs.declared.platform_code.PlatformCode.{PlatformCode}
use Rattle.ebl_base.specs.declared.reason.Reason.{Reason}
use Rattle.ebl_base.specs.declared.reason.Reason.TheVariants as reasons
use Rattle.ebl_base.specs.declared.signed_text.SignedText.{SignedText}
use Rattle.ebl_base.proofs.SameLemmas.{code_eq-Decides}
use Rattle.canonical_json.specs.Value.{Value}
use Rattle.signed_envelope.specs.KeyRing.{Keys}
use Rattle.signed_envelope.specs.Refusal.{is_asked}
use Rattle.signed_envelope.specs.SignedText.{IsSigned}
use Rattle.signed_envelope.proofs.Readings.{refused_or_signed, same_signed}
use Rattle.envelope_manifest.specs.Manifest.{manifest_of}
use Rattle.envelope_manifest.specs.declared.manifest.Manifest.{Manifest}
use Rattle.end_manifest.specs.EndManifest.{AreNames, IsManifestRefused, IsOtherForm, IsUnsigned, Manifests, NamesOthers}

asked_itself : (who : PlatformCode) → is_asked (Some who) who ≡ true
asked_itself who = (code_eq-Decides who who).1 refl

-- a text is one manifest of this entry's platform
pub same_manifest : (keys : Keys) (end : ChainLink) (text : SignedText) (v w : Value) (a b : Manifest)
    → IsSigned keys 16384 text.0 end.entry.platform v → manifest_of v ≡ Ok a
    → IsSigned keys 16384 text.0 end.entry.platform w → manifest_of w ≡ Ok b → a ≡ b
same_manifest keys end text v w a b first a_is second b_is =
    let values = (same_signed keys 16384 text.0 end.entry.platform end.entry.platform v w first second).1 in
    let both : Ok a ≡ Ok b = sym a_is ∙ ap manifest_of values ∙ b_is in
    cc both

-- ---- what is refused is none

unsigned_or_signed : (keys : Keys) (end : ChainLink) (text : SignedText) (value : Value)
    → IsUnsigned keys end text → IsSigned keys 16384 text.0 end.entry.platform value → ⊥
unsigned_or_signed keys end text value h signed =
    refused_or_signed keys 16384 (Some end.entry.platform) text.0 h.0 end.entry.platform value h.2 h.1 signed
    (asked_itself end.entry.platform)

form_or_manifest : (keys : Keys) (end : ChainLink) (text : SignedText) (value : Value) (m : Manifest)
    → IsOtherForm keys end text → IsSigned keys 16384 text.0 end.entry.platform value → manifest_of value ≡ Ok m → ⊥
form_or_manifest keys end text value m h signed is =
    let values = (same_signed keys 16384 text.0 end.entry.platform end.entry.platform h.0 value h.2 signed).1 in
    let both : Err h.1 ≡ Ok m = sym h.3 ∙ ap manifest_of values ∙ is in
    cc both

others_or_named : (keys : Keys) (bill : Checksum) (end : ChainLink) (text : SignedText) (m : Manifest)
    → NamesOthers keys bill end text → Manifests keys bill end text m → ⊥
others_or_named keys bill end text m h is =
    h.4 (subst (AreNames bill end)
    (same_manifest keys end text is.payload h.0 m h.1 is.signed is.manifest_is h.2 h.3) is.names)

pub refused_is_none : (keys : Keys) (bill : Checksum) (end : ChainLink) (text : SignedText) (m : Manifest)
    (reason : Reason) → IsManifestRefused keys bill end text reason → Manifests keys bill end text m → ⊥
refused_is_none keys bill end text m reasons.ManifestSignature h is = unsigned_or_signed keys end text is.payload h is.signed
refused_is_none keys bill end text m reasons.ManifestForm h is =
    form_or_manifest keys end text is.payload m h is.signed is.manifest_is
refused_is_none keys bill end text m reasons.ManifestNames h is = others_or_named keys bill end text m h is
refused_is_none keys bill end text m reasons.Body h is = h
refused_is_none keys bill end text m reasons.Document h is = h
refused_is_none keys bill end text m reasons.Length h is = h
refused_is_none keys bill end text m reasons.Carrier h is = h
refused_is_none keys bill end text m reasons.Destination h is = h
refused_is_none keys bill end text m reasons.Party h is = h
refused_is_none keys bill end text m reasons.Parts h is = h
refused_is_none keys bill end text m reasons.NotListed h is = h
refused_is_none keys bill end text m reasons.Bytes h is = h
refused_is_none keys bill end text m (reasons.Signature i) h is = h
refused_is_none keys bill end text m (reasons.Entry i) h is = h
refused_is_none keys bill end text m (reasons.Signer i) h is = h
refused_is_none keys bill end text m (reasons.Link i) h is = h
refused_is_none keys bill end text m (reasons.Bill i) h is = h
refused_is_none keys bill end text m (reasons.Platform i) h is = h
refused_is_none keys bill end text m (reasons.Fold i) h is = h
refused_is_none keys bill end text m (reasons.Move i) h is = h

-- ---- one reason

-- why a manifest is refused, with its reason
abbrev Cause : Keys → Checksum → ChainLink → SignedText → Reason → Type 0
Cause keys bill end text reason =
    ((reason ≡ reasons.ManifestSignature) × IsUnsigned keys end text)
    ⊎ (((reason ≡ reasons.ManifestForm) × IsOtherForm keys end text)
    ⊎ ((reason ≡ reasons.ManifestNames) × NamesOthers keys bill end text))

cause_of : (keys : Keys) (bill : Checksum) (end : ChainLink) (text : SignedText) (reason : Reason)
    → IsManifestRefused keys bill end text reason → Cause keys bill end text reason
cause_of keys bill end text reasons.ManifestSignature refused = inl (refl, refused)
cause_of keys bill end text reasons.ManifestForm refused = inr (inl (refl, refused))
cause_of keys bill end text reasons.ManifestNames refused = inr (inr (refl, refused))
cause_of keys bill end text reasons.Body refused = absurd refused
cause_of keys bill end text reasons.Document refused = absurd refused
cause_of keys bill end text reasons.Length refused = absurd refused
cause_of keys bill end text (reasons.Signature i) refused = absurd refused
cause_of keys bill end text (reasons.Entry i) refused = absurd refused
cause_of keys bill end text (reasons.Signer i) refused = absurd refused
cause_of keys bill end text (reasons.Link i) refused = absurd refused
cause_of keys bill end text (reasons.Bill i) refused = absurd refused
cause_of keys bill end text reasons.Carrier refused = absurd refused
cause_of keys bill end text (reasons.Platform i) refused = absurd refused
cause_of keys bill end text (reasons.Fold i) refused = absurd refused
cause_of keys bill end text (reasons.Move i) refused = absurd refused
cause_of keys bill end text reasons.Destination refused = absurd refused
cause_of keys bill end text reasons.Party refused = absurd refused
cause_of keys bill end text reasons.Parts refused = absurd refused
cause_of keys bill end text reasons.NotListed refused = absurd refused
cause_of keys bill end text reasons.Bytes refused = absurd refused

same_cause : (keys : Keys) (bill : Checksum) (end : ChainLink) (text : SignedText)
    (a b : Reason) → Cause keys bill end text a → Cause keys bill end text b → a ≡ b
same_cause keys bill end text a b (inl (is, x)) (inl (also, y)) = is ∙ sym also
same_cause keys bill end text a b (inl (is, x)) (inr (inl (also, y))) =
    absurd (unsigned_or_signed keys end text y.0 x y.2)
same_cause keys bill end text a b (inl (is, x)) (inr (inr (also, y))) =
    absurd (unsigned_or_signed keys end text y.0 x y.2)
same_cause keys bill end text a b (inr (inl (is, x))) (inl (also, y)) =
    absurd (unsigned_or_signed keys end text x.0 y x.2)
same_cause keys bill end text a b (inr (inl (is, x))) (inr (inl (also, y))) = is ∙ sym also
same_cause keys bill end text a b (inr (inl (is, x))) (inr (inr (also, y))) =
    absurd (form_or_manifest keys end text y.0 y.1 x y.2 y.3)
same_cause keys bill end text a b (inr (inr (is, x))) (inl (also, y)) =
    absurd (unsigned_or_signed keys end text x.0 y x.2)
same_cause keys bill end text a b (inr (inr (is, x))) (inr (inl (also, y))) =
    absurd (form_or_manifest keys end text x.0 x.1 y x.2 x.3)
same_cause keys bill end text a b (inr (inr (is, x))) (inr (inr (also, y))) = is ∙ sym also

pub same_reason : (keys : Keys) (bill : Checksum) (end : ChainLink) (text : SignedText) (a b : Reason)
    → IsManifestRefused keys bill end text a → IsManifestRefused keys bill end text b → a ≡ b
same_reason keys bill end text a b one other =
    same_cause keys bill end text a b (cause_of keys bill end text a one) (cause_of keys bill end text b other)
