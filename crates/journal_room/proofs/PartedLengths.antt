-- How long the texts of a Parted are at least, and what names an entry that is parting has.
use Rattle.std.proofs.Common.{◌≡◌, ℕ, ◌+◌, ◌*◌, ◌≤◌, Bool, true, false, cond, List, [], ◌∷◌, length, Option, Some, None, refl, sym, ap, subst, arith, append-nil, length-append}
use Rattle.base64.specs.Rfc4648.{encode_symbols}
use Rattle.base64.specs.GeneralPurpose.{engine_symbols}
use Rattle.base64.specs.Engines.{url_safe_no_pad}
use Rattle.sha2.proofs.Facts256.{length-sha256}
use Rattle.ebl_base.specs.Checksum.{checksum_eq}
use Rattle.ebl_base.specs.Signature.{IsSignature, is_signature, signature_bytes, signature_of}
use Rattle.ebl_base.specs.declared.chain.ChainLink.{ChainLink}
use Rattle.ebl_base.specs.declared.checksum.Checksum.{Checksum}
use Rattle.ebl_base.specs.declared.platform_code.PlatformCode.{PlatformCode}
use Rattle.ebl_base.specs.declared.signature.Signature.{Signature}
use Rattle.ebl_base.specs.declared.signed_text.SignedText.{SignedText}
use Rattle.ebl_base.specs.declared.limits.TheConstants.{MAX_SIGNED_TEXT}
use Rattle.canonical_json.specs.Value.{Value}
use Rattle.document_checksum.specs.Digest.{IsChecksum, checksum_of}
use Rattle.document_checksum.proofs.DigestBytes.{IsBytes-sha256}
use Rattle.signed_envelope.specs.Compact.{base64url, compact_text, signing_input}
use Rattle.signed_envelope.specs.KeyRing.{Keys}
use Rattle.signed_envelope.proofs.Readings.{same_parts}
use Rattle.chain_entry.proofs.RoundTrips.{entry_form}
use Rattle.envelope_manifest.specs.declared.manifest.Manifest.{Manifest}
use Rattle.party_roster.specs.RosterRecord.{RosterRecord}
use Rattle.bill_diary.specs.declared.record.Record.{Record}
use Rattle.bill_diary.specs.declared.record.Record.TheVariants.{Signed, Acted, Attached, Parted, Settled, Regained, Begun, Stored, Taken, Declined}
use Rattle.bill_diary.specs.declared.bill_place.BillPlace.TheVariants.{Parting}
use Rattle.bill_diary.specs.History.{of_bill}
use Rattle.bill_diary.specs.Place.{last_parted}
use Rattle.bill_diary.specs.Sound.{AreSound, IsParting, MayPart}
use Rattle.bill_diary.specs.Texts.{HasPayload}
use Rattle.bill_diary.proofs.PlaceLemmas.{parting_is_last, stands}
use Rattle.transfer_judge.specs.Legal.{IsSignedBy, PartsLegally}
use Rattle.journal_room.proofs.ReadingLengths.{weight, weight-text}
use Rattle.journal_room.proofs.MemberLengths.{entry_weighs, header_weighs, manifest_weighs}
use Rattle.journal_room.proofs.SettlementLemmas.{checksum_eq-same}

-- ---- signed texts

-- three bytes are four symbols
length-encode_symbols : (t m : List ℕ) → 4 * length m ≤ 3 * length (encode_symbols t m)
unfolding encode_symbols
length-encode_symbols t [] = omega arith
length-encode_symbols t (a ∷ []) = omega arith
length-encode_symbols t (a ∷ b ∷ []) = omega arith
length-encode_symbols t (a ∷ b ∷ c ∷ rest) = let e = length-encode_symbols t rest in omega (arith, e)

length-base64url : (bytes : List ℕ) → 4 * length bytes ≤ 3 * length (base64url bytes)
unfolding base64url
length-base64url bytes = rw append-nil (length-encode_symbols (engine_symbols url_safe_no_pad) bytes)

length-compact_text : (header payload signed : List ℕ)
    → 4 * (length header + length payload + length signed) + 6 ≤ 3 * length (compact_text header payload signed)
length-compact_text header payload signed =
    omega (
      arith,
      length-append (signing_input header payload) (46 ∷ base64url signed),
      length-append (base64url header) (46 ∷ base64url payload),
      length-base64url header,
      length-base64url payload,
      length-base64url signed,
    )

signature_length : (s : Signature) → IsSignature s → 1 ≤ length (signature_bytes s)
signature_length s is = by (is_signature (signature_bytes s)) refl is.made
  where
    by : (b : Bool) → is_signature (signature_bytes s) ≡ b → signature_of (signature_bytes s) ≡ Some s
        → 1 ≤ length (signature_bytes s)
    by true e f = grind arith
    by false e f = cc (rw e at f)

-- a text that a platform signed, whose payload weighs n
signed_length : (keys : Keys) (who : PlatformCode) (signed : SignedText) (payload : Value) (n : ℕ)
    → IsSignedBy keys who signed → HasPayload signed payload → n ≤ weight payload
    → 4 * (21 + n + 1) + 6 ≤ 3 * length signed.0
signed_length keys who signed payload n (value, is) has least =
    let same = same_parts MAX_SIGNED_TEXT signed.0 has.parts is.parts has.compact is.compact in
    let head = header_weighs keys.alg is.head who is.header.signer in
    let head_text = weight-text is.parts.header is.head is.header.reads in
    let payload_text = weight-text has.parts.payload payload has.reads in
    let payload_is = ap (λ p. length p.payload) same in
    let tail = signature_length is.parts.signature is.compact.signature in
    let whole = length-compact_text is.parts.header is.parts.payload (signature_bytes is.parts.signature) in
    let layout = ap (λ (t : List ℕ). length t) is.compact.layout in
    omega (arith, head, head_text, payload_text, payload_is, tail, whole, layout)

-- the texts of a Parted have 453 bytes or more
pub parted_texts : (roster : RosterRecord) (keys : Keys) (me : PlatformCode) (h : List Record) (bill : Checksum)
    (link : ChainLink) (manifest : Manifest) (signed : SignedText)
    → PartsLegally roster keys me h bill link manifest signed → 453 ≤ length link.text.0 + length signed.0
parted_texts roster keys me h bill link manifest signed is =
    let entry = is.sound.link_is in
    let listed = is.sound.manifest_is in
    let first = signed_length keys me link.text entry.payload 139 is.entry_signed entry.has_payload
    (entry_weighs entry.payload link.entry entry.reads_as) in
    let second = signed_length keys me signed listed.payload 153 is.manifest_signed listed.has_payload
    (manifest_weighs listed.payload manifest listed.reads_as) in
    omega (arith, first, second)

-- ---- names

name_of_text : (name : Checksum) (t : List ℕ) → name ≡ checksum_of t → IsChecksum name
name_of_text name t is = subst IsChecksum (sym is) (record { size = length-sha256 t; bytes = IsBytes-sha256 t })

-- the names of a Parted are checksums
pub parted_names : (me : PlatformCode) (h : List Record) (bill : Checksum) (link : ChainLink) (manifest : Manifest)
    (signed : SignedText) → MayPart me h bill link manifest signed → IsChecksum bill × IsChecksum link.name
parted_names me h bill link manifest signed is =
    let entry = is.link_is in (
      subst IsChecksum is.bill_is (entry_form entry.payload link.entry entry.reads_as).bill,
      name_of_text link.name link.text.0 entry.name,
    )

abbrev NamesOf : Checksum → Option ChainLink → Type 0
NamesOf bill None = Unit {0}
NamesOf bill (Some link) = IsChecksum bill × IsChecksum link.name

-- a record that is no Parted changes nothing
passes : (is : Bool) (bill : Checksum) (r : Record) (h : List Record) → last_parted (r ∷ h) ≡ last_parted h
    → NamesOf bill (last_parted h) → NamesOf bill (last_parted (cond is (r ∷ h) h))
passes true bill r h same names = subst (NamesOf bill) (sym same) names
passes false bill r h same names = names

-- the names of the last Parted of a bill are checksums
last_names : (me : PlatformCode) (bill : Checksum) (rs : List Record) → AreSound me rs
    → NamesOf bill (last_parted (of_bill bill rs))
last_names me bill [] sound = tt
last_names me bill (Signed b document t ∷ rs) sound =
    passes (checksum_eq b bill) bill (Signed b document t) (of_bill bill rs) refl (last_names me bill rs sound.2)
last_names me bill (Acted b t ∷ rs) sound =
    passes (checksum_eq b bill) bill (Acted b t) (of_bill bill rs) refl (last_names me bill rs sound.2)
last_names me bill (Attached b piece bytes ∷ rs) sound =
    passes (checksum_eq b bill) bill (Attached b piece bytes) (of_bill bill rs) refl (last_names me bill rs sound.2)
last_names me bill (Parted b link manifest manifest_text ∷ rs) sound =
    by (checksum_eq b bill) refl (last_names me bill rs sound.2)
  where
    by : (is : Bool) → checksum_eq b bill ≡ is → NamesOf bill (last_parted (of_bill bill rs))
        → NamesOf bill (last_parted (cond is (Parted b link manifest manifest_text ∷ of_bill bill rs) (of_bill bill rs)))
    by true is more =
        let names = parted_names me (of_bill b rs) b link manifest manifest_text sound.0 in
        (subst IsChecksum (checksum_eq-same b bill is) names.0, names.1)
    by false is more = more
last_names me bill (Settled b entry ∷ rs) sound =
    passes (checksum_eq b bill) bill (Settled b entry) (of_bill bill rs) refl (last_names me bill rs sound.2)
last_names me bill (Regained b entry ∷ rs) sound =
    passes (checksum_eq b bill) bill (Regained b entry) (of_bill bill rs) refl (last_names me bill rs sound.2)
last_names me bill (Begun b chain manifest body ∷ rs) sound =
    passes (checksum_eq b bill) bill (Begun b chain manifest body) (of_bill bill rs) refl
    (last_names me bill rs sound.2)
last_names me bill (Stored b entry checksum bytes ∷ rs) sound =
    passes (checksum_eq b bill) bill (Stored b entry checksum bytes) (of_bill bill rs) refl
    (last_names me bill rs sound.2)
last_names me bill (Taken b entry ∷ rs) sound =
    passes (checksum_eq b bill) bill (Taken b entry) (of_bill bill rs) refl (last_names me bill rs sound.2)
last_names me bill (Declined b entry code reason evidence ∷ rs) sound =
    passes (checksum_eq b bill) bill (Declined b entry code reason evidence) (of_bill bill rs) refl
    (last_names me bill rs sound.2)

-- so are those of a bill and an entry that are parting
pub parting_names : (me : PlatformCode) (bill entry : Checksum) (rs : List Record) → AreSound me rs
    → IsParting (of_bill bill rs) entry → IsChecksum bill × IsChecksum entry
parting_names me bill entry rs sound is =
    let where_it_is = stands (of_bill bill rs) (Parting is.known is.link) is.parting in
    let last = (parting_is_last (of_bill bill rs) is.link where_it_is.parting_is).0 in
    let names : NamesOf bill (Some is.link) = subst (NamesOf bill) last (last_names me bill rs sound) in
    (names.0, subst IsChecksum is.names names.1)
