-- Each record of a sound diary has a spelling.
use Rattle.std.proofs.Common.{◌≡◌, ◌≢◌, ◌⊎◌, inl, inr, ℕ, zero, suc, ◌+◌, ◌*◌, ◌<◌, ◌≤◌, ◌^◌, true, false, Bool, List, [], ◌∷◌, ◌++◌, Option, Some, None, codes, length, map, refl, sym, ◌∙◌, ap, subst, arith}
use Rattle.std.specs.Prelude.{Contains, slice_index_or}
use Rattle.std.proofs.lemmas.List.{length-append}
use Rattle.ebl_base.specs.Reason.{code_for}
use Rattle.ebl_base.specs.declared.checksum.Checksum.{Checksum}
use Rattle.ebl_base.specs.declared.chain.ChainLink.{ChainLink}
use Rattle.ebl_base.specs.declared.code.Code.{Code}
use Rattle.ebl_base.specs.declared.code.Code.TheVariants.{BadEnvelope, DisputedEnvelope}
use Rattle.ebl_base.specs.declared.evidence.Evidence.{Evidence}
use Rattle.ebl_base.specs.declared.platform_code.PlatformCode.{PlatformCode}
use Rattle.ebl_base.specs.declared.reason.Reason.{Reason}
use Rattle.ebl_base.specs.declared.reason.Reason.TheVariants as reasons
use Rattle.ebl_base.specs.declared.signed_text.SignedText.{SignedText}
use Rattle.json.specs.Print.{quoted, escape_byte}
use Rattle.canonical_json.specs.Canon.{canon, comma_if, members_text, values_text}
use Rattle.canonical_json.specs.Value.{list, no_members, member}
use Rattle.json_forms.specs.Writing.{each_written, signed_value}
use Rattle.json_forms.proofs.LengthLemmas.{member_length, unescaped_length}
use Rattle.signed_envelope.specs.Compact.{IsCompact}
use Rattle.signed_envelope.specs.declared.compact.Parts.{Parts}
use Rattle.signed_envelope.proofs.CompactLemmas.{compact_is_plain}
use Rattle.envelope_manifest.specs.Body.{BodyRecord, body_value}
use Rattle.envelope_manifest.specs.Manifest.{ArePieces, IsManifest}
use Rattle.envelope_manifest.specs.declared.manifest.Manifest.{Manifest}
use Rattle.envelope_manifest.specs.declared.piece.Piece.{Piece}
use Rattle.bill_chain.specs.Chain.{last_of}
use Rattle.bill_diary.specs.declared.record.Record.{Record}
use Rattle.bill_diary.specs.declared.record.Record.TheVariants.{Signed, Acted, Attached, Parted, Settled, Regained, Begun, Stored, Taken, Declined}
use Rattle.bill_diary.specs.declared.frame.Frame.{Frame}
use Rattle.bill_diary.specs.declared.frame.Frame.TheVariants.{One, BegunTaken}
use Rattle.bill_diary.specs.declared.bill_place.BillPlace.{BillPlace}
use Rattle.bill_diary.specs.History.{newest_first, of_bill, bill_of}
use Rattle.bill_diary.specs.Place.{place_of}
use Rattle.bill_diary.specs.Sound.{IsSound, IsSoundHistory, MayFollow, MayFollowDiary, MayStore, CameWith, IsCause as MayCause}
use Rattle.bill_diary.specs.Texts.{LinksAreTheirTexts, IsBodyOf}
use Rattle.bill_diary.proofs.HistoryLemmas.{history_of_sound}
use Rattle.record_bytes.specs.Fields.{IsShort}
use Rattle.record_bytes.specs.Forms.{HasSpelling, HasNames, IsCause}
use Rattle.record_bytes.specs.Grammar.{Spells, frame_bytes, kept}
use Rattle.record_bytes.proofs.DocumentLemmas.{document_short}

-- ---- a body is short

-- a text in the compact layout is written as it is, in quotes
compact_length : (text : List ℕ) (parts : Parts) → IsCompact 16384 text parts → length (quoted text) ≤ 16386
compact_length text parts is = unescaped_length text 16384 (compact_is_plain 16384 text parts is) is.fits

texts_length : (later : Bool) (links : List ChainLink) → LinksAreTheirTexts links
    → length (values_text later (each_written signed_value (map (λ (l : ChainLink). l.text) links)))
    ≤ 1 + 16387 * length links
texts_length later [] are = omega arith
texts_length later (link ∷ links) are =
    let rest = values_text true (each_written signed_value (map (λ (l : ChainLink). l.text) links)) in
    omega (
      arith,
      length-append (comma_if later) (quoted link.text.0 ++ rest),
      length-append (quoted link.text.0) rest,
      comma_length later,
      compact_length link.text.0 are.0.has_payload.parts are.0.has_payload.compact,
      texts_length true links are.1,
    )
  where
    comma_length : (b : Bool) → length (comma_if b) ≤ 1
    comma_length true = omega arith
    comma_length false = omega arith

chain_name : length (quoted (codes "chain")) ≡ 7
unfolding escape_byte
chain_name = refl

document_name : length (quoted (codes "document")) ≡ 10
unfolding escape_byte
document_name = refl

manifest_name : length (quoted (codes "manifest")) ≡ 10
unfolding escape_byte
manifest_name = refl

written_length : (parts : BodyRecord) (n : ℕ)
    → length (values_text false (each_written signed_value parts.chain)) ≤ n
    → length (canon parts.document) ≤ 262144 → length (quoted parts.manifest.0) ≤ 16386
    → length (canon (body_value parts)) ≤ n + 278600
written_length parts n chain document manifest =
    let last = member (codes "manifest") (signed_value parts.manifest) no_members in
    let more = member (codes "document") parts.document last in
    omega (
      arith,
      member_length false (codes "chain") (list (each_written signed_value parts.chain)) more,
      member_length true (codes "document") parts.document last,
      member_length true (codes "manifest") (signed_value parts.manifest) no_members,
      chain_name,
      document_name,
      manifest_name,
      chain,
      document,
      manifest,
    )

pub body_short : (bill : Checksum) (links : List ChainLink) (manifest : Manifest) (body : List ℕ)
    → IsBodyOf bill links manifest body → LinksAreTheirTexts links → length links ≤ 64 → length body ≤ 1327369
body_short bill links manifest body is are few =
    let chain : length (values_text false (each_written signed_value is.parts.chain)) ≤ 1 + 16387 * length links =
    subst (λ (ts : List SignedText). length (values_text false (each_written signed_value ts)) ≤ 1 + 16387 * length links)
    (sym is.chain_is) (texts_length false links are) in
    omega (
      arith,
      few,
      ap length is.text_is,
      written_length is.parts (1 + 16387 * length links) chain
          (document_short bill (canon is.parts.document) is.document_is)
          (compact_length is.parts.manifest.0 is.manifest_is.has_payload.parts is.manifest_is.has_payload.compact),
    )

-- ---- what is stored is short

came_manifest : (me : PlatformCode) (entry : Checksum) (manifest : Manifest) (h : List Record) → IsSoundHistory me h
    → CameWith entry manifest h → IsManifest manifest
came_manifest me entry manifest [] sound came = absurd came
came_manifest me entry manifest (Begun b c m body ∷ h) sound (inl here) =
    subst IsManifest (sym here.1) sound.0.manifest_form
came_manifest me entry manifest (Begun b c m body ∷ h) sound (inr before) =
    came_manifest me entry manifest h sound.1 before
came_manifest me entry manifest (r ∷ h) sound came = came_manifest me entry manifest h sound.1 came

-- ---- records

has_one : (links : List ChainLink) (last : ChainLink) → last_of links ≡ Some last → 1 ≤ length links
has_one [] last is = absurd (cc is)
has_one (link ∷ links) last is = omega arith

declined_cause : (place : BillPlace) (code : Code) (reason : Reason) (evidence : Evidence)
    → MayCause place code reason evidence → IsCause reason × (code ≡ code_for reason)
declined_cause place DisputedEnvelope reasons.Parts evidence is = (tt, refl)
declined_cause place BadEnvelope reasons.Party evidence is = (tt, refl)
declined_cause place code reason evidence is = absurd is

-- a listed document is small
piece_small : (pieces : List Piece) (piece : Piece) (k : ℕ) → ArePieces pieces → k < length pieces
    → slice_index_or pieces k piece ≡ piece → piece.size ≤ 2097152
piece_small [] piece k are lt here = absurd (omega (arith, lt))
piece_small (p ∷ pieces) piece zero are lt here =
    let small = are.0.size in omega (arith, small, ap (λ (x : Piece). x.size) here)
piece_small (p ∷ pieces) piece (suc k) are lt here = piece_small pieces piece k are.1 (omega (arith, lt)) here

stored_short : (me : PlatformCode) (h : List Record) (entry checksum : Checksum) (bytes : List ℕ) → IsSoundHistory me h
    → MayStore h entry checksum bytes → length bytes ≤ 2097152
stored_short me h entry checksum bytes sound may =
    let listed = may.listed in
    let form = came_manifest me entry may.manifest h sound may.came in
    omega (
      arith,
      may.fits.size,
      piece_small may.manifest.documents may.piece listed.0 form.documents.each listed.1 listed.2,
    )

-- a record that may follow has a spelling
pub record_has_spelling : (me : PlatformCode) (records h : List Record) (r : Record) → IsSoundHistory me h
    → MayFollow me records h r → HasNames r → HasSpelling r
record_has_spelling me records h (Signed bill document t) sound may names =
    record { document_is = may.document_is; form = may.form }
record_has_spelling me records h (Acted bill t) sound may names = record { bill_is = names; form = may.form }
record_has_spelling me records h (Attached bill piece bytes) sound may names =
    record { bill_is = names; form = may.form; short = omega (arith, may.size) }
record_has_spelling me records h (Parted bill link manifest text) sound may names =
    record { bill_is = names; link_is = may.link_is; manifest_is = may.manifest_is }
record_has_spelling me records h (Settled bill entry) sound may names = names
record_has_spelling me records h (Regained bill entry) sound may names = names
record_has_spelling me records h (Begun bill chain manifest body) sound may names = record {
  body_is = may.body_is;
  links_are = may.links_are;
  some = has_one chain may.receives.last may.receives.last_is;
  most = may.room;
  short = omega (arith, body_short bill chain manifest body may.body_is may.links_are may.room);
}
record_has_spelling me records h (Stored bill entry checksum bytes) sound may names = record {
  names = names.0;
  checksum_is = names.1;
  short = omega (arith, stored_short me h entry checksum bytes sound may);
}
record_has_spelling me records h (Taken bill entry) sound may names = names
record_has_spelling me records h (Declined bill entry code reason evidence) sound may names =
    let cause = declined_cause (place_of h) code reason evidence may.cause in
    record { names = names; cause = cause.0; code_is = cause.1; evidence_is = may.evidence_is }

-- a frame that may follow a sound diary has a spelling
pub frame_has_spelling : (me : PlatformCode) (diary : List Frame) (frame : Frame) → IsSound me diary
    → MayFollowDiary me diary frame → HasNames (kept frame) → Spells (frame_bytes frame) frame
frame_has_spelling me diary (One r) sound may names = record {
  is_frame = may.is_frame;
  form = record_has_spelling me (newest_first diary) (of_bill (bill_of r) (newest_first diary)) r
      (history_of_sound me diary (bill_of r) sound) may.records.0 names;
  bytes_are = refl;
}
frame_has_spelling me diary (BegunTaken b) sound may names = record {
  is_frame = may.is_frame;
  form = record_has_spelling me (newest_first diary) (of_bill (bill_of b) (newest_first diary)) b
      (history_of_sound me diary (bill_of b) sound) may.records.0 names;
  bytes_are = refl;
}
