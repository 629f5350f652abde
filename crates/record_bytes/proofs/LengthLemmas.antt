-- How long the bytes of records and frames are.
use Rattle.std.proofs.Common.{◌≡◌, ℕ, ◌+◌, ◌≤◌, List, [], ◌∷◌, ◌++◌, Option, Some, None, length, refl, sym, ◌∙◌, ap, subst, arith, length-append}
use Rattle.std.specs.Prelude.{sum_by, option_map}
use Rattle.std.specs.Option.{option_to_list, option_or}
use Rattle.std.specs.List.{flat_map}
use Rattle.std.proofs.lemmas.List.Sums.{sum_by-append}
use Rattle.ebl_base.specs.declared.evidence.Evidence.{Evidence}
use Rattle.ebl_base.specs.declared.signed_text.SignedText.{SignedText}
use Rattle.canonical_json.specs.Canon.{canon}
use Rattle.chain_entry.specs.Writing.{transaction_value}
use Rattle.envelope_manifest.specs.Piece.{piece_value}
use Rattle.sha2.proofs.Facts256.{length-sha256}
use Rattle.document_checksum.specs.Digest.{IsChecksum, checksum_of}
use Rattle.document_checksum.proofs.DigestBytes.{IsBytes-sha256}
use Rattle.bill_chain.specs.Chain.{last_of}
use Rattle.bill_diary.specs.declared.frame.Frame.{Frame}
use Rattle.bill_diary.specs.declared.frame.Frame.TheVariants.{One, BegunTaken}
use Rattle.bill_diary.specs.History.{taken_after}
use Rattle.bill_diary.specs.Texts.{LinkIsItsText, LinksAreTheirTexts}
use Rattle.ebl_base.specs.declared.checksum.Checksum.{Checksum}
use Rattle.ebl_base.specs.declared.chain.ChainLink.{ChainLink}
use Rattle.bill_diary.specs.declared.record.Record.{Record}
use Rattle.bill_diary.specs.declared.record.Record.TheVariants.{Signed, Acted, Attached, Parted, Settled, Regained, Begun, Stored, Taken, Declined}
use Rattle.record_bytes.specs.Fields.{text_bytes, marked, evidence_bytes}
use Rattle.record_bytes.specs.Forms.{HasSpelling}
use Rattle.record_bytes.specs.Grammar.{cause_byte, record_bytes, Spells}
use Rattle.record_bytes.specs.Lengths.{marked_length, record_length, frame_length}
use Rattle.record_bytes.proofs.FieldLemmas.{length-text_bytes}

length-marked : (mark : ℕ) (text : Option SignedText) → length (marked mark text) ≡ marked_length text
length-marked mark None = refl
length-marked mark (Some text) = omega (arith, length-text_bytes text.0)

length-evidence : (evidence : Evidence)
    → length (evidence_bytes evidence) ≡ 1 + marked_length evidence.own + marked_length evidence.theirs
length-evidence evidence =
    omega (
      arith,
      length-append (marked 1 evidence.own) (marked 2 evidence.theirs),
      length-marked 1 evidence.own,
      length-marked 2 evidence.theirs,
    )

pub length-record_bytes : (r : Record) → HasSpelling r → length (record_bytes r) ≡ record_length r
length-record_bytes (Signed bill document t) form =
    let json = canon (transaction_value t) in
    omega (arith, length-append (text_bytes document) (text_bytes json), length-text_bytes document, length-text_bytes json)
length-record_bytes (Acted bill t) form =
    let json = canon (transaction_value t) in
    omega (arith, length-append bill.0 (text_bytes json), form.bill_is.size, length-text_bytes json)
length-record_bytes (Attached bill piece bytes) form =
    let json = canon (piece_value piece) in
    omega (
      arith,
      length-append bill.0 (text_bytes json ++ text_bytes bytes),
      form.bill_is.size,
      length-append (text_bytes json) (text_bytes bytes),
      length-text_bytes json,
      length-text_bytes bytes,
    )
length-record_bytes (Parted bill link manifest text) form =
    omega (
      arith,
      length-append bill.0 (text_bytes link.text.0 ++ text_bytes text.0),
      form.bill_is.size,
      length-append (text_bytes link.text.0) (text_bytes text.0),
      length-text_bytes link.text.0,
      length-text_bytes text.0,
    )
length-record_bytes (Settled bill entry) form =
    omega (arith, length-append bill.0 entry.0, form.bill_is.size, form.entry_is.size)
length-record_bytes (Regained bill entry) form =
    omega (arith, length-append bill.0 entry.0, form.bill_is.size, form.entry_is.size)
length-record_bytes (Begun bill chain manifest body) form = omega (arith, length-text_bytes body)
length-record_bytes (Stored bill entry checksum bytes) form =
    omega (
      arith,
      length-append bill.0 (entry.0 ++ (checksum.0 ++ text_bytes bytes)),
      length-append entry.0 (checksum.0 ++ text_bytes bytes),
      length-append checksum.0 (text_bytes bytes),
      form.names.bill_is.size,
      form.names.entry_is.size,
      form.checksum_is.size,
      length-text_bytes bytes,
    )
length-record_bytes (Taken bill entry) form =
    omega (arith, length-append bill.0 entry.0, form.bill_is.size, form.entry_is.size)
length-record_bytes (Declined bill entry code reason evidence) form =
    omega (
      arith,
      length-append bill.0 (entry.0 ++ cause_byte reason ∷ evidence_bytes evidence),
      length-append entry.0 (cause_byte reason ∷ evidence_bytes evidence),
      form.names.bill_is.size,
      form.names.entry_is.size,
      length-evidence evidence,
    )

-- a Taken behind its Begun has two names
length-behind : (bill : Checksum) (last : Option ChainLink) → ((link : ChainLink) → last ≡ Some link → IsChecksum link.name)
    → IsChecksum bill
    → length (flat_map record_bytes (option_to_list (option_map (λ (link : ChainLink). Taken bill link.name) last)))
    ≡ sum_by record_length (option_to_list (option_map (λ (link : ChainLink). Taken bill link.name) last))
length-behind bill None names bill_is = refl
length-behind bill (Some link) names bill_is =
    let size = (names link refl).size in
    omega (
      arith,
      length-append (record_bytes (Taken bill link.name)) [],
      length-append bill.0 link.name.0,
      bill_is.size,
      size,
    )

-- the last link of a chain is its text
last_is_text : (links : List ChainLink) (link : ChainLink) → LinksAreTheirTexts links → last_of links ≡ Some link
    → LinkIsItsText link
last_is_text [] link are is = absurd (cc is)
last_is_text (x ∷ links) link are is = by (last_of links) refl is (last_is_text links link are.1)
  where
    by : (last : Option ChainLink) → last_of links ≡ last → option_or last (Some x) ≡ Some link
        → (last_of links ≡ Some link → LinkIsItsText link) → LinkIsItsText link
    by None same e before = let here : x ≡ link = cc e in subst LinkIsItsText here are.0
    by (Some y) same e before = before (same ∙ e)

together : (r : Record) (rs : List Record)
    → sum_by record_length (r ∷ rs) ≡ record_length r + sum_by record_length rs
together r rs = let both = sum_by-append record_length (r ∷ []) rs in omega (arith, both)

named_by : (name : Checksum) (text : List ℕ) → name ≡ checksum_of text → IsChecksum name
named_by name text is =
    subst IsChecksum (sym is) (record { size = length-sha256 text; bytes = IsBytes-sha256 text })

pub length-spelling : (bytes : List ℕ) (frame : Frame) → Spells bytes frame → length bytes ≡ frame_length frame
length-spelling bytes (One r) is =
    omega (
      arith,
      ap length is.bytes_are,
      length-append (record_bytes r) [],
      length-record_bytes r is.form,
    )
length-spelling bytes (BegunTaken (Begun bill chain manifest body)) is =
    let begun = Begun bill chain manifest body in
    let document = is.form.body_is.document_is in
    let bill_is = named_by bill document.document.text (sym document.names) in
    let after = option_to_list (taken_after begun) in
    let second : length (flat_map record_bytes after) ≡ sum_by record_length after =
    length-behind bill (last_of chain)
    (λ link e. let text = last_is_text chain link is.form.links_are e in named_by link.name link.text.0 text.name)
    bill_is in
    ap length is.bytes_are ∙ length-append (record_bytes begun) (flat_map record_bytes after)
    ∙ ap (λ (n : ℕ). n + length (flat_map record_bytes after)) (length-record_bytes begun is.form)
    ∙ ap (λ (n : ℕ). record_length begun + n) second ∙ sym (together begun after)
length-spelling bytes (BegunTaken r) is = absurd is.is_frame
