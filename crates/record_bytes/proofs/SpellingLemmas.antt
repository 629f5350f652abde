-- Bytes spell one frame at most.
use Rattle.std.proofs.Common.{◌≡◌, ◌≢◌, ◌⊎◌, inl, inr, ℕ, ◌+◌, ◌<◌, ◌≤◌, List, [], ◌∷◌, ◌++◌, Option, Some, None, Ok, length, refl, sym, ◌∙◌, ap, subst, arith, append_assoc, append-nil}
use Rattle.std.specs.List.{flat_map}
use Rattle.std.specs.Prelude.{option_map}
use Rattle.std.specs.Option.{option_to_list, option_or}
use Rattle.bill_chain.specs.Chain.{last_of}
use Rattle.ebl_base.specs.Reason.{code_for}
use Rattle.ebl_base.specs.declared.checksum.Checksum.{Checksum}
use Rattle.ebl_base.specs.declared.chain.ChainLink.{ChainLink}
use Rattle.ebl_base.specs.declared.code.Code.{Code}
use Rattle.ebl_base.specs.declared.evidence.Evidence.{Evidence}
use Rattle.ebl_base.specs.declared.reason.Reason.{Reason}
use Rattle.ebl_base.specs.declared.reason.Reason.TheVariants as reasons
use Rattle.ebl_base.specs.declared.signed_text.SignedText.{SignedText}
use Rattle.ebl_base.specs.declared.transaction.Transaction.{Transaction}
use Rattle.canonical_json.specs.Canon.{canon}
use Rattle.chain_entry.specs.Form.{IsTransaction}
use Rattle.chain_entry.specs.Writing.{transaction_value}
use Rattle.chain_entry.proofs.LengthLemmas.{transaction_length}
use Rattle.envelope_manifest.specs.Manifest.{manifest_of}
use Rattle.envelope_manifest.specs.Piece.{IsPiece, piece_value}
use Rattle.envelope_manifest.specs.declared.manifest.Manifest.{Manifest}
use Rattle.envelope_manifest.specs.declared.piece.Piece.{Piece}
use Rattle.envelope_manifest.proofs.LengthLemmas.{piece_length}
use Rattle.document_checksum.specs.Digest.{checksum_of}
use Rattle.bill_diary.specs.declared.record.Record.{Record}
use Rattle.bill_diary.specs.declared.record.Record.TheVariants.{Signed, Acted, Attached, Parted, Settled, Regained, Begun, Stored, Taken, Declined}
use Rattle.bill_diary.specs.declared.frame.Frame.{Frame}
use Rattle.bill_diary.specs.declared.frame.Frame.TheVariants.{One, BegunTaken}
use Rattle.bill_diary.specs.History.{taken_after}
use Rattle.bill_diary.specs.Sound.{IsFrame}
use Rattle.bill_diary.specs.Texts.{ManifestIsItsText, IsBodyOf}
use Rattle.bill_diary.proofs.BegunLemmas.{one_link, one_begun}
use Rattle.record_bytes.specs.Fields.{text_bytes, evidence_bytes}
use Rattle.record_bytes.specs.Forms.{HasSpelling, IsCause, AreNames, IsSigned, IsActed, IsAttached, IsParted, IsBegun, IsStored, IsDeclined}
use Rattle.record_bytes.specs.Grammar.{tag_of, cause_byte, fields_of, record_bytes, frame_bytes, kept, Spells}
use Rattle.record_bytes.proofs.FieldLemmas.{same_text, same_name}
use Rattle.record_bytes.proofs.EvidenceLemmas.{same_signed, same_evidence}
use Rattle.record_bytes.proofs.DocumentLemmas.{document_short}
use Rattle.record_bytes.proofs.RecordParts.{link_short, manifest_short}
use Rattle.record_bytes.proofs.TextLemmas.{one_payload}

-- canonical texts of transactions, and of listed documents, fix them
abbrev pub OneTransaction : Type 0
OneTransaction = (a b : Transaction) → IsTransaction a → IsTransaction b
    → canon (transaction_value a) ≡ canon (transaction_value b) → a ≡ b

abbrev pub OnePiece : Type 0
OnePiece = (a b : Piece) → IsPiece a → IsPiece b → canon (piece_value a) ≡ canon (piece_value b) → a ≡ b

-- ---- the fields of each record, whatever follows

same_signed_record : OneTransaction → (b c : Checksum) (d e : List ℕ) (t u : Transaction) (x y : List ℕ)
    → IsSigned b d t → IsSigned c e u
    → (text_bytes d ++ text_bytes (canon (transaction_value t))) ++ x
    ≡ (text_bytes e ++ text_bytes (canon (transaction_value u))) ++ y
    → (Signed b d t ≡ Signed c e u) × (x ≡ y)
same_signed_record one b c d e t u x y p q same =
    let documents = same_text d e (text_bytes (canon (transaction_value t)) ++ x)
    (text_bytes (canon (transaction_value u)) ++ y)
    (omega (arith, document_short b d p.document_is)) (omega (arith, document_short c e q.document_is))
    (sym (append_assoc (text_bytes d) (text_bytes (canon (transaction_value t))) x) ∙ same
    ∙ append_assoc (text_bytes e) (text_bytes (canon (transaction_value u))) y) in
    let texts = same_text (canon (transaction_value t)) (canon (transaction_value u)) x y
    (omega (arith, transaction_length t p.form)) (omega (arith, transaction_length u q.form)) documents.1 in
    let acts : t ≡ u = one t u p.form q.form texts.0 in
    let bills : b ≡ c = sym p.document_is.names ∙ ap checksum_of (p.document_is.text_is ∙ documents.0 ∙ sym q.document_is.text_is)
    ∙ q.document_is.names in
    let papers = documents.0 in
    (λ i. Signed (bills i) (papers i) (acts i), texts.1)

same_acted : OneTransaction → (b c : Checksum) (t u : Transaction) (x y : List ℕ) → IsActed b t → IsActed c u
    → (b.0 ++ text_bytes (canon (transaction_value t))) ++ x ≡ (c.0 ++ text_bytes (canon (transaction_value u))) ++ y
    → (Acted b t ≡ Acted c u) × (x ≡ y)
same_acted one b c t u x y p q same =
    let names = same_name b c (text_bytes (canon (transaction_value t)) ++ x)
    (text_bytes (canon (transaction_value u)) ++ y) p.bill_is q.bill_is
    (sym (append_assoc b.0 (text_bytes (canon (transaction_value t))) x) ∙ same
    ∙ append_assoc c.0 (text_bytes (canon (transaction_value u))) y) in
    let texts = same_text (canon (transaction_value t)) (canon (transaction_value u)) x y
    (omega (arith, transaction_length t p.form)) (omega (arith, transaction_length u q.form)) names.1 in
    let acts : t ≡ u = one t u p.form q.form texts.0 in
    let bills = names.0 in
    (λ i. Acted (bills i) (acts i), texts.1)

same_attached : OnePiece → (b c : Checksum) (m n : Piece) (d e x y : List ℕ) → IsAttached b m d → IsAttached c n e
    → (b.0 ++ (text_bytes (canon (piece_value m)) ++ text_bytes d)) ++ x
    ≡ (c.0 ++ (text_bytes (canon (piece_value n)) ++ text_bytes e)) ++ y
    → (Attached b m d ≡ Attached c n e) × (x ≡ y)
same_attached one b c m n d e x y p q same =
    let M = text_bytes (canon (piece_value m)) in
    let N = text_bytes (canon (piece_value n)) in
    let names = same_name b c ((M ++ text_bytes d) ++ x) ((N ++ text_bytes e) ++ y) p.bill_is q.bill_is
    (sym (append_assoc b.0 (M ++ text_bytes d) x) ∙ same ∙ append_assoc c.0 (N ++ text_bytes e) y) in
    let listed = same_text (canon (piece_value m)) (canon (piece_value n)) (text_bytes d ++ x) (text_bytes e ++ y)
    (omega (arith, piece_length m p.form)) (omega (arith, piece_length n q.form))
    (sym (append_assoc M (text_bytes d) x) ∙ names.1 ∙ append_assoc N (text_bytes e) y) in
    let bytes = same_text d e x y p.short q.short listed.1 in
    let pieces : m ≡ n = one m n p.form q.form listed.0 in
    let bills = names.0 in
    let contents = bytes.0 in
    (λ i. Attached (bills i) (pieces i) (contents i), bytes.1)

-- a manifest's text fixes it
one_manifest : (s : SignedText) (m n : Manifest) → ManifestIsItsText s m → ManifestIsItsText s n → m ≡ n
one_manifest s m n p q =
    let both : Ok m ≡ Ok n = sym p.reads_as
    ∙ ap manifest_of (one_payload s p.payload q.payload p.has_payload q.has_payload) ∙ q.reads_as in
    cc both

same_parted : (b c : Checksum) (k l : ChainLink) (m n : Manifest) (s t : SignedText) (x y : List ℕ)
    → IsParted b k m s → IsParted c l n t
    → (b.0 ++ (text_bytes k.text.0 ++ text_bytes s.0)) ++ x ≡ (c.0 ++ (text_bytes l.text.0 ++ text_bytes t.0)) ++ y
    → (Parted b k m s ≡ Parted c l n t) × (x ≡ y)
same_parted b c k l m n s t x y p q same =
    let K = text_bytes k.text.0 in
    let L = text_bytes l.text.0 in
    let names = same_name b c ((K ++ text_bytes s.0) ++ x) ((L ++ text_bytes t.0) ++ y) p.bill_is q.bill_is
    (sym (append_assoc b.0 (K ++ text_bytes s.0) x) ∙ same ∙ append_assoc c.0 (L ++ text_bytes t.0) y) in
    let entries = same_text k.text.0 l.text.0 (text_bytes s.0 ++ x) (text_bytes t.0 ++ y)
    (link_short k p.link_is) (link_short l q.link_is)
    (sym (append_assoc K (text_bytes s.0) x) ∙ names.1 ∙ append_assoc L (text_bytes t.0) y) in
    let manifests = same_text s.0 t.0 x y (manifest_short s m p.manifest_is) (manifest_short t n q.manifest_is)
    entries.1 in
    let links : k ≡ l = one_link k l p.link_is q.link_is (same_signed k.text l.text entries.0) in
    let texts : s ≡ t = same_signed s t manifests.0 in
    let said : m ≡ n = one_manifest t m n (subst (λ (z : SignedText). ManifestIsItsText z m) texts p.manifest_is) q.manifest_is in
    let bills = names.0 in
    (λ i. Parted (bills i) (links i) (said i) (texts i), manifests.1)

same_named : (b c d e : Checksum) (x y : List ℕ) → AreNames b d → AreNames c e → (b.0 ++ d.0) ++ x ≡ (c.0 ++ e.0) ++ y
    → (b ≡ c) × (d ≡ e) × (x ≡ y)
same_named b c d e x y p q same =
    let first = same_name b c (d.0 ++ x) (e.0 ++ y) p.bill_is q.bill_is
    (sym (append_assoc b.0 d.0 x) ∙ same ∙ append_assoc c.0 e.0 y) in
    let second = same_name d e x y p.entry_is q.entry_is first.1 in
    (first.0, second.0, second.1)

same_begun : (b c : Checksum) (k l : List ChainLink) (m n : Manifest) (d e x y : List ℕ) → IsBegun b k m d
    → IsBegun c l n e → text_bytes d ++ x ≡ text_bytes e ++ y → (Begun b k m d ≡ Begun c l n e) × (x ≡ y)
same_begun b c k l m n d e x y p q same =
    let bodies = same_text d e x y p.short q.short same in
    let moved : Begun b k m d ≡ Begun b k m e = ap (λ (z : List ℕ). Begun b k m z) bodies.0 in (
      moved ∙ one_begun b c k l m n e (subst (λ (z : List ℕ). IsBodyOf b k m z) bodies.0 p.body_is) p.links_are
          q.body_is q.links_are,
      bodies.1,
    )

same_stored : (b c d e f g : Checksum) (r s x y : List ℕ) → IsStored b d f r → IsStored c e g s
    → (b.0 ++ (d.0 ++ (f.0 ++ text_bytes r))) ++ x ≡ (c.0 ++ (e.0 ++ (g.0 ++ text_bytes s))) ++ y
    → (Stored b d f r ≡ Stored c e g s) × (x ≡ y)
same_stored b c d e f g r s x y p q same =
    let R = text_bytes r in
    let S = text_bytes s in
    let first = same_name b c ((d.0 ++ (f.0 ++ R)) ++ x) ((e.0 ++ (g.0 ++ S)) ++ y) p.names.bill_is q.names.bill_is
    (sym (append_assoc b.0 (d.0 ++ (f.0 ++ R)) x) ∙ same ∙ append_assoc c.0 (e.0 ++ (g.0 ++ S)) y) in
    let second = same_name d e ((f.0 ++ R) ++ x) ((g.0 ++ S) ++ y) p.names.entry_is q.names.entry_is
    (sym (append_assoc d.0 (f.0 ++ R) x) ∙ first.1 ∙ append_assoc e.0 (g.0 ++ S) y) in
    let third = same_name f g (R ++ x) (S ++ y) p.checksum_is q.checksum_is
    (sym (append_assoc f.0 R x) ∙ second.1 ∙ append_assoc g.0 S y) in
    let bytes = same_text r s x y p.short q.short third.1 in
    let bills = first.0 in
    let entries = second.0 in
    let checksums = third.0 in
    let contents = bytes.0 in
    (λ i. Stored (bills i) (entries i) (checksums i) (contents i), bytes.1)

-- the byte of a cause tells the reason
pub one_cause : (a b : Reason) → IsCause a → IsCause b → cause_byte a ≡ cause_byte b → a ≡ b
one_cause reasons.Party reasons.Party p q same = refl
one_cause reasons.Party reasons.Parts p q same = absurd (omega (arith, same))
one_cause reasons.Party b p q same = absurd q
one_cause reasons.Parts reasons.Parts p q same = refl
one_cause reasons.Parts reasons.Party p q same = absurd (omega (arith, same))
one_cause reasons.Parts b p q same = absurd q
one_cause a b p q same = absurd p

same_declined : (b c d e : Checksum) (f g : Code) (r s : Reason) (v w : Evidence) (x y : List ℕ)
    → IsDeclined b d f r v → IsDeclined c e g s w
    → (b.0 ++ (d.0 ++ cause_byte r ∷ evidence_bytes v)) ++ x ≡ (c.0 ++ (e.0 ++ cause_byte s ∷ evidence_bytes w)) ++ y
    → (Declined b d f r v ≡ Declined c e g s w) × (x ≡ y)
same_declined b c d e f g r s v w x y p q same =
    let R = cause_byte r ∷ evidence_bytes v in
    let S = cause_byte s ∷ evidence_bytes w in
    let first = same_name b c ((d.0 ++ R) ++ x) ((e.0 ++ S) ++ y) p.names.bill_is q.names.bill_is
    (sym (append_assoc b.0 (d.0 ++ R) x) ∙ same ∙ append_assoc c.0 (e.0 ++ S) y) in
    let second = same_name d e (R ++ x) (S ++ y) p.names.entry_is q.names.entry_is
    (sym (append_assoc d.0 R x) ∙ first.1 ∙ append_assoc e.0 S y) in
    let causes : cause_byte r ≡ cause_byte s = cc (second.1) in
    let behind : evidence_bytes v ++ x ≡ evidence_bytes w ++ y = cc (second.1) in
    let shown = same_evidence v w x y p.evidence_is q.evidence_is behind in
    let reasons_same : r ≡ s = one_cause r s p.cause q.cause causes in
    let codes_same : f ≡ g = p.code_is ∙ ap code_for reasons_same ∙ sym q.code_is in
    let bills = first.0 in
    let entries = second.0 in
    let shows = shown.0 in
    (λ i. Declined (bills i) (entries i) (codes_same i) (reasons_same i) (shows i), shown.1)

-- ---- records and frames

pub one_tag : (m n : ℕ) (x y : List ℕ) → m ∷ x ≡ n ∷ y → m ≡ n
one_tag m n x y same = cc same

pub one_rest : (m n : ℕ) (x y : List ℕ) → m ∷ x ≡ n ∷ y → x ≡ y
one_rest m n x y same = cc same

-- records of one kind whose fields stand at the front of the same bytes are one
same_fields : OneTransaction → OnePiece → (r s : Record) (x y : List ℕ) → HasSpelling r → HasSpelling s
    → tag_of r ≡ tag_of s → fields_of r ++ x ≡ fields_of s ++ y → (r ≡ s) × (x ≡ y)
same_fields one two (Signed b d t) (Signed c e u) x y p q tags same =
    same_signed_record one b c d e t u x y p q same
same_fields one two (Signed b d t) s x y p q tags same = absurd (omega (arith, tags))
same_fields one two (Acted b t) (Acted c u) x y p q tags same =
    same_acted one b c t u x y p q same
same_fields one two (Acted b t) s x y p q tags same = absurd (omega (arith, tags))
same_fields one two (Attached b m d) (Attached c n e) x y p q tags same =
    same_attached two b c m n d e x y p q same
same_fields one two (Attached b m d) s x y p q tags same = absurd (omega (arith, tags))
same_fields one two (Parted b k m v) (Parted c l n w) x y p q tags same =
    same_parted b c k l m n v w x y p q same
same_fields one two (Parted b k m v) s x y p q tags same = absurd (omega (arith, tags))
same_fields one two (Settled b d) (Settled c e) x y p q tags same =
    let names = same_named b c d e x y p q same in
    let bills = names.0 in
    let entries = names.1 in
    (λ i. Settled (bills i) (entries i), names.2)
same_fields one two (Settled b d) s x y p q tags same = absurd (omega (arith, tags))
same_fields one two (Regained b d) (Regained c e) x y p q tags same =
    let names = same_named b c d e x y p q same in
    let bills = names.0 in
    let entries = names.1 in
    (λ i. Regained (bills i) (entries i), names.2)
same_fields one two (Regained b d) s x y p q tags same = absurd (omega (arith, tags))
same_fields one two (Begun b k m d) (Begun c l n e) x y p q tags same =
    same_begun b c k l m n d e x y p q same
same_fields one two (Begun b k m d) s x y p q tags same = absurd (omega (arith, tags))
same_fields one two (Stored b d f v) (Stored c e g w) x y p q tags same =
    same_stored b c d e f g v w x y p q same
same_fields one two (Stored b d f v) s x y p q tags same = absurd (omega (arith, tags))
same_fields one two (Taken b d) (Taken c e) x y p q tags same =
    let names = same_named b c d e x y p q same in
    let bills = names.0 in
    let entries = names.1 in
    (λ i. Taken (bills i) (entries i), names.2)
same_fields one two (Taken b d) s x y p q tags same = absurd (omega (arith, tags))
same_fields one two (Declined b d f j v) (Declined c e g k w) x y p q tags same =
    same_declined b c d e f g j k v w x y p q same
same_fields one two (Declined b d f j v) s x y p q tags same = absurd (omega (arith, tags))

-- so are records whose bytes do
pub same_record : OneTransaction → OnePiece → (r s : Record) (x y : List ℕ) → HasSpelling r → HasSpelling s
    → record_bytes r ++ x ≡ record_bytes s ++ y → (r ≡ s) × (x ≡ y)
same_record one two r s x y p q same =
    same_fields one two r s x y p q (one_tag (tag_of r) (tag_of s) (fields_of r ++ x) (fields_of s ++ y) same)
    (one_rest (tag_of r) (tag_of s) (fields_of r ++ x) (fields_of s ++ y) same)

-- the bytes of a frame's records behind the one that it keeps
abbrev pub behind : Frame → List ℕ
behind (One r) = []
behind (BegunTaken begun) = flat_map record_bytes (option_to_list (taken_after begun))

-- a chain with an entry has a last one
pub has_last : (links : List ChainLink) → 1 ≤ length links → (link : ChainLink) × (last_of links ≡ Some link)
has_last [] some = absurd (omega (arith, some))
has_last (x ∷ []) some = (x, refl)
has_last (x ∷ y ∷ links) some =
    let more = has_last (y ∷ links) (omega arith) in
    (more.0, ap (λ (o : Option ChainLink). option_or o (Some x)) more.1)

-- a Begun with a spelling has a Taken that follows it
taken_bytes : (bill : Checksum) → Option ChainLink → List ℕ
taken_bytes bill last = flat_map record_bytes (option_to_list (option_map (λ (link : ChainLink). Taken bill link.name) last))

never_none : (bill : Checksum) (last : Option ChainLink) (link : ChainLink) → last ≡ Some link
    → [] ≢ taken_bytes bill last
unfolding taken_bytes
never_none bill last link is none =
    let clash : [] ≡ taken_bytes bill (Some link) = none ∙ ap (taken_bytes bill) is in
    cc clash

-- a frame of a Begun without its Taken isn't one with it
never_both : (b : Record) → IsFrame (BegunTaken b) → HasSpelling b → [] ≢ behind (BegunTaken b)
unfolding taken_bytes
never_both (Begun bill chain manifest body) frame form none =
    let last = has_last chain form.some in never_none bill (last_of chain) last.0 last.1 none
never_both b frame form none = frame

pub one_frame : OneTransaction → OnePiece → (bytes : List ℕ) (a b : Frame) → Spells bytes a → Spells bytes b → a ≡ b
one_frame one two bytes (One r) (One s) p q =
    let same = same_record one two r s [] [] p.form q.form (sym p.bytes_are ∙ q.bytes_are) in
    ap (λ (x : Record). One x) same.0
one_frame one two bytes (One r) (BegunTaken b) p q =
    let same = same_record one two r b [] (behind (BegunTaken b)) p.form q.form (sym p.bytes_are ∙ q.bytes_are) in
    absurd (never_both b q.is_frame q.form same.1)
one_frame one two bytes (BegunTaken a) (One s) p q =
    let same = same_record one two s a [] (behind (BegunTaken a)) q.form p.form (sym q.bytes_are ∙ p.bytes_are) in
    absurd (never_both a p.is_frame p.form same.1)
one_frame one two bytes (BegunTaken a) (BegunTaken b) p q =
    let same = same_record one two a b (behind (BegunTaken a)) (behind (BegunTaken b)) p.form q.form
    (sym p.bytes_are ∙ q.bytes_are) in
    ap (λ (x : Record). BegunTaken x) same.0
