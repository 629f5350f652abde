-- Which documents of a manifest are missing.
use Rattle.std.proofs.Common.{◌≡◌, Bool, ◌||◌, List, [], ◌∷◌, refl, ap, sym, ◌∙◌}
use Rattle.std.specs.Prelude.{IsTrue, filter, not}
use Rattle.std.specs.Set.{is_member}
use Rattle.std.proofs.lemmas.Bool.Decides.{same_from_decides, Decides-like}
use Rattle.std.proofs.lemmas.Slice.Eq.{bytes_eq-Decides}
use Rattle.ebl_base.specs.Checksum.{checksum_eq}
use Rattle.ebl_base.specs.declared.checksum.Checksum.{Checksum}
use Rattle.envelope_manifest.specs.declared.manifest.Manifest.{Manifest}
use Rattle.envelope_manifest.specs.Manifest.{are_distinct, checksums_of}
use Rattle.upload_state.specs.Piece.{is_absent, missing_of}
use Rattle.upload_state.proofs.WantedLemmas.{each_once-distinct}
use Rattle.bill_diary.specs.declared.record.Record.{Record}
use Rattle.bill_diary.specs.declared.record.Record.TheVariants.{Signed, Acted, Attached, Parted, Settled, Regained, Begun, Stored, Taken, Declined}
use Rattle.bill_diary.specs.Pieces.{brought, is_there, missing_of as missing_by}

turned : (a b : Checksum) → checksum_eq a b ≡ checksum_eq b a
turned a b =
    same_from_decides (checksum_eq a b) (checksum_eq b a) (bytes_eq-Decides a.0 b.0)
    (Decides-like (checksum_eq b a) sym sym (bytes_eq-Decides b.0 a.0))

-- the bytes are there whose checksums were brought
there-brought : (h : List Record) (checksum : Checksum)
    → is_there h checksum ≡ is_member checksum_eq (brought h) checksum
there-brought [] checksum = refl
there-brought (Attached b p t ∷ h) checksum =
    ap (λ (one : Bool). one || is_there h checksum) (turned p.checksum checksum)
    ∙ ap (λ (more : Bool). checksum_eq checksum p.checksum || more) (there-brought h checksum)
there-brought (Stored b e c t ∷ h) checksum =
    ap (λ (one : Bool). one || is_there h checksum) (turned c checksum)
    ∙ ap (λ (more : Bool). checksum_eq checksum c || more) (there-brought h checksum)
there-brought (Signed b x t ∷ h) checksum = there-brought h checksum
there-brought (Acted b t ∷ h) checksum = there-brought h checksum
there-brought (Parted b l m t ∷ h) checksum = there-brought h checksum
there-brought (Settled b e ∷ h) checksum = there-brought h checksum
there-brought (Regained b e ∷ h) checksum = there-brought h checksum
there-brought (Begun b c m t ∷ h) checksum = there-brought h checksum
there-brought (Taken b e ∷ h) checksum = there-brought h checksum
there-brought (Declined b e c r v ∷ h) checksum = there-brought h checksum

-- what is missing by records is what is missing of the checksums that they brought
pub missing-brought : (manifest : Manifest) (h : List Record) → IsTrue (are_distinct (checksums_of manifest.documents))
    → missing_by manifest h ≡ missing_of manifest (brought h)
missing-brought manifest h distinct =
    let listed : List Checksum = checksums_of manifest.documents in
    let absent : (c : Checksum) → not (is_there h c) ≡ is_absent (brought h) c = λ c. ap not (there-brought h c) in
    let same : filter (λ (c : Checksum). not (is_there h c)) listed ≡ filter (is_absent (brought h)) listed
    = λ i. filter (λ (c : Checksum). absent c i) listed in
    same ∙ ap (filter (is_absent (brought h))) (sym (each_once-distinct listed distinct))
