-- In a sound history documents are stored by their bytes: bytes that are there are found by their checksum.
use Rattle.std.proofs.Common.{◌≡◌, ℕ, Bool, true, false, cond, List, [], ◌∷◌, Option, Some, None, refl, sym, ap, ◌∙◌}
use Rattle.std.specs.Prelude.{bytes_eq, ◌||◌}
use Rattle.std.specs.Option.{option_or}
use Rattle.std.proofs.lemmas.Slice.Eq.{bytes_eq-Decides}
use Rattle.document_checksum.specs.Digest.{checksum_of}
use Rattle.ebl_base.specs.Checksum.{checksum_eq}
use Rattle.ebl_base.specs.declared.checksum.Checksum.{Checksum}
use Rattle.ebl_base.specs.declared.platform_code.PlatformCode.{PlatformCode}
use Rattle.ebl_base.proofs.ChecksumLemmas.{checksum_eq-Decides}
use Rattle.bill_diary.specs.declared.record.Record.{Record}
use Rattle.bill_diary.specs.declared.record.Record.TheVariants.{Signed, Acted, Attached, Parted, Settled, Regained, Begun, Stored, Taken, Declined}
use Rattle.bill_diary.specs.declared.frame.Frame.{Frame}
use Rattle.bill_diary.specs.History.{history}
use Rattle.bill_diary.specs.Pieces.{are_there, brings_bytes}
use Rattle.bill_diary.specs.Searches.{bytes_in, first_bytes}
use Rattle.bill_diary.specs.Sound.{IsSound, IsSoundHistory, MayFollow}
use Rattle.bill_diary.proofs.HistoryLemmas.{history_of_sound}

or_none : (x y : Option (List ℕ)) → option_or x y ≡ None → (x ≡ None) × (y ≡ None)
or_none None y is = (refl, is)
or_none (Some bytes) y is = cc is

-- bytes of another checksum are other bytes
others : (name checksum : Checksum) (other bytes : List ℕ) (named same : Bool) → name ≡ checksum_of other
    → checksum ≡ checksum_of bytes → checksum_eq name checksum ≡ named → bytes_eq other bytes ≡ same
    → cond named (Some other) None ≡ None → same ≡ false
others name checksum other bytes true same names own differ equal is = cc is
others name checksum other bytes false false names own differ equal is = refl
others name checksum other bytes false true names own differ equal is =
    let one : other ≡ bytes = (bytes_eq-Decides other bytes).0 equal in
    let both : name ≡ checksum = names ∙ ap checksum_of one ∙ sym own in
    let clash : true ≡ false = sym ((checksum_eq-Decides name checksum).1 both) ∙ differ in
    cc clash

module _ (me : PlatformCode) (bytes : List ℕ) (checksum : Checksum) (own : checksum ≡ checksum_of bytes) where
  record_brings : (h : List Record) (r : Record) → MayFollow me h h r → bytes_in checksum r ≡ None
      → brings_bytes bytes r ≡ false
  record_brings h (Attached bill piece other) may is =
      others piece.checksum checksum other bytes (checksum_eq piece.checksum checksum) (bytes_eq other bytes)
      may.fits.checksum own refl refl is
  record_brings h (Stored bill entry name other) may is =
      others name checksum other bytes (checksum_eq name checksum) (bytes_eq other bytes)
      (may.names ∙ may.fits.checksum) own refl refl is
  record_brings h (Signed bill document transaction) may is = refl
  record_brings h (Acted bill transaction) may is = refl
  record_brings h (Parted bill link manifest manifest_text) may is = refl
  record_brings h (Settled bill entry) may is = refl
  record_brings h (Regained bill entry) may is = refl
  record_brings h (Begun bill chain manifest body) may is = refl
  record_brings h (Taken bill entry) may is = refl
  record_brings h (Declined bill entry code reason evidence) may is = refl

  none_there : (h : List Record) → IsSoundHistory me h → first_bytes checksum h ≡ None → are_there h bytes ≡ false
  none_there [] sound is = refl
  none_there (r ∷ h) sound is =
      let parts = or_none (first_bytes checksum h) (bytes_in checksum r) is in
      ap (λ (b : Bool). b || are_there h bytes) (record_brings h r sound.0 parts.1) ∙ none_there h sound.1 parts.0

-- bytes that aren't found by their checksum aren't there
pub not_there : (me : PlatformCode) (diary : List Frame) (bill checksum : Checksum) (bytes : List ℕ) → IsSound me diary
    → checksum ≡ checksum_of bytes → first_bytes checksum (history bill diary) ≡ None
    → are_there (history bill diary) bytes ≡ false
not_there me diary bill checksum bytes sound own is =
    none_there me bytes checksum own (history bill diary) (history_of_sound me diary bill sound) is

-- ---- bytes that are found

brought : (checksum : Checksum) (bytes first : List ℕ) (r : Record) → bytes_in checksum r ≡ Some first
    → bytes_eq first bytes ≡ true → brings_bytes bytes r ≡ true
brought checksum bytes first (Attached bill piece other) is equal =
    by_test (checksum_eq piece.checksum checksum) is
  where
    by_test : (b : Bool) → cond b (Some other) None ≡ Some first → bytes_eq other bytes ≡ true
    by_test true found =
        let one : other ≡ first = cc found in ap (λ (x : List ℕ). bytes_eq x bytes) one ∙ equal
    by_test false found = cc found
brought checksum bytes first (Stored bill entry name other) is equal = by_test (checksum_eq name checksum) is
  where
    by_test : (b : Bool) → cond b (Some other) None ≡ Some first → bytes_eq other bytes ≡ true
    by_test true found =
        let one : other ≡ first = cc found in ap (λ (x : List ℕ). bytes_eq x bytes) one ∙ equal
    by_test false found = cc found
brought checksum bytes first (Signed bill document transaction) is equal = cc is
brought checksum bytes first (Acted bill transaction) is equal = cc is
brought checksum bytes first (Parted bill link manifest manifest_text) is equal = cc is
brought checksum bytes first (Settled bill entry) is equal = cc is
brought checksum bytes first (Regained bill entry) is equal = cc is
brought checksum bytes first (Begun bill chain manifest body) is equal = cc is
brought checksum bytes first (Taken bill entry) is equal = cc is
brought checksum bytes first (Declined bill entry code reason evidence) is equal = cc is

or-true : (b : Bool) → (b || true) ≡ true
or-true true = refl
or-true false = refl

or_first : (o : Option (List ℕ)) (own : Option (List ℕ)) (first : List ℕ) → option_or o own ≡ Some first
    → (P : Option (List ℕ) → Type 0) → (o ≡ Some first → P o) → (own ≡ Some first → P o) → P o
or_first None own first is P earlier later = later is
or_first (Some bytes) own first is P earlier later = earlier is

-- bytes that are found, by whatever checksum, are there
pub is_found : (checksum : Checksum) (bytes first : List ℕ) (h : List Record) → first_bytes checksum h ≡ Some first
    → bytes_eq first bytes ≡ true → are_there h bytes ≡ true
is_found checksum bytes first [] is equal = cc is
is_found checksum bytes first (r ∷ h) is equal =
    or_first (first_bytes checksum h) (bytes_in checksum r) first is
    (λ o. are_there (r ∷ h) bytes ≡ true)
    (λ earlier. ap (λ (b : Bool). brings_bytes bytes r || b) (is_found checksum bytes first h earlier equal)
    ∙ or-true (brings_bytes bytes r))
    (λ later. ap (λ (b : Bool). b || are_there h bytes) (brought checksum bytes first r later equal))

pub ruleset found_bytes = (is_found)
