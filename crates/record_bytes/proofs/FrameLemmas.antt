-- What bytes that spell a frame are, and what spells one.
use Rattle.std.proofs.Common.{◌≡◌, ◌≢◌, ◌⊎◌, inl, inr, ℕ, List, [], ◌∷◌, ◌++◌, Option, Some, None, length, refl, sym, ◌∙◌, ap, subst, arith, append-nil}
use Rattle.std.specs.List.{flat_map}
use Rattle.std.specs.Option.{option_to_list}
use Rattle.bill_diary.specs.declared.record.Record.{Record}
use Rattle.bill_diary.specs.declared.record.Record.TheVariants.{Signed, Acted, Attached, Parted, Settled, Regained, Begun, Stored, Taken, Declined}
use Rattle.bill_diary.specs.declared.frame.Frame.{Frame}
use Rattle.bill_diary.specs.declared.frame.Frame.TheVariants.{One, BegunTaken}
use Rattle.bill_diary.specs.History.{taken_after}
use Rattle.bill_diary.specs.Sound.{IsFrame}
use Rattle.record_bytes.specs.Fields.{text_bytes}
use Rattle.record_bytes.specs.Forms.{HasSpelling}
use Rattle.record_bytes.specs.Grammar.{tag_of, fields_of, record_bytes, frame_bytes, kept, Spells}
use Rattle.record_bytes.specs.Reading.{BeginsWithText, AreFields}
use Rattle.record_bytes.proofs.FieldLemmas.{same_front}
use Rattle.record_bytes.proofs.SpellingLemmas.{behind, one_tag, one_rest}

-- no bytes spell nothing
pub no_bytes : (bytes : List ℕ) (frame : Frame) → bytes ≡ [] → ¬ Spells bytes frame
no_bytes bytes (One r) none is = let clash : [] ≡ frame_bytes (One r) = sym none ∙ is.bytes_are in cc clash
no_bytes bytes (BegunTaken b) none is =
    let clash : [] ≡ frame_bytes (BegunTaken b) = sym none ∙ is.bytes_are in cc clash

-- ---- records but a Begun

-- a taken Begun begins with its kind
begun_tag : (b : Record) → IsFrame (BegunTaken b) → tag_of b ≡ 7
begun_tag (Begun bill chain manifest body) frame = refl
begun_tag b frame = absurd frame

pub record_spells : (bytes fields : List ℕ) (tag : ℕ) (r : Record) → bytes ≡ tag ∷ fields → AreFields tag fields r
    → Spells bytes (One r)
record_spells bytes fields tag r split are = record {
  is_frame = tt;
  form = are.form;
  bytes_are = split ∙ ap (λ (n : ℕ). n ∷ fields) (sym are.kind) ∙ ap (λ (l : List ℕ). tag_of r ∷ l) are.fields_are
      ∙ sym (append-nil (record_bytes r));
}

pub no_record : (bytes fields : List ℕ) (tag : ℕ) → bytes ≡ tag ∷ fields → tag ≢ 7
    → ((r : Record) → ¬ AreFields tag fields r) → (frame : Frame) → ¬ Spells bytes frame
no_record bytes fields tag split other none (One r) is =
    let whole : tag ∷ fields ≡ tag_of r ∷ fields_of r = sym split ∙ is.bytes_are ∙ append-nil (record_bytes r) in
    none r (record {
      kind = sym (one_tag tag (tag_of r) fields (fields_of r) whole);
      form = is.form;
      fields_are = one_rest tag (tag_of r) fields (fields_of r) whole;
    })
no_record bytes fields tag split other none (BegunTaken b) is =
    let whole : tag ∷ fields ≡ tag_of b ∷ (fields_of b ++ behind (BegunTaken b)) = sym split ∙ is.bytes_are in
    other (one_tag tag (tag_of b) fields (fields_of b ++ behind (BegunTaken b)) whole ∙ begun_tag b is.is_frame)

-- ---- a Begun

-- a frame that begins with a Begun
pub record BegunFrame (fields : List ℕ) (frame : Frame) : Type 0 where
  pub body : List ℕ
  pub begins : BeginsWithText fields body (behind frame)
  pub are : AreFields 7 (text_bytes body) (kept frame)

begun_frame_of : (fields : List ℕ) (frame : Frame) (r : Record) → r ≡ kept frame → HasSpelling r → tag_of r ≡ 7
    → fields ≡ fields_of r ++ behind frame → BegunFrame fields frame
begun_frame_of fields frame (Begun bill chain manifest body) same form tag whole = record {
  body = body;
  begins = record { short = form.short; bytes_are = whole };
  are = subst (AreFields 7 (text_bytes body)) same (record { kind = refl; form = form; fields_are = refl });
}
begun_frame_of fields frame r same form tag whole = absurd (omega (arith, tag))

pub begun_frame : (fields : List ℕ) (frame : Frame) → Spells (7 ∷ fields) frame → BegunFrame fields frame
begun_frame fields (One r) is =
    let whole : 7 ∷ fields ≡ tag_of r ∷ (fields_of r ++ []) = is.bytes_are in
    begun_frame_of fields (One r) r refl is.form (sym (one_tag 7 (tag_of r) fields (fields_of r ++ []) whole))
    (one_rest 7 (tag_of r) fields (fields_of r ++ []) whole)
begun_frame fields (BegunTaken b) is =
    let whole : 7 ∷ fields ≡ tag_of b ∷ (fields_of b ++ behind (BegunTaken b)) = is.bytes_are in
    begun_frame_of fields (BegunTaken b) b refl is.form
    (sym (one_tag 7 (tag_of b) fields (fields_of b ++ behind (BegunTaken b)) whole))
    (one_rest 7 (tag_of b) fields (fields_of b ++ behind (BegunTaken b)) whole)

pub no_frame_text : (fields : List ℕ) → ((text rest : List ℕ) → ¬ BeginsWithText fields text rest) → (frame : Frame)
    → ¬ Spells (7 ∷ fields) frame
no_frame_text fields none frame is =
    let b = begun_frame fields frame is in none b.body (behind frame) b.begins

pub no_frame_begun : (fields body rest : List ℕ) → BeginsWithText fields body rest
    → ((r : Record) → ¬ AreFields 7 (text_bytes body) r) → (frame : Frame) → ¬ Spells (7 ∷ fields) frame
no_frame_begun fields body rest begins none frame is =
    let b = begun_frame fields frame is in
    let same = same_front fields b.body body (behind frame) rest b.begins begins in
    none (kept frame) (subst (λ (t : List ℕ). AreFields 7 (text_bytes t) (kept frame)) same.0 b.are)

-- nothing else follows a Begun
pub no_frame_behind : (fields body rest taken : List ℕ) (r : Record) → ((s : Record) → AreFields 7 (text_bytes body) s → r ≡ s)
    → BeginsWithText fields body rest → taken ≡ flat_map record_bytes (option_to_list (taken_after r)) → rest ≢ []
    → taken ≢ rest → (frame : Frame) → ¬ Spells (7 ∷ fields) frame
no_frame_behind fields body rest taken r one begins written some other frame is =
    by frame is (begun_frame fields frame is)
  where
    by : (f : Frame) → Spells (7 ∷ fields) f → BegunFrame fields f → ⊥
    by (One s) spells b = some (same_front fields body b.body rest [] begins b.begins).1
    by (BegunTaken s) spells b =
        let same = same_front fields body b.body rest (behind (BegunTaken s)) begins b.begins in
        let begun : r ≡ s = one s (subst (λ (t : List ℕ). AreFields 7 (text_bytes t) s) (sym same.0) b.are) in
        other (written ∙ ap (λ (x : Record). behind (BegunTaken x)) begun ∙ sym same.1)
