-- A bill that a sound history knows has its document there.
use Rattle.std.proofs.Common.{◌≡◌, ◌≤◌, ℕ, List, [], ◌∷◌, Option, Some, None, Result, Ok, refl, ap, sym, subst, ◌∙◌, arith}
use Rattle.std.specs.Prelude.{option_map}
use Rattle.ebl_base.specs.declared.checksum.Checksum.{Checksum}
use Rattle.ebl_base.specs.declared.chain.ChainLink.{ChainLink}
use Rattle.ebl_base.specs.declared.platform_code.PlatformCode.{PlatformCode}
use Rattle.ebl_base.specs.declared.transaction.Transaction.{Transaction}
use Rattle.canonical_json.specs.Value.{Value, depth}
use Rattle.canonical_json.specs.Lawful.{IsLawful, HasTexts}
use Rattle.canonical_json.specs.Reading.{Reads, value_in}
use Rattle.envelope_manifest.specs.Body.{BodyRecord, body_in, body_of_reading}
use Rattle.envelope_manifest.specs.declared.fault.BodyField.{BodyField}
use Rattle.envelope_manifest.specs.declared.manifest.Manifest.{Manifest}
use Rattle.transport_document.specs.DocumentRecord.{DocumentRecord}
use Rattle.transport_document.specs.Reading.{document_of}
use Rattle.bill_diary.specs.declared.record.Record.{Record}
use Rattle.bill_diary.specs.declared.record.Record.TheVariants.{Signed, Acted, Attached, Parted, Settled, Regained, Begun, Stored, Taken, Declined}
use Rattle.bill_diary.specs.declared.bill_place.BillPlace.TheVariants.{Held, Parting}
use Rattle.bill_diary.specs.Known.{Received, known, last_begun, longest, told}
use Rattle.bill_diary.specs.Place.{place_of}
use Rattle.bill_diary.specs.Searches.{last_body, signed_text}
use Rattle.bill_diary.specs.Sound.{IsSoundHistory}
use Rattle.bill_diary.specs.Texts.{IsBodyOf}
use Rattle.bill_diary.proofs.PlaceLemmas.{stands, WhereHeld, WhereParting}
use Rattle.platform_machine.specs.Transfer.{document_in, document_with, if_body, if_read}

-- the texts of documents are read as what they were
abbrev pub AreReadBack : Type 0
AreReadBack =
    (v : Value) (document : DocumentRecord) → document_of v ≡ Ok document → IsLawful v → HasTexts v → depth v ≤ 127
    → Reads document.text v

-- ---- a text or a body is there

begun_has_body : (h : List Record) (entry : Checksum) (came : Received) → last_begun entry h ≡ Some came
    → last_body h ≡ None → ⊥
begun_has_body [] entry came is none = cc is
begun_has_body (Begun b c m t ∷ h) entry came is none = cc none
begun_has_body (Signed b x t ∷ h) entry came is none = begun_has_body h entry came is none
begun_has_body (Acted b t ∷ h) entry came is none = begun_has_body h entry came is none
begun_has_body (Attached b q t ∷ h) entry came is none = begun_has_body h entry came is none
begun_has_body (Parted b l m t ∷ h) entry came is none = begun_has_body h entry came is none
begun_has_body (Settled b e ∷ h) entry came is none = begun_has_body h entry came is none
begun_has_body (Regained b e ∷ h) entry came is none = begun_has_body h entry came is none
begun_has_body (Stored b e c t ∷ h) entry came is none = begun_has_body h entry came is none
begun_has_body (Taken b e ∷ h) entry came is none = begun_has_body h entry came is none
begun_has_body (Declined b e c q v ∷ h) entry came is none = begun_has_body h entry came is none

-- where neither is, no chain is recorded
nothing_told : (me : PlatformCode) (h : List Record) → IsSoundHistory me h → signed_text h ≡ None → last_body h ≡ None
    → told h ≡ []
nothing_told me [] sound signed body = refl
nothing_told me (Signed b x t ∷ h) sound signed body = cc signed
nothing_told me (Begun b c m t ∷ h) sound signed body = cc body
nothing_told me (Taken b e ∷ h) sound signed body =
    absurd (begun_has_body h e sound.0.begun sound.0.begun_is body)
nothing_told me (Settled b e ∷ h) sound signed body =
    let where1 : WhereParting h sound.0.known sound.0.link = stands h (Parting sound.0.known sound.0.link) sound.0.parting in
    let nothing : known h ≡ None = ap longest (nothing_told me h sound.1 signed body) in
    let both : None ≡ Some sound.0.known = sym nothing ∙ where1.known_is in
    cc both
nothing_told me (Acted b t ∷ h) sound signed body = nothing_told me h sound.1 signed body
nothing_told me (Attached b q t ∷ h) sound signed body = nothing_told me h sound.1 signed body
nothing_told me (Parted b l m t ∷ h) sound signed body = nothing_told me h sound.1 signed body
nothing_told me (Regained b e ∷ h) sound signed body = nothing_told me h sound.1 signed body
nothing_told me (Stored b e c t ∷ h) sound signed body = nothing_told me h sound.1 signed body
nothing_told me (Declined b e c q v ∷ h) sound signed body = nothing_told me h sound.1 signed body

-- ---- what is there is read

abbrev IsRead : List ℕ → Type 0
IsRead text = (v : Value) × (value_in text ≡ Ok v)

abbrev IsReadBody : List ℕ → Type 0
IsReadBody body = (parts : BodyRecord) × (body_in body ≡ Ok parts)

signed_is_read : (me : PlatformCode) (h : List Record) → AreReadBack → IsSoundHistory me h → (text : List ℕ)
    → signed_text h ≡ Some text → IsRead text
signed_is_read me [] back sound text is = cc is
signed_is_read me (Signed b x t ∷ h) back sound text is =
    let d = sound.0.document_is in
    let same : x ≡ text = cc is in
    let reads : value_in d.document.text ≡ Ok d.value =
    back d.value d.document d.reads d.lawful d.texts (omega (arith, d.nests)) in
    (d.value, ap value_in (sym (d.text_is ∙ same)) ∙ reads)
signed_is_read me (Acted b t ∷ h) back sound text is = signed_is_read me h back sound.1 text is
signed_is_read me (Attached b q t ∷ h) back sound text is = signed_is_read me h back sound.1 text is
signed_is_read me (Parted b l m t ∷ h) back sound text is = signed_is_read me h back sound.1 text is
signed_is_read me (Settled b e ∷ h) back sound text is = signed_is_read me h back sound.1 text is
signed_is_read me (Regained b e ∷ h) back sound text is = signed_is_read me h back sound.1 text is
signed_is_read me (Begun b c m t ∷ h) back sound text is = signed_is_read me h back sound.1 text is
signed_is_read me (Stored b e c t ∷ h) back sound text is = signed_is_read me h back sound.1 text is
signed_is_read me (Taken b e ∷ h) back sound text is = signed_is_read me h back sound.1 text is
signed_is_read me (Declined b e c q v ∷ h) back sound text is = signed_is_read me h back sound.1 text is

begun_is_read : (bill : Checksum) (chain : List ChainLink) (manifest : Manifest) (body : List ℕ)
    → IsBodyOf bill chain manifest body → IsReadBody body
begun_is_read bill chain manifest body is = (is.parts, ap body_of_reading is.reads ∙ is.reads_as)

body_is_read : (me : PlatformCode) (h : List Record) → IsSoundHistory me h → (body : List ℕ)
    → last_body h ≡ Some body → IsReadBody body
body_is_read me [] sound body is = cc is
body_is_read me (Begun b c m t ∷ h) sound body is =
    let same : t ≡ body = cc is in subst IsReadBody same (begun_is_read b c m t sound.0.body_is)
body_is_read me (Signed b x t ∷ h) sound body is = body_is_read me h sound.1 body is
body_is_read me (Acted b t ∷ h) sound body is = body_is_read me h sound.1 body is
body_is_read me (Attached b q t ∷ h) sound body is = body_is_read me h sound.1 body is
body_is_read me (Parted b l m t ∷ h) sound body is = body_is_read me h sound.1 body is
body_is_read me (Settled b e ∷ h) sound body is = body_is_read me h sound.1 body is
body_is_read me (Regained b e ∷ h) sound body is = body_is_read me h sound.1 body is
body_is_read me (Stored b e c t ∷ h) sound body is = body_is_read me h sound.1 body is
body_is_read me (Taken b e ∷ h) sound body is = body_is_read me h sound.1 body is
body_is_read me (Declined b e c q v ∷ h) sound body is = body_is_read me h sound.1 body is

-- ---- the document

-- where a chain is known, the document is there
pub known_has_document : (me : PlatformCode) (h : List Record) (chain : List ChainLink) → AreReadBack
    → IsSoundHistory me h → known h ≡ Some chain → document_in h ≡ None → ⊥
known_has_document me h chain back sound is none = on_text (signed_text h) (last_body h) refl refl none
  where
    on_text : (text body : Option (List ℕ)) → signed_text h ≡ text → last_body h ≡ body → document_with text body ≡ None
        → ⊥
    on_text (Some text) body signed came gone =
        let read : IsRead text = signed_is_read me h back sound text signed in
        let two : Some read.0 ≡ None = sym (ap if_read read.1) ∙ gone in
        cc two
    on_text None (Some body) signed came gone =
        let read : IsReadBody body = body_is_read me h sound body came in
        let two : Some (read.0).document ≡ None =
        sym (ap (λ (r : Result BodyRecord BodyField). option_map (λ (p : BodyRecord). p.document) (if_body r)) read.1) ∙ gone in
        cc two
    on_text None None signed came gone =
        let nothing : known h ≡ None = ap longest (nothing_told me h sound signed came) in
        let two : None ≡ Some chain = sym nothing ∙ is in
        cc two

-- so it is where the bill is parting
pub parting_has_document : (me : PlatformCode) (h : List Record) (chain : List ChainLink) (entry : ChainLink)
    → AreReadBack → IsSoundHistory me h → place_of h ≡ Parting chain entry → document_in h ≡ None → ⊥
parting_has_document me h chain entry back sound is none =
    let where1 : WhereParting h chain entry = stands h (Parting chain entry) is in
    known_has_document me h chain back sound where1.known_is none

abbrev IsThere : Option Value → Type 0
IsThere o = (v : Value) × (o ≡ Some v)

there_on : (o : Option Value) → (o ≡ None → ⊥) → IsThere o
there_on None not_none = absurd (not_none refl)
there_on (Some v) not_none = (v, refl)

pub document_there : (me : PlatformCode) (h : List Record) (chain : List ChainLink) (entry : ChainLink)
    → AreReadBack → IsSoundHistory me h → place_of h ≡ Parting chain entry → IsThere (document_in h)
document_there me h chain entry back sound is =
    there_on (document_in h) (parting_has_document me h chain entry back sound is)

pub held_document : (me : PlatformCode) (h : List Record) (chain : List ChainLink) (since : List Transaction)
    → AreReadBack → IsSoundHistory me h → place_of h ≡ Held chain since → IsThere (document_in h)
held_document me h chain since back sound is =
    let where1 : WhereHeld h chain since = stands h (Held chain since) is in
    there_on (document_in h) (known_has_document me h chain back sound where1.known_is)
