-- The Begun of a body that was shown: what it says, and when it is written again.
use Rattle.std.proofs.Common.{◌≡◌, ◌≢◌, ◌≤◌, ℕ, Bool, true, false, cond, List, [], ◌∷◌, Option, Some, None, refl, ap, sym, subst, ◌∙◌, map}
use Rattle.std.specs.Prelude.{bytes_eq}
use Rattle.std.specs.Option.{option_map_or}
use Rattle.std.proofs.lemmas.Slice.Eq.{bytes_eq-Decides}
use Rattle.ebl_base.specs.declared.checksum.Checksum.{Checksum}
use Rattle.ebl_base.specs.declared.chain.ChainLink.{ChainLink}
use Rattle.ebl_base.specs.declared.platform_code.PlatformCode.{PlatformCode}
use Rattle.ebl_base.specs.declared.reference.Reference.{Reference}
use Rattle.ebl_base.specs.declared.signed_text.SignedText.{SignedText}
use Rattle.canonical_json.specs.Value.{depth}
use Rattle.canonical_json.specs.Canon.{canon}
use Rattle.signed_envelope.specs.KeyRing.{Keys}
use Rattle.party_roster.specs.RosterRecord.{RosterRecord}
use Rattle.transport_document.proofs.DocumentLemmas.{text-document_of}
use Rattle.envelope_manifest.specs.Body.{BodyRecord, IsBody, ReadsAs, body_value}
use Rattle.envelope_manifest.specs.declared.manifest.Manifest.{Manifest}
use Rattle.transfer_chain.specs.GoodChain.{AreLinks}
use Rattle.bill_diary.specs.declared.record.Record.{Record}
use Rattle.bill_diary.specs.declared.record.Record.TheVariants.{Signed, Acted, Attached, Parted, Settled, Regained, Begun, Stored, Taken, Declined}
use Rattle.bill_diary.specs.declared.frame.Frame.{Frame}
use Rattle.bill_diary.specs.History.{bill_of, of_bill, newest_first}
use Rattle.bill_diary.specs.Sound.{AreSound, IsSound, MayFollow, has_reference, last_with_reference}
use Rattle.bill_diary.specs.Texts.{IsBodyOf, LinksAreTheirTexts}
use Rattle.bill_diary.proofs.BegunLemmas.{one_begun}
use Rattle.transfer_judge.proofs.LegalLemmas.{links_are}
use Rattle.platform_machine.specs.Preface.{ShownRecord, Shows}
use Rattle.platform_machine.specs.Receiving.{begun_of, body_text, has_body, is_again}

-- written bodies read back
abbrev pub AreBodiesReadBack : Type 0
AreBodiesReadBack =
    (body : BodyRecord) → IsBody body → depth body.document ≤ 126 → ReadsAs (canon (body_value body)) body

-- ---- what it says

pub texts_are : (keys : Keys) (texts : List SignedText) (chain : List ChainLink) → AreLinks keys texts chain
    → texts ≡ map (λ (link : ChainLink). link.text) chain
texts_are keys [] [] are = refl
texts_are keys [] (link ∷ chain) are = absurd are
texts_are keys (text ∷ texts) [] are = absurd are
texts_are keys (text ∷ texts) (link ∷ chain) are =
    let first = sym are.0.text in
    let rest = texts_are keys texts chain are.1 in
    λ i. first i ∷ rest i

unfoldable pub body_is_of : (roster : RosterRecord) (keys : Keys) (bytes : List ℕ) (s : ShownRecord) → AreBodiesReadBack
    → Shows roster keys bytes s → IsBodyOf s.manifest.bill s.chain s.manifest (body_text s.parts)
unfolding body_text
body_is_of roster keys bytes s back shows =
    let read = back s.parts shows.form shows.nests in
    let envelops = shows.shows.envelops in
    record {
      value = read.0;
      reads = read.1;
      parts = s.parts;
      reads_as = read.2;
      text_is = refl;
      document_is = record {
        value = s.parts.document;
        lawful = shows.form.lawful;
        texts = shows.form.texts;
        nests = shows.nests;
        document = s.document;
        reads = shows.shows.document_is;
        text_is = text-document_of s.parts.document s.document shows.shows.document_is;
        names = sym envelops.manifests.names.0;
      };
      manifest_is = record {
        payload = envelops.manifests.payload;
        has_payload = record {
          parts = envelops.manifests.signed.parts;
          compact = envelops.manifests.signed.compact;
          reads = envelops.manifests.signed.payload;
        };
        reads_as = envelops.manifests.manifest_is;
      };
      chain_is = texts_are keys s.parts.chain s.chain envelops.good.links;
    }

-- ---- when it is written again

-- what a Begun that may follow says
record BeganSo (bill : Checksum) (chain : List ChainLink) (manifest : Manifest) (body : List ℕ) : Type 0 where
  body_is : IsBodyOf bill chain manifest body
  links_are : LinksAreTheirTexts chain

abbrev SaysSo : Record → Type 0
SaysSo (Begun bill chain manifest body) = BeganSo bill chain manifest body
SaysSo r = Unit {0}

says_so : (me : PlatformCode) (records h : List Record) (r : Record) → MayFollow me records h r → SaysSo r
says_so me records h (Begun b c m t) may = record { body_is = may.body_is; links_are = may.links_are }
says_so me records h (Signed b x t) may = tt
says_so me records h (Acted b t) may = tt
says_so me records h (Attached b q t) may = tt
says_so me records h (Parted b l m t) may = tt
says_so me records h (Settled b e) may = tt
says_so me records h (Regained b e) may = tt
says_so me records h (Stored b e x t) may = tt
says_so me records h (Taken b e) may = tt
says_so me records h (Declined b e x q v) may = tt

found_so : (me : PlatformCode) (reference : Reference) (records : List Record) → AreSound me records → (r : Record)
    → last_with_reference reference records ≡ Some r → SaysSo r
found_so me reference [] sound r is = cc is
found_so me reference (x ∷ records) sound r is =
    on_test (has_reference reference x) is (found_so me reference records sound.2 r)
  where
    on_test : (b : Bool) → cond b (Some x) (last_with_reference reference records) ≡ Some r
        → (last_with_reference reference records ≡ Some r → SaysSo r) → SaysSo r
    on_test true found further =
        let same : x ≡ r = cc found in
        subst SaysSo same (says_so me records (of_bill (bill_of x) records) x sound.0)
    on_test false found further = further found

same_bytes : (a b : List ℕ) → bytes_eq a b ≡ true → a ≡ b
same_bytes a b is = (bytes_eq-Decides a b).0 is

-- where the last Begun with a reference is of this body, it is the body's Begun
pub again_is : (roster : RosterRecord) (keys : Keys) (me : PlatformCode) (bytes : List ℕ) (s : ShownRecord)
    (reference : Reference) (diary : List Frame) → AreBodiesReadBack → Shows roster keys bytes s → IsSound me diary
    → is_again reference (body_text s.parts) diary ≡ true
    → last_with_reference reference (newest_first diary) ≡ Some (begun_of s)
again_is roster keys me bytes s reference diary back shows sound again =
    on_found (last_with_reference reference (newest_first diary)) refl again
  where
    on_record : (r : Record) → SaysSo r → has_body (body_text s.parts) r ≡ true → r ≡ begun_of s
    on_record (Begun b c m t) so is =
        let text : t ≡ body_text s.parts = same_bytes t (body_text s.parts) is in
        ap (Begun b c m) text
        ∙ one_begun b s.manifest.bill c s.chain m s.manifest (body_text s.parts)
        (subst (IsBodyOf b c m) text so.body_is) so.links_are (body_is_of roster keys bytes s back shows)
        (links_are keys s.parts.chain s.chain shows.shows.envelops.good.links)
    on_record (Signed b x t) so is = cc is
    on_record (Acted b t) so is = cc is
    on_record (Attached b q t) so is = cc is
    on_record (Parted b l m t) so is = cc is
    on_record (Settled b e) so is = cc is
    on_record (Regained b e) so is = cc is
    on_record (Stored b e x t) so is = cc is
    on_record (Taken b e) so is = cc is
    on_record (Declined b e x q v) so is = cc is

    on_found : (o : Option Record) → last_with_reference reference (newest_first diary) ≡ o
        → option_map_or (has_body (body_text s.parts)) o false ≡ true
        → last_with_reference reference (newest_first diary) ≡ Some (begun_of s)
    on_found None none is = cc is
    on_found (Some r) some is =
        some ∙ ap Some (on_record r (found_so me reference (newest_first diary) sound.records r some) is)

-- where it isn't, the last Begun with it isn't the body's
pub not_again_is : (s : ShownRecord) (reference : Reference) (diary : List Frame)
    → is_again reference (body_text s.parts) diary ≡ false
    → last_with_reference reference (newest_first diary) ≢ Some (begun_of s)
not_again_is s reference diary not_again found =
    let so : is_again reference (body_text s.parts) diary ≡ has_body (body_text s.parts) (begun_of s) =
    ap (λ (o : Option Record). option_map_or (has_body (body_text s.parts)) o false) found in
    let yes : has_body (body_text s.parts) (begun_of s) ≡ true =
    (bytes_eq-Decides (body_text s.parts) (body_text s.parts)).1 refl in
    let no : true ≡ false = sym (so ∙ yes) ∙ not_again in
    cc no
