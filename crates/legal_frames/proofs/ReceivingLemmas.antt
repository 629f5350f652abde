-- Records of a bill that is received.
use Rattle.std.proofs.Common.{◌≡◌, ◌≢◌, ℕ, ◌⊎◌, inl, inr, Bool, true, false, not, ◌&&◌, ◌||◌, ◌==◌, cond, List, [], ◌∷◌, ◌++◌, Option, Some, None, length, refl, ap, sym, subst, ◌∙◌, IsTrue, ◌↔◌}
use Rattle.std.specs.Prelude.{Contains, is_none}
use Rattle.std.specs.List.{list_any}
use Rattle.std.specs.Option.{option_or}
use Rattle.std.proofs.lemmas.Bool.{and_parts, and_from, or_cases, or_left, or_right, eqb-true, eq-eqb, not-true, not_from_false, true_from_ne_false}
use Rattle.std.proofs.lemmas.List.Folds.{Any-from_list_any, list_any-from_Any}
use Rattle.ebl_base.specs.Checksum.{checksum_eq}
use Rattle.ebl_base.proofs.ChecksumLemmas.{checksum_eq-Decides}
use Rattle.ebl_base.specs.declared.chain.ChainLink.{ChainLink}
use Rattle.ebl_base.specs.declared.checksum.Checksum.{Checksum}
use Rattle.ebl_base.specs.declared.code.Code.{Code}
use Rattle.ebl_base.specs.declared.code.Code.TheVariants as codes
use Rattle.ebl_base.specs.declared.evidence.Evidence.{Evidence}
use Rattle.ebl_base.specs.declared.platform_code.PlatformCode.{PlatformCode}
use Rattle.ebl_base.specs.declared.reason.Reason.{Reason}
use Rattle.ebl_base.specs.declared.reason.Reason.TheVariants as reasons
use Rattle.ebl_base.specs.declared.signed_text.SignedText.{SignedText}
use Rattle.document_checksum.specs.Digest.{checksum_of}
use Rattle.envelope_manifest.specs.declared.manifest.Manifest.{Manifest}
use Rattle.envelope_manifest.specs.declared.piece.Piece.{Piece}
use Rattle.party_roster.specs.RosterRecord.{RosterRecord}
use Rattle.bill_chain.specs.Chain.{ends_in, last_of, FollowEachOther, IsChainOfBill}
use Rattle.bill_diary.specs.declared.record.Record.{Record}
use Rattle.bill_diary.specs.declared.record.Record.TheVariants.{Signed, Acted, Attached, Parted, Settled, Regained, Begun, Stored, Taken, Declined}
use Rattle.bill_diary.specs.declared.bill_place.BillPlace.{BillPlace}
use Rattle.bill_diary.specs.declared.bill_place.BillPlace.TheVariants.{Absent, Held, Parting, Gone}
use Rattle.bill_diary.specs.History.{bill_of, of_bill}
use Rattle.bill_diary.specs.Known.{Received, last_begun}
use Rattle.bill_diary.specs.Pieces.{are_there}
use Rattle.bill_diary.specs.Place.{place_of}
use Rattle.bill_diary.specs.Receiving.{is_taken, is_declined, last_declined, Declination}
use Rattle.bill_diary.specs.Sound.{AreSound, CameWith, IsCause, IsNotHeld, MayDecline, MayFollow, MayStore}
use Rattle.record_bytes.specs.Forms.{IsDeclined}
use Rattle.transfer_judge.specs.Judgement.{judgement_by, judgement_of, on_last}
use Rattle.transfer_judge.specs.declared.judgement.Judgement.{Judgement}
use Rattle.transfer_judge.specs.declared.judgement.Judgement.TheVariants as judgements
use Rattle.transfer_judge.specs.Legal.{TakesLegally}
use Rattle.transfer_judge.proofs.LegalLemmas.{not_declined}
use Rattle.legal_frames.specs.Rows.{is_absent, is_cause, is_held, is_listed_as, lists_as}

-- ---- the bill of a chain

last_bill_from : (bill : Checksum) (before chain : List ChainLink) (link : ChainLink)
    → FollowEachOther bill before chain → last_of chain ≡ Some link → link.entry.bill ≡ bill
last_bill_from bill before [] link follow is = cc is
last_bill_from bill before (x ∷ xs) link follow is =
    on_rest (last_of xs) refl is (last_bill_from bill (before ++ x ∷ []) xs link follow.1)
  where
    on_rest : (o : Option ChainLink) → last_of xs ≡ o → option_or o (Some x) ≡ Some link
        → (last_of xs ≡ Some link → link.entry.bill ≡ bill) → link.entry.bill ≡ bill
    on_rest None none same further =
        let one : x ≡ link = cc same in
        subst (λ (l : ChainLink). l.entry.bill ≡ bill) one follow.0.bill_is
    on_rest (Some l) some same further = further (some ∙ same)

-- a chain of a bill is judged by the records of that bill
pub judged_by_bill : (roster : RosterRecord) (me : PlatformCode) (records : List Record) (bill : Checksum)
    (chain : List ChainLink) (manifest : Manifest) (link : ChainLink) → IsChainOfBill bill chain
    → last_of chain ≡ Some link
    → judgement_by roster me records chain manifest ≡ judgement_of roster me bill records chain manifest
judged_by_bill roster me records bill chain manifest link is last =
    ap (λ (o : Option ChainLink). on_last o (λ (l : ChainLink). judgement_of roster me l.entry.bill records chain
    manifest)) last
    ∙ ap (λ (b : Checksum). judgement_of roster me b records chain manifest) (last_bill_from bill [] chain link is last)

-- ---- a document comes

-- a list of documents has one of this checksum and this size
record HasListed (pieces : List Piece) (name : Checksum) (size : ℕ) : Type 0 where
  piece : Piece
  listed : Contains pieces piece
  names : piece.checksum ≡ name
  sized : piece.size ≡ size

listed_in : (name : Checksum) (size : ℕ) (pieces : List Piece) → list_any (is_listed_as name size) pieces ≡ true
    → HasListed pieces name size
listed_in name size pieces is =
    let (k, piece, within, there, passes) = Any-from_list_any (is_listed_as name size) pieces is in
    let both = and_parts (checksum_eq piece.checksum name) (piece.size == size) passes in
    record {
      piece = piece;
      listed = (k, within, there);
      names = (checksum_eq-Decides piece.checksum name).0 both.0;
      sized = eqb-true piece.size size both.1;
    }

lists_in : (name : Checksum) (size : ℕ) (pieces : List Piece) → HasListed pieces name size
    → list_any (is_listed_as name size) pieces ≡ true
lists_in name size pieces x =
    let (k, within, there) = x.listed in
    list_any-from_Any (is_listed_as name size) pieces (
      k,
      x.piece,
      within,
      there,
      and_from (checksum_eq x.piece.checksum name) (x.piece.size == size)
          ((checksum_eq-Decides x.piece.checksum name).1 x.names) (eq-eqb x.piece.size size x.sized),
    )

-- a Begun of the entry came with a manifest that lists such a document
record CameListing (entry name : Checksum) (size : ℕ) (h : List Record) : Type 0 where
  manifest : Manifest
  came : CameWith entry manifest h
  has : HasListed manifest.documents name size

came_behind : (entry name : Checksum) (size : ℕ) (b : Checksum) (c : List ChainLink) (m : Manifest) (t : List ℕ)
    (h : List Record) → CameListing entry name size h → CameListing entry name size (Begun b c m t ∷ h)
came_behind entry name size b c m t h x = record { manifest = x.manifest; came = inr x.came; has = x.has }

came_listing : (entry name : Checksum) (size : ℕ) (h : List Record) → list_any (lists_as entry name size) h ≡ true
    → CameListing entry name size h
came_listing entry name size [] is = cc is
came_listing entry name size (Begun b c m t ∷ h) is =
    on_either (or_cases (ends_in entry c && list_any (is_listed_as name size) m.documents)
    (list_any (lists_as entry name size) h) is) (came_listing entry name size h)
  where
    on_either : ((ends_in entry c && list_any (is_listed_as name size) m.documents) ≡ true)
        ⊎ (list_any (lists_as entry name size) h ≡ true)
        → (list_any (lists_as entry name size) h ≡ true → CameListing entry name size h)
        → CameListing entry name size (Begun b c m t ∷ h)
    on_either (inl here) further =
        let both = and_parts (ends_in entry c) (list_any (is_listed_as name size) m.documents) here in
        record {
          manifest = m;
          came = inl (both.0, refl);
          has = listed_in name size m.documents both.1;
        }
    on_either (inr there) further = came_behind entry name size b c m t h (further there)
came_listing entry name size (Signed b x t ∷ h) is =
    let rest = came_listing entry name size h is in
    record { manifest = rest.manifest; came = rest.came; has = rest.has }
came_listing entry name size (Acted b t ∷ h) is =
    let rest = came_listing entry name size h is in
    record { manifest = rest.manifest; came = rest.came; has = rest.has }
came_listing entry name size (Attached b q t ∷ h) is =
    let rest = came_listing entry name size h is in
    record { manifest = rest.manifest; came = rest.came; has = rest.has }
came_listing entry name size (Parted b l m t ∷ h) is =
    let rest = came_listing entry name size h is in
    record { manifest = rest.manifest; came = rest.came; has = rest.has }
came_listing entry name size (Settled b e ∷ h) is =
    let rest = came_listing entry name size h is in
    record { manifest = rest.manifest; came = rest.came; has = rest.has }
came_listing entry name size (Regained b e ∷ h) is =
    let rest = came_listing entry name size h is in
    record { manifest = rest.manifest; came = rest.came; has = rest.has }
came_listing entry name size (Stored b e x t ∷ h) is =
    let rest = came_listing entry name size h is in
    record { manifest = rest.manifest; came = rest.came; has = rest.has }
came_listing entry name size (Taken b e ∷ h) is =
    let rest = came_listing entry name size h is in
    record { manifest = rest.manifest; came = rest.came; has = rest.has }
came_listing entry name size (Declined b e x q v ∷ h) is =
    let rest = came_listing entry name size h is in
    record { manifest = rest.manifest; came = rest.came; has = rest.has }

listing_came : (entry name : Checksum) (size : ℕ) (manifest : Manifest) (h : List Record)
    → CameWith entry manifest h → HasListed manifest.documents name size
    → list_any (lists_as entry name size) h ≡ true
listing_came entry name size manifest [] came has = absurd came
listing_came entry name size manifest (Begun b c m t ∷ h) came has =
    on_either came (λ further. listing_came entry name size manifest h further has)
  where
    on_either : ((ends_in entry c ≡ true) × (manifest ≡ m)) ⊎ CameWith entry manifest h
        → (CameWith entry manifest h → list_any (lists_as entry name size) h ≡ true)
        → list_any (lists_as entry name size) (Begun b c m t ∷ h) ≡ true
    on_either (inl (ends, same)) further =
        or_left (ends_in entry c && list_any (is_listed_as name size) m.documents)
        (list_any (lists_as entry name size) h)
        (and_from (ends_in entry c) (list_any (is_listed_as name size) m.documents) ends
        (lists_in name size m.documents (subst (λ (x : Manifest). HasListed x.documents name size) same has)))
    on_either (inr there) further =
        or_right (ends_in entry c && list_any (is_listed_as name size) m.documents)
        (list_any (lists_as entry name size) h) (further there)
listing_came entry name size manifest (Signed b x t ∷ h) came has = listing_came entry name size manifest h came has
listing_came entry name size manifest (Acted b t ∷ h) came has = listing_came entry name size manifest h came has
listing_came entry name size manifest (Attached b q t ∷ h) came has = listing_came entry name size manifest h came has
listing_came entry name size manifest (Parted b l m t ∷ h) came has = listing_came entry name size manifest h came has
listing_came entry name size manifest (Settled b e ∷ h) came has = listing_came entry name size manifest h came has
listing_came entry name size manifest (Regained b e ∷ h) came has = listing_came entry name size manifest h came has
listing_came entry name size manifest (Stored b e x t ∷ h) came has = listing_came entry name size manifest h came has
listing_came entry name size manifest (Taken b e ∷ h) came has = listing_came entry name size manifest h came has
listing_came entry name size manifest (Declined b e x q v ∷ h) came has = listing_came entry name size manifest h came
    has

-- where no Begun of the entry came, none lists a document
pub none_lists : (entry name : Checksum) (size : ℕ) (h : List Record) → last_begun entry h ≡ None
    → list_any (lists_as entry name size) h ≡ false
none_lists entry name size [] none = refl
none_lists entry name size (Begun b c m t ∷ h) none =
    on_test (ends_in entry c) none (none_lists entry name size h)
  where
    on_test : (here : Bool)
        → cond here (Some (record { chain = c; manifest = m })) (last_begun entry h) ≡ None
        → (last_begun entry h ≡ None → list_any (lists_as entry name size) h ≡ false)
        → ((here && list_any (is_listed_as name size) m.documents) || list_any (lists_as entry name size) h) ≡ false
    on_test true found further = cc found
    on_test false found further = further found
none_lists entry name size (Signed b x t ∷ h) none = none_lists entry name size h none
none_lists entry name size (Acted b t ∷ h) none = none_lists entry name size h none
none_lists entry name size (Attached b q t ∷ h) none = none_lists entry name size h none
none_lists entry name size (Parted b l m t ∷ h) none = none_lists entry name size h none
none_lists entry name size (Settled b e ∷ h) none = none_lists entry name size h none
none_lists entry name size (Regained b e ∷ h) none = none_lists entry name size h none
none_lists entry name size (Stored b e x t ∷ h) none = none_lists entry name size h none
none_lists entry name size (Taken b e ∷ h) none = none_lists entry name size h none
none_lists entry name size (Declined b e x q v ∷ h) none = none_lists entry name size h none

-- what the last Begun of the entry lists is listed
pub last_lists : (entry name : Checksum) (size : ℕ) (h : List Record) (chain : List ChainLink) (manifest : Manifest)
    → last_begun entry h ≡ Some (record { chain = chain; manifest = manifest })
    → list_any (is_listed_as name size) manifest.documents ≡ true → list_any (lists_as entry name size) h ≡ true
last_lists entry name size [] chain manifest is on = cc is
last_lists entry name size (Begun b c m t ∷ h) chain manifest is on =
    on_test (ends_in entry c) is (λ there. last_lists entry name size h chain manifest there on)
  where
    on_test : (here : Bool)
        → cond here (Some (record { chain = c; manifest = m })) (last_begun entry h)
        ≡ Some (record { chain = chain; manifest = manifest })
        → (last_begun entry h ≡ Some (record { chain = chain; manifest = manifest })
        → list_any (lists_as entry name size) h ≡ true)
        → ((here && list_any (is_listed_as name size) m.documents) || list_any (lists_as entry name size) h) ≡ true
    on_test true found further =
        let one : record { chain = c; manifest = m } ≡ record { chain = chain; manifest = manifest } = cc found in
        or_left (list_any (is_listed_as name size) m.documents) (list_any (lists_as entry name size) h)
        (ap (λ (x : Received). list_any (is_listed_as name size) x.manifest.documents) one ∙ on)
    on_test false found further = further found
last_lists entry name size (Signed b x t ∷ h) chain manifest is on = last_lists entry name size h chain manifest is on
last_lists entry name size (Acted b t ∷ h) chain manifest is on = last_lists entry name size h chain manifest is on
last_lists entry name size (Attached b q t ∷ h) chain manifest is on = last_lists entry name size h chain manifest is on
last_lists entry name size (Parted b l m t ∷ h) chain manifest is on = last_lists entry name size h chain manifest is on
last_lists entry name size (Settled b e ∷ h) chain manifest is on = last_lists entry name size h chain manifest is on
last_lists entry name size (Regained b e ∷ h) chain manifest is on = last_lists entry name size h chain manifest is on
last_lists entry name size (Stored b e x t ∷ h) chain manifest is on = last_lists entry name size h chain manifest is on
last_lists entry name size (Taken b e ∷ h) chain manifest is on = last_lists entry name size h chain manifest is on
last_lists entry name size (Declined b e x q v ∷ h) chain manifest is on =
    last_lists entry name size h chain manifest is on

pub ruleset listings = (last_lists)

-- what was found of a document is that it may be stored
pub stores_so : (h : List Record) (entry name : Checksum) (bytes : List ℕ) → checksum_of bytes ≡ name
    → list_any (lists_as entry name (length bytes)) h ≡ true → are_there h bytes ≡ false → MayStore h entry name bytes
stores_so h entry name bytes named listed new =
    let x = came_listing entry name (length bytes) h listed in
    record {
      manifest = x.manifest;
      came = x.came;
      piece = x.has.piece;
      listed = x.has.listed;
      fits = record { size = x.has.sized; checksum = x.has.names ∙ sym named };
      names = sym x.has.names;
      new = new;
    }

-- and the other way round
pub store_named : (h : List Record) (entry name : Checksum) (bytes : List ℕ) → MayStore h entry name bytes
    → checksum_of bytes ≡ name
store_named h entry name bytes may = sym may.fits.checksum ∙ sym may.names

pub store_listed : (h : List Record) (entry name : Checksum) (bytes : List ℕ) → MayStore h entry name bytes
    → list_any (lists_as entry name (length bytes)) h ≡ true
store_listed h entry name bytes may =
    listing_came entry name (length bytes) may.manifest h may.came
    (record { piece = may.piece; listed = may.listed; names = sym may.names; sized = may.fits.size })

-- the test of the bytes decides, where the rest was found
pub stores : (h : List Record) (entry name : Checksum) (bytes : List ℕ) (size : ℕ) (listed there : Bool)
    → checksum_of bytes ≡ name → size ≡ length bytes → listed ≡ list_any (lists_as entry name size) h
    → listed ≡ true → there ≡ are_there h bytes → (IsTrue (not there) ↔ MayStore h entry name bytes)
stores h entry name bytes size listed there named sized test on are =
    let found : list_any (lists_as entry name (length bytes)) h ≡ true =
    ap (λ (n : ℕ). list_any (lists_as entry name n) h) (sym sized) ∙ sym test ∙ on in (
      λ off. stores_so h entry name bytes named found (sym are ∙ not-true there off),
      λ may. not_from_false there (are ∙ may.new),
    )

pub not_listed : (h : List Record) (entry name : Checksum) (bytes : List ℕ) (size : ℕ) (listed : Bool)
    → size ≡ length bytes → listed ≡ list_any (lists_as entry name size) h → listed ≡ false
    → MayStore h entry name bytes → ⊥
not_listed h entry name bytes size listed sized test off may =
    let clash : true ≡ false =
    sym (store_listed h entry name bytes may) ∙ ap (λ (n : ℕ). list_any (lists_as entry name n) h) (sym sized)
    ∙ sym test ∙ off in
    cc clash

-- ---- a chain is taken

-- what a Begun that may follow says of its chain
record IsWhole (bill : Checksum) (chain : List ChainLink) : Type 0 where
  good : IsChainOfBill bill chain
  last : ChainLink
  last_is : last_of chain ≡ Some last

abbrev IfBegun : Record → Type 0
IfBegun (Begun bill chain manifest body) = IsWhole bill chain
IfBegun r = Unit {0}

if_begun : (me : PlatformCode) (records h : List Record) (r : Record) → MayFollow me records h r → IfBegun r
if_begun me records h (Begun b c m t) may = record {
  good = may.good;
  last = may.receives.last;
  last_is = may.receives.last_is;
}
if_begun me records h (Signed b x t) may = tt
if_begun me records h (Acted b t) may = tt
if_begun me records h (Attached b q t) may = tt
if_begun me records h (Parted b l m t) may = tt
if_begun me records h (Settled b e) may = tt
if_begun me records h (Regained b e) may = tt
if_begun me records h (Stored b e x t) may = tt
if_begun me records h (Taken b e) may = tt
if_begun me records h (Declined b e x q v) may = tt

-- what is found among the records of a bill is a chain of the bill
found_in : (bill entry : Checksum) (came : Received) (r : Record) (h : List Record) → IfBegun r → bill_of r ≡ bill
    → (last_begun entry h ≡ Some came → IsWhole bill came.chain) → last_begun entry (r ∷ h) ≡ Some came
    → IsWhole bill came.chain
found_in bill entry came (Begun b c m t) h whole same further is = on_test (ends_in entry c) is
  where
    on_test : (here : Bool) → cond here (Some (record { chain = c; manifest = m })) (last_begun entry h) ≡ Some came
        → IsWhole bill came.chain
    on_test true found =
        let one : record { chain = c; manifest = m } ≡ came = cc found in
        subst (λ (x : Received). IsWhole bill x.chain) one (subst (λ (x : Checksum). IsWhole x c) same whole)
    on_test false found = further found
found_in bill entry came (Signed b x t) h whole same further is = further is
found_in bill entry came (Acted b t) h whole same further is = further is
found_in bill entry came (Attached b q t) h whole same further is = further is
found_in bill entry came (Parted b l m t) h whole same further is = further is
found_in bill entry came (Settled b e) h whole same further is = further is
found_in bill entry came (Regained b e) h whole same further is = further is
found_in bill entry came (Stored b e x t) h whole same further is = further is
found_in bill entry came (Taken b e) h whole same further is = further is
found_in bill entry came (Declined b e x q v) h whole same further is = further is

found_whole : (me : PlatformCode) (bill entry : Checksum) (came : Received) (records : List Record) → AreSound me
    records
    → last_begun entry (of_bill bill records) ≡ Some came → IsWhole bill came.chain
found_whole me bill entry came [] sound is = cc is
found_whole me bill entry came (r ∷ records) sound is =
    on_test (checksum_eq (bill_of r) bill) (checksum_eq-Decides (bill_of r) bill).0 is
    (found_whole me bill entry came records sound.2)
  where
    on_test : (here : Bool) → (here ≡ true → bill_of r ≡ bill)
        → last_begun entry (cond here (r ∷ of_bill bill records) (of_bill bill records)) ≡ Some came
        → (last_begun entry (of_bill bill records) ≡ Some came → IsWhole bill came.chain) → IsWhole bill came.chain
    on_test true same there further =
        found_in bill entry came r (of_bill bill records)
        (if_begun me records (of_bill (bill_of r) records) r sound.0) (same refl) further there
    on_test false same there further = further there

-- so the last Begun of an entry is judged by the records of the bill
pub begun_judged : (roster : RosterRecord) (me : PlatformCode) (records : List Record) (bill entry : Checksum)
    (came : Received) → AreSound me records → last_begun entry (of_bill bill records) ≡ Some came
    → judgement_by roster me records came.chain came.manifest
    ≡ judgement_of roster me bill records came.chain came.manifest
begun_judged roster me records bill entry came sound is =
    let whole = found_whole me bill entry came records sound is in
    judged_by_bill roster me records bill came.chain came.manifest whole.last whole.good whole.last_is

-- what was found of an entry is that it may be taken
pub takes_so : (roster : RosterRecord) (me : PlatformCode) (records : List Record) (bill entry : Checksum)
    (came : Received) → AreSound me records → last_begun entry (of_bill bill records) ≡ Some came
    → judgement_by roster me records came.chain came.manifest ≡ judgements.Accept
    → TakesLegally roster me records (of_bill bill records) bill entry
takes_so roster me records bill entry came sound is accepted = record {
  begun = came;
  begun_is = is;
  accepted = sym (begun_judged roster me records bill entry came sound is) ∙ accepted;
}

-- and the other way round
pub take_accepted : (roster : RosterRecord) (me : PlatformCode) (records : List Record) (bill entry : Checksum)
    (came : Received) → AreSound me records → last_begun entry (of_bill bill records) ≡ Some came
    → TakesLegally roster me records (of_bill bill records) bill entry
    → judgement_by roster me records came.chain came.manifest ≡ judgements.Accept
take_accepted roster me records bill entry came sound is may =
    let both : Some may.begun ≡ Some came = sym may.begun_is ∙ is in
    let same : may.begun ≡ came = cc both in
    begun_judged roster me records bill entry came sound is
    ∙ subst (λ (x : Received). judgement_of roster me bill records x.chain x.manifest ≡ judgements.Accept) same
    may.accepted

-- the test of the judgement decides, where a Begun was found
pub takes : (roster : RosterRecord) (me : PlatformCode) (records h : List Record) (bill entry : Checksum)
    (came : Received) (judgement : Judgement) (b : Bool) → AreSound me records → h ≡ of_bill bill records
    → last_begun entry h ≡ Some came → judgement ≡ judgement_by roster me records came.chain came.manifest
    → (IsTrue b ↔ (judgement ≡ judgements.Accept))
    → (IsTrue b ↔ TakesLegally roster me records (of_bill bill records) bill entry)
takes roster me records h bill entry came judgement b sound here is judged decides =
    let found : last_begun entry (of_bill bill records) ≡ Some came = ap (last_begun entry) (sym here) ∙ is in (
      λ on. takes_so roster me records bill entry came sound found (sym judged ∙ decides.0 on),
      λ may. decides.1 (judged ∙ take_accepted roster me records bill entry came sound found may),
    )

pub nothing_taken : (roster : RosterRecord) (me : PlatformCode) (records h : List Record) (bill entry : Checksum)
    → last_begun entry h ≡ None → TakesLegally roster me records h bill entry → ⊥
nothing_taken roster me records h bill entry none may =
    let clash : None ≡ Some may.begun = sym none ∙ may.begun_is in
    cc clash

-- ---- a chain is declined

declined_on : (test : Bool) (declination : Declination) (rest : Option Declination) (declined : Bool)
    → (declined ≡ false → rest ≡ None) → (test || declined) ≡ false → cond test (Some declination) rest ≡ None
declined_on true declination rest declined further none = cc none
declined_on false declination rest declined further none = further none

-- where no Declined of an entry is there, none is found
none_declined : (entry : Checksum) (records : List Record) → is_declined entry records ≡ false
    → last_declined entry records ≡ None
none_declined entry [] none = refl
none_declined entry (Declined bill other code reason evidence ∷ records) none =
    declined_on (checksum_eq other entry) (record { code = code; reason = reason; evidence = evidence })
    (last_declined entry records) (is_declined entry records) (none_declined entry records) none
none_declined entry (Signed bill document t ∷ records) none = none_declined entry records none
none_declined entry (Acted bill t ∷ records) none = none_declined entry records none
none_declined entry (Attached bill piece bytes ∷ records) none = none_declined entry records none
none_declined entry (Parted bill link manifest manifest_text ∷ records) none = none_declined entry records none
none_declined entry (Settled bill other ∷ records) none = none_declined entry records none
none_declined entry (Regained bill other ∷ records) none = none_declined entry records none
none_declined entry (Begun bill chain manifest body ∷ records) none = none_declined entry records none
none_declined entry (Stored bill other checksum bytes ∷ records) none = none_declined entry records none
none_declined entry (Taken bill other ∷ records) none = none_declined entry records none

not_absent : (p : BillPlace) → not (is_absent p) ≡ true → p ≢ Absent
not_absent Absent is absent = cc is
not_absent (Held known since) is absent = cc absent
not_absent (Parting known link) is absent = cc absent
not_absent (Gone known) is absent = cc absent

is_not_absent : (p : BillPlace) → p ≢ Absent → not (is_absent p) ≡ true
is_not_absent Absent is = absurd (is refl)
is_not_absent (Held known since) is = refl
is_not_absent (Parting known link) is = refl
is_not_absent (Gone known) is = refl

not_held : (p : BillPlace) → not (is_held p) ≡ true → IsNotHeld p
not_held Absent is = tt
not_held (Held known since) is = cc is
not_held (Parting known link) is = tt
not_held (Gone known) is = tt

is_not_held : (p : BillPlace) → IsNotHeld p → not (is_held p) ≡ true
is_not_held Absent is = refl
is_not_held (Held known since) is = absurd is
is_not_held (Parting known link) is = refl
is_not_held (Gone known) is = refl

no_text : (o : Option SignedText) → is_none o ≡ true → o ≡ None
no_text None is = refl
no_text (Some text) is = cc is

-- the test of a cause decides whether it is one
cause_decides : (p : BillPlace) (bill entry : Checksum) (code : Code) (reason : Reason) (evidence : Evidence)
    → IsDeclined bill entry code reason evidence → IsTrue (is_cause p reason evidence) ↔ IsCause p code reason evidence
cause_decides p bill entry code reasons.Parts evidence form =
    let P : Code → Type 0 = λ c. IsTrue (is_cause p reasons.Parts evidence) ↔ IsCause p c reasons.Parts evidence in
    subst P (sym form.code_is) (not_absent p, is_not_absent p)
cause_decides p bill entry code reasons.Party evidence form =
    let P : Code → Type 0 = λ c. IsTrue (is_cause p reasons.Party evidence) ↔ IsCause p c reasons.Party evidence in
    subst P (sym form.code_is) (
      λ t.
          let all = and_parts (not (is_held p)) (is_none evidence.own && is_none evidence.theirs) t in
          let both = and_parts (is_none evidence.own) (is_none evidence.theirs) all.1 in
          (not_held p all.0, no_text evidence.own both.0, no_text evidence.theirs both.1),
      λ (held, own, theirs).
          and_from (not (is_held p)) (is_none evidence.own && is_none evidence.theirs) (is_not_held p held)
          (and_from (is_none evidence.own) (is_none evidence.theirs) (ap is_none own) (ap is_none theirs)),
    )
cause_decides p bill entry code reasons.Body evidence form = absurd form.cause
cause_decides p bill entry code reasons.Document evidence form = absurd form.cause
cause_decides p bill entry code reasons.Length evidence form = absurd form.cause
cause_decides p bill entry code (reasons.Signature i) evidence form = absurd form.cause
cause_decides p bill entry code (reasons.Entry i) evidence form = absurd form.cause
cause_decides p bill entry code (reasons.Signer i) evidence form = absurd form.cause
cause_decides p bill entry code (reasons.Link i) evidence form = absurd form.cause
cause_decides p bill entry code (reasons.Bill i) evidence form = absurd form.cause
cause_decides p bill entry code reasons.Carrier evidence form = absurd form.cause
cause_decides p bill entry code (reasons.Platform i) evidence form = absurd form.cause
cause_decides p bill entry code (reasons.Fold i) evidence form = absurd form.cause
cause_decides p bill entry code (reasons.Move i) evidence form = absurd form.cause
cause_decides p bill entry code reasons.ManifestSignature evidence form = absurd form.cause
cause_decides p bill entry code reasons.ManifestForm evidence form = absurd form.cause
cause_decides p bill entry code reasons.ManifestNames evidence form = absurd form.cause
cause_decides p bill entry code reasons.Destination evidence form = absurd form.cause
cause_decides p bill entry code reasons.NotListed evidence form = absurd form.cause
cause_decides p bill entry code reasons.Bytes evidence form = absurd form.cause

-- a Declined is found where one is there
pub declined_there : (entry : Checksum) (records : List Record) (d : Declination)
    → last_declined entry records ≡ Some d → is_declined entry records ≡ true
declined_there entry records d is =
    true_from_ne_false (is_declined entry records)
    (λ off. let clash : None ≡ Some d = sym (none_declined entry records off) ∙ is in cc clash)

-- the test of the cause decides, where the rest was found
pub declines_at : (records h : List Record) (bill entry : Checksum) (code : Code) (reason : Reason)
    (evidence : Evidence) (p : BillPlace) (b taken declined : Bool) → IsDeclined bill entry code reason evidence
    → taken ≡ is_taken entry records → taken ≡ false → declined ≡ is_declined entry records → declined ≡ false
    → p ≡ place_of h → b ≡ is_cause p reason evidence
    → (IsTrue b ↔ MayDecline records h entry code reason evidence)
declines_at records h bill entry code reason evidence p b taken declined form was not_was had not_had here test =
    let decides = cause_decides (place_of h) bill entry code reason evidence form in
    let same : b ≡ is_cause (place_of h) reason evidence =
    test ∙ ap (λ (x : BillPlace). is_cause x reason evidence) here in (
      λ on. record {
        not_taken = sym was ∙ not_was;
        not_declined = sym had ∙ not_had;
        cause = decides.0 (sym same ∙ on);
        evidence_is = form.evidence_is;
      },
      λ may. same ∙ decides.1 may.cause,
    )
