-- Records of a bill that is parted with.
use Rattle.std.proofs.Common.{◌≡◌, ℕ, ◌+◌, Bool, true, List, ◌++◌, Option, Result, Ok, Err, refl, ap, sym, subst, ◌∙◌, IsTrue, ◌↔◌}
use Rattle.std.specs.Prelude.{count_by}
use Rattle.std.proofs.lemmas.Bool.{and_parts, and_from}
use Rattle.ebl_base.specs.declared.chain.ChainLink.{ChainLink}
use Rattle.ebl_base.specs.declared.entry.Entry.{Entry}
use Rattle.ebl_base.specs.declared.checksum.Checksum.{Checksum}
use Rattle.ebl_base.specs.declared.platform_code.PlatformCode.{PlatformCode}
use Rattle.ebl_base.specs.declared.signed_text.SignedText.{SignedText}
use Rattle.ebl_base.specs.declared.transaction.Transaction.{Transaction}
use Rattle.envelope_manifest.specs.declared.manifest.Manifest.{Manifest}
use Rattle.party_roster.specs.RosterRecord.{RosterRecord, has_platform}
use Rattle.signed_envelope.specs.KeyRing.{Keys}
use Rattle.title_fold.specs.declared.refusal.FoldRefusal.{FoldRefusal}
use Rattle.title_fold.specs.declared.title.Title.{Title}
use Rattle.title_fold.specs.Title.{possessor}
use Rattle.title_fold.specs.Fold.{Folded, fold}
use Rattle.title_fold.specs.Step.{step_title}
use Rattle.title_fold.specs.Movement.{moves}
use Rattle.bill_chain.specs.Chain.{transactions_of, without_place}
use Rattle.bill_diary.specs.declared.record.Record.{Record}
use Rattle.bill_diary.specs.declared.bill_place.BillPlace.{BillPlace}
use Rattle.bill_diary.specs.declared.bill_place.BillPlace.TheVariants.{Absent, Held, Parting, Gone}
use Rattle.bill_diary.specs.Pieces.{pieces_of}
use Rattle.bill_diary.specs.Place.{place_of, title_at}
use Rattle.bill_diary.specs.Titles.{FoldedBy, unplaced}
use Rattle.bill_diary.specs.Sound.{is_parted}
use Rattle.record_bytes.specs.Forms.{IsParted}
use Rattle.transfer_judge.specs.Legal.{IsSignedBy, PartsLegally}
use Rattle.legal_frames.specs.Rows.{IsManifestBy, IsNextAt, leaves, leaves_on}

-- ---- an entry is sent

-- the step that leaves
record LeavesBy (roster : RosterRecord) (known : List ChainLink) (since : List Transaction) (t : Transaction)
    : Type 0 where
  before : Option Title
  title : fold (transactions_of known ++ since) ≡ Ok before
  after : Title
  allowed : step_title before t ≡ Ok after
  moved : moves before after ≡ true
  listed : has_platform roster (possessor after).platform ≡ true

step_leaves : (roster : RosterRecord) (known : List ChainLink) (since : List Transaction) (t : Transaction)
    (before : Option Title) → fold (transactions_of known ++ since) ≡ Ok before → (s : Result Title FoldRefusal)
    → step_title before t ≡ s → leaves roster before s ≡ true → LeavesBy roster known since t
step_leaves roster known since t before title (Err rule) step b = cc b
step_leaves roster known since t before title (Ok after) step b =
    let both = and_parts (moves before after) (has_platform roster (possessor after).platform) b in
    record { before = before; title = title; after = after; allowed = step; moved = both.0; listed = both.1 }

fold_leaves : (roster : RosterRecord) (known : List ChainLink) (since : List Transaction) (t : Transaction) (f : Folded)
    → fold (transactions_of known ++ since) ≡ f → leaves_on roster t (without_place f) ≡ true
    → LeavesBy roster known since t
fold_leaves roster known since t (Err at) title b = cc b
fold_leaves roster known since t (Ok before) title b =
    step_leaves roster known since t before title (step_title before t) refl b

leaves_by : (roster : RosterRecord) (known : List ChainLink) (since : List Transaction) (t : Transaction)
    → LeavesBy roster known since t
    → leaves_on roster t (without_place (fold (transactions_of known ++ since))) ≡ true
leaves_by roster known since t x =
    ap (λ (f : Folded). leaves_on roster t (without_place f)) x.title
    ∙ ap (leaves roster x.before) x.allowed
    ∙ and_from (moves x.before x.after) (has_platform roster (possessor x.after).platform) x.moved x.listed

-- what was found of an entry is that it may be sent
parts_from : (roster : RosterRecord) (keys : Keys) (me : PlatformCode) (h : List Record) (bill : Checksum)
    (link : ChainLink) (manifest : Manifest) (text : SignedText) (p : BillPlace) → place_of h ≡ p
    → IsNextAt roster me bill (count_by is_parted h) link.entry (unplaced (title_at p)) p
    → IsParted bill link manifest text
    → manifest.documents ≡ pieces_of h → IsSignedBy keys me link.text
    → IsManifestBy keys me bill link.name manifest text → PartsLegally roster keys me h bill link manifest text
parts_from roster keys me h bill link manifest text Absent is next form documents signed by = absurd next
parts_from roster keys me h bill link manifest text (Parting known entry) is next form documents signed by = absurd next
parts_from roster keys me h bill link manifest text (Gone known) is next form documents signed by = absurd next
parts_from roster keys me h bill link manifest text (Held known since) is (next, out) form documents signed by =
    let x = fold_leaves roster known since out.last (fold (transactions_of known ++ since)) refl out.out in
    record {
      sound = record {
        known = known;
        since = since;
        held = is;
        room = next.room;
        platform = next.platform;
        bill_is = next.bill_is;
        previous = next.previous;
        attempt = next.attempt;
        last = out.last;
        transactions = out.parts;
        count = next.count;
        before = x.before;
        title = x.title;
        after = x.after;
        allowed = x.allowed;
        moved = x.moved;
        link_is = form.link_is;
        manifest_is = form.manifest_is;
        manifest_form = by.form;
        names_bill = by.names_bill;
        names_last = by.names_last;
        documents = documents;
      };
      listed = x.listed;
      entry_signed = signed;
      manifest_signed = by.signed;
    }

pub parts_so : (roster : RosterRecord) (keys : Keys) (me : PlatformCode) (h : List Record) (bill : Checksum)
    (link : ChainLink) (manifest : Manifest) (text : SignedText)
    → IsNextAt roster me bill (count_by is_parted h) link.entry (unplaced (title_at (place_of h))) (place_of h)
    → IsParted bill link manifest text → manifest.documents ≡ pieces_of h → IsSignedBy keys me link.text
    → IsManifestBy keys me bill link.name manifest text → PartsLegally roster keys me h bill link manifest text
parts_so roster keys me h bill link manifest text next form documents signed by =
    parts_from roster keys me h bill link manifest text (place_of h) refl next form documents signed by

-- and the other way round
pub parts_next : (roster : RosterRecord) (keys : Keys) (me : PlatformCode) (h : List Record) (bill : Checksum)
    (link : ChainLink) (manifest : Manifest) (text : SignedText) → PartsLegally roster keys me h bill link manifest text
    → IsNextAt roster me bill (count_by is_parted h) link.entry (unplaced (title_at (place_of h))) (place_of h)
parts_next roster keys me h bill link manifest text may =
    let s = may.sound in
    let held = Held s.known s.since in
    let next : IsNextAt roster me bill (count_by is_parted h) link.entry (unplaced (title_at held)) held = (
      record {
        room = s.room;
        platform = s.platform;
        bill_is = s.bill_is;
        previous = s.previous;
        attempt = s.attempt;
        count = s.count;
      },
      record {
        last = s.last;
        parts = s.transactions;
        out = leaves_by roster s.known s.since s.last
            (record {
              before = s.before;
              title = s.title;
              after = s.after;
              allowed = s.allowed;
              moved = s.moved;
              listed =
                  may.listed;
            });
      },
    ) in
    subst (λ (p : BillPlace). IsNextAt roster me bill (count_by is_parted h) link.entry (unplaced (title_at p)) p)
    (sym s.held) next

pub parts_by : (roster : RosterRecord) (keys : Keys) (me : PlatformCode) (h : List Record) (bill : Checksum)
    (link : ChainLink) (manifest : Manifest) (text : SignedText) → PartsLegally roster keys me h bill link manifest text
    → IsManifestBy keys me bill link.name manifest text
parts_by roster keys me h bill link manifest text may = record {
  signed = may.manifest_signed;
  form = may.sound.manifest_form;
  names_bill = may.sound.names_bill;
  names_last = may.sound.names_last;
}

-- the test of an entry decides, at the bill's place, its title and its attempts
pub next_at : (roster : RosterRecord) (me : PlatformCode) (h : List Record) (bill : Checksum) (parted : ℕ)
    (entry : Entry) (title : FoldedBy) (p : BillPlace) (b : Bool) → parted ≡ count_by is_parted h
    → title ≡ unplaced (title_at (place_of h)) → p ≡ place_of h
    → (IsTrue b ↔ IsNextAt roster me bill parted entry title p)
    → (IsTrue b ↔ IsNextAt roster me bill (count_by is_parted h) entry (unplaced (title_at (place_of h))) (place_of h))
next_at roster me h bill parted entry title p b counted named found decides =
    subst (λ (n : ℕ). IsTrue b ↔ IsNextAt roster me bill n entry (unplaced (title_at (place_of h))) (place_of h)) counted
    (subst (λ (f : FoldedBy). IsTrue b ↔ IsNextAt roster me bill parted entry f (place_of h)) named
    (subst (λ (x : BillPlace). IsTrue b ↔ IsNextAt roster me bill parted entry title x) found decides))
