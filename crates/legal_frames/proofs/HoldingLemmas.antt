-- Records of a bill that is held or begins.
use Rattle.std.proofs.Common.{◌≡◌, ℕ, ◌+◌, ◌≤◌, ◌<◌, Bool, true, false, not, List, ◌++◌, Option, Some, None, Result, Ok, Err, length, nat_lt, arith, MatchOption, refl, ap, sym, subst, ◌∙◌, IsTrue, ◌↔◌}
use Rattle.std.proofs.lemmas.Bool.{not-true, not_from_false, and_parts, and_from, ltb-true, lt-ltb}
use Rattle.ebl_base.specs.declared.chain.ChainLink.{ChainLink}
use Rattle.ebl_base.specs.declared.checksum.Checksum.{Checksum}
use Rattle.ebl_base.specs.declared.platform_code.PlatformCode.{PlatformCode}
use Rattle.ebl_base.specs.declared.transaction.Transaction.{Transaction}
use Rattle.canonical_json.specs.Reading.{IsUnread, Reads}
use Rattle.canonical_json.specs.View.{view}
use Rattle.canonical_json.specs.declared.value.Json.{Json}
use Rattle.chain_entry.specs.Form.{IsTransaction}
use Rattle.envelope_manifest.specs.Piece.{IsPiece}
use Rattle.envelope_manifest.specs.declared.piece.Piece.{Piece}
use Rattle.party_roster.specs.RosterRecord.{RosterRecord, carrier}
use Rattle.title_fold.specs.declared.refusal.FoldRefusal.{FoldRefusal}
use Rattle.title_fold.specs.declared.title.Title.{Title}
use Rattle.title_fold.specs.Fold.{Folded, fold}
use Rattle.title_fold.specs.Step.{step_title}
use Rattle.title_fold.specs.Movement.{moves}
use Rattle.transport_document.specs.DocumentRecord.{DocumentRecord}
use Rattle.upload_state.specs.Piece.{Fits}
use Rattle.bill_chain.specs.Chain.{transactions_of, without_place}
use Rattle.bill_diary.specs.declared.record.Record.{Record}
use Rattle.bill_diary.specs.declared.bill_place.BillPlace.{BillPlace}
use Rattle.bill_diary.specs.declared.bill_place.BillPlace.TheVariants.{Absent, Held, Parting, Gone}
use Rattle.bill_diary.specs.Pieces.{pieces_of}
use Rattle.bill_diary.specs.Place.{place_of, may_act_by, title_at}
use Rattle.bill_diary.specs.Sound.{MayAct, MayAttach, most_with}
use Rattle.bill_diary.specs.Texts.{IsDocumentOf}
use Rattle.bill_diary.specs.Titles.{FoldedBy, unplaced}
use Rattle.bill_diary.proofs.DiaryLaws.{acts_where_held}
use Rattle.record_bytes.specs.Forms.{IsSigned}
use Rattle.record_bytes.proofs.DocumentLemmas.{document_reads}
use Rattle.transfer_judge.specs.Legal.{SignsLegally}
use Rattle.legal_frames.specs.Rows.{HasRoom, IsSignBy, is_absent, stays, stays_on, stays_at}

-- ---- a document is signed

absent_on : (p : BillPlace) → is_absent p ≡ true → p ≡ Absent
absent_on Absent is = refl
absent_on (Held known since) is = cc is
absent_on (Parting known link) is = cc is
absent_on (Gone known) is = cc is

pub absent : (p : BillPlace) → IsTrue (is_absent p) ↔ (p ≡ Absent)
absent p = (absent_on p, λ is. ap is_absent is)

-- what is found of a SIGN is that it may follow
pub signs_so : (roster : RosterRecord) (me : PlatformCode) (h : List Record) (bill : Checksum) (document : List ℕ)
    (t : Transaction) (is : IsSigned bill document t) → IsSignBy me t → place_of h ≡ Absent
    → carrier roster is.document_is.document.provider is.document_is.document.code ≡ Some t.actor
    → SignsLegally roster me h bill document t
signs_so roster me h bill document t is by none carries = record {
  sound = record {
    absent = none;
    document_is = is.document_is;
    form = is.form;
    kind = by.0;
    recipient = by.1;
    actor = by.2;
  };
  by_carrier = carries;
}

pub sign_by : (roster : RosterRecord) (me : PlatformCode) (h : List Record) (bill : Checksum) (document : List ℕ)
    (t : Transaction) → SignsLegally roster me h bill document t → IsSignBy me t
sign_by roster me h bill document t signs = (signs.sound.kind, signs.sound.recipient, signs.sound.actor)

-- the carrier of the document that was read is that of whichever document the text is
pub carries : (roster : RosterRecord) (read document : DocumentRecord) (t : Transaction) → read ≡ document
    → carrier roster read.provider read.code ≡ Some t.actor
    → carrier roster document.provider document.code ≡ Some t.actor
carries roster read document t same is =
    subst (λ (x : DocumentRecord). carrier roster x.provider x.code ≡ Some t.actor) same is

-- the test of the carrier decides, where the rest was found
pub signs : (roster : RosterRecord) (me : PlatformCode) (h : List Record) (bill : Checksum) (document : List ℕ)
    (t : Transaction) (read : DocumentRecord) (b : Bool) (is : IsSigned bill document t) → IsSignBy me t
    → place_of h ≡ Absent → ((other : Checksum) (it : IsDocumentOf other document) → read ≡ it.document)
    → (IsTrue b ↔ (carrier roster read.provider read.code ≡ Some t.actor))
    → (IsTrue b ↔ SignsLegally roster me h bill document t)
signs roster me h bill document t read b is by none same decides = (
  λ on.
      signs_so roster me h bill document t is by none
      (carries roster read is.document_is.document t (same bill is.document_is) (decides.0 on)),
  λ x.
      decides.1
      (carries roster x.sound.document_is.document read t (sym (same bill x.sound.document_is)) x.by_carrier),
)

-- the test of a place decides whether the bill is absent
pub absent_at : (h : List Record) (p : BillPlace) (b : Bool) → p ≡ place_of h → b ≡ is_absent p
    → (IsTrue b ↔ (place_of h ≡ Absent))
absent_at h p b found test =
    subst (λ (x : BillPlace). IsTrue b ↔ (x ≡ Absent)) found
    (subst (λ (x : Bool). IsTrue x ↔ (p ≡ Absent)) (sym test) (absent p))

-- ---- a document is read

-- the text of a document is read
pub unread_never : (text seen : List ℕ) (o : Option Json) → ((x : Json) → o ≡ Some x → ⊥) → seen ≡ text
    → MatchOption o (IsUnread seen) (λ json. Reads seen (view json)) → (bill : Checksum) → IsDocumentOf bill text → ⊥
unread_never text seen None never same unread bill is =
    let off : IsUnread text = subst IsUnread same unread in
    off is.value (document_reads bill text is)
unread_never text seen (Some json) never same reads bill is = never json refl

-- ---- a party acts

-- what may follow, where the bill is held
record ActsOn (known : List ChainLink) (since : List Transaction) (t : Transaction) : Type 0 where
  before : Option Title
  title : fold (transactions_of known ++ since) ≡ Ok before
  after : Title
  allowed : step_title before t ≡ Ok after
  stay : moves before after ≡ false
  room : length since < most_with t.kind

step_decides : (known : List ChainLink) (since : List Transaction) (t : Transaction) (before : Option Title)
    → fold (transactions_of known ++ since) ≡ Ok before → (s : Result Title FoldRefusal) → step_title before t ≡ s
    → IsTrue (stays before (length since) t s) ↔ ActsOn known since t
step_decides known since t before title (Err rule) step = (
  λ b. cc b,
  λ x.
      let one : Ok before ≡ Ok x.before = sym title ∙ x.title in
      let same : before ≡ x.before = cc one in
      let clash : Err rule ≡ Ok x.after = sym step ∙ ap (λ (o : Option Title). step_title o t) same ∙ x.allowed in
      cc clash,
)
step_decides known since t before title (Ok after) step = (
  λ b.
      let both = and_parts (not (moves before after)) (nat_lt (length since) (most_with t.kind)) b in
      record {
        before = before;
        title = title;
        after = after;
        allowed = step;
        stay = not-true (moves before after) both.0;
        room = ltb-true (length since) (most_with t.kind) both.1;
      },
  λ x.
      let one : Ok before ≡ Ok x.before = sym title ∙ x.title in
      let same : before ≡ x.before = cc one in
      let two : Ok after ≡ Ok x.after = sym step ∙ ap (λ (o : Option Title). step_title o t) same ∙ x.allowed in
      let titles : after ≡ x.after = cc two in
      let stay : moves before after ≡ false = (λ i. moves (same i) (titles i)) ∙ x.stay in
      and_from (not (moves before after)) (nat_lt (length since) (most_with t.kind))
      (not_from_false (moves before after) stay) (lt-ltb (length since) (most_with t.kind) x.room),
)

fold_decides : (known : List ChainLink) (since : List Transaction) (t : Transaction) (f : Folded)
    → fold (transactions_of known ++ since) ≡ f
    → IsTrue (stays_on (length since) t (without_place f)) ↔ ActsOn known since t
fold_decides known since t (Err at) title =
    (λ b. cc b, λ x. let clash : Err at ≡ Ok x.before = sym title ∙ x.title in cc clash)
fold_decides known since t (Ok before) title =
    step_decides known since t before title (step_title before t) refl

acts_on : (h : List Record) (t : Transaction) (known : List ChainLink) (since : List Transaction)
    → place_of h ≡ Held known since → MayAct h t → ActsOn known since t
acts_on h t known since is x =
    let both : Held x.known x.since ≡ Held known since = sym x.held ∙ is in
    let chains : known ≡ x.known = cc both in
    let made : x.since ≡ since = cc both in
    let since_is : since ≡ x.since = sym made in
    record {
      before = x.before;
      title = (λ i. fold (transactions_of (chains i) ++ since_is i)) ∙ x.title;
      after = x.after;
      allowed = x.allowed;
      stay = x.stays;
      room = let few = subst (λ (s : List Transaction). length s + 1 ≤ most_with t.kind) made x.room in omega (
        arith,
        few,
      );
    }

may_act_so : (h : List Record) (t : Transaction) (known : List ChainLink) (since : List Transaction) → IsTransaction t
    → place_of h ≡ Held known since → ActsOn known since t → MayAct h t
may_act_so h t known since form is x = record {
  known = known;
  since = since;
  held = is;
  before = x.before;
  title = x.title;
  after = x.after;
  allowed = x.allowed;
  stays = x.stay;
  form = form;
  room = let few = x.room in omega (arith, few);
}

place_decides : (h : List Record) (t : Transaction) → IsTransaction t → (p : BillPlace) → place_of h ≡ p
    → IsTrue (stays_at t (unplaced (title_at p)) p) ↔ MayAct h t
place_decides h t form Absent is = (
  λ b. cc b,
  λ x. let clash : Absent ≡ Held x.known x.since = sym is ∙ x.held in cc
      clash,
)
place_decides h t form (Parting known link) is =
    (λ b. cc b, λ x. let clash : Parting known link ≡ Held x.known x.since = sym is ∙ x.held in cc clash)
place_decides h t form (Gone known) is =
    (λ b. cc b, λ x. let clash : Gone known ≡ Held x.known x.since = sym is ∙ x.held in cc clash)
place_decides h t form (Held known since) is =
    let decides = fold_decides known since t (fold (transactions_of known ++ since)) refl in
    (λ b. may_act_so h t known since form is (decides.0 b), λ x. decides.1 (acts_on h t known since is x))

-- the test of a transaction at the bill's place and its title decides whether it may follow
pub acts : (h : List Record) (t : Transaction) (p : BillPlace) (title : FoldedBy) (b : Bool) → IsTransaction t
    → p ≡ place_of h → title ≡ unplaced (title_at (place_of h)) → b ≡ stays_at t title p → IsTrue b ↔ MayAct h t
acts h t p title b form found named test =
    let whole : b ≡ stays_at t (unplaced (title_at (place_of h))) (place_of h) =
    test ∙ ap (λ (f : FoldedBy). stays_at t f p) named
    ∙ ap (stays_at t (unplaced (title_at (place_of h)))) found in
    subst (λ (x : Bool). IsTrue x ↔ MayAct h t) (sym whole) (place_decides h t form (place_of h) refl)

-- ---- a document is attached

pub attaches_so : (h : List Record) (piece : Piece) (bytes : List ℕ) → IsPiece piece → may_act_by h ≡ true
    → Fits piece bytes → HasRoom (pieces_of h) piece → MayAttach h piece bytes
attaches_so h piece bytes form acts fits room =
    let held = (acts_where_held h).0 acts in
    let size = fits.size in
    let most = form.size in
    let together = room.together in
    record {
      known = held.0;
      since = held.1;
      held = held.2;
      lives = held.3;
      form = form;
      fits = fits;
      new = room.new;
      size = omega (arith, size, most);
      count = room.count;
      together = omega (arith, size, together);
    }

pub attach_acts : (h : List Record) (piece : Piece) (bytes : List ℕ) → MayAttach h piece bytes → may_act_by h ≡ true
attach_acts h piece bytes may = (acts_where_held h).1 (may.known, may.since, may.held, may.lives)

pub attach_room : (h : List Record) (piece : Piece) (bytes : List ℕ) → MayAttach h piece bytes
    → HasRoom (pieces_of h) piece
attach_room h piece bytes may =
    let size = may.fits.size in
    let together = may.together in
    record { new = may.new; count = may.count; together = omega (arith, size, together) }

-- the test of the room decides, where the rest was found
pub attaches : (h : List Record) (piece : Piece) (bytes : List ℕ) (listed : List Piece) (b : Bool) → IsPiece piece
    → may_act_by h ≡ true → Fits piece bytes → listed ≡ pieces_of h → (IsTrue b ↔ HasRoom listed piece)
    → (IsTrue b ↔ MayAttach h piece bytes)
attaches h piece bytes listed b form acts fits same decides = (
  λ on. attaches_so h piece bytes form acts fits (subst (λ (x : List Piece). HasRoom x piece) same (decides.0 on)),
  λ x. decides.1 (subst (λ (y : List Piece). HasRoom y piece) (sym same) (attach_room h piece bytes x)),
)
