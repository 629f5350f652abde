-- What may follow, record by record and frame by frame.
use Rattle.std.proofs.Common.{◌≡◌, ℕ, Bool, true, false, cond, List, ◌∷◌, Option, Some, Result, Ok, Err, IfOk, refl, ap, sym, subst, ◌∙◌, IsTrue, ◌↔◌}
use Rattle.std.specs.Prelude.{option_map}
use Rattle.std.specs.Option.{option_map_or, option_to_list}
use Rattle.ebl_base.specs.Checksum.{checksum_eq}
use Rattle.ebl_base.proofs.ChecksumLemmas.{checksum_eq-Decides}
use Rattle.ebl_base.specs.declared.chain.ChainLink.{ChainLink}
use Rattle.ebl_base.specs.declared.checksum.Checksum.{Checksum}
use Rattle.ebl_base.specs.declared.no_memory.NoMemory.{NoMemory}
use Rattle.ebl_base.specs.declared.platform_code.PlatformCode.{PlatformCode}
use Rattle.signed_envelope.specs.KeyRing.{Keys}
use Rattle.envelope_manifest.specs.declared.manifest.Manifest.{Manifest}
use Rattle.party_roster.specs.RosterRecord.{RosterRecord}
use Rattle.bill_chain.specs.Chain.{ends_in, last_of}
use Rattle.bill_diary.specs.declared.record.Record.{Record}
use Rattle.bill_diary.specs.declared.record.Record.TheVariants.{Begun, Taken}
use Rattle.bill_diary.specs.declared.frame.Frame.{Frame}
use Rattle.bill_diary.specs.declared.frame.Frame.TheVariants.{One, BegunTaken}
use Rattle.bill_diary.specs.History.{bill_of, newest_first, of_bill}
use Rattle.bill_diary.specs.Sound.{IsNotAgain}
use Rattle.bill_diary.specs.Known.{Received, last_begun}
use Rattle.transfer_judge.specs.declared.judgement.Judgement.{Judgement}
use Rattle.transfer_judge.specs.declared.judgement.Judgement.TheVariants as judgements
use Rattle.transfer_judge.specs.Judgement.{judgement_of}
use Rattle.transfer_judge.specs.Legal.{BeginsLegally, FollowEachLegally, FollowsDiaryLegally, FollowsLegally, IsReceivable, TakesLegally}
use Rattle.transfer_judge.proofs.BegunLemmas.{begun_changes_nothing}
use Rattle.legal_frames.specs.Rows.{Follows, IsEnvelope, IsNewEnvelope}

-- a frame of one record may follow where the record may
pub one_frame : (roster : RosterRecord) (keys : Keys) (me : PlatformCode) (diary : List Frame) (r : Record) (b : Bool)
    → (IsTrue b ↔ Follows roster keys me (newest_first diary) r)
    → (IsTrue b ↔ FollowsDiaryLegally roster keys me diary (One r))
one_frame roster keys me diary r b decides = (
  λ t. let follows = decides.0 t in record { is_frame = tt; records = (follows.0, follows.1, tt) },
  λ x.
      decides.1 (x.records.0, x.records.1),
)

-- the same of an answer
pub frame_of_one : (roster : RosterRecord) (keys : Keys) (me : PlatformCode) (diary : List Frame) (frame : Frame)
    (r : Record) (answer : Result Bool NoMemory) → frame ≡ One r
    → IfOk answer (λ b. IsTrue b ↔ Follows roster keys me (newest_first diary) r)
    → IfOk answer (λ b. IsTrue b ↔ FollowsDiaryLegally roster keys me diary frame)
frame_of_one roster keys me diary frame r (Ok b) is decides =
    subst (λ (f : Frame). IsTrue b ↔ FollowsDiaryLegally roster keys me diary f) (sym is)
    (one_frame roster keys me diary r b decides)
frame_of_one roster keys me diary frame r (Err e) is decides = tt

pub frame_of_taken : (roster : RosterRecord) (keys : Keys) (me : PlatformCode) (diary : List Frame) (frame : Frame)
    (r : Record) (answer : Result Bool NoMemory) → frame ≡ BegunTaken r
    → IfOk answer (λ b. IsTrue b ↔ FollowsDiaryLegally roster keys me diary (BegunTaken r))
    → IfOk answer (λ b. IsTrue b ↔ FollowsDiaryLegally roster keys me diary frame)
frame_of_taken roster keys me diary frame r answer is decides =
    subst (λ (f : Frame). IfOk answer (λ b. IsTrue b ↔ FollowsDiaryLegally roster keys me diary f)) (sym is) decides

-- what decides of a record's kind decides of the record
pub of_kind : (roster : RosterRecord) (keys : Keys) (me : PlatformCode) (records : List Record) (r s : Record)
    (answer : Result Bool NoMemory) → r ≡ s
    → IfOk answer (λ b. IsTrue b ↔ FollowsLegally roster keys me records (of_bill (bill_of s) records) s)
    → IsNotAgain records s → IfOk answer (λ b. IsTrue b ↔ Follows roster keys me records r)
of_kind roster keys me records r s (Ok b) is decides new =
    subst (λ (x : Record). IsTrue b ↔ Follows roster keys me records x) (sym is)
    (λ on. (decides.0 on, new), λ follows. decides.1 follows.0)
of_kind roster keys me records r s (Err e) is decides new = tt

-- ---- a Begun

pub begins_so : (roster : RosterRecord) (keys : Keys) (me : PlatformCode) (records : List Record) (bill : Checksum)
    (chain : List ChainLink) (manifest : Manifest) (body : List ℕ) → IsEnvelope roster keys bill chain manifest body
    → IsReceivable (judgement_of roster me bill records chain manifest)
    → BeginsLegally roster keys me records bill chain manifest body
begins_so roster keys me records bill chain manifest body e welcome = record {
  body_is = e.body_is;
  good = e.good;
  last = e.last;
  last_is = e.last_is;
  manifest_signed = e.manifest_by.signed;
  manifest_form = e.manifest_by.form;
  names_bill = e.manifest_by.names_bill;
  names_last = e.manifest_by.names_last;
  welcome = welcome;
}

envelope_of : (roster : RosterRecord) (keys : Keys) (me : PlatformCode) (records : List Record) (bill : Checksum)
    (chain : List ChainLink) (manifest : Manifest) (body : List ℕ)
    → BeginsLegally roster keys me records bill chain manifest body → IsEnvelope roster keys bill chain manifest body
envelope_of roster keys me records bill chain manifest body b = record {
  body_is = b.body_is;
  good = b.good;
  last = b.last;
  last_is = b.last_is;
  manifest_by = record {
    signed = b.manifest_signed;
    form = b.manifest_form;
    names_bill = b.names_bill;
    names_last = b.names_last;
  };
}

pub new_of : (roster : RosterRecord) (keys : Keys) (me : PlatformCode) (records : List Record) (bill : Checksum)
    (chain : List ChainLink) (manifest : Manifest) (body : List ℕ)
    → Follows roster keys me records (Begun bill chain manifest body)
    → IsNewEnvelope roster keys records bill chain manifest body
new_of roster keys me records bill chain manifest body follows = record {
  envelope = envelope_of roster keys me records bill chain manifest body follows.0;
  new = follows.1;
}

-- a new envelope may follow where the judgement is to receive it
pub receivable : (roster : RosterRecord) (keys : Keys) (me : PlatformCode) (records : List Record) (bill : Checksum)
    (chain : List ChainLink) (manifest : Manifest) (body : List ℕ) (judgement : Judgement) (b : Bool)
    → IsNewEnvelope roster keys records bill chain manifest body
    → judgement ≡ judgement_of roster me bill records chain manifest → (IsTrue b ↔ IsReceivable judgement)
    → (IsTrue b ↔ Follows roster keys me records (Begun bill chain manifest body))
receivable roster keys me records bill chain manifest body judgement b is same decides = (
  λ t. (
    begins_so roster keys me records bill chain manifest body is.envelope (subst IsReceivable same (decides.0 t)),
    is.new,
  ),
  λ follows. decides.1 (subst IsReceivable (sym same) follows.0.welcome),
)

-- ---- a Begun that is taken

-- it is the last Begun of its entry
last_is_it : (bill : Checksum) (chain : List ChainLink) (manifest : Manifest) (body : List ℕ) (records : List Record)
    (last : ChainLink) → last_of chain ≡ Some last
    → last_begun last.name (of_bill bill (Begun bill chain manifest body ∷ records))
    ≡ Some (record { chain = chain; manifest = manifest })
last_is_it bill chain manifest body records last last_is =
    let kept : checksum_eq bill bill ≡ true = (checksum_eq-Decides bill bill).1 refl in
    let ends : ends_in last.name chain ≡ true =
    ap (λ (o : Option ChainLink). option_map_or (λ (link : ChainLink). checksum_eq link.name last.name) o false) last_is
    ∙ (checksum_eq-Decides last.name last.name).1 refl in
    ap (λ (b : Bool). last_begun last.name (cond b (Begun bill chain manifest body ∷ of_bill bill records) (of_bill bill
    records))) kept
    ∙ ap (λ (b : Bool). cond b (Some (record { chain = chain; manifest = manifest })) (last_begun last.name (of_bill
    bill records))) ends

-- its records are it and the Taken of its last entry
abbrev TakenBehind : RosterRecord → Keys → PlatformCode → List Record → Record → Checksum → Option ChainLink → Type 0
TakenBehind roster keys me records begun bill o =
    FollowEachLegally roster keys me records
    (begun ∷ option_to_list (option_map (λ (link : ChainLink). Taken bill link.name) o))

pub taken_so : (roster : RosterRecord) (keys : Keys) (me : PlatformCode) (diary : List Frame) (bill : Checksum)
    (chain : List ChainLink) (manifest : Manifest) (body : List ℕ)
    → IsNewEnvelope roster keys (newest_first diary) bill chain manifest body
    → judgement_of roster me bill (newest_first diary) chain manifest ≡ judgements.Accept
    → FollowsDiaryLegally roster keys me diary (BegunTaken (Begun bill chain manifest body))
taken_so roster keys me diary bill chain manifest body is accepted =
    let before = newest_first diary in
    let begun = Begun bill chain manifest body in
    let last = is.envelope.last in
    let takes : TakesLegally roster me (begun ∷ before) (of_bill bill (begun ∷ before)) bill last.name = record {
      begun = record { chain = chain; manifest = manifest };
      begun_is = last_is_it bill chain manifest body before last is.envelope.last_is;
      accepted = begun_changes_nothing roster me bill before chain manifest bill chain manifest body ∙ accepted;
    } in
    record {
      is_frame = tt;
      records = subst (TakenBehind roster keys me before begun bill) (sym is.envelope.last_is) (
        begins_so roster keys me before bill chain manifest body is.envelope
            (subst IsReceivable (sym accepted) tt),
        is.new,
        (takes, tt, tt),
      );
    }

pub taken_new : (roster : RosterRecord) (keys : Keys) (me : PlatformCode) (diary : List Frame) (bill : Checksum)
    (chain : List ChainLink) (manifest : Manifest) (body : List ℕ)
    → FollowsDiaryLegally roster keys me diary (BegunTaken (Begun bill chain manifest body))
    → IsNewEnvelope roster keys (newest_first diary) bill chain manifest body
taken_new roster keys me diary bill chain manifest body follows =
    new_of roster keys me (newest_first diary) bill chain manifest body (follows.records.0, follows.records.1)

pub taken_accepted : (roster : RosterRecord) (keys : Keys) (me : PlatformCode) (diary : List Frame) (bill : Checksum)
    (chain : List ChainLink) (manifest : Manifest) (body : List ℕ)
    → FollowsDiaryLegally roster keys me diary (BegunTaken (Begun bill chain manifest body))
    → judgement_of roster me bill (newest_first diary) chain manifest ≡ judgements.Accept
taken_accepted roster keys me diary bill chain manifest body follows =
    let before = newest_first diary in
    let begun = Begun bill chain manifest body in
    let last = follows.records.0.last in
    let last_is = follows.records.0.last_is in
    let all : TakenBehind roster keys me before begun bill (Some last) =
    subst (TakenBehind roster keys me before begun bill) last_is follows.records in
    let takes : TakesLegally roster me (begun ∷ before) (of_bill bill (begun ∷ before)) bill last.name = all.2.0 in
    let both : Some takes.begun ≡ Some (record { chain = chain; manifest = manifest }) =
    sym takes.begun_is ∙ last_is_it bill chain manifest body before last last_is in
    let same : takes.begun ≡ record { chain = chain; manifest = manifest } = cc both in
    sym (begun_changes_nothing roster me bill before chain manifest bill chain manifest body)
    ∙ subst (λ (x : Received). judgement_of roster me bill (begun ∷ before) x.chain x.manifest ≡ judgements.Accept) same
    takes.accepted
