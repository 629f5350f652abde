-- What one sound history promises: known chains grow, earlier entries were regained, and an ended bill stays.
use Rattle.std.proofs.Common.{◌≡◌, true, List, [], ◌∷◌, ◌++◌, sym, ap, subst, ◌∙◌, inl, inr}
use Rattle.std.specs.Prelude.{Option, Some, None, Ok}
use Rattle.ebl_base.specs.declared.chain.ChainLink.{ChainLink}
use Rattle.ebl_base.specs.declared.checksum.Checksum.{Checksum}
use Rattle.ebl_base.specs.declared.platform_code.PlatformCode.{PlatformCode}
use Rattle.ebl_base.specs.declared.signed_text.SignedText.{SignedText}
use Rattle.ebl_base.specs.declared.transaction.Transaction.{Transaction}
use Rattle.envelope_manifest.specs.declared.manifest.Manifest.{Manifest}
use Rattle.title_fold.specs.declared.title.Title.{Title}
use Rattle.title_fold.specs.declared.title.Title.TheVariants as titles
use Rattle.title_fold.specs.Fold.{fold}
use Rattle.title_fold.specs.Step.{step_title}
use Rattle.bill_chain.specs.Chain.{transactions_of}
use Rattle.title_fold.proofs.TitleLaws.{ended_refuses}
use Rattle.bill_diary.specs.declared.record.Record.{Record}
use Rattle.bill_diary.specs.declared.record.Record.TheVariants.{Signed, Acted, Attached, Parted, Settled, Regained, Begun, Stored, Taken, Declined}
use Rattle.bill_diary.specs.declared.bill_place.BillPlace.{BillPlace}
use Rattle.bill_diary.specs.declared.bill_place.BillPlace.TheVariants.{Held}
use Rattle.bill_diary.specs.Known.{known}
use Rattle.bill_diary.specs.Place.{place_of, title_at, is_ended, is_regained}
use Rattle.bill_diary.specs.Receiving.{continues}
use Rattle.bill_diary.specs.Sound.{IsSoundHistory}
use Rattle.closed_family.specs.Chains.{IsPrefix, AreAmong, NamesDetermineLinks}
use Rattle.closed_family.specs.Histories.{PartedOn, WasAccepted, links_of, ExtendsKnown}
use Rattle.closed_family.proofs.Chains.{prefix_itself, prefix_trans, push_prefix}
use Rattle.closed_family.proofs.Linked.{among_rest}
use Rattle.closed_family.proofs.Places.{place_held}
use Rattle.closed_family.proofs.Standing.{Stands, StandsBy, stands_absent, stands_held, stands_parting}
use Rattle.closed_family.proofs.Received.{IsReceived, begun_came, received}
use Rattle.closed_family.proofs.Records.{all_among}
use Rattle.closed_family.proofs.Steps.{step_settled, step_taken, goes_further}
use Rattle.closed_family.proofs.History.{stands_so, earlier_regained}

-- ---- known chains

-- after one record more, a chain is known that begins with the one known before
grows_by_one : (links : List ChainLink) (me : PlatformCode) (r : Record) (h : List Record)
    → NamesDetermineLinks links → IsSoundHistory me (r ∷ h) → AreAmong (links_of (r ∷ h)) links
    → (K : List ChainLink) → known h ≡ Some K → ExtendsKnown K (r ∷ h)
grows_by_one links me (Signed bill document t) h named sound among K k =
    let u = stands_absent links me h (stands_so links me named h sound.1 among) sound.0.absent in
    absurd (not_known (sym u.known_is ∙ k))
  where
    not_known : None ≡ Some K → ⊥
    not_known e = cc
grows_by_one links me (Settled bill entry) h named sound among K k =
    let there = step_settled links me h bill entry (stands_so links me named h sound.1 among) sound.0 in (
      sound.0.known ++ sound.0.link ∷ [],
      there.known_is,
      subst (λ (x : List ChainLink). IsPrefix x (sound.0.known ++ sound.0.link ∷ [])) same
          (push_prefix sound.0.known sound.0.link),
    )
  where
    was : StandsBy links me h sound.0.known
    was = (stands_parting links me h sound.0.known sound.0.link
        (stands_so links me named h sound.1 among) sound.0.parting).0

    same : sound.0.known ≡ K
    same = let two = sym was.known_is ∙ k in cc two
grows_by_one links me (Taken bill entry) h named sound among K k = on_stand (stands_so links me named h sound.1 among)
  where
    r : IsReceived links me sound.0.begun.chain
    r = let well = begun_came links me entry h sound.0.begun sound.1 among sound.0.begun_is in
        record { linked = well.linked; among = well.among; here = sound.0.receives.destination_is }

    now : StandsBy links me (Taken bill entry ∷ h) sound.0.begun.chain
    now = step_taken links me h bill entry named (record { each = received links me h sound.1 among })
        (stands_so links me named h sound.1 among) sound.0 r

    not_known : known h ≡ None → ⊥
    not_known none = let two = sym none ∙ k in cc two

    on_stand : Stands links me h → ExtendsKnown K (Taken bill entry ∷ h)
    on_stand (inl u) = absurd (not_known u.known_is)
    on_stand (inr s) =
        let two = sym s.1.known_is ∙ k in
        let same : s.0 ≡ K = cc two in
        let further = goes_further links me h bill entry s.0 named
        (record { each = received links me h sound.1 among }) s.1 sound.0 r in (
          sound.0.begun.chain,
          now.known_is,
          subst
              (λ (x : List ChainLink). IsPrefix x sound.0.begun.chain) same further.prefix,
        )
grows_by_one links me (Acted bill t) h named sound among K k = (K, k, prefix_itself K)
grows_by_one links me r h named sound among K k = (K, k, prefix_itself K)

-- what is among the links of a longer history
pub after : (more h : List Record) (links : List ChainLink) → AreAmong (links_of (more ++ h)) links
    → AreAmong (links_of h) links
after [] h links among = among
after (Parted bill link manifest text ∷ more) h links among = after more h links among.1
after (Begun bill chain manifest body ∷ more) h links among =
    after more h links (among_rest chain (links_of (more ++ h)) links among)
after (r ∷ more) h links among = after more h links among

grows_on : (links : List ChainLink) (me : PlatformCode) (more h : List Record)
    → NamesDetermineLinks links → IsSoundHistory me (more ++ h) → AreAmong (links_of (more ++ h)) links
    → (K : List ChainLink) → known h ≡ Some K → ExtendsKnown K (more ++ h)
grows_on links me [] h named sound among K k = (K, k, prefix_itself K)
grows_on links me (r ∷ more) h named sound among K k =
    let then_known = grows_on links me more h named sound.1 (after (r ∷ []) (more ++ h) links among) K k in
    let now = grows_by_one links me r (more ++ h) named sound among then_known.0 then_known.1 in
    (now.0, now.1, prefix_trans K then_known.0 now.0 then_known.2 now.2)

-- through a sound history, a known chain only grows
pub known_grows : (me : PlatformCode) (more h : List Record) (K : List ChainLink)
    → IsSoundHistory me (more ++ h) → NamesDetermineLinks (links_of (more ++ h))
    → known h ≡ Some K → ExtendsKnown K (more ++ h)
known_grows me more h K sound named k =
    grows_on (links_of (more ++ h)) me more h named sound
    (all_among (links_of (more ++ h)) (links_of (more ++ h)) (λ e among. among)) K k

-- of two entries that part on one known chain, the earlier was regained before the later one parts
pub earlier_was_regained : (me : PlatformCode) (bill : Checksum) (link : ChainLink) (manifest : Manifest)
    (text : SignedText)
    (h : List Record) (K : List ChainLink) (e : ChainLink)
    → IsSoundHistory me (Parted bill link manifest text ∷ h)
    → NamesDetermineLinks (links_of (Parted bill link manifest text ∷ h))
    → known h ≡ Some K → PartedOn K e h
    → is_regained e.name h ≡ true
earlier_was_regained me bill link manifest text h K e sound named k parted =
    earlier_regained (links_of (Parted bill link manifest text ∷ h)) me bill link manifest text h
    (record {
      named = named;
      sound = sound;
      among = all_among (links_of (Parted bill link manifest text ∷ h))
          (links_of (Parted bill link manifest text ∷ h)) (λ x among. among);
    }) K e k parted

-- the known chain on which an entry parts was accepted here
pub parted_was_accepted : (me : PlatformCode) (bill : Checksum) (link : ChainLink) (manifest : Manifest)
    (text : SignedText)
    (h : List Record) (K : List ChainLink)
    → IsSoundHistory me (Parted bill link manifest text ∷ h)
    → NamesDetermineLinks (links_of (Parted bill link manifest text ∷ h))
    → known h ≡ Some K → WasAccepted K h
parted_was_accepted me bill link manifest text h K sound named k =
    let links = links_of (Parted bill link manifest text ∷ h) in
    let among = all_among links links (λ x a. a) in
    let may = sound.0 in
    let there = stands_held links me h may.known may.since (stands_so links me named h sound.1 among.1) may.held in
    let two = sym there.0.known_is ∙ k in
    let same : may.known ≡ K = cc two in
    subst (λ (c : List ChainLink). WasAccepted c h) same there.1.came

-- ---- ended bills

-- an ended title refuses every transaction
refused_when_ended : (before : Option Title) (t : Transaction) (after : Title)
    → is_ended (Ok before) ≡ true → step_title before t ≡ Ok after → ⊥
refused_when_ended None t after e taken = cc
refused_when_ended (Some (titles.Signed c)) t after e taken = cc
refused_when_ended (Some (titles.Live c p h)) t after e taken = cc
refused_when_ended (Some (titles.Asked kind c by)) t after e taken = cc
refused_when_ended (Some (titles.Ended kind c)) t after e taken =
    let two = sym (ended_refuses kind c t) ∙ taken in cc two

-- where a bill is held and ended, it stays so after one record more
ended_by_one : (links : List ChainLink) (me : PlatformCode) (r : Record) (h : List Record)
    → NamesDetermineLinks links → IsSoundHistory me (r ∷ h) → AreAmong (links_of (r ∷ h)) links
    → (K : List ChainLink) (made : List Transaction)
    → place_of h ≡ Held K made → is_ended (fold (transactions_of K ++ made)) ≡ true
    → place_of (r ∷ h) ≡ Held K made
ended_by_one links me (Signed bill document t) h named sound among K made place e =
    let two = sym sound.0.absent ∙ place in cc two
ended_by_one links me (Acted bill t) h named sound among K made place e =
    let two = sym place ∙ sound.0.held in
    let chains : K ≡ sound.0.known = cc two in
    let acts : made ≡ sound.0.since = cc two in
    let folds : fold (transactions_of K ++ made) ≡ Ok sound.0.before
    = ap (λ (c : List ChainLink). fold (transactions_of c ++ made)) chains
    ∙ ap (λ (ts : List Transaction). fold (transactions_of sound.0.known ++ ts)) acts ∙ sound.0.title in
    absurd (refused_when_ended sound.0.before t sound.0.after (ap is_ended (sym folds) ∙ e) sound.0.allowed)
ended_by_one links me (Parted bill link manifest text) h named sound among K made place e =
    let two = sym place ∙ sound.0.held in
    let chains : K ≡ sound.0.known = cc two in
    let acts : made ≡ sound.0.since = cc two in
    let folds : fold (transactions_of K ++ made) ≡ Ok sound.0.before
    = ap (λ (c : List ChainLink). fold (transactions_of c ++ made)) chains
    ∙ ap (λ (ts : List Transaction). fold (transactions_of sound.0.known ++ ts)) acts ∙ sound.0.title in
    absurd (refused_when_ended sound.0.before sound.0.last sound.0.after (ap is_ended (sym folds) ∙ e) sound.0.allowed)
ended_by_one links me (Settled bill entry) h named sound among K made place e =
    let two = sym sound.0.parting ∙ place in cc two
ended_by_one links me (Regained bill entry) h named sound among K made place e =
    let two = sym sound.0.parting ∙ place in cc two
ended_by_one links me (Taken bill entry) h named sound among K made place e =
    let refused = subst
    (λ (x : BillPlace). continues x sound.0.begun.chain ≡ true) place sound.0.receives.continues_place in
    cc refused
ended_by_one links me (Begun bill chain manifest body) h named sound among K made place e =
    let there = stands_held links me h K made
    (stands_so links me named h sound.1 (among_rest chain (links_of h) links among)) place in
    place_held (Begun bill chain manifest body ∷ h) K there.0.known_is there.1.none there.1.stays ∙ ap (Held K) there.2
ended_by_one links me (Attached bill piece bytes) h named sound among K made place e =
    let there = stands_held links me h K made (stands_so links me named h sound.1 among) place in
    place_held (Attached bill piece bytes ∷ h) K there.0.known_is there.1.none there.1.stays ∙ ap (Held K) there.2
ended_by_one links me (Stored bill entry checksum bytes) h named sound among K made place e =
    let there = stands_held links me h K made (stands_so links me named h sound.1 among) place in
    place_held (Stored bill entry checksum bytes ∷ h) K there.0.known_is there.1.none there.1.stays
    ∙ ap (Held K) there.2
ended_by_one links me (Declined bill entry code reason evidence) h named sound among K made place e =
    let there = stands_held links me h K made (stands_so links me named h sound.1 among) place in
    place_held (Declined bill entry code reason evidence ∷ h) K there.0.known_is there.1.none there.1.stays
    ∙ ap (Held K) there.2

pub ended_on : (links : List ChainLink) (me : PlatformCode) (more h : List Record)
    → NamesDetermineLinks links → IsSoundHistory me (more ++ h) → AreAmong (links_of (more ++ h)) links
    → (K : List ChainLink) (made : List Transaction)
    → place_of h ≡ Held K made → is_ended (fold (transactions_of K ++ made)) ≡ true
    → place_of (more ++ h) ≡ Held K made
ended_on links me [] h named sound among K made place e = place
ended_on links me (r ∷ more) h named sound among K made place e =
    ended_by_one links me r (more ++ h) named sound among K made
    (ended_on links me more h named sound.1 (after (r ∷ []) (more ++ h) links among) K made place e) e

-- a bill that is held and ended stays so, whatever stands after it in a sound history
pub ended_stays : (me : PlatformCode) (more h : List Record) (K : List ChainLink) (made : List Transaction)
    → IsSoundHistory me (more ++ h) → NamesDetermineLinks (links_of (more ++ h))
    → place_of h ≡ Held K made → is_ended (title_at (Held K made)) ≡ true
    → place_of (more ++ h) ≡ Held K made
ended_stays me more h K made sound named place e =
    ended_on (links_of (more ++ h)) me more h named sound
    (all_among (links_of (more ++ h)) (links_of (more ++ h)) (λ x among. among)) K made place e
