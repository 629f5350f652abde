-- Records in sound and legal histories: what each may follow, which entries were parted, and that a name fixes an entry.
use Rattle.std.proofs.Common.{◌≡◌, ◌⊎◌, inl, inr, Bool, true, false, cond, List, [], ◌∷◌, ◌++◌, Some, refl, sym, ap, subst, ◌∙◌}
use Rattle.std.proofs.lemmas.List.{append_assoc}
use Rattle.ebl_base.specs.Checksum.{checksum_eq}
use Rattle.ebl_base.specs.declared.checksum.Checksum.{Checksum}
use Rattle.ebl_base.specs.declared.chain.ChainLink.{ChainLink}
use Rattle.ebl_base.specs.declared.platform_code.PlatformCode.{PlatformCode}
use Rattle.ebl_base.specs.declared.signed_text.SignedText.{SignedText}
use Rattle.ebl_base.specs.declared.transaction.Transaction.{Transaction}
use Rattle.envelope_manifest.specs.declared.manifest.Manifest.{Manifest}
use Rattle.party_roster.specs.RosterRecord.{RosterRecord, has_platform}
use Rattle.document_checksum.specs.Digest.{checksum_of}
use Rattle.signed_envelope.specs.KeyRing.{Keys}
use Rattle.title_fold.specs.Title.{possessor}
use Rattle.title_fold.specs.Fold.{fold}
use Rattle.title_fold.proofs.FoldLemmas.{fold-push-allowed}
use Rattle.bill_chain.specs.Chain.{destination, platform_with, transactions_of}
use Rattle.bill_diary.specs.declared.record.Record.{Record}
use Rattle.bill_diary.specs.declared.record.Record.TheVariants.{Signed, Acted, Attached, Parted, Settled, Regained, Begun, Stored, Taken, Declined}
use Rattle.bill_diary.specs.declared.bill_place.BillPlace.TheVariants.{Held}
use Rattle.bill_diary.specs.History.{bill_of, of_bill}
use Rattle.bill_diary.specs.Known.{known}
use Rattle.bill_diary.specs.Texts.{LinkIsItsText}
use Rattle.bill_diary.specs.Sound.{IsSoundHistory, MayFollow, MayPart}
use Rattle.bill_diary.proofs.PlaceLemmas.{stands}
use Rattle.transfer_judge.specs.Legal.{AreLegal, FollowsLegally, PartsLegally}
use Rattle.bill_chain.proofs.TitleLemmas.{transactions_of-push}
use Rattle.closed_family.specs.declared.family.Member.{Member}
use Rattle.closed_family.specs.Chains.{IsAmong}
use Rattle.closed_family.specs.Histories.{PartedOn, is_parted}
use Rattle.closed_family.specs.Closed.{HasParted}
use Rattle.closed_family.specs.Family.{histories_of, HasDistinctNames, IsTextIn}
use Rattle.closed_family.proofs.Names.{checksum_eq-same, or_cases}
use Rattle.closed_family.proofs.Families.{IsFrom, found, one_entry, one_link, stands_for}
use Rattle.run_safety.proofs.Needs.{has_parted_more}

-- ---- what a record followed

pub follows_among : (me : PlatformCode) (h : List Record) (r : Record) → IsSoundHistory me h → IsAmong r h
    → (before : List Record) × MayFollow me before before r
follows_among me [] r sound among = absurd among
follows_among me (x ∷ h) r sound (inl same) = (h, subst (MayFollow me h h) same sound.0)
follows_among me (x ∷ h) r sound (inr old) = follows_among me h r sound.1 old

-- ---- links

-- links of one text are one
pub same_link : (a b : ChainLink) → LinkIsItsText a → LinkIsItsText b → a.text.0 ≡ b.text.0 → a ≡ b
same_link a b ra rb texts =
    one_link a b texts (ra.name ∙ ap checksum_of texts ∙ sym rb.name) (one_entry a b ra rb texts)

-- ---- entries that were parted

pub record PartedHere (me : PlatformCode) (bill : Checksum) (link : ChainLink) : Type 0 where
  pub platform : link.entry.platform ≡ me
  pub bill_is : link.entry.bill ≡ bill
  pub its_text : LinkIsItsText link

pub parted_here : (me : PlatformCode) (h : List Record) → IsSoundHistory me h
    → (bill : Checksum) (link : ChainLink) (manifest : Manifest) (text : SignedText)
    → IsAmong (Parted bill link manifest text) h → PartedHere me bill link
parted_here me h sound bill link manifest text among =
    let (before, may) = follows_among me h (Parted bill link manifest text) sound among in
    let part : MayPart me before bill link manifest text = may in
    record { platform = part.platform; bill_is = part.bill_is; its_text = part.link_is }

-- a Parted of a link stands in a history
pub record HasRecord (link : ChainLink) (h : List Record) : Type 0 where
  pub bill : Checksum
  pub manifest : Manifest
  pub text : SignedText
  pub among : IsAmong (Parted bill link manifest text) h

record_later : (link : ChainLink) (h : List Record) (r : Record) → HasRecord link h → HasRecord link (r ∷ h)
record_later link h r has =
    record { bill = has.bill; manifest = has.manifest; text = has.text; among = inr has.among }

pub has_record : (link : ChainLink) (h : List Record) → HasParted link h → HasRecord link h
has_record link [] has = absurd has
has_record link (Parted b l m t ∷ h) (inl same) =
    record { bill = b; manifest = m; text = t; among = inl (ap (λ (x : ChainLink). Parted b x m t) same) }
has_record link (Parted b l m t ∷ h) (inr old) = record_later link h (Parted b l m t) (has_record link h old)
has_record link (r ∷ h) has = record_later link h r (has_record link h has)

pub record_parted : (bill : Checksum) (link : ChainLink) (manifest : Manifest) (text : SignedText) (h : List Record)
    → IsAmong (Parted bill link manifest text) h → HasParted link h
record_parted bill link manifest text [] among = absurd among
record_parted bill link manifest text (r ∷ h) (inl same) =
    subst (λ (x : Record). HasParted link (x ∷ h)) (sym same) (inl refl)
record_parted bill link manifest text (r ∷ h) (inr old) =
    has_parted_more link (r ∷ []) h (record_parted bill link manifest text h old)

-- an entry of this name was parted: some link of this name
pub record HasNamed (name : Checksum) (h : List Record) : Type 0 where
  pub link : ChainLink
  pub named : link.name ≡ name
  pub parted : HasParted link h

pub has_named : (name : Checksum) (h : List Record) → is_parted name h ≡ true → HasNamed name h
has_named name [] is = cc is
has_named name (Parted b l m t ∷ h) is =
    on_first (or_cases (checksum_eq l.name name) (is_parted name h) is) (has_named name h)
  where
    on_first : (checksum_eq l.name name ≡ true) ⊎ (is_parted name h ≡ true)
        → (is_parted name h ≡ true → HasNamed name h) → HasNamed name (Parted b l m t ∷ h)
    on_first (inl here) further =
        record { link = l; named = checksum_eq-same l.name name here; parted = inl refl }
    on_first (inr old) further =
        let s = further old in record { link = s.link; named = s.named; parted = inr s.parted }
has_named name (r ∷ h) is =
    let s = has_named name h is in
    record { link = s.link; named = s.named; parted = has_parted_more s.link (r ∷ []) h s.parted }

pub parted_on_has : (K : List ChainLink) (e : ChainLink) (h : List Record) → PartedOn K e h → HasParted e h
parted_on_has K e [] p = absurd p
parted_on_has K e (Parted bill link manifest text ∷ h) (inl here) = inl here.0
parted_on_has K e (Parted bill link manifest text ∷ h) (inr old) = inr (parted_on_has K e h old)
parted_on_has K e (r ∷ h) p = has_parted_more e (r ∷ []) h (parted_on_has K e h p)

-- ---- possession goes to listed platforms

goes_of_link : (me : PlatformCode) (h : List Record) (bill : Checksum) (link : ChainLink) (manifest : Manifest)
    (text : SignedText) (may : MayPart me h bill link manifest text)
    → destination (may.known ++ link ∷ []) ≡ Some (possessor may.after).platform
goes_of_link me h bill link manifest text may =
    ap platform_with
    (ap fold (transactions_of-push may.known link
    ∙ ap (λ (ts : List Transaction). transactions_of may.known ++ ts) may.transactions
    ∙ sym (append_assoc (transactions_of may.known) may.since (may.last ∷ [])))
    ∙ fold-push-allowed (transactions_of may.known ++ may.since) may.last may.before may.after may.title may.allowed)

goes_to_listed : (roster : RosterRecord) (keys : Keys) (me : PlatformCode) (h : List Record) (bill : Checksum)
    (link : ChainLink) (manifest : Manifest) (text : SignedText)
    → PartsLegally roster keys me h bill link manifest text
    → (K : List ChainLink) → known h ≡ Some K
    → (to : PlatformCode) → destination (K ++ link ∷ []) ≡ Some to → has_platform roster to ≡ true
goes_to_listed roster keys me h bill link manifest text legal K k to goes =
    let may = legal.sound in
    let there = stands h (Held may.known may.since) may.held in
    let chains = sym there.known_is ∙ k in
    let same : may.known ≡ K = cc chains in
    let one = sym (goes_of_link me h bill link manifest text may)
    ∙ ap (λ (c : List ChainLink). destination (c ++ link ∷ [])) same ∙ goes in
    let platforms : (possessor may.after).platform ≡ to = cc one in
    subst (λ (p : PlatformCode). has_platform roster p ≡ true) platforms legal.listed

-- whatever was parted on a known chain goes to a platform of the roster
pub parted_listed : (roster : RosterRecord) (keys : Keys) (me : PlatformCode) (bill : Checksum) (records : List Record)
    → AreLegal roster keys me records
    → (K : List ChainLink) (e : ChainLink) → PartedOn K e (of_bill bill records)
    → (to : PlatformCode) → destination (K ++ e ∷ []) ≡ Some to → has_platform roster to ≡ true
parted_listed roster keys me bill [] legal K e parted to goes = absurd parted
parted_listed roster keys me bill (r ∷ records) legal K e parted to goes =
    on_test (checksum_eq (bill_of r) bill) refl parted
    (λ p. parted_listed roster keys me bill records legal.2 K e p to goes)
  where
    Further : Type 0
    Further = PartedOn K e (of_bill bill records) → has_platform roster to ≡ true

    on_record : (s : Record) → s ≡ r → bill_of s ≡ bill → PartedOn K e (s ∷ of_bill bill records)
        → Further → has_platform roster to ≡ true
    on_record (Parted b l m t) is bills (inl here) further =
        let links : l ≡ e = here.0 in
        let follows : PartsLegally roster keys me (of_bill b records) b l m t
        = subst (λ (x : Record). FollowsLegally roster keys me records (of_bill (bill_of x) records) x) (sym is) legal.0 in
        goes_to_listed roster keys me (of_bill b records) b l m t follows K
        (ap (λ (x : Checksum). known (of_bill x records)) bills ∙ here.1) to
        (ap (λ (x : ChainLink). destination (K ++ x ∷ [])) links ∙ goes)
    on_record (Parted b l m t) is bills (inr old) further = further old
    on_record (Signed b d t) is bills p further = further p
    on_record (Acted b t) is bills p further = further p
    on_record (Attached b q t) is bills p further = further p
    on_record (Settled b n) is bills p further = further p
    on_record (Regained b n) is bills p further = further p
    on_record (Begun b c m t) is bills p further = further p
    on_record (Stored b n c t) is bills p further = further p
    on_record (Taken b n) is bills p further = further p
    on_record (Declined b n c q v) is bills p further = further p

    on_test : (b : Bool) → checksum_eq (bill_of r) bill ≡ b
        → PartedOn K e (cond b (r ∷ of_bill bill records) (of_bill bill records))
        → Further → has_platform roster to ≡ true
    on_test true is p further = on_record r refl (checksum_eq-same (bill_of r) bill is) p further
    on_test false is p further = further p

-- ---- a family

-- a record of a bill's histories is of the bill
pub of_its_bill : (bill : Checksum) (family : List Member) (p : PlatformCode) (r : Record)
    → IsAmong r (histories_of bill family p) → bill_of r ≡ bill
of_its_bill bill family p r among = on_found (found bill family p)
  where
    on_found : (histories_of bill family p ≡ []) ⊎ ((m : Member) × IsFrom bill family p m) → bill_of r ≡ bill
    on_found (inl none) = absurd (subst (IsAmong r) none among)
    on_found (inr (m, from)) = (stands_for bill family m from.listed r (subst (IsAmong r) from.history_is among)).of_it

module _ (family : List Member) (distinct : HasDistinctNames family)
    (sound : (bill : Checksum) (p : PlatformCode) → IsSoundHistory p (histories_of bill family p)) where
  parted_there : (bill : Checksum) (p : PlatformCode) (link : ChainLink) → HasParted link (histories_of bill family p)
      → PartedHere p bill link
  parted_there bill p link has =
      let h = histories_of bill family p in
      let r = has_record link h has in
      let here = parted_here p h (sound bill p) r.bill link r.manifest r.text r.among in
      record {
        platform = here.platform;
        bill_is = here.bill_is ∙ of_its_bill bill family p (Parted r.bill link r.manifest r.text) r.among;
        its_text = here.its_text;
      }

  text_in : (bill : Checksum) (p : PlatformCode) (link : ChainLink) → HasParted link (histories_of bill family p)
      → IsTextIn family link.text.0
  text_in bill p link has = on_found (found bill family p)
    where
      r : HasRecord link (histories_of bill family p)
      r = has_record link (histories_of bill family p) has

      on_found : (histories_of bill family p ≡ []) ⊎ ((m : Member) × IsFrom bill family p m)
          → IsTextIn family link.text.0
      on_found (inl none) = absurd (subst (IsAmong (Parted r.bill link r.manifest r.text)) none r.among)
      on_found (inr (m, from)) =
          let there = stands_for bill family m from.listed (Parted r.bill link r.manifest r.text)
          (subst (IsAmong (Parted r.bill link r.manifest r.text)) from.history_is r.among) in
          record { member = m; r = Parted r.bill link r.manifest r.text; stands = there.stands; is_text = inl refl }

  -- entries of one name that were parted, of whatever bills and on whatever platforms, are of one bill
  pub of_one_bill : (A B : Checksum) (p q : PlatformCode) (a b : ChainLink)
      → HasParted a (histories_of A family p) → HasParted b (histories_of B family q) → a.name ≡ b.name → A ≡ B
  of_one_bill A B p q a b has_a has_b names =
      let ha = parted_there A p a has_a in
      let hb = parted_there B q b has_b in
      let same = same_link a b ha.its_text hb.its_text
      (distinct a.text.0 b.text.0 (text_in A p a has_a) (text_in B q b has_b)
      (sym ha.its_text.name ∙ names ∙ hb.its_text.name)) in
      sym ha.bill_is ∙ ap (λ (x : ChainLink). x.entry.bill) same ∙ hb.bill_is
