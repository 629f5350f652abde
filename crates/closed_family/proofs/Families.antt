-- The histories of one bill in a sound and closed family.
use Rattle.std.proofs.Common.{◌≡◌, ℕ, zero, suc, Bool, true, false, List, [], ◌∷◌, refl, sym, ap, subst, ◌∙◌, inl, inr}
use Rattle.std.specs.Prelude.{◌⊎◌, Option, Some, None, slice_get, map, if◌then◌else◌}
use Rattle.std.specs.List.{flat_map}
use Rattle.std.specs.Option.{option_map_or}
use Rattle.ebl_base.specs.PlatformCode.{code_eq}
use Rattle.ebl_base.proofs.SameLemmas.{code_eq-Decides}
use Rattle.ebl_base.specs.declared.chain.ChainLink.{ChainLink}
use Rattle.ebl_base.specs.declared.checksum.Checksum.{Checksum}
use Rattle.ebl_base.specs.declared.platform_code.PlatformCode.{PlatformCode}
use Rattle.document_checksum.specs.Digest.{checksum_of}
use Rattle.signed_envelope.specs.declared.compact.Parts.{Parts}
use Rattle.signed_envelope.specs.Compact.{IsCompact}
use Rattle.signed_envelope.proofs.Readings.{same_parts}
use Rattle.canonical_json.specs.Reading.{Reads}
use Rattle.canonical_json.proofs.Parts.{Reads_once}
use Rattle.chain_entry.specs.Reading.{entry_of}
use Rattle.bill_diary.specs.declared.record.Record.{Record}
use Rattle.bill_diary.specs.declared.record.Record.TheVariants.{Signed}
use Rattle.bill_diary.specs.declared.frame.Frame.{Frame}
use Rattle.bill_diary.specs.History.{bill_of, newest_first, history}
use Rattle.bill_diary.specs.Place.{taken_chains}
use Rattle.bill_diary.specs.Texts.{LinkIsItsText}
use Rattle.bill_diary.specs.Sound.{IsSoundHistory}
use Rattle.bill_diary.proofs.HistoryLemmas.{history_of_sound}
use Rattle.closed_family.specs.declared.family.Member.{Member}
use Rattle.closed_family.specs.Chains.{IsAmong, AreAmong, NamesDetermineLinks}
use Rattle.closed_family.specs.Histories.{is_signed, links_of}
use Rattle.closed_family.specs.Closed.{IsCorroborated}
use Rattle.closed_family.specs.Safe.{IsSafe}
use Rattle.closed_family.specs.Family.{shard_of, history_in, histories_of, IsSignedIn, SignsDocument, StandsIn, IsTextIn, HasDistinctNames, IsSoundFamily, IsClosedFamily}
use Rattle.closed_family.proofs.Records.{among_more, among_before, among_either, all_among, of_bill-among, link_stands, signed_by}
use Rattle.closed_family.proofs.Line.{AreClosed}
use Rattle.closed_family.proofs.End.{has_top, safe_under}

-- ---- where a history comes from

-- a history of a bill is empty, or that of a listed member
pub record IsFrom (bill : Checksum) (family : List Member) (p : PlatformCode) (m : Member) : Type 0 where
  pub listed : IsAmong m family
  pub platform : m.platform ≡ p
  pub history_is : histories_of bill family p ≡ history_in bill m

pub found : (bill : Checksum) (family : List Member) (p : PlatformCode)
    → (histories_of bill family p ≡ []) ⊎ ((m : Member) × IsFrom bill family p m)
found bill [] p = inl refl
found bill (m ∷ ms) p = on_test (code_eq m.platform p) refl (found bill ms p)
  where
    on_later : (b : Bool) → code_eq m.platform p ≡ b → b ≡ false
        → (histories_of bill ms p ≡ []) ⊎ ((n : Member) × IsFrom bill ms p n)
        → (histories_of bill (m ∷ ms) p ≡ []) ⊎ ((n : Member) × IsFrom bill (m ∷ ms) p n)
    on_later b is no_not (inl none) =
        inl (ap (λ (x : Bool). if x then history_in bill m else histories_of bill ms p) (is ∙ no_not) ∙ none)
    on_later b is no_not (inr (n, from)) = inr (
      n,
      record {
        listed = inr from.listed;
        platform = from.platform;
        history_is = ap (λ (x : Bool). if x then history_in bill m else histories_of bill ms p) (is ∙ no_not)
            ∙ from.history_is;
      },
    )

    on_test : (b : Bool) → code_eq m.platform p ≡ b
        → (histories_of bill ms p ≡ []) ⊎ ((n : Member) × IsFrom bill ms p n)
        → (histories_of bill (m ∷ ms) p ≡ []) ⊎ ((n : Member) × IsFrom bill (m ∷ ms) p n)
    on_test true is further = inr (
      m,
      record {
        listed = inl refl;
        platform = (code_eq-Decides m.platform p).0 is;
        history_is = ap (λ (x : Bool). if x then history_in bill m else histories_of bill ms p) is;
      },
    )
    on_test false is further = on_later false is refl further

-- a history in a member is that in one of its diaries
pub record IsInDiary (bill : Checksum) (m : Member) (d : List Frame) : Type 0 where
  pub has_diary : IsAmong d m.diaries
  pub history_is : history_in bill m ≡ history bill d

pub got : (diaries : List (List Frame)) (i : ℕ) (d : List Frame) → slice_get diaries i ≡ Some d → IsAmong d diaries
got [] i d h = cc
got (x ∷ xs) zero d h = inl (cc h)
got (x ∷ xs) (suc i) d h = inr (got xs i d h)

pub in_diary : (bill : Checksum) (m : Member) → (history_in bill m ≡ []) ⊎ ((d : List Frame) × IsInDiary bill m d)
in_diary bill m = on_got (slice_get m.diaries (shard_of bill)) refl
  where
    on_got : (o : Option (List Frame)) → slice_get m.diaries (shard_of bill) ≡ o
        → (history_in bill m ≡ []) ⊎ ((d : List Frame) × IsInDiary bill m d)
    on_got None is = inl (ap (λ (x : Option (List Frame)). option_map_or (history bill) x []) is)
    on_got (Some d) is = inr (
      d,
      record {
        has_diary = got m.diaries (shard_of bill) d is;
        history_is = ap (λ (x : Option (List Frame)). option_map_or (history bill) x []) is;
      },
    )

-- a record of a history stands in the family, and is of the bill
pub record StandsFor (bill : Checksum) (family : List Member) (m : Member) (r : Record) : Type 0 where
  pub stands : StandsIn family m r
  pub of_it : bill_of r ≡ bill

pub stands_for : (bill : Checksum) (family : List Member) (m : Member) → IsAmong m family
    → (r : Record) → IsAmong r (history_in bill m) → StandsFor bill family m r
stands_for bill family m listed r among = on_diary (in_diary bill m)
  where
    on_diary : (history_in bill m ≡ []) ⊎ ((d : List Frame) × IsInDiary bill m d) → StandsFor bill family m r
    on_diary (inl none) = absurd (subst (IsAmong r) none among)
    on_diary (inr (d, i)) =
        let o = of_bill-among bill (newest_first d) r (subst (IsAmong r) i.history_is among) in
        record {
          stands = record { listed = listed; diary = d; has_diary = i.has_diary; has_record = o.among };
          of_it = o.of_it;
        }

-- ---- links

-- all links of a bill's histories
abbrev pub links_in : Checksum → List Member → List ChainLink
links_in bill family = flat_map (λ m. links_of (history_in bill m)) family

-- a link of a bill's histories is of one of them
pub link_from : (bill : Checksum) (family : List Member) (link : ChainLink) → IsAmong link (links_in bill family)
    → (m : Member) × IsAmong m family × IsAmong link (links_of (history_in bill m))
link_from bill [] link h = absurd h
link_from bill (m ∷ ms) link h =
    on_parts (among_either link (links_of (history_in bill m)) (links_in bill ms) h) (link_from bill ms link)
  where
    on_parts : IsAmong link (links_of (history_in bill m)) ⊎ IsAmong link (links_in bill ms)
        → (IsAmong link (links_in bill ms) → (n : Member) × IsAmong n ms × IsAmong link (links_of (history_in bill n)))
        → (n : Member) × IsAmong n (m ∷ ms) × IsAmong link (links_of (history_in bill n))
    on_parts (inl here) further = (m, inl refl, here)
    on_parts (inr old) further = let (n, listed, there) = further old in (n, inr listed, there)

pub link_among : (bill : Checksum) (family : List Member) (m : Member) → IsAmong m family
    → (link : ChainLink) → IsAmong link (links_of (history_in bill m)) → IsAmong link (links_in bill family)
link_among bill [] m listed link h = absurd listed
link_among bill (n ∷ ms) m (inl same) link h =
    among_before link (links_of (history_in bill n)) (links_in bill ms)
    (subst (λ (x : Member). IsAmong link (links_of (history_in bill x))) (sym same) h)
link_among bill (n ∷ ms) m (inr listed) link h =
    among_more link (links_of (history_in bill n)) (links_in bill ms) (link_among bill ms m listed link h)

-- ---- names

-- links of one text have one entry
pub one_entry : (a b : ChainLink) → LinkIsItsText a → LinkIsItsText b → a.text.0 ≡ b.text.0 → a.entry ≡ b.entry
one_entry a b ra rb texts =
    let parts : rb.has_payload.parts ≡ ra.has_payload.parts
    = same_parts 16384 a.text.0 rb.has_payload.parts ra.has_payload.parts
    (subst (λ (t : List ℕ). IsCompact 16384 t rb.has_payload.parts) (sym texts) rb.has_payload.compact)
    ra.has_payload.compact in
    let payloads : ra.payload ≡ rb.payload
    = Reads_once ra.has_payload.parts.payload ra.payload rb.payload ra.has_payload.reads
    (subst (λ (p : Parts). Reads p.payload rb.payload) parts rb.has_payload.reads) in
    let both = sym ra.reads_as ∙ ap entry_of payloads ∙ rb.reads_as in
    cc both

-- links of one text and one name are one
pub one_link : (a b : ChainLink) → a.text.0 ≡ b.text.0 → a.name ≡ b.name → a.entry ≡ b.entry → a ≡ b
one_link a b texts names entries =
    let same_text : a.text ≡ b.text = λ i. record { 0 = texts i } in
    λ i. record { text = same_text i; name = names i; entry = entries i }

module _ (family : List Member) (F : IsSoundFamily family) (D : HasDistinctNames family) (bill : Checksum) where
  pub sound_in : (m : Member) → IsAmong m family → IsSoundHistory m.platform (history_in bill m)
  sound_in m listed = on_diary (in_diary bill m)
    where
      on_diary : (history_in bill m ≡ []) ⊎ ((d : List Frame) × IsInDiary bill m d)
          → IsSoundHistory m.platform (history_in bill m)
      on_diary (inl none) = subst (IsSoundHistory m.platform) (sym none) tt
      on_diary (inr (d, i)) =
          subst (IsSoundHistory m.platform) (sym i.history_is)
          (history_of_sound m.platform d bill (F.sound m listed d i.has_diary))

  -- a link with what is known of it
  pub record IsKnown (link : ChainLink) : Type 0 where
    pub text : IsTextIn family link.text.0
    pub its_text : LinkIsItsText link

  pub known_link : (link : ChainLink) → IsAmong link (links_in bill family) → IsKnown link
  known_link link among =
      let from = link_from bill family link among in
      let m = from.0 in
      let s = link_stands m.platform (history_in bill m) (sound_in m from.1) link from.2 in
      let there = stands_for bill family m from.1 s.r s.among in
      record {
        text = record { member = m; r = s.r; stands = there.stands; is_text = s.is_text };
        its_text = s.is_its_text;
      }

  -- links that have one name are one, since the names of the texts are distinct
  pub links_named : NamesDetermineLinks (links_in bill family)
  links_named = record { same = same }
    where
      same : (a b : ChainLink) → IsAmong a (links_in bill family) → IsAmong b (links_in bill family) → a.name ≡ b.name
          → a ≡ b
      same a b pa pb names =
          let ka = known_link a pa in
          let kb = known_link b pb in
          let texts : a.text.0 ≡ b.text.0
          = D a.text.0 b.text.0 ka.text kb.text (sym ka.its_text.name ∙ names ∙ kb.its_text.name) in
          one_link a b texts names (one_entry a b ka.its_text kb.its_text texts)

  -- ---- the bill's histories

  sound_at : (p : PlatformCode) → IsSoundHistory p (histories_of bill family p)
  sound_at p = on_found (found bill family p)
    where
      on_found : (histories_of bill family p ≡ []) ⊎ ((m : Member) × IsFrom bill family p m)
          → IsSoundHistory p (histories_of bill family p)
      on_found (inl none) = subst (IsSoundHistory p) (sym none) tt
      on_found (inr (m, from)) =
          subst (IsSoundHistory p) (sym from.history_is)
          (subst (λ (q : PlatformCode). IsSoundHistory q (history_in bill m)) from.platform (sound_in m from.listed))

  among_at : (p : PlatformCode) → AreAmong (links_of (histories_of bill family p)) (links_in bill family)
  among_at p = on_found (found bill family p)
    where
      on_found : (histories_of bill family p ≡ []) ⊎ ((m : Member) × IsFrom bill family p m)
          → AreAmong (links_of (histories_of bill family p)) (links_in bill family)
      on_found (inl none) = subst (λ (h : List Record). AreAmong (links_of h) (links_in bill family)) (sym none) tt
      on_found (inr (m, from)) =
          subst (λ (h : List Record). AreAmong (links_of h) (links_in bill family)) (sym from.history_is)
          (all_among (links_of (history_in bill m)) (links_in bill family)
          (λ link among. link_among bill family m from.listed link among))

  backed_at : IsClosedFamily family → (p : PlatformCode)
      → IsCorroborated (histories_of bill family) (histories_of bill family p)
  backed_at closed p = on_found (found bill family p)
    where
      on_found : (histories_of bill family p ≡ []) ⊎ ((m : Member) × IsFrom bill family p m)
          → IsCorroborated (histories_of bill family) (histories_of bill family p)
      on_found (inl none) = subst (IsCorroborated (histories_of bill family)) (sym none) tt
      on_found (inr (m, from)) =
          subst (IsCorroborated (histories_of bill family)) (sym from.history_is) (closed bill m from.listed)

  -- where the bill was signed
  record IsSignedThere (p : PlatformCode) : Type 0 where
    member : Member
    platform : member.platform ≡ p
    r : Record
    stands : StandsIn family member r
    document : List ℕ
    signs : SignsDocument document r
    text : IsTextIn family document
    named : checksum_of document ≡ bill

  signed_there : (p : PlatformCode) → is_signed (histories_of bill family p) ≡ true → IsSignedThere p
  signed_there p signed = on_found (found bill family p)
    where
      on_found : (histories_of bill family p ≡ []) ⊎ ((m : Member) × IsFrom bill family p m) → IsSignedThere p
      on_found (inl none) = absurd (nothing (subst (λ (h : List Record). is_signed h ≡ true) none signed))
        where
          nothing : false ≡ true → ⊥
          nothing h = cc
      on_found (inr (m, from)) =
          let s = signed_by m.platform (history_in bill m) (sound_in m from.listed)
          (subst (λ (h : List Record). is_signed h ≡ true) from.history_is signed) in
          let r : Record = Signed s.bill s.document s.transaction in
          let there = stands_for bill family m from.listed r s.among in
          record {
            member = m;
            platform = from.platform;
            r = r;
            stands = there.stands;
            document = s.document;
            signs = refl;
            text = record { member = m; r = r; stands = there.stands; is_text = refl };
            named = ap checksum_of (sym s.document_is.text_is) ∙ s.document_is.names ∙ there.of_it;
          }

  signed_on_one : (p q : PlatformCode) → is_signed (histories_of bill family p) ≡ true
      → is_signed (histories_of bill family q) ≡ true → p ≡ q
  signed_on_one p q sp sq =
      let a = signed_there p sp in
      let b = signed_there q sq in
      let documents : b.document ≡ a.document = D b.document a.document b.text a.text (b.named ∙ sym a.named) in
      let platforms = F.signed_on_one a.member b.member a.r b.r a.document a.stands b.stands a.signs
      (subst (λ (t : List ℕ). SignsDocument t b.r) documents b.signs) in
      sym a.platform ∙ platforms ∙ b.platform

  pub are_closed : IsClosedFamily family → AreClosed (links_in bill family) (histories_of bill family)
  are_closed closed = record {
    named = links_named;
    sound = sound_at;
    among = among_at;
    backed = backed_at closed;
    signed_on_one = signed_on_one;
  }

  -- the platforms that took a chain are listed
  pub taken_listed : (p : PlatformCode) (c : List ChainLink) → IsAmong c (taken_chains (histories_of bill family p))
      → IsAmong p (map (λ (m : Member). m.platform) family)
  taken_listed p c among = on_found (found bill family p)
    where
      listed_platform : (ms : List Member) (m : Member) → IsAmong m ms
          → IsAmong m.platform (map (λ (x : Member). x.platform) ms)
      listed_platform [] m h = absurd h
      listed_platform (x ∷ xs) m (inl same) = inl (ap (λ (y : Member). y.platform) same)
      listed_platform (x ∷ xs) m (inr h) = inr (listed_platform xs m h)

      on_found : (histories_of bill family p ≡ []) ⊎ ((m : Member) × IsFrom bill family p m)
          → IsAmong p (map (λ (m : Member). m.platform) family)
      on_found (inl none) = absurd (subst (λ (h : List Record). IsAmong c (taken_chains h)) none among)
      on_found (inr (m, from)) =
          subst (λ (q : PlatformCode). IsAmong q (map (λ (x : Member). x.platform) family)) from.platform
          (listed_platform family m from.listed)

  -- the bill is safe
  pub is_safe : IsClosedFamily family → IsSignedIn family bill → IsSafe (histories_of bill family)
  is_safe closed (p, signed) =
      let c = are_closed closed in
      let t = has_top (links_in bill family) (histories_of bill family) c
      (map (λ (m : Member). m.platform) family) taken_listed p signed in
      safe_under (links_in bill family) (histories_of bill family) c t.line t.top
