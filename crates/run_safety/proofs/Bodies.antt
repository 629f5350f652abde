-- Each entry of a good chain was parted on its platform, where the body was sent, or comes from outside and is honest.
use Rattle.std.proofs.Common.{◌≡◌, ◌⊎◌, inl, inr, true, List, [], ◌∷◌, ◌++◌, Option, Some, refl, sym, ap, subst, ◌∙◌}
use Rattle.std.specs.Prelude.{option_map, slice_get}
use Rattle.std.proofs.lemmas.List.{append_assoc}
use Rattle.ebl_base.specs.declared.checksum.Checksum.{Checksum}
use Rattle.ebl_base.specs.declared.chain.ChainLink.{ChainLink}
use Rattle.ebl_base.specs.declared.party.Party.{Party}
use Rattle.ebl_base.specs.declared.platform_code.PlatformCode.{PlatformCode}
use Rattle.ebl_base.specs.declared.signed_text.SignedText.{SignedText}
use Rattle.ebl_base.specs.declared.transaction.Transaction.{Transaction}
use Rattle.canonical_json.specs.Value.{Value}
use Rattle.party_roster.specs.RosterRecord.{RosterRecord, has_platform}
use Rattle.signed_envelope.specs.KeyRing.{Keys}
use Rattle.signed_envelope.specs.SignedText.{IsSigned}
use Rattle.transport_document.specs.DocumentRecord.{DocumentRecord}
use Rattle.bill_chain.specs.Chain.{destination, transactions_of, platform_at_turn, FollowEachOther, FollowsChain}
use Rattle.transfer_chain.specs.GoodChain.{AreLinks, IsBegunByCarrier, first_actor}
use Rattle.bill_diary.specs.Texts.{LinkIsItsText}
use Rattle.transfer_judge.proofs.LegalLemmas.{link_is}
use Rattle.closed_family.specs.Chains.{IsAmong, AreAmong}
use Rattle.closed_family.specs.Histories.{links_of}
use Rattle.closed_family.specs.Closed.{Histories, HasParted, EveryEntryWasParted}
use Rattle.closed_family.specs.Family.{histories_of, HasDistinctNames}
use Rattle.closed_family.proofs.Chains.{HasLast, from_the_end, not_empty, append-none}
use Rattle.closed_family.proofs.Linked.{IsLinked, one_more, among_each}
use Rattle.closed_family.proofs.Grounded.{parted_is_ours}
use Rattle.closed_family.proofs.Line.{AreClosed, grounded_down}
use Rattle.closed_family.proofs.Families.{links_in, are_closed}
use Rattle.run_safety.specs.Network.{Network}
use Rattle.run_safety.specs.Steady.{Rings, IsSteady, IsPartedText}
use Rattle.run_safety.proofs.Needs.{every_is_parted}
use Rattle.run_safety.proofs.Links.{same_link, parted_here, record_parted}
use Rattle.run_safety.proofs.Sound.{Grounds, steady_sound, steady_closed, steady_history, steady_listed}

pub every_push : (at : Histories) (K : List ChainLink) (e : ChainLink) → EveryEntryWasParted at K
    → HasParted e (at e.entry.platform) → EveryEntryWasParted at (K ++ e ∷ [])
every_push at [] e g p = (p, tt)
every_push at (x ∷ K) e g p = (g.0, every_push at K e g.1 p)

module _ (roster : RosterRecord) (rings : Rings) (n : Network) (S : IsSteady roster rings n) where
  -- a link whose text was parted was parted on its platform, under its bill
  parted_link : (link : ChainLink) → LinkIsItsText link → IsPartedText n.family link.text
      → HasParted link (histories_of link.entry.bill n.family link.entry.platform)
  parted_link link its t =
      let h = histories_of t.bill n.family t.p in
      let here = parted_here t.p h (steady_history roster rings n S t.bill t.p) t.bill t.link t.manifest
      t.manifest_text t.stands in
      let same : t.link ≡ link
      = same_link t.link link here.its_text its (ap (λ (x : SignedText). x.0) t.text_is) in
      let has : HasParted t.link (histories_of t.link.entry.bill n.family t.link.entry.platform)
      = subst (λ (q : PlatformCode). HasParted t.link (histories_of t.link.entry.bill n.family q)) (sym here.platform)
      (subst (λ (b : Checksum). HasParted t.link (histories_of b n.family t.p)) (sym here.bill_is)
      (record_parted t.bill t.link t.manifest t.manifest_text h t.stands)) in
      subst (λ (x : ChainLink). HasParted x (histories_of x.entry.bill n.family x.entry.platform)) same has

  -- so is each link of a chain all of whose texts were parted
  pub all_parted : (keys : Keys) (bill : Checksum) (texts : List SignedText) (K chain : List ChainLink)
      → AreLinks keys texts chain → FollowEachOther bill K chain
      → ((text : SignedText) → IsAmong text texts → IsPartedText n.family text)
      → EveryEntryWasParted (histories_of bill n.family) chain
  all_parted keys bill [] K [] links follow each = tt
  all_parted keys bill [] K (link ∷ chain) links follow each = absurd links
  all_parted keys bill (text ∷ texts) K [] links follow each = absurd links
  all_parted keys bill (text ∷ texts) K (link ∷ chain) links follow each = (
    subst (λ (b : Checksum). HasParted link (histories_of b n.family link.entry.platform)) follow.0.bill_is
        (parted_link link (link_is keys text link links.0)
        (subst (IsPartedText n.family) (sym links.0.text) (each text (inl refl)))),
    all_parted keys bill texts (K ++ link ∷ []) chain links.1 follow.1 (λ t among. each t (inr among)),
  )

  module _ (G : Grounds roster) (distinct : HasDistinctNames n.family) where
    pub closed_of : (bill : Checksum) → AreClosed (links_in bill n.family) (histories_of bill n.family)
    closed_of bill =
        are_closed n.family (steady_sound roster rings n S G.one_signer) distinct bill (steady_closed roster rings n S)

    ours : (bill : Checksum) (chain : List ChainLink) → EveryEntryWasParted (histories_of bill n.family) chain
        → AreAmong chain (links_in bill n.family)
    ours bill [] g = tt
    ours bill (link ∷ chain) g = (
      among_each (links_of (histories_of bill n.family link.entry.platform)) (links_in bill n.family) link
          ((closed_of bill).among link.entry.platform)
          (parted_is_ours link (histories_of bill n.family link.entry.platform) g.0),
      ours bill chain g.1,
    )

    -- where a chain goes whose entries were parted is a platform of the roster
    chain_listed : (bill : Checksum) (K : List ChainLink) (e : ChainLink) → IsLinked (K ++ e ∷ [])
        → EveryEntryWasParted (histories_of bill n.family) (K ++ e ∷ [])
        → (to : PlatformCode) → destination (K ++ e ∷ []) ≡ Some to → has_platform roster to ≡ true
    chain_listed bill K e linked g to goes =
        let down = grounded_down (links_in bill n.family) (histories_of bill n.family) (closed_of bill) K e
        (record {
          ours = record { linked = linked; among = ours bill (K ++ e ∷ []) g };
          parted = every_is_parted (histories_of bill n.family) (K ++ e ∷ []) g;
        }) in
        steady_listed roster rings n S bill e.entry.platform K e down.parted to goes

    first_is : (ts more : List Transaction) (o : Option Party) → first_actor (ts ++ more) ≡ o
        → (p : PlatformCode) → option_map (λ (t : Transaction). t.actor.platform) (slice_get ts 0) ≡ Some p
        → option_map (λ (x : Party). x.platform) o ≡ Some p
    first_is [] more o is p turn = cc turn
    first_is (t ∷ ts) more o is p turn = ap (option_map (λ (x : Party). x.platform)) (sym is) ∙ turn

    turn_after : (c : List ChainLink) (e : ChainLink) → platform_at_turn c e.entry ≡ Some e.entry.platform
        → (c ≡ [] → ⊥) → destination c ≡ Some e.entry.platform
    turn_after [] e turn some = absurd (some refl)
    turn_after (x ∷ xs) e turn some = turn

    -- the platform whose turn it is is one of the roster: the carrier's, or the one to which the chain goes so far
    turn_listed : (document : DocumentRecord) (bill : Checksum) (K : List ChainLink) (e : ChainLink)
        (rest : List ChainLink)
        → IsLinked K → EveryEntryWasParted (histories_of bill n.family) K
        → FollowsChain bill K e.entry → IsBegunByCarrier roster document (transactions_of (K ++ e ∷ rest))
        → has_platform roster e.entry.platform ≡ true
    turn_listed document bill K e rest linked g follows begun = on_end (from_the_end K)
      where
        on_none : K ≡ [] → has_platform roster e.entry.platform ≡ true
        on_none none =
            let turn : platform_at_turn [] e.entry ≡ Some e.entry.platform
            = subst (λ (c : List ChainLink). platform_at_turn c e.entry ≡ Some e.entry.platform) none
            follows.platform in
            let acts : first_actor (e.entry.transactions ++ transactions_of rest) ≡ Some begun.0
            = subst (λ (c : List ChainLink). first_actor (transactions_of (c ++ e ∷ rest)) ≡ Some begun.0) none
            begun.2 in
            let platforms = first_is e.entry.transactions (transactions_of rest) (Some begun.0) acts e.entry.platform
            turn in
            let same : begun.0.platform ≡ e.entry.platform = cc platforms in
            subst (λ (p : PlatformCode). has_platform roster p ≡ true) same
            (G.carriers document.provider document.code begun.0 begun.1)

        on_end : (K ≡ []) ⊎ HasLast K → has_platform roster e.entry.platform ≡ true
        on_end (inl none) = on_none none
        on_end (inr l) =
            let turn = turn_after K e follows.platform (λ none. not_empty l.front l.last (sym l.parts ∙ none)) in
            chain_listed bill l.front l.last (subst IsLinked l.parts linked)
            (subst (EveryEntryWasParted (histories_of bill n.family)) l.parts g) e.entry.platform
            (ap destination (sym l.parts) ∙ turn)

    -- each link of a good chain was parted, if each text that a platform of the roster signed was
    pub honest_parted : (keys : Keys) (document : DocumentRecord) (bill : Checksum) (texts : List SignedText)
        (K chain : List ChainLink)
        → IsLinked K → EveryEntryWasParted (histories_of bill n.family) K
        → AreLinks keys texts chain → FollowEachOther bill K chain
        → IsBegunByCarrier roster document (transactions_of (K ++ chain))
        → ((text : SignedText) → IsAmong text texts → (who : PlatformCode) (value : Value)
        → IsSigned keys 16384 text.0 who value → has_platform roster who ≡ true → IsPartedText n.family text)
        → EveryEntryWasParted (histories_of bill n.family) (K ++ chain)
    honest_parted keys document bill [] K [] linked g links follow begun each =
        subst (EveryEntryWasParted (histories_of bill n.family)) (sym (append-none K)) g
    honest_parted keys document bill [] K (link ∷ chain) linked g links follow begun each = absurd links
    honest_parted keys document bill (text ∷ texts) K [] linked g links follow begun each = absurd links
    honest_parted keys document bill (text ∷ texts) K (link ∷ chain) linked g links follow begun each =
        let listed = turn_listed document bill K link chain linked g follow.0 begun in
        let parted : IsPartedText n.family link.text = subst (IsPartedText n.family) (sym links.0.text)
        (each text (inl refl) link.entry.platform links.0.value links.0.signed listed) in
        let has : HasParted link (histories_of bill n.family link.entry.platform)
        = subst (λ (b : Checksum). HasParted link (histories_of b n.family link.entry.platform)) follow.0.bill_is
        (parted_link link (link_is keys text link links.0) parted) in
        subst (EveryEntryWasParted (histories_of bill n.family)) (append_assoc K (link ∷ []) chain)
        (honest_parted keys document bill texts (K ++ link ∷ []) chain
        (one_more linked link follow.0.previous)
        (every_push (histories_of bill n.family) K link g has)
        links.1 follow.1
        (subst (λ (c : List ChainLink). IsBegunByCarrier roster document (transactions_of c))
        (sym (append_assoc K (link ∷ []) chain)) begun)
        (λ t among. each t (inr among)))
