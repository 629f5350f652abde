-- Texts whose links are known.
use Rattle.std.proofs.Common.{◌≡◌, ◌≤◌, ℕ, zero, suc, List, [], ◌∷◌, ◌++◌, Some, length, refl, sym, ap, ◌∙◌, subst, arith, append_assoc, append-nil}
use Rattle.std.specs.Prelude.{slice_get}
use Rattle.std.proofs.lemmas.List.{length-append}
use Rattle.ebl_base.specs.declared.chain.ChainLink.{ChainLink}
use Rattle.ebl_base.specs.declared.checksum.Checksum.{Checksum}
use Rattle.ebl_base.specs.declared.signed_text.SignedText.{SignedText}
use Rattle.party_roster.specs.RosterRecord.{RosterRecord}
use Rattle.signed_envelope.specs.KeyRing.{Keys}
use Rattle.bill_chain.specs.Chain.{transactions_of, FollowEachOther}
use Rattle.transport_document.specs.DocumentRecord.{DocumentRecord, bill_of}
use Rattle.transfer_chain.specs.Checked.{texts_of}
use Rattle.transfer_chain.specs.GoodChain.{IsLink, AreLinks, IsBegunByCarrier, IsGoodChain}
use Rattle.transfer_chain.proofs.GoodChainLemmas.{links-front}
use Rattle.transfer_chain.proofs.PassLemmas.{first_actor-more}

-- the known link at a place is that of its text
known_at : (keys : Keys) (known : List ChainLink) (place : ℕ) (link : ChainLink) → slice_get known place ≡ Some link
    → AreLinks keys (texts_of known) known → IsLink keys link.text link
known_at keys [] place link at are = cc
known_at keys (first ∷ known) zero link at are =
    let same : first ≡ link = cc in
    subst (λ (l : ChainLink). IsLink keys l.text l) same are.0
known_at keys (first ∷ known) (suc place) link at are = known_at keys known place link at are.1

-- texts of the same bytes are one
one_text : (a b : SignedText) → a.0 ≡ b.0 → a ≡ b
one_text a b same = ap (λ (bytes : List ℕ). record { 0 = bytes }) same

-- a copy of the known link at a place is that of a text of the same bytes
pub known-link : (keys : Keys) (known : List ChainLink) (place : ℕ) (link copied : ChainLink) (text : SignedText)
    → slice_get known place ≡ Some link → AreLinks keys (texts_of known) known → link.text.0 ≡ text.0
    → copied ≡ link → IsLink keys text copied
known-link keys known place link copied text at are same copy =
    subst (λ l. IsLink keys text l) (sym copy)
    (subst (λ t. IsLink keys t link) (one_text link.text text same) (known_at keys known place link at are))

-- the links of a good chain are those of its own texts
pub good-own : (roster : RosterRecord) (keys : Keys) (document : DocumentRecord) (texts : List SignedText)
    (chain : List ChainLink) → IsGoodChain roster keys document texts chain → AreLinks keys (texts_of chain) chain
good-own roster keys document texts chain good =
    links-front keys texts chain [] (subst (AreLinks keys texts) (sym (append-nil chain)) good.links)

-- ---- a good chain, and what follows it

links-behind : (keys : Keys) (texts more : List SignedText) (front rest : List ChainLink) → AreLinks keys texts front
    → AreLinks keys more rest → AreLinks keys (texts ++ more) (front ++ rest)
links-behind keys [] more [] rest are behind = behind
links-behind keys [] more (link ∷ front) rest are behind = absurd are
links-behind keys (text ∷ texts) more [] rest are behind = absurd are
links-behind keys (text ∷ texts) more (link ∷ front) rest are behind =
    (are.0, links-behind keys texts more front rest are.1 behind)

behind-links : (keys : Keys) (texts more : List SignedText) (front rest : List ChainLink) → AreLinks keys texts front
    → AreLinks keys (texts ++ more) (front ++ rest) → AreLinks keys more rest
behind-links keys [] more [] rest are whole = whole
behind-links keys [] more (link ∷ front) rest are whole = absurd are
behind-links keys (text ∷ texts) more [] rest are whole = absurd are
behind-links keys (text ∷ texts) more (link ∷ front) rest are whole =
    behind-links keys texts more front rest are.1 whole.1

follow-behind : (bill : Checksum) (before front rest : List ChainLink) → FollowEachOther bill before front
    → FollowEachOther bill (before ++ front) rest → FollowEachOther bill before (front ++ rest)
follow-behind bill before [] rest h behind = subst (λ ls. FollowEachOther bill ls rest) (append-nil before) behind
follow-behind bill before (link ∷ front) rest h behind = (
  h.0,
  follow-behind bill (before ++ link ∷ []) front rest h.1
      (subst (λ ls. FollowEachOther bill ls rest) (sym (append_assoc before (link ∷ []) front)) behind),
)

behind-follow : (bill : Checksum) (before front rest : List ChainLink) → FollowEachOther bill before (front ++ rest)
    → FollowEachOther bill (before ++ front) rest
behind-follow bill before [] rest h = subst (λ ls. FollowEachOther bill ls rest) (sym (append-nil before)) h
behind-follow bill before (link ∷ front) rest h =
    subst (λ ls. FollowEachOther bill ls rest) (append_assoc before (link ∷ []) front)
    (behind-follow bill (before ++ link ∷ []) front rest h.1)

transactions-behind : (front rest : List ChainLink)
    → transactions_of (front ++ rest) ≡ transactions_of front ++ transactions_of rest
transactions-behind [] rest = refl
transactions-behind (link ∷ front) rest =
    ap (λ ts. link.entry.transactions ++ ts) (transactions-behind front rest)
    ∙ sym (append_assoc link.entry.transactions (transactions_of front) (transactions_of rest))

begun-behind : (roster : RosterRecord) (document : DocumentRecord) (front rest : List ChainLink)
    → IsBegunByCarrier roster document (transactions_of front)
    → IsBegunByCarrier roster document (transactions_of (front ++ rest))
begun-behind roster document front rest h =
    subst (IsBegunByCarrier roster document) (sym (transactions-behind front rest))
    (h.0, h.1, first_actor-more (transactions_of front) (transactions_of rest) h.0 h.2)

pub good-goes_on : (roster : RosterRecord) (keys : Keys) (document : DocumentRecord) (texts more : List SignedText)
    (front rest : List ChainLink) → IsGoodChain roster keys document texts front → AreLinks keys more rest
    → FollowEachOther (bill_of document) front rest → length (texts ++ more) ≤ 64
    → IsGoodChain roster keys document (texts ++ more) (front ++ rest)
good-goes_on roster keys document texts more front rest good links follow most =
    let some = good.some in
    let len = length-append texts more in
    record {
      some = omega (arith, some, len);
      most = most;
      links = links-behind keys texts more front rest good.links links;
      carrier = begun-behind roster document front rest good.carrier;
      entries = follow-behind (bill_of document) [] front rest good.entries follow;
    }

pub good-behind : (roster : RosterRecord) (keys : Keys) (document : DocumentRecord) (texts more : List SignedText)
    (front rest : List ChainLink) → IsGoodChain roster keys document texts front
    → IsGoodChain roster keys document (texts ++ more) (front ++ rest)
    → AreLinks keys more rest × FollowEachOther (bill_of document) front rest
good-behind roster keys document texts more front rest good whole = (
  behind-links keys texts more front rest good.links whole.links,
  behind-follow (bill_of document) [] front rest whole.entries,
)
