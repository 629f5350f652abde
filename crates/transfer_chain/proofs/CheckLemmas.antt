-- What the links and the pass say of the texts.
use Rattle.std.proofs.Common.{◌≡◌, ◌≤◌, List, [], ◌∷◌, Option, None, Ok, Err, length, inl, inr, sym, ap, ◌∙◌, subst, arith}
use Rattle.std.specs.Prelude.{◌⊎◌}
use Rattle.ebl_base.specs.declared.chain.ChainLink.{ChainLink}
use Rattle.ebl_base.specs.declared.checksum.Checksum.{Checksum}
use Rattle.ebl_base.specs.declared.party.Party.{Party}
use Rattle.ebl_base.specs.declared.signed_text.SignedText.{SignedText}
use Rattle.party_roster.specs.RosterRecord.{RosterRecord, carrier}
use Rattle.signed_envelope.specs.KeyRing.{Keys}
use Rattle.bill_chain.specs.Chain.{transactions_of}
use Rattle.title_fold.specs.declared.title.Title.{Title}
use Rattle.transport_document.specs.DocumentRecord.{DocumentRecord, bill_of}
use Rattle.transfer_chain.specs.GoodChain.{AreLinks, IsBegunByCarrier, IsGoodChain}
use Rattle.transfer_chain.specs.Refusal.{IsBegunIfAny, IsTextRefused, IsChainRefused, IsRefusedAt, IsRefused}
use Rattle.transfer_chain.specs.Steps.{pass}
use Rattle.transfer_chain.specs.declared.fault.ChainRefusal.{ChainRefusal}
use Rattle.transfer_chain.specs.declared.fault.ChainRefusal.TheVariants.{Empty, TooLong, BadSignature, EntryForm, WrongSigner, BrokenLink, WrongBill, Carrier, WrongPlatform, Fold, Move, NoMemory}
use Rattle.transfer_chain.proofs.LinkLemmas.{links_have_transactions}
use Rattle.transfer_chain.proofs.PassLemmas.{pass-good, pass-refused}

-- what the code saw of a roster, a document and some texts
pub record Seen (roster : RosterRecord) (document : DocumentRecord) (texts seen : List SignedText) (party : Option Party)
    (bill : Checksum) (items chain : List ChainLink) : Type 0 where
  pub texts_seen : seen ≡ texts
  pub some : 1 ≤ length seen
  pub most : length seen ≤ 64
  pub carrier_seen : party ≡ carrier roster document.provider document.code
  pub bill_seen : bill ≡ bill_of document
  pub chain_seen : chain ≡ items

-- the pass as the code made it is the pass
passed : (roster : RosterRecord) (document : DocumentRecord) (texts seen : List SignedText) (party : Option Party)
    (bill : Checksum) (items chain : List ChainLink) → Seen roster document texts seen party bill items chain
    → pass (carrier roster document.provider document.code) (bill_of document) items None None 0
    ≡ pass party bill chain None None 0
passed roster document texts seen party bill items chain saw =
    ap (λ p. pass p (bill_of document) items None None 0) (sym saw.carrier_seen)
    ∙ ap (λ b. pass party b items None None 0) (sym saw.bill_seen)
    ∙ ap (λ ls. pass party bill ls None None 0) (sym saw.chain_seen)

begun : (roster : RosterRecord) (keys : Keys) (document : DocumentRecord) (texts : List SignedText) (chain : List ChainLink)
    → 1 ≤ length texts → AreLinks keys texts chain → IsBegunIfAny roster document chain
    → IsBegunByCarrier roster document (transactions_of chain)
begun roster keys document [] chain some are h = absurd (omega arith)
begun roster keys document (text ∷ texts) [] some are h = absurd are
begun roster keys document (text ∷ texts) (link ∷ chain) some are h = h

pub check-good : (roster : RosterRecord) (keys : Keys) (document : DocumentRecord) (texts seen : List SignedText)
    (party : Option Party) (bill : Checksum) (items chain made : List ChainLink) (title : Option Title)
    → Seen roster document texts seen party bill items chain → AreLinks keys seen items
    → Ok title ≡ pass party bill chain None None 0 → made ≡ items → IsGoodChain roster keys document texts made
check-good roster keys document texts seen party bill items chain made title saw are passes is_made =
    let good = pass-good roster document items title (links_have_transactions keys seen items are)
    (passed roster document texts seen party bill items chain saw ∙ sym passes) in
    subst (IsGoodChain roster keys document texts) (sym is_made)
    (subst (λ ts. IsGoodChain roster keys document ts items) saw.texts_seen (record {
      some = saw.some;
      most = saw.most;
      links = are;
      carrier = begun roster keys document seen items saw.some are good.begun;
      entries = good.entries;
    }))

-- a refusal of 1 to 64 texts
refused_at : (roster : RosterRecord) (keys : Keys) (document : DocumentRecord) (texts : List SignedText) (refusal : ChainRefusal)
    → IsRefusedAt roster keys document texts refusal → IsRefused roster keys document texts refusal
refused_at roster keys document texts (BrokenLink i) h = h
refused_at roster keys document texts (WrongBill i) h = h
refused_at roster keys document texts Carrier h = h
refused_at roster keys document texts (WrongPlatform i) h = h
refused_at roster keys document texts (Fold i k rule) h = h
refused_at roster keys document texts (Move i) h = h
refused_at roster keys document texts (BadSignature i why) h = h
refused_at roster keys document texts (EntryForm i field) h = h
refused_at roster keys document texts (WrongSigner i) h = h
refused_at roster keys document texts NoMemory h = tt
refused_at roster keys document texts Empty h = absurd (by_cause h.cause)
  where
    by_cause : IsTextRefused keys texts Empty
        ⊎ ((chain : List ChainLink) × AreLinks keys texts chain × IsChainRefused roster document chain Empty) → ⊥
    by_cause (inl wrong) = wrong
    by_cause (inr wrong) = wrong.2
refused_at roster keys document texts TooLong h = absurd (by_cause h.cause)
  where
    by_cause : IsTextRefused keys texts TooLong
        ⊎ ((chain : List ChainLink) × AreLinks keys texts chain × IsChainRefused roster document chain TooLong) → ⊥
    by_cause (inl wrong) = wrong
    by_cause (inr wrong) = wrong.2

pub check-entry : (roster : RosterRecord) (keys : Keys) (document : DocumentRecord) (texts seen : List SignedText)
    (party : Option Party) (bill : Checksum) (items chain : List ChainLink) (refusal : ChainRefusal)
    → Seen roster document texts seen party bill items chain → AreLinks keys seen items
    → Err refusal ≡ pass party bill chain None None 0 → IsRefused roster keys document texts refusal
check-entry roster keys document texts seen party bill items chain refusal saw are stops =
    let wrong = pass-refused roster document items refusal (links_have_transactions keys seen items are)
    (passed roster document texts seen party bill items chain saw ∙ sym stops) in
    subst (λ ts. IsRefused roster keys document ts refusal) saw.texts_seen
    (refused_at roster keys document seen refusal
    (record { some = saw.some; most = saw.most; cause = inr (items, are, wrong) }))
