-- The good chain: signed texts of entries, each of which may follow those before it, and begun by the carrier.
use Rattle.std.specs.Prelude.{◌≡◌, ◌≤◌, List, [], ◌∷◌, Option, Some, None, Ok, All, Contains, length}
use Rattle.canonical_json.specs.Value.{Value}
use Rattle.document_checksum.specs.Digest.{checksum_of}
use Rattle.signed_envelope.specs.KeyRing.{Keys}
use Rattle.signed_envelope.specs.SignedText.{IsSigned}
use Rattle.chain_entry.specs.Reading.{entry_of}
use Rattle.ebl_base.specs.declared.chain.ChainLink.{ChainLink}
use Rattle.ebl_base.specs.declared.limits.TheConstants.{MAX_CHAIN_ENTRIES, MAX_SIGNED_TEXT}
use Rattle.ebl_base.specs.declared.party.Party.{Party}
use Rattle.ebl_base.specs.declared.signed_text.SignedText.{SignedText}
use Rattle.ebl_base.specs.declared.transaction.Transaction.{Transaction}
use Rattle.party_roster.specs.RosterRecord.{RosterRecord, carrier}
use Rattle.transport_document.specs.DocumentRecord.{DocumentRecord, bill_of}
use Rattle.bill_chain.specs.Chain as chains
use Rattle.bill_chain.specs.Chain.{transactions_of}

-- the link is that of a text: the text, its name, and the entry that its payload is, of the platform that signed it
pub record IsLink (keys : Keys) (t : SignedText) (link : ChainLink) : Type 0 where
  pub text : link.text ≡ t
  pub name : link.name ≡ checksum_of t.0
  pub value : Value
  pub signed : IsSigned keys MAX_SIGNED_TEXT t.0 link.entry.platform value
  pub entry : entry_of value ≡ Ok link.entry

-- the links are those of the texts, one for each
abbrev pub AreLinks : Keys → List SignedText → List ChainLink → Type 0
AreLinks keys [] [] = Unit {0}
AreLinks keys [] (link ∷ chain) = ⊥
AreLinks keys (text ∷ texts) [] = ⊥
AreLinks keys (text ∷ texts) (link ∷ chain) = IsLink keys text link × AreLinks keys texts chain

-- the actor of the first transaction
abbrev pub first_actor : List Transaction → Option Party
first_actor [] = None
first_actor (t ∷ ts) = Some t.actor

-- the roster's carrier of the document acts first
abbrev pub IsBegunByCarrier : RosterRecord → DocumentRecord → List Transaction → Type 0
IsBegunByCarrier roster document transactions =
    (party : Party) × (carrier roster document.provider document.code ≡ Some party)
    × (first_actor transactions ≡ Some party)

-- 1 to 64 texts, their links, which the carrier began, and each of which may follow those before it
pub record IsGoodChain (roster : RosterRecord) (keys : Keys) (document : DocumentRecord) (texts : List SignedText)
    (chain : List ChainLink) : Type 0 where
  pub some : 1 ≤ length texts
  pub most : length texts ≤ MAX_CHAIN_ENTRIES
  pub links : AreLinks keys texts chain
  pub carrier : IsBegunByCarrier roster document (transactions_of chain)
  pub entries : chains.IsChainOfBill (bill_of document) chain

-- no two different texts of the list have one name
abbrev pub HaveDistinctNames : List SignedText → Type 0
HaveDistinctNames texts =
    (a b : SignedText) → Contains texts a → Contains texts b → checksum_of a.0 ≡ checksum_of b.0 → a ≡ b

-- the name of each link is that of its text
abbrev pub HaveOwnNames : List ChainLink → Type 0
HaveOwnNames chain = All (λ (link : ChainLink). link.name ≡ checksum_of link.text.0) chain
