-- Why texts are no good chain: the first cause that applies, texts before links, and of each the first.
use Rattle.std.specs.Prelude.{◌≡◌, ◌≢◌, ◌≤◌, ◌<◌, ◌⊎◌, ℕ, List, [], ◌∷◌, ◌++◌, Option, Some, None, Ok, Err, length}
use Rattle.canonical_json.specs.Value.{Value}
use Rattle.signed_envelope.specs.KeyRing.{Keys}
use Rattle.signed_envelope.specs.SignedText.{IsSigned}
use Rattle.signed_envelope.specs.Refusal as envelope
use Rattle.signed_envelope.specs.declared.fault.BadSigned.{BadSigned}
use Rattle.signed_envelope.specs.declared.fault.BadSigned.TheVariants as bad
use Rattle.chain_entry.specs.Reading.{entry_of}
use Rattle.chain_entry.specs.declared.fault.EntryField.{EntryField}
use Rattle.ebl_base.specs.declared.chain.ChainLink.{ChainLink}
use Rattle.ebl_base.specs.declared.entry.Entry.{Entry}
use Rattle.ebl_base.specs.declared.limits.TheConstants.{MAX_CHAIN_ENTRIES, MAX_SIGNED_TEXT}
use Rattle.ebl_base.specs.declared.platform_code.PlatformCode.{PlatformCode}
use Rattle.ebl_base.specs.declared.signed_text.SignedText.{SignedText}
use Rattle.party_roster.specs.RosterRecord.{RosterRecord}
use Rattle.transport_document.specs.DocumentRecord.{DocumentRecord, bill_of}
use Rattle.title_fold.specs.declared.refusal.FoldRefusal.{FoldRefusal}
use Rattle.title_fold.specs.declared.title.Title.{Title}
use Rattle.bill_chain.specs.Chain as chains
use Rattle.bill_chain.specs.Chain.{last_name, transactions_of, title_after_chain, platform_at_turn, MovesAtItsEnd}
use Rattle.title_fold.specs.Fold.{fold_from}
use Rattle.transfer_chain.specs.GoodChain.{AreLinks, IsBegunByCarrier}
use Rattle.transfer_chain.specs.declared.fault.ChainRefusal.{ChainRefusal}
use Rattle.transfer_chain.specs.declared.fault.ChainRefusal.TheVariants.{Empty, TooLong, BadSignature, EntryForm, WrongSigner, BrokenLink, WrongBill, Carrier, WrongPlatform, Fold, Move, NoMemory}

-- ---- one text

-- it is not signed within the limit, and this is why
abbrev pub IsBadlySigned : Keys → BadSigned → SignedText → Type 0
IsBadlySigned keys why text = (why ≢ bad.NoMemory) × envelope.IsRefused keys MAX_SIGNED_TEXT None text.0 why

-- it is signed, and its payload is no entry: this is the first wrong member
abbrev pub HasNoEntry : Keys → EntryField → SignedText → Type 0
HasNoEntry keys field text =
    (who : PlatformCode) × (value : Value) × IsSigned keys MAX_SIGNED_TEXT text.0 who value
    × (entry_of value ≡ Err field)

-- it is signed by another platform than the one whose entry it is
abbrev pub IsOfAnother : Keys → SignedText → Type 0
IsOfAnother keys text =
    (who : PlatformCode) × (value : Value) × (entry : Entry) × IsSigned keys MAX_SIGNED_TEXT text.0 who value
    × (entry_of value ≡ Ok entry) × (entry.platform ≢ who)

-- this text is wrong, and those before it are right
pub record IsTextWrong (keys : Keys) (texts : List SignedText) (at : ℕ) (wrong : SignedText → Type 0) : Type 0 where
  pub front : List SignedText
  pub text : SignedText
  pub rest : List SignedText
  pub parts : texts ≡ front ++ text ∷ rest
  pub place : length front ≡ at
  pub links : List ChainLink
  pub right : AreLinks keys front links
  pub is_wrong : wrong text

-- the first wrong text
abbrev pub IsTextRefused : Keys → List SignedText → ChainRefusal → Type 0
IsTextRefused keys texts (BadSignature i why) = IsTextWrong keys texts i (IsBadlySigned keys why)
IsTextRefused keys texts (EntryForm i field) = IsTextWrong keys texts i (HasNoEntry keys field)
IsTextRefused keys texts (WrongSigner i) = IsTextWrong keys texts i (IsOfAnother keys)
IsTextRefused keys texts NoMemory = Unit {0}
IsTextRefused keys texts other = ⊥

-- ---- one entry

-- the carrier began the entries, if there are any
abbrev pub IsBegunIfAny : RosterRecord → DocumentRecord → List ChainLink → Type 0
IsBegunIfAny roster document [] = Unit {0}
IsBegunIfAny roster document (link ∷ chain) = IsBegunByCarrier roster document (transactions_of (link ∷ chain))

-- this entry is wrong, and those before it are a good chain of the bill, begun by the carrier if there are any
pub record IsEntryWrong (roster : RosterRecord) (document : DocumentRecord) (chain : List ChainLink) (at : ℕ)
    (wrong : List ChainLink → Entry → Type 0) : Type 0 where
  pub front : List ChainLink
  pub link : ChainLink
  pub rest : List ChainLink
  pub parts : chain ≡ front ++ link ∷ rest
  pub place : length front ≡ at
  pub good : chains.IsChainOfBill (bill_of document) front
  pub begun : IsBegunIfAny roster document front
  pub is_wrong : wrong front link.entry

-- it names the entry before it; the first names none
abbrev pub IsJoined : List ChainLink → Entry → Type 0
IsJoined front entry = entry.previous ≡ last_name front

-- it names the document's bill
abbrev pub IsOfBill : DocumentRecord → Entry → Type 0
IsOfBill document entry = entry.bill ≡ bill_of document

-- where it is the first, the carrier acts first
abbrev pub IsByCarrier : RosterRecord → DocumentRecord → List ChainLink → Entry → Type 0
IsByCarrier roster document [] entry = IsBegunByCarrier roster document entry.transactions
IsByCarrier roster document (link ∷ front) entry = Unit {0}

-- it is of the platform whose turn it is
abbrev pub IsInTurn : List ChainLink → Entry → Type 0
IsInTurn front entry = platform_at_turn front entry ≡ Some entry.platform

-- the transaction at this place of the entry is refused by this rule
abbrev pub IsFoldRefused : ℕ → FoldRefusal → List ChainLink → Entry → Type 0
IsFoldRefused place rule front entry =
    (before : Option Title) × (title_after_chain front ≡ Ok before)
    × (fold_from entry.transactions before 0 ≡ Err (record { place = place; rule = rule }))

-- its transactions fold, and another moves than the last alone
abbrev pub IsMoveRefused : List ChainLink → Entry → Type 0
IsMoveRefused front entry =
    (before : Option Title) × (after : Option Title) × (title_after_chain front ≡ Ok before)
    × (fold_from entry.transactions before 0 ≡ Ok after) × ¬ MovesAtItsEnd before entry.transactions

-- the first wrong entry, and what is wrong with it first
abbrev pub IsChainRefused : RosterRecord → DocumentRecord → List ChainLink → ChainRefusal → Type 0
IsChainRefused roster document chain (BrokenLink i) =
    IsEntryWrong roster document chain i (λ front entry. ¬ IsJoined front entry)
IsChainRefused roster document chain (WrongBill i) =
    IsEntryWrong roster document chain i (λ front entry. IsJoined front entry × ¬ IsOfBill document entry)
IsChainRefused roster document chain Carrier =
    IsEntryWrong roster document chain 0 (λ front entry. IsJoined front entry × IsOfBill document entry
    × ¬ IsByCarrier roster document front entry)
IsChainRefused roster document chain (WrongPlatform i) =
    IsEntryWrong roster document chain i (λ front entry. IsJoined front entry × IsOfBill document entry
    × IsByCarrier roster document front entry × ¬ IsInTurn front entry)
IsChainRefused roster document chain (Fold i k rule) =
    IsEntryWrong roster document chain i (λ front entry. IsJoined front entry × IsOfBill document entry
    × IsByCarrier roster document front entry × IsInTurn front entry × IsFoldRefused k rule front entry)
IsChainRefused roster document chain (Move i) =
    IsEntryWrong roster document chain i (λ front entry. IsJoined front entry × IsOfBill document entry
    × IsByCarrier roster document front entry × IsInTurn front entry × IsMoveRefused front entry)
IsChainRefused roster document chain other = ⊥

-- ---- all texts

-- there are 1 to 64 texts, and one is wrong, or all have links, of which one is wrong
pub record IsRefusedAt (roster : RosterRecord) (keys : Keys) (document : DocumentRecord) (texts : List SignedText)
    (refusal : ChainRefusal) : Type 0 where
  pub some : 1 ≤ length texts
  pub most : length texts ≤ MAX_CHAIN_ENTRIES
  pub cause : IsTextRefused keys texts refusal
      ⊎ ((chain : List ChainLink) × AreLinks keys texts chain × IsChainRefused roster document chain refusal)

-- no text; more than 64, before one is looked at; then the first wrong text; then the first wrong entry
abbrev pub IsRefused : RosterRecord → Keys → DocumentRecord → List SignedText → ChainRefusal → Type 0
IsRefused roster keys document texts Empty = texts ≡ []
IsRefused roster keys document texts TooLong = MAX_CHAIN_ENTRIES < length texts
IsRefused roster keys document texts NoMemory = Unit {0}
IsRefused roster keys document texts refusal = IsRefusedAt roster keys document texts refusal
