-- Texts that are refused are no good chain.
use Rattle.std.proofs.Common.{◌≡◌, ◌≢◌, ◌≤◌, ℕ, List, [], ◌∷◌, ◌++◌, Option, Some, None, Ok, Err, inl, inr, length, refl, sym, ap, ◌∙◌, subst, arith}
use Rattle.std.specs.Prelude.{◌⊎◌}
use Rattle.chain_entry.specs.Reading.{entry_of}
use Rattle.chain_entry.specs.declared.fault.EntryField.{EntryField}
use Rattle.ebl_base.specs.declared.chain.ChainLink.{ChainLink}
use Rattle.ebl_base.specs.declared.checksum.Checksum.{Checksum}
use Rattle.ebl_base.specs.declared.entry.Entry.{Entry}
use Rattle.ebl_base.specs.declared.signed_text.SignedText.{SignedText}
use Rattle.party_roster.specs.RosterRecord.{RosterRecord}
use Rattle.signed_envelope.specs.KeyRing.{Keys}
use Rattle.signed_envelope.specs.declared.fault.BadSigned.{BadSigned}
use Rattle.signed_envelope.proofs.Readings.{same_signed, refused_or_signed}
use Rattle.title_fold.specs.declared.refusal.FoldAt.{FoldAt}
use Rattle.title_fold.specs.declared.refusal.FoldRefusal.{FoldRefusal}
use Rattle.title_fold.specs.declared.title.Title.{Title}
use Rattle.bill_chain.specs.Chain.{transactions_of, title_after_chain, MovesAtItsEnd, FollowsChain}
use Rattle.title_fold.specs.Fold.{Folded, fold_from}
use Rattle.transport_document.specs.DocumentRecord.{DocumentRecord, bill_of}
use Rattle.transfer_chain.specs.GoodChain.{IsLink, AreLinks, IsGoodChain}
use Rattle.transfer_chain.specs.Refusal.{IsBadlySigned, HasNoEntry, IsOfAnother, IsTextWrong, IsTextRefused, IsByCarrier, IsFoldRefused, IsMoveRefused, IsChainRefused, IsRefusedAt, IsRefused}
use Rattle.transfer_chain.specs.declared.fault.ChainRefusal.{ChainRefusal}
use Rattle.transfer_chain.specs.declared.fault.ChainRefusal.TheVariants.{Empty, TooLong, BadSignature, EntryForm, WrongSigner, BrokenLink, WrongBill, Carrier, WrongPlatform, Fold, Move, NoMemory}
use Rattle.transfer_chain.proofs.LinkLemmas.{link_form}
use Rattle.transfer_chain.proofs.GoodChainLemmas.{same_links, ends-folds, good-follows}
use Rattle.transfer_chain.proofs.PassLemmas.{first_of}

-- ---- texts

-- the link of the text at a place
pub link_there : (keys : Keys) (front : List SignedText) (text : SignedText) (rest : List SignedText) (chain : List ChainLink)
    → AreLinks keys (front ++ text ∷ rest) chain → (link : ChainLink) × IsLink keys text link
link_there keys [] text rest [] are = absurd are
link_there keys [] text rest (link ∷ chain) are = (link, are.0)
link_there keys (first ∷ front) text rest [] are = absurd are
link_there keys (first ∷ front) text rest (link ∷ chain) are = link_there keys front text rest chain are.1

-- a text with a link is not wrong
pub not_badly_signed : (keys : Keys) (why : BadSigned) (text : SignedText) (link : ChainLink) → IsLink keys text link
    → IsBadlySigned keys why text → ⊥
not_badly_signed keys why text link is wrong =
    refused_or_signed keys 16384 None text.0 why link.entry.platform is.value wrong.1 wrong.0 is.signed refl

pub has_entry : (keys : Keys) (field : EntryField) (text : SignedText) (link : ChainLink) → IsLink keys text link
    → HasNoEntry keys field text → ⊥
has_entry keys field text link is wrong =
    let same = same_signed keys 16384 text.0 link.entry.platform wrong.0 is.value wrong.1 is.signed wrong.2 in
    let no : Ok link.entry ≡ Err field = sym is.entry ∙ ap entry_of same.1 ∙ wrong.3 in
    cc

pub not_of_another : (keys : Keys) (text : SignedText) (link : ChainLink) → IsLink keys text link → IsOfAnother keys text → ⊥
not_of_another keys text link is wrong =
    let same = same_signed keys 16384 text.0 link.entry.platform wrong.0 is.value wrong.1 is.signed wrong.3 in
    let both : Ok link.entry ≡ Ok wrong.2 = sym is.entry ∙ ap entry_of same.1 ∙ wrong.4 in
    let entry : link.entry ≡ wrong.2 = cc in
    wrong.5 (ap (λ (e : Entry). e.platform) (sym entry) ∙ same.0)

text_right : (keys : Keys) (texts : List SignedText) (at : ℕ) (P : SignedText → Type 0) (chain : List ChainLink)
    → AreLinks keys texts chain → ((text : SignedText) (link : ChainLink) → IsLink keys text link → P text → ⊥)
    → IsTextWrong keys texts at P → ⊥
text_right keys texts at P chain are never wrong =
    let there = link_there keys wrong.front wrong.text wrong.rest chain (subst (λ ts. AreLinks keys ts chain) wrong.parts are) in
    never wrong.text there.0 there.1 wrong.is_wrong

pub texts_right : (keys : Keys) (texts : List SignedText) (chain : List ChainLink) (refusal : ChainRefusal)
    → AreLinks keys texts chain → refusal ≢ NoMemory → IsTextRefused keys texts refusal → ⊥
texts_right keys texts chain (BadSignature i why) are memory wrong =
    text_right keys texts i (IsBadlySigned keys why) chain are (not_badly_signed keys why) wrong
texts_right keys texts chain (EntryForm i field) are memory wrong =
    text_right keys texts i (HasNoEntry keys field) chain are (has_entry keys field) wrong
texts_right keys texts chain (WrongSigner i) are memory wrong =
    text_right keys texts i (IsOfAnother keys) chain are (not_of_another keys) wrong
texts_right keys texts chain NoMemory are memory wrong = memory refl
texts_right keys texts chain Empty are memory wrong = wrong
texts_right keys texts chain TooLong are memory wrong = wrong
texts_right keys texts chain (BrokenLink i) are memory wrong = wrong
texts_right keys texts chain (WrongBill i) are memory wrong = wrong
texts_right keys texts chain Carrier are memory wrong = wrong
texts_right keys texts chain (WrongPlatform i) are memory wrong = wrong
texts_right keys texts chain (Fold i k rule) are memory wrong = wrong
texts_right keys texts chain (Move i) are memory wrong = wrong

-- ---- entries

pub one_title : (front : List ChainLink) (a b : Option Title) → title_after_chain front ≡ Ok a → title_after_chain front ≡ Ok b
    → a ≡ b
one_title front a b first second =
    let both : Ok a ≡ Ok b = sym first ∙ second in cc

abbrev folded : Option Title → Folded
folded title = Ok title

abbrev stopped : FoldAt → Folded
stopped at = Err at

not_both : (title : Option Title) (at : FoldAt) → folded title ≡ stopped at → ⊥
not_both title at h = cc

pub fold_taken : (front : List ChainLink) (entry : Entry) (place : ℕ) (rule : FoldRefusal) (bill : Checksum)
    → FollowsChain bill front entry → IsFoldRefused place rule front entry → ⊥
fold_taken front entry place rule bill f wrong =
    let title = one_title front f.before wrong.0 f.title wrong.1 in
    not_both (Some f.moves.after) (record { place = place; rule = rule })
    (sym (ends-folds entry.transactions f.before f.moves) ∙ ap (λ t. fold_from entry.transactions t 0) title ∙ wrong.2)

pub move_taken : (front : List ChainLink) (entry : Entry) (bill : Checksum)
    → FollowsChain bill front entry → IsMoveRefused front entry → ⊥
move_taken front entry bill f wrong =
    wrong.4 (subst (λ t. MovesAtItsEnd t entry.transactions) (one_title front f.before wrong.0 f.title wrong.2) f.moves)

by_carrier : (roster : RosterRecord) (keys : Keys) (document : DocumentRecord) (texts : List SignedText)
    (front : List ChainLink) (link : ChainLink) (rest : List ChainLink)
    → IsGoodChain roster keys document texts (front ++ link ∷ rest) → IsByCarrier roster document front link.entry
by_carrier roster keys document [] [] link rest good = absurd good.links
by_carrier roster keys document (text ∷ texts) [] link rest good = (
  good.carrier.0,
  good.carrier.1,
  first_of link.entry.transactions (transactions_of rest) good.carrier.0
      (link_form keys text link good.links.0).some good.carrier.2,
)
by_carrier roster keys document texts (first ∷ front) link rest good = tt

-- what is wrong with the entry at a place of a good chain
entry_right : (roster : RosterRecord) (keys : Keys) (document : DocumentRecord) (texts : List SignedText)
    (chain : List ChainLink) (refusal : ChainRefusal) → IsGoodChain roster keys document texts chain
    → IsChainRefused roster document chain refusal → ⊥
entry_right roster keys document texts chain refusal good = by_refusal refusal
  where
    whole : (front : List ChainLink) (link : ChainLink) (rest : List ChainLink) → chain ≡ front ++ link ∷ rest
        → IsGoodChain roster keys document texts (front ++ link ∷ rest)
    whole front link rest parts = subst (IsGoodChain roster keys document texts) parts good

    follows : (front : List ChainLink) (link : ChainLink) (rest : List ChainLink) → chain ≡ front ++ link ∷ rest
        → FollowsChain (bill_of document) front link.entry
    follows front link rest parts = good-follows roster keys document texts front link rest (subst (IsGoodChain roster keys document texts) parts good)

    carried : (front : List ChainLink) (link : ChainLink) (rest : List ChainLink) → chain ≡ front ++ link ∷ rest
        → IsByCarrier roster document front link.entry
    carried front link rest parts = by_carrier roster keys document texts front link rest (subst (IsGoodChain roster keys document texts) parts good)

    by_refusal : (r : ChainRefusal) → IsChainRefused roster document chain r → ⊥
    by_refusal (BrokenLink i) w = w.is_wrong (follows w.front w.link w.rest w.parts).previous
    by_refusal (WrongBill i) w = w.is_wrong.1 (follows w.front w.link w.rest w.parts).bill_is
    by_refusal Carrier w = w.is_wrong.2 (carried w.front w.link w.rest w.parts)
    by_refusal (WrongPlatform i) w = w.is_wrong.3 (follows w.front w.link w.rest w.parts).platform
    by_refusal (Fold i k rule) w =
        fold_taken w.front w.link.entry k rule (bill_of document) (follows w.front w.link w.rest w.parts) w.is_wrong.4
    by_refusal (Move i) w =
        move_taken w.front w.link.entry (bill_of document) (follows w.front w.link w.rest w.parts) w.is_wrong.4
    by_refusal Empty w = w
    by_refusal TooLong w = w
    by_refusal (BadSignature i why) w = w
    by_refusal (EntryForm i field) w = w
    by_refusal (WrongSigner i) w = w
    by_refusal NoMemory w = w

-- ---- all

refused_at : (roster : RosterRecord) (keys : Keys) (document : DocumentRecord) (texts : List SignedText)
    (chain : List ChainLink) (refusal : ChainRefusal) → refusal ≢ NoMemory → IsGoodChain roster keys document texts chain
    → IsRefusedAt roster keys document texts refusal → ⊥
refused_at roster keys document texts chain refusal memory good refused = by_cause refused.cause
  where
    by_cause : IsTextRefused keys texts refusal
        ⊎ ((links : List ChainLink) × AreLinks keys texts links × IsChainRefused roster document links refusal) → ⊥
    by_cause (inl wrong) = texts_right keys texts chain refusal good.links memory wrong
    by_cause (inr wrong) =
        entry_right roster keys document texts chain refusal good
        (subst (λ ls. IsChainRefused roster document ls refusal) (same_links keys texts wrong.0 chain wrong.1 good.links) wrong.2)

pub refused-not_good : (roster : RosterRecord) (keys : Keys) (document : DocumentRecord) (texts : List SignedText)
    (chain : List ChainLink) (refusal : ChainRefusal) → IsRefused roster keys document texts refusal → refusal ≢ NoMemory
    → IsGoodChain roster keys document texts chain → ⊥
refused-not_good roster keys document texts chain Empty h memory good =
    let some : 1 ≤ length texts = good.some in
    let none : length texts ≡ 0 = ap length h in
    omega (arith, some, none)
refused-not_good roster keys document texts chain TooLong h memory good =
    let most : length texts ≤ 64 = good.most in
    omega (arith, most, h)
refused-not_good roster keys document texts chain NoMemory h memory good = memory refl
refused-not_good roster keys document texts chain (BrokenLink i) h memory good = refused_at roster keys document texts chain (BrokenLink i) memory good h
refused-not_good roster keys document texts chain (WrongBill i) h memory good = refused_at roster keys document texts chain (WrongBill i) memory good h
refused-not_good roster keys document texts chain Carrier h memory good = refused_at roster keys document texts chain Carrier memory good h
refused-not_good roster keys document texts chain (WrongPlatform i) h memory good = refused_at roster keys document texts chain (WrongPlatform i) memory good h
refused-not_good roster keys document texts chain (Fold i k rule) h memory good = refused_at roster keys document texts chain (Fold i k rule) memory good h
refused-not_good roster keys document texts chain (Move i) h memory good = refused_at roster keys document texts chain (Move i) memory good h
refused-not_good roster keys document texts chain (BadSignature i why) h memory good = refused_at roster keys document texts chain (BadSignature i why) memory good h
refused-not_good roster keys document texts chain (EntryForm i field) h memory good = refused_at roster keys document texts chain (EntryForm i field) memory good h
refused-not_good roster keys document texts chain (WrongSigner i) h memory good = refused_at roster keys document texts chain (WrongSigner i) memory good h
