-- What the pass over all entries says of a chain.
use Rattle.std.proofs.Common.{◌≡◌, ◌≤◌, ◌+◌, ℕ, List, [], ◌∷◌, ◌++◌, Option, Some, None, Result, Ok, Err, length, refl, sym, ap, ◌∙◌, subst, arith, append_assoc, append-nil}
use Rattle.std.specs.Prelude.{option_map}
use Rattle.std.proofs.lemmas.List.{length-append}
use Rattle.std.proofs.lemmas.List.Elements.{All-head, All-tail}
use Rattle.ebl_base.specs.declared.chain.ChainLink.{ChainLink}
use Rattle.ebl_base.specs.declared.checksum.Checksum.{Checksum}
use Rattle.ebl_base.specs.declared.entry.Entry.{Entry}
use Rattle.ebl_base.specs.declared.party.Party.{Party}
use Rattle.ebl_base.specs.declared.transaction.Transaction.{Transaction}
use Rattle.party_roster.specs.RosterRecord.{RosterRecord, carrier}
use Rattle.transport_document.specs.DocumentRecord.{DocumentRecord, bill_of}
use Rattle.title_fold.specs.declared.refusal.FoldRefusal.{FoldRefusal}
use Rattle.title_fold.specs.declared.title.Title.{Title}
use Rattle.bill_chain.specs.Chain as chains
use Rattle.bill_chain.specs.Chain.{last_of, last_name, transactions_of, title_after_chain, FollowEachOther}
use Rattle.title_fold.specs.Fold.{fold, fold_from, fold_on, goes_on}
use Rattle.title_fold.specs.Step.{step_title}
use Rattle.bill_chain.proofs.ChainLemmas.{last_of-push}
use Rattle.bill_chain.proofs.TitleLemmas.{transactions_of-push}
use Rattle.title_fold.proofs.FoldLemmas.{fold-append, fold_from-elsewhere}
use Rattle.transfer_chain.specs.Checked.{HaveTransactions}
use Rattle.transfer_chain.specs.GoodChain.{first_actor}
use Rattle.transfer_chain.specs.Refusal.{IsByCarrier, IsBegunIfAny, IsEntryWrong, IsChainRefused}
use Rattle.transfer_chain.specs.Steps.{after_entry, check_entry, pass}
use Rattle.transfer_chain.specs.declared.fault.ChainRefusal.{ChainRefusal}
use Rattle.transfer_chain.specs.declared.fault.ChainRefusal.TheVariants.{Empty, TooLong, BadSignature, EntryForm, WrongSigner, BrokenLink, WrongBill, Carrier, WrongPlatform, Fold, Move, NoMemory}
use Rattle.transfer_chain.proofs.EntryLemmas.{IsBegun, Stands, EntryWrong, EntryRight, Judged, check_entry-tells}

-- ---- one entry more

-- the last name is that of the last link
pub last_name-push : (front : List ChainLink) (link : ChainLink) → last_name (front ++ link ∷ []) ≡ Some link.name
last_name-push front link = ap (λ last. option_map (λ (l : ChainLink). l.name) last) (last_of-push front link)

-- the title after a chain and one link more
pub title-push : (front : List ChainLink) (link : ChainLink) (before after : Option Title)
    → title_after_chain front ≡ Ok before → fold_from link.entry.transactions before 0 ≡ Ok after
    → title_after_chain (front ++ link ∷ []) ≡ Ok after
title-push front link before after title folds =
    ap fold (transactions_of-push front link)
    ∙ fold-append (transactions_of front) link.entry.transactions
    ∙ ap (λ folded. fold_on folded link.entry.transactions (length (transactions_of front))) title
    ∙ fold_from-elsewhere link.entry.transactions before 0 (length (transactions_of front)) after folds

-- a title that stands goes on to stand
title_stays_on : (ts : List Transaction) (place : ℕ) (after : Option Title)
    → ((first : Title) → fold_from ts (Some first) (place + 1) ≡ Ok after → (stands : Title) × (after ≡ Some stands))
    → (step : Result Title FoldRefusal) → goes_on place (λ x. fold_from ts (Some x) (place + 1)) step ≡ Ok after
    → (stands : Title) × (after ≡ Some stands)
title_stays_on ts place after further (Err rule) h = cc
title_stays_on ts place after further (Ok first) h = further first h

title_stays : (ts : List Transaction) (first : Title) (place : ℕ) (after : Option Title)
    → fold_from ts (Some first) place ≡ Ok after → (stands : Title) × (after ≡ Some stands)
title_stays [] first place after h = (first, let same : Some first ≡ after = cc in sym same)
title_stays (t ∷ ts) first place after h =
    title_stays_on ts place after (λ next. title_stays ts next (place + 1) after) (step_title (Some first) t) h

-- a title stands after a transaction
pub some_title : (ts : List Transaction) (before after : Option Title) (place : ℕ) → 1 ≤ length ts
    → fold_from ts before place ≡ Ok after → (stands : Title) × (after ≡ Some stands)
some_title [] before after place some h = absurd (omega arith)
some_title (t ∷ ts) before after place some h =
    title_stays_on ts place after (λ next. title_stays ts next (place + 1) after) (step_title before t) h

begun-push : (front : List ChainLink) (link : ChainLink) (after : Option Title)
    → ((stands : Title) × (after ≡ Some stands)) → IsBegun (front ++ link ∷ []) after
begun-push [] link after h = h
begun-push (first ∷ front) link after h = h

stands-push : (roster : RosterRecord) (document : DocumentRecord) (front : List ChainLink) (previous : Option Checksum)
    (link : ChainLink) (title after : Option Title) → Stands front previous title
    → 1 ≤ length link.entry.transactions → EntryRight roster document front link.entry title after
    → Stands (front ++ link ∷ []) (Some link.name) after
stands-push roster document front previous link title after stands some right =
    record {
      name = sym (last_name-push front link);
      title = title-push front link title after stands.title right.folds;
      begun = begun-push front link after (some_title link.entry.transactions title after 0 some right.folds);
    }

-- ---- all entries

-- the first of these entries is by the carrier, where none stands before
abbrev FirstByCarrier : RosterRecord → DocumentRecord → List ChainLink → List ChainLink → Type 0
FirstByCarrier roster document front [] = Unit {0}
FirstByCarrier roster document front (link ∷ chain) = IsByCarrier roster document front link.entry

-- one of these entries is wrong, behind those before
record WrongIn (roster : RosterRecord) (document : DocumentRecord) (front chain : List ChainLink) (refusal : ChainRefusal) :
    Type 0 where
  right : List ChainLink
  link : ChainLink
  rest : List ChainLink
  parts : chain ≡ right ++ link ∷ rest
  follow : FollowEachOther (bill_of document) front right
  by_carrier : FirstByCarrier roster document front right
  wrong : EntryWrong roster document (front ++ right) link.entry (length (front ++ right)) refusal

abbrev Passed : RosterRecord → DocumentRecord → List ChainLink → List ChainLink → Result (Option Title) ChainRefusal → Type 0
Passed roster document front chain (Ok title) =
    FollowEachOther (bill_of document) front chain × FirstByCarrier roster document front chain
Passed roster document front chain (Err refusal) = WrongIn roster document front chain refusal

-- one entry that is right in front of the others
passed-more : (roster : RosterRecord) (document : DocumentRecord) (front : List ChainLink) (link : ChainLink)
    (chain : List ChainLink) (title after : Option Title) → EntryRight roster document front link.entry title after
    → (outcome : Result (Option Title) ChainRefusal) → Passed roster document (front ++ link ∷ []) chain outcome
    → Passed roster document front (link ∷ chain) outcome
passed-more roster document front link chain title after right (Ok last) behind =
    ((right.follows, behind.0), right.by_carrier)
passed-more roster document front link chain title after right (Err refusal) behind =
    let whole : (front ++ link ∷ []) ++ behind.right ≡ front ++ link ∷ behind.right =
    append_assoc front (link ∷ []) behind.right in
    record {
      right = link ∷ behind.right;
      link = behind.link;
      rest = behind.rest;
      parts = ap (λ ls. link ∷ ls) behind.parts;
      follow = (right.follows, behind.follow);
      by_carrier = right.by_carrier;
      wrong = subst (λ ls. EntryWrong roster document ls behind.link.entry (length ls) refusal) whole behind.wrong;
    }

pass-tells : (roster : RosterRecord) (document : DocumentRecord) (chain front : List ChainLink) (previous : Option Checksum)
    (title : Option Title) (place : ℕ) → Stands front previous title → place ≡ length front → HaveTransactions chain
    → Passed roster document front chain
    (pass (carrier roster document.provider document.code) (bill_of document) chain previous title place)
pass-tells roster document [] front previous title place stands at some = (tt, tt)
pass-tells roster document (link ∷ chain) front previous title place stands at some =
    by_entry
    (check_entry (carrier roster document.provider document.code) (bill_of document) previous title place link.entry)
    (check_entry-tells roster document front previous title place link.entry stands here)
    (λ after further. pass-tells roster document chain (front ++ link ∷ []) (Some link.name) after (place + 1) further next_place
    (All-tail (λ (l : ChainLink). 1 ≤ length l.entry.transactions) link chain some))
  where
    here : 1 ≤ length link.entry.transactions
    here = All-head (λ (l : ChainLink). 1 ≤ length l.entry.transactions) link chain some

    next_place : place + 1 ≡ length (front ++ link ∷ [])
    next_place = let len = length-append front (link ∷ []) in omega (arith, at, len)

    by_entry : (outcome : Result (Option Title) ChainRefusal)
        → Judged roster document front link.entry place title outcome
        → ((after : Option Title) → Stands (front ++ link ∷ []) (Some link.name) after
        → Passed roster document (front ++ link ∷ []) chain
        (pass (carrier roster document.provider document.code) (bill_of document) chain (Some link.name) after (place + 1)))
        → Passed roster document front (link ∷ chain)
        (after_entry (λ after. pass (carrier roster document.provider document.code) (bill_of document) chain (Some link.name) after (place + 1)) outcome)
    by_entry (Err refusal) wrong further =
        record {
          right = [];
          link = link;
          rest = chain;
          parts = refl;
          follow = tt;
          by_carrier = tt;
          wrong = subst (λ ls. EntryWrong roster document ls link.entry (length ls) refusal) (sym (append-nil front))
              (subst (λ n. EntryWrong roster document front link.entry n refusal) at wrong);
        }
    by_entry (Ok after) right further =
        passed-more roster document front link chain title after right
        (pass (carrier roster document.provider document.code) (bill_of document) chain (Some link.name) after (place + 1))
        (further after (stands-push roster document front previous link title after stands here right))

-- ---- from the first entry on

-- the first actor of a list is that of its front, if that has a transaction
pub first_of : (ts more : List Transaction) (party : Party) → 1 ≤ length ts → first_actor (ts ++ more) ≡ Some party
    → first_actor ts ≡ Some party
first_of [] more party some h = absurd (omega arith)
first_of (t ∷ ts) more party some h = h

-- the first actor of more transactions is that of the first ones
pub first_actor-more : (ts more : List Transaction) (party : Party) → first_actor ts ≡ Some party
    → first_actor (ts ++ more) ≡ Some party
first_actor-more [] more party h = cc
first_actor-more (t ∷ ts) more party h = h

begun_of : (roster : RosterRecord) (document : DocumentRecord) (chain : List ChainLink)
    → FirstByCarrier roster document [] chain → IsBegunIfAny roster document chain
begun_of roster document [] h = tt
begun_of roster document (link ∷ chain) h =
    (h.0, h.1, first_actor-more link.entry.transactions (transactions_of chain) h.0 h.2)

none_before : Stands [] None None
none_before = record { name = refl; title = refl; begun = refl }

-- a chain that passes
pub record PassedChain (roster : RosterRecord) (document : DocumentRecord) (chain : List ChainLink) : Type 0 where
  pub entries : chains.IsChainOfBill (bill_of document) chain
  pub begun : IsBegunIfAny roster document chain

-- an entry that is wrong, as the refusal says it
entry_wrong : (roster : RosterRecord) (document : DocumentRecord) (chain : List ChainLink) (refusal : ChainRefusal)
    → WrongIn roster document [] chain refusal → IsChainRefused roster document chain refusal
entry_wrong roster document chain refusal w = by_refusal refusal w.wrong
  where
    wrong_at : (i : ℕ) (wrong : List ChainLink → Entry → Type 0) → length w.right ≡ i → wrong w.right w.link.entry
        → IsEntryWrong roster document chain i wrong
    wrong_at i wrong place is =
        record {
          front = w.right;
          link = w.link;
          rest = w.rest;
          parts = w.parts;
          place = place;
          good = w.follow;
          begun = begun_of roster document w.right w.by_carrier;
          is_wrong = is;
        }

    by_refusal : (r : ChainRefusal) → EntryWrong roster document w.right w.link.entry (length w.right) r
        → IsChainRefused roster document chain r
    by_refusal (BrokenLink i) h = wrong_at i _ h.0 h.1
    by_refusal (WrongBill i) h = wrong_at i _ h.0 (h.1, h.2)
    by_refusal Carrier h = wrong_at 0 _ (ap length h.0) (h.1, h.2, h.3)
    by_refusal (WrongPlatform i) h = wrong_at i _ h.0 (h.1, h.2, h.3, h.4)
    by_refusal (Fold i k rule) h = wrong_at i _ h.0 (h.1, h.2, h.3, h.4, h.5)
    by_refusal (Move i) h = wrong_at i _ h.0 (h.1, h.2, h.3, h.4, h.5)
    by_refusal Empty h = absurd h
    by_refusal TooLong h = absurd h
    by_refusal (BadSignature i why) h = absurd h
    by_refusal (EntryForm i field) h = absurd h
    by_refusal (WrongSigner i) h = absurd h
    by_refusal NoMemory h = absurd h

pub pass-good : (roster : RosterRecord) (document : DocumentRecord) (chain : List ChainLink) (title : Option Title)
    → HaveTransactions chain
    → pass (carrier roster document.provider document.code) (bill_of document) chain None None 0 ≡ Ok title
    → PassedChain roster document chain
pass-good roster document chain title some h =
    let passed : Passed roster document [] chain (Ok title) =
    subst (Passed roster document [] chain) h (pass-tells roster document chain [] None None 0 none_before refl some) in
    record { entries = passed.0; begun = begun_of roster document chain passed.1 }

pub pass-refused : (roster : RosterRecord) (document : DocumentRecord) (chain : List ChainLink) (refusal : ChainRefusal)
    → HaveTransactions chain
    → pass (carrier roster document.provider document.code) (bill_of document) chain None None 0 ≡ Err refusal
    → IsChainRefused roster document chain refusal
pass-refused roster document chain refusal some h =
    entry_wrong roster document chain refusal
    (subst (Passed roster document [] chain) h (pass-tells roster document chain [] None None 0 none_before refl some))
