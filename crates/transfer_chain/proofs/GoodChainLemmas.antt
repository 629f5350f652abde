-- What a good chain has: fronts that are good, a title, entries that hand over, one chain of its texts.
use Rattle.std.proofs.Common.{◌≡◌, ◌≢◌, ◌≤◌, suc, Bool, true, false, not, List, [], ◌∷◌, ◌++◌, Option, Some, None, Ok, length, refl, sym, ap, ◌∙◌, subst, arith, append_assoc, append-nil}
use Rattle.std.specs.Prelude.{IsSome, option_map, slice_get}
use Rattle.std.specs.Option.{option_or}
use Rattle.std.proofs.lemmas.List.{length-append}
use Rattle.chain_entry.specs.Reading.{entry_of}
use Rattle.ebl_base.specs.PlatformCode.{code_eq}
use Rattle.ebl_base.proofs.SameLemmas.{code_eq-Decides}
use Rattle.ebl_base.specs.declared.chain.ChainLink.{ChainLink}
use Rattle.ebl_base.specs.declared.checksum.Checksum.{Checksum}
use Rattle.ebl_base.specs.declared.entry.Entry.{Entry}
use Rattle.ebl_base.specs.declared.platform_code.PlatformCode.{PlatformCode}
use Rattle.ebl_base.specs.declared.signed_text.SignedText.{SignedText}
use Rattle.ebl_base.specs.declared.transaction.Transaction.{Transaction}
use Rattle.party_roster.specs.RosterRecord.{RosterRecord}
use Rattle.signed_envelope.specs.KeyRing.{Keys}
use Rattle.signed_envelope.proofs.Readings.{same_signed}
use Rattle.title_fold.specs.declared.title.Title.{Title}
use Rattle.title_fold.specs.declared.title.Title.TheVariants.{Signed}
use Rattle.bill_chain.specs.Chain.{last_of, transactions_of, title_after_chain, platform_with, destination, platform_at_turn, Stays, MovesAtItsEnd, FollowsChain, FollowEachOther}
use Rattle.title_fold.specs.Fold.{fold_from}
use Rattle.title_fold.specs.Movement.{moves}
use Rattle.title_fold.specs.Title.{possessor}
use Rattle.title_fold.proofs.TitleLaws.{begins_as_signed}
use Rattle.transport_document.specs.DocumentRecord.{DocumentRecord, bill_of}
use Rattle.transfer_chain.specs.Checked.{texts_of, IsChecked}
use Rattle.transfer_chain.specs.GoodChain.{IsLink, AreLinks, IsBegunByCarrier, IsGoodChain}
use Rattle.transfer_chain.proofs.LinkLemmas.{link_form, links_have_transactions}
use Rattle.transfer_chain.proofs.PassLemmas.{first_actor-more, first_of, last_name-push, title-push}
use Rattle.transfer_chain.proofs.RunLemmas.{run-folds, ends-run}

-- ---- links

own_link : (keys : Keys) (text : SignedText) (link : ChainLink) → IsLink keys text link → IsLink keys link.text link
own_link keys text link is = subst (λ t. IsLink keys t link) (sym is.text) is

pub links-front : (keys : Keys) (texts : List SignedText) (front rest : List ChainLink)
    → AreLinks keys texts (front ++ rest) → AreLinks keys (texts_of front) front
links-front keys texts [] rest are = tt
links-front keys [] (link ∷ front) rest are = absurd are
links-front keys (text ∷ texts) (link ∷ front) rest are =
    (own_link keys text link are.0, links-front keys texts front rest are.1)

pub links-length : (keys : Keys) (texts : List SignedText) (chain : List ChainLink)
    → AreLinks keys texts chain → length texts ≡ length chain
links-length keys [] [] are = refl
links-length keys [] (link ∷ chain) are = absurd are
links-length keys (text ∷ texts) [] are = absurd are
links-length keys (text ∷ texts) (link ∷ chain) are = ap suc (links-length keys texts chain are.1)

-- the link at a place of the chain
pub link_in : (keys : Keys) (texts : List SignedText) (front : List ChainLink) (link : ChainLink) (rest : List ChainLink)
    → AreLinks keys texts (front ++ link ∷ rest) → IsLink keys link.text link
link_in keys [] [] link rest are = absurd are
link_in keys (text ∷ texts) [] link rest are = own_link keys text link are.0
link_in keys [] (first ∷ front) link rest are = absurd are
link_in keys (text ∷ texts) (first ∷ front) link rest are = link_in keys texts front link rest are.1

-- one text has one link
pub same_link : (keys : Keys) (text : SignedText) (a b : ChainLink) → IsLink keys text a → IsLink keys text b → a ≡ b
same_link keys text a b first second =
    let read = same_signed keys 16384 text.0 a.entry.platform b.entry.platform first.value second.value first.signed second.signed in
    let entries : Ok a.entry ≡ Ok b.entry = sym first.entry ∙ ap entry_of read.1 ∙ second.entry in
    let entry : a.entry ≡ b.entry = cc in
    let text_is : a.text ≡ b.text = first.text ∙ sym second.text in
    let name : a.name ≡ b.name = first.name ∙ sym second.name in
    let made : SignedText × Checksum × Entry → ChainLink = λ parts. record { text = parts.0; name = parts.1; entry = parts.2 } in
    λ i. made (text_is i, name i, entry i)

pub same_links : (keys : Keys) (texts : List SignedText) (a b : List ChainLink)
    → AreLinks keys texts a → AreLinks keys texts b → a ≡ b
same_links keys [] [] [] first second = refl
same_links keys [] [] (y ∷ ys) first second = absurd second
same_links keys [] (x ∷ xs) b first second = absurd first
same_links keys (text ∷ texts) [] b first second = absurd first
same_links keys (text ∷ texts) (x ∷ xs) [] first second = absurd second
same_links keys (text ∷ texts) (x ∷ xs) (y ∷ ys) first second =
    ap (λ l. l ∷ xs) (same_link keys text x y first.0 second.0)
    ∙ ap (λ ls. y ∷ ls) (same_links keys texts xs ys first.1 second.1)

-- ---- entries

pub follow-front : (bill : Checksum) (before front rest : List ChainLink) → FollowEachOther bill before (front ++ rest)
    → FollowEachOther bill before front
follow-front bill before [] rest h = tt
follow-front bill before (link ∷ front) rest h = (h.0, follow-front bill (before ++ link ∷ []) front rest h.1)

-- the entry at a place follows those before it
pub follows_at : (bill : Checksum) (before front : List ChainLink) (link : ChainLink) (rest : List ChainLink)
    → FollowEachOther bill before (front ++ link ∷ rest) → FollowsChain bill (before ++ front) link.entry
follows_at bill before [] link rest h = subst (λ ls. FollowsChain bill ls link.entry) (sym (append-nil before)) h.0
follows_at bill before (first ∷ front) link rest h =
    subst (λ ls. FollowsChain bill ls link.entry) (append_assoc before (first ∷ []) front)
    (follows_at bill (before ++ first ∷ []) front link rest h.1)

-- the title after transactions of which the last alone moves
pub ends-folds : (ts : List Transaction) (before : Option Title) (ends : MovesAtItsEnd before ts)
    → fold_from ts before 0 ≡ Ok (Some ends.after)
ends-folds ts before ends =
    run-folds ts before true 0 (record { title = Some ends.after; moves_last = true }) (ends-run ts before 0 ends)

-- the title after one entry more
after_entry : (bill : Checksum) (front : List ChainLink) (link : ChainLink) (f : FollowsChain bill front link.entry)
    → title_after_chain (front ++ link ∷ []) ≡ Ok (Some f.moves.after)
after_entry bill front link f =
    title-push front link f.before (Some f.moves.after) f.title (ends-folds link.entry.transactions f.before f.moves)

-- a title stands after entries that follow each other
follow-fold : (bill : Checksum) (before chain : List ChainLink) (title : Option Title) → FollowEachOther bill before chain
    → title_after_chain before ≡ Ok title
    → (after : Option Title) × (title_after_chain (before ++ chain) ≡ Ok after)
follow-fold bill before [] title h is = (title, ap title_after_chain (append-nil before) ∙ is)
follow-fold bill before (link ∷ chain) title h is =
    let behind = follow-fold bill (before ++ link ∷ []) chain (Some h.0.moves.after) h.1 (after_entry bill before link h.0) in
    (behind.0, ap title_after_chain (sym (append_assoc before (link ∷ []) chain)) ∙ behind.1)

-- ---- where an entry moves possession

-- what doesn't move stays on its platform
same_platform : (a b : PlatformCode) → not (code_eq a b) ≡ false → a ≡ b
same_platform a b h = (code_eq-Decides a b).0 (by_test (code_eq a b) h)
  where
    by_test : (t : Bool) → not t ≡ false → t ≡ true
    by_test true e = refl
    by_test false e = cc

other_platform : (a b : PlatformCode) → not (code_eq a b) ≡ true → a ≡ b → ⊥
other_platform a b h same = by_test (code_eq a b) h ((code_eq-Decides a b).1 same)
  where
    by_test : (t : Bool) → not t ≡ true → t ≡ true → ⊥
    by_test true e f = cc
    by_test false e f = cc

-- a title whose possessor is on this platform
abbrev StandsOn : Option Title → PlatformCode → Type 0
StandsOn title platform = (stands : Title) × (title ≡ Some stands) × ((possessor stands).platform ≡ platform)

stays_on : (ts : List Transaction) (before : Title) (after : Option Title) → Stays (Some before) ts after
    → StandsOn after (possessor before).platform
stays_on [] before after h = (before, h, refl)
stays_on (t ∷ ts) before after h =
    let behind = stays_on ts h.0 after h.3 in (
      behind.0,
      behind.1,
      behind.2
          ∙ sym (same_platform (possessor before).platform (possessor h.0).platform h.2),
    )

-- where no title stood, the first actor's platform has possession before the last transaction
begins_on : (front : List Transaction) (last : Transaction) (between : Option Title) (after : Title) (platform : PlatformCode)
    → Stays None front between → moves between after ≡ true
    → option_map (λ (t : Transaction). t.actor.platform) (slice_get (front ++ last ∷ []) 0) ≡ Some platform
    → StandsOn between platform
begins_on [] last between after platform stays moved first =
    let no : false ≡ true = ap (λ b. moves b after) (sym stays) ∙ moved in cc
begins_on (t ∷ ts) last between after platform stays moved first =
    let behind = stays_on ts stays.0 between stays.3 in
    let signed : stays.0 ≡ Signed t.actor = begins_as_signed t stays.0 stays.1 in
    let actor : t.actor.platform ≡ platform = cc first in
    (behind.0, behind.1, behind.2 ∙ ap (λ (x : Title). (possessor x).platform) signed ∙ actor)

-- a title with a possessor on this platform
stood_on : (title : Option Title) (platform : PlatformCode) → platform_with (Ok title) ≡ Some platform
    → StandsOn title platform
stood_on None platform h = cc
stood_on (Some stands) platform h = (stands, refl, cc)

-- before its last transaction possession is on the platform of the entry
turn_stays : (bill : Checksum) (front : List ChainLink) (entry : Entry) (f : FollowsChain bill front entry)
    → StandsOn f.moves.between entry.platform
turn_stays bill [] entry f =
    let none : Ok None ≡ Ok f.before = f.title in
    let before : f.before ≡ None = cc in
    begins_on f.moves.front f.moves.last f.moves.between f.moves.after entry.platform
    (subst (λ b. Stays b f.moves.front f.moves.between) before f.moves.stays) f.moves.moved
    (ap (λ ts. option_map (λ (t : Transaction). t.actor.platform) (slice_get ts 0)) (sym f.moves.parts) ∙ f.platform)
turn_stays bill (link ∷ front) entry f =
    let before = stood_on f.before entry.platform (sym (ap platform_with f.title) ∙ f.platform) in
    let stays = stays_on f.moves.front before.0 f.moves.between
    (subst (λ b. Stays b f.moves.front f.moves.between) before.1 f.moves.stays) in
    (stays.0, stays.1, stays.2 ∙ before.2)

-- and after it on another
pub moves_away : (bill : Checksum) (front : List ChainLink) (link : ChainLink) → FollowsChain bill front link.entry
    → destination (front ++ link ∷ []) ≢ Some link.entry.platform
moves_away bill front link f same =
    let stood = turn_stays bill front link.entry f in
    let there : Some (possessor f.moves.after).platform ≡ Some link.entry.platform =
    sym (ap platform_with (after_entry bill front link f)) ∙ same in
    let on : (possessor f.moves.after).platform ≡ link.entry.platform = cc in
    other_platform (possessor stood.0).platform (possessor f.moves.after).platform
    (ap (λ b. moves b f.moves.after) (sym stood.1) ∙ f.moves.moved) (stood.2 ∙ sym on)

turn_is_destination : (front : List ChainLink) (link : ChainLink) (entry : Entry)
    → platform_at_turn (front ++ link ∷ []) entry ≡ destination (front ++ link ∷ [])
turn_is_destination [] link entry = refl
turn_is_destination (first ∷ front) link entry = refl

-- ---- good chains

-- the entry at a place of a good chain
pub good-follows : (roster : RosterRecord) (keys : Keys) (document : DocumentRecord) (texts : List SignedText)
    (front : List ChainLink) (link : ChainLink) (rest : List ChainLink)
    → IsGoodChain roster keys document texts (front ++ link ∷ rest) → FollowsChain (bill_of document) front link.entry
good-follows roster keys document texts front link rest good =
    follows_at (bill_of document) [] front link rest good.entries

-- an entry and the next one
pub record HandsOver (front : List ChainLink) (a b : ChainLink) : Type 0 where
  pub previous : b.entry.previous ≡ Some a.name
  pub platform : destination (front ++ a ∷ []) ≡ Some b.entry.platform

pub good-hands_over : (roster : RosterRecord) (keys : Keys) (document : DocumentRecord) (texts : List SignedText)
    (front : List ChainLink) (a b : ChainLink) (rest : List ChainLink)
    → IsGoodChain roster keys document texts (front ++ a ∷ b ∷ rest) → HandsOver front a b
good-hands_over roster keys document texts front a b rest good =
    let follows : FollowsChain (bill_of document) (front ++ a ∷ []) b.entry =
    good-follows roster keys document texts (front ++ a ∷ []) b rest
    (subst (IsGoodChain roster keys document texts) (sym (append_assoc front (a ∷ []) (b ∷ rest))) good) in
    record {
      previous = follows.previous ∙ last_name-push front a;
      platform = sym (turn_is_destination front a b.entry) ∙ follows.platform;
    }

-- the carrier began the front, where it began the whole
begun-front : (roster : RosterRecord) (keys : Keys) (document : DocumentRecord) (texts : List SignedText)
    (front rest : List ChainLink) → 1 ≤ length front → AreLinks keys texts (front ++ rest)
    → IsBegunByCarrier roster document (transactions_of (front ++ rest))
    → IsBegunByCarrier roster document (transactions_of front)
begun-front roster keys document texts [] rest some are h = absurd (omega arith)
begun-front roster keys document [] (link ∷ front) rest some are h = absurd are
begun-front roster keys document (text ∷ texts) (link ∷ front) rest some are h = (
  h.0,
  h.1,
  first_actor-more link.entry.transactions (transactions_of front) h.0
      (first_of link.entry.transactions (transactions_of (front ++ rest)) h.0 (link_form keys text link are.0).some h.2),
)

pub good-front : (roster : RosterRecord) (keys : Keys) (document : DocumentRecord) (texts : List SignedText)
    (front rest : List ChainLink) → IsGoodChain roster keys document texts (front ++ rest) → 1 ≤ length front
    → IsGoodChain roster keys document (texts_of front) front
good-front roster keys document texts front rest good some =
    let links = links-front keys texts front rest good.links in
    let count = links-length keys (texts_of front) front links in
    let all = links-length keys texts (front ++ rest) good.links in
    let len = length-append front rest in
    let most = good.most in
    record {
      some = omega (arith, count);
      most = omega (arith, count, all, len, most);
      links = links;
      carrier = begun-front roster keys document texts front rest some good.links good.carrier;
      entries = follow-front (bill_of document) [] front rest good.entries;
    }

pub good-checked : (roster : RosterRecord) (keys : Keys) (document : DocumentRecord) (texts : List SignedText)
    (chain : List ChainLink) → IsGoodChain roster keys document texts chain → IsChecked chain
good-checked roster keys document texts chain good =
    record {
      folds = follow-fold (bill_of document) [] chain None good.entries refl;
      some = links_have_transactions keys texts chain good.links;
    }

-- a good chain has a last entry
last_there : (link : ChainLink) (chain : List ChainLink) (last : Option ChainLink) → IsSome (option_or last (Some link))
last_there link chain None = refl
last_there link chain (Some other) = refl

pub good-last : (roster : RosterRecord) (keys : Keys) (document : DocumentRecord) (texts : List SignedText)
    (chain : List ChainLink) → IsGoodChain roster keys document texts chain → IsSome (last_of chain)
good-last roster keys document texts [] good =
    let count = links-length keys texts [] good.links in
    let some = good.some in
    absurd (omega arith)
good-last roster keys document texts (link ∷ chain) good = last_there link chain (last_of chain)
