-- Under distinct names: the last name fixes the chain, and chains meet as their texts do.
use Rattle.std.proofs.Common.{◌≡◌, ◌≢◌, ◌≤◌, ℕ, zero, suc, List, [], ◌∷◌, ◌++◌, Some, None, length, refl, sym, ap, ◌∙◌, subst, arith, append_assoc}
use Rattle.std.specs.Prelude.{Contains}
use Rattle.std.proofs.lemmas.List.{length-append}
use Rattle.std.proofs.lemmas.List.Elements.{All-head, All-tail, Contains-append_left, Contains-append_right}
use Rattle.document_checksum.specs.Digest.{checksum_of}
use Rattle.ebl_base.specs.declared.chain.ChainLink.{ChainLink}
use Rattle.ebl_base.specs.declared.checksum.Checksum.{Checksum}
use Rattle.ebl_base.specs.declared.signed_text.SignedText.{SignedText}
use Rattle.party_roster.specs.RosterRecord.{RosterRecord}
use Rattle.signed_envelope.specs.KeyRing.{Keys}
use Rattle.bill_chain.specs.Chain.{names_of, last_name, FollowsChain, FollowEachOther}
use Rattle.transport_document.specs.DocumentRecord.{DocumentRecord, bill_of}
use Rattle.transfer_chain.specs.Checked.{texts_of}
use Rattle.transfer_chain.specs.GoodChain.{IsLink, AreLinks, IsGoodChain, HaveDistinctNames, HaveOwnNames}
use Rattle.transfer_chain.specs.Meeting.{IsFront, PartAt, Meet}
use Rattle.transfer_chain.specs.declared.compare.Meeting.{Meeting}
use Rattle.transfer_chain.specs.declared.compare.Meeting.TheVariants.{Equal, FirstIsPrefix, SecondIsPrefix, Parts}
use Rattle.transfer_chain.proofs.PassLemmas.{last_name-push}
use Rattle.transfer_chain.proofs.GoodChainLemmas.{link_in, same_link, follow-front, follows_at}

-- ---- what stands in a list

here : {T : Type 0} (x : T) (xs : List T) → Contains (x ∷ xs) x
here x xs = (0, omega arith, refl)

behind : {T : Type 0} (y x : T) (xs : List T) → Contains xs x → Contains (y ∷ xs) x
behind y x xs is = Contains-append_right (y ∷ []) xs x is

-- the link is named by its text, which is one of these
record IsNamed (texts : List SignedText) (link : ChainLink) : Type 0 where
  name : link.name ≡ checksum_of link.text.0
  text : Contains texts link.text

abbrev HaveNames : List SignedText → List ChainLink → Type 0
HaveNames texts [] = Unit {0}
HaveNames texts (link ∷ chain) = IsNamed texts link × HaveNames texts chain

named-more : (texts : List SignedText) (chain : List ChainLink) → HaveOwnNames chain
    → ((t : SignedText) → Contains (texts_of chain) t → Contains texts t) → HaveNames texts chain
named-more texts [] own within = tt
named-more texts (link ∷ chain) own within = (
  record {
    name = All-head (λ (l : ChainLink). l.name ≡ checksum_of l.text.0) link chain own;
    text = within link.text (here link.text (texts_of chain));
  },
  named-more texts chain (All-tail (λ (l : ChainLink). l.name ≡ checksum_of l.text.0) link chain own)
      (λ t is. within t (behind link.text t (texts_of chain) is)),
)

-- one name, one text
one_text : (texts : List SignedText) (x y : ChainLink) → HaveDistinctNames texts → IsNamed texts x → IsNamed texts y
    → x.name ≡ y.name → x.text ≡ y.text
one_text texts x y distinct a b same =
    distinct x.text y.text a.text b.text (sym a.name ∙ same ∙ b.name)

-- ---- chains meet as their texts do

equal_texts : (texts : List SignedText) (a b : List ChainLink) → HaveDistinctNames texts → HaveNames texts a → HaveNames texts b
    → names_of a ≡ names_of b → texts_of a ≡ texts_of b
equal_texts texts [] [] distinct first second same = refl
equal_texts texts [] (y ∷ b) distinct first second same = cc
equal_texts texts (x ∷ a) [] distinct first second same = cc
equal_texts texts (x ∷ a) (y ∷ b) distinct first second same =
    let name : x.name ≡ y.name = cc in
    let rest : names_of a ≡ names_of b = cc in
    ap (λ t. t ∷ texts_of a) (one_text texts x y distinct first.0 second.0 name)
    ∙ ap (λ ts. y.text ∷ ts) (equal_texts texts a b distinct first.1 second.1 rest)

front_texts : (texts : List SignedText) (a b : List ChainLink) → HaveDistinctNames texts → HaveNames texts a → HaveNames texts b
    → IsFront (names_of a) (names_of b) → IsFront (texts_of a) (texts_of b)
front_texts texts [] [] distinct first second (x, rest, same) = cc
front_texts texts [] (y ∷ b) distinct first second h = (y.text, texts_of b, refl)
front_texts texts (x ∷ a) [] distinct first second (z, rest, same) = cc
front_texts texts (x ∷ a) (y ∷ b) distinct first second (z, rest, same) =
    let name : y.name ≡ x.name = cc in
    let more : names_of b ≡ names_of a ++ z ∷ rest = cc in
    let further = front_texts texts a b distinct first.1 second.1 (z, rest, more) in (
      further.0,
      further.1,
      ap (λ t. t ∷ texts_of b) (one_text texts y x distinct second.0 first.0 name)
          ∙ ap (λ ts. x.text ∷ ts) further.2,
    )

part_texts : (texts : List SignedText) (a b : List ChainLink) (at : ℕ) → HaveDistinctNames texts → HaveNames texts a
    → HaveNames texts b → (front : List Checksum) (x y : Checksum) (xs ys : List Checksum)
    → names_of a ≡ front ++ x ∷ xs → names_of b ≡ front ++ y ∷ ys → length front ≡ at → x ≢ y
    → PartAt (texts_of a) (texts_of b) at
part_texts texts [] b at distinct first second [] x y xs ys in_a in_b far differ = cc
part_texts texts [] b at distinct first second (z ∷ front) x y xs ys in_a in_b far differ = cc
part_texts texts (l ∷ a) [] at distinct first second [] x y xs ys in_a in_b far differ = cc
part_texts texts (l ∷ a) [] at distinct first second (z ∷ front) x y xs ys in_a in_b far differ = cc
part_texts texts (l ∷ a) (m ∷ b) at distinct first second [] x y xs ys in_a in_b far differ =
    record {
      front = [];
      x = l.text;
      xs = texts_of a;
      y = m.text;
      ys = texts_of b;
      first = refl;
      second = refl;
      place = far;
      differ = λ same. differ (sym name_a ∙ first.0.name ∙ ap (λ (t : SignedText). checksum_of t.0) same
          ∙ sym second.0.name ∙ name_b);
    }
  where
    name_a : l.name ≡ x
    name_a = cc

    name_b : m.name ≡ y
    name_b = cc
part_texts texts (l ∷ a) (m ∷ b) at distinct first second (z ∷ front) x y xs ys in_a in_b far differ =
    let name : l.name ≡ m.name = cc in
    let more_a : names_of a ≡ front ++ x ∷ xs = cc in
    let more_b : names_of b ≡ front ++ y ∷ ys = cc in
    let further = part_texts texts a b (length front) distinct first.1 second.1 front x y xs ys more_a more_b refl differ in
    record {
      front = l.text ∷ further.front;
      x = further.x;
      xs = further.xs;
      y = further.y;
      ys = further.ys;
      first = ap (λ ts. l.text ∷ ts) further.first;
      second = ap (λ t. t ∷ texts_of b) (sym (one_text texts l m distinct first.0 second.0 name))
          ∙ ap (λ ts. l.text ∷ ts) further.second;
      place = ap suc further.place ∙ far;
      differ = further.differ;
    }

meet_named : (texts : List SignedText) (a b : List ChainLink) (meeting : Meeting) → HaveDistinctNames texts
    → HaveNames texts a → HaveNames texts b → Meet (names_of a) (names_of b) meeting
    → Meet (texts_of a) (texts_of b) meeting
meet_named texts a b Equal distinct first second h = equal_texts texts a b distinct first second h
meet_named texts a b FirstIsPrefix distinct first second h = front_texts texts a b distinct first second h
meet_named texts a b SecondIsPrefix distinct first second h = front_texts texts b a distinct second first h
meet_named texts a b (Parts at) distinct first second h =
    part_texts texts a b at distinct first second h.front h.x h.y h.xs h.ys h.first h.second h.place h.differ

pub meet-texts : (a b : List ChainLink) (meeting : Meeting) → HaveOwnNames a → HaveOwnNames b
    → HaveDistinctNames (texts_of a ++ texts_of b) → Meet (names_of a) (names_of b) meeting
    → Meet (texts_of a) (texts_of b) meeting
meet-texts a b meeting first second distinct h =
    meet_named (texts_of a ++ texts_of b) a b meeting distinct
    (named-more (texts_of a ++ texts_of b) a first (λ t is. Contains-append_left (texts_of a) (texts_of b) t is))
    (named-more (texts_of a ++ texts_of b) b second (λ t is. Contains-append_right (texts_of a) (texts_of b) t is)) h

-- ---- the last name fixes the chain

-- a list and its last item
unpushed : (chain : List ChainLink) → 1 ≤ length chain
    → (front : List ChainLink) × (last : ChainLink) × (chain ≡ front ++ last ∷ [])
unpushed [] some = absurd (omega arith)
unpushed (x ∷ []) some = ([], x, refl)
unpushed (x ∷ y ∷ chain) some =
    let more = unpushed (y ∷ chain) (omega arith) in
    (x ∷ more.0, more.1, ap (λ ls. x ∷ ls) more.2)

-- entries that follow each other, with links of texts among these
record IsRooted (keys : Keys) (texts : List SignedText) (chain : List ChainLink) : Type 0 where
  bill : Checksum
  follow : FollowEachOther bill [] chain
  links : (front : List ChainLink) (link : ChainLink) (rest : List ChainLink) → chain ≡ front ++ link ∷ rest
      → IsLink keys link.text link × Contains texts link.text

rooted-front : (keys : Keys) (texts : List SignedText) (front : List ChainLink) (link : ChainLink)
    → IsRooted keys texts (front ++ link ∷ []) → IsRooted keys texts front
rooted-front keys texts front link h =
    record {
      bill = h.bill;
      follow = follow-front h.bill [] front (link ∷ []) h.follow;
      links = λ f l r parts. h.links f l (r ++ link ∷ []) (ap (λ ls. ls ++ link ∷ []) parts ∙ append_assoc f (l ∷ r) (link ∷ []));
    }

no_name : (chain : List ChainLink) → None ≡ last_name chain → chain ≡ []
no_name [] h = refl
no_name (x ∷ chain) h =
    let parts = unpushed (x ∷ chain) (omega arith) in
    let some : None ≡ Some parts.1.name = h ∙ ap last_name parts.2 ∙ last_name-push parts.0 parts.1 in
    cc

determined : (n : ℕ) (keys : Keys) (texts : List SignedText) (a b : List ChainLink) → HaveDistinctNames texts
    → length a ≡ n → IsRooted keys texts a → IsRooted keys texts b → last_name a ≡ last_name b → a ≡ b
determined zero keys texts [] b distinct n first second same = sym (no_name b same)
determined zero keys texts (x ∷ a) b distinct n first second same = cc
determined (suc n) keys texts [] b distinct len first second same = cc
determined (suc n) keys texts (x ∷ a) [] distinct len first second same = cc (no_name (x ∷ a) (sym same))
determined (suc n) keys texts (x ∷ a) (y ∷ b) distinct len first second same =
    by_last (unpushed (x ∷ a) (omega arith)) (unpushed (y ∷ b) (omega arith))
    (λ front other shorter one two names. determined n keys texts front other distinct shorter one two names)
  where
    by_last : ((front : List ChainLink) × (last : ChainLink) × ((x ∷ a) ≡ front ++ last ∷ []))
        → ((other : List ChainLink) × (end : ChainLink) × ((y ∷ b) ≡ other ++ end ∷ []))
        → ((front other : List ChainLink) → length front ≡ n → IsRooted keys texts front → IsRooted keys texts other
        → last_name front ≡ last_name other → front ≡ other) → (x ∷ a) ≡ (y ∷ b)
    by_last (front, last, is_a) (other, end, is_b) further =
        let rooted_a : IsRooted keys texts (front ++ last ∷ []) = subst (IsRooted keys texts) is_a first in
        let rooted_b : IsRooted keys texts (other ++ end ∷ []) = subst (IsRooted keys texts) is_b second in
        let named : Some last.name ≡ Some end.name =
        sym (last_name-push front last) ∙ ap last_name (sym is_a) ∙ same ∙ ap last_name is_b ∙ last_name-push other end in
        let name : last.name ≡ end.name = cc in
        let link_a = rooted_a.links front last [] refl in
        let link_b = rooted_b.links other end [] refl in
        let text : last.text ≡ end.text =
        distinct last.text end.text link_a.1 link_b.1 (sym link_a.0.name ∙ name ∙ link_b.0.name) in
        let link : last ≡ end =
        same_link keys end.text last end (subst (λ t. IsLink keys t last) text link_a.0) link_b.0 in
        let follows_a : FollowsChain rooted_a.bill front last.entry = follows_at rooted_a.bill [] front last [] rooted_a.follow in
        let follows_b : FollowsChain rooted_b.bill other end.entry = follows_at rooted_b.bill [] other end [] rooted_b.follow in
        let names : last_name front ≡ last_name other =
        sym follows_a.previous ∙ ap (λ (l : ChainLink). l.entry.previous) link ∙ follows_b.previous in
        let count : length (x ∷ a) ≡ length (front ++ last ∷ []) = ap length is_a in
        let pushed = length-append front (last ∷ []) in
        let fronts : front ≡ other =
        further front other (omega (arith, len, count, pushed)) (rooted-front keys texts front last rooted_a)
        (rooted-front keys texts other end rooted_b) names in
        is_a ∙ ap (λ ls. ls ++ last ∷ []) fronts ∙ ap (λ l. other ++ l ∷ []) link ∙ sym is_b

-- a link's text is one of the texts
text_within : (keys : Keys) (texts : List SignedText) (front : List ChainLink) (link : ChainLink) (rest : List ChainLink)
    → AreLinks keys texts (front ++ link ∷ rest) → Contains texts link.text
text_within keys [] [] link rest are = absurd are
text_within keys (text ∷ texts) [] link rest are = subst (Contains (text ∷ texts)) (sym are.0.text) (here text texts)
text_within keys [] (first ∷ front) link rest are = absurd are
text_within keys (text ∷ texts) (first ∷ front) link rest are =
    behind text link.text texts (text_within keys texts front link rest are.1)

rooted : (roster : RosterRecord) (keys : Keys) (document : DocumentRecord) (texts all : List SignedText) (chain : List ChainLink)
    → IsGoodChain roster keys document texts chain → ((t : SignedText) → Contains texts t → Contains all t)
    → IsRooted keys all chain
rooted roster keys document texts all chain good within =
    record {
      bill = bill_of document;
      follow = good.entries;
      links = λ front link rest parts.
          let are : AreLinks keys texts (front ++ link ∷ rest) = subst (AreLinks keys texts) parts good.links in
          (link_in keys texts front link rest are, within link.text (text_within keys texts front link rest are));
    }

pub last_name-determines : (roster other : RosterRecord) (keys : Keys) (document another : DocumentRecord)
    (texts more : List SignedText) (a b : List ChainLink) → IsGoodChain roster keys document texts a
    → IsGoodChain other keys another more b → HaveDistinctNames (texts ++ more) → last_name a ≡ last_name b → a ≡ b
last_name-determines roster other keys document another texts more a b first second distinct same =
    determined (length a) keys (texts ++ more) a b distinct refl
    (rooted roster keys document texts (texts ++ more) a first (λ t is. Contains-append_left texts more t is))
    (rooted other keys another more (texts ++ more) b second (λ t is. Contains-append_right texts more t is)) same
