-- In a legal diary the carrier of a title that stands where the bill is held is on a listed platform.
use Rattle.std.proofs.Common.{◌≡◌, Bool, true, false, cond, List, [], ◌∷◌, ◌++◌, Option, Some, None, Ok, refl, sym, ap, subst, ◌∙◌}
use Rattle.std.specs.Prelude.{option_map}
use Rattle.std.proofs.lemmas.List.{append_assoc}
use Rattle.ebl_base.specs.Checksum.{checksum_eq}
use Rattle.ebl_base.specs.declared.checksum.Checksum.{Checksum}
use Rattle.ebl_base.specs.declared.chain.ChainLink.{ChainLink}
use Rattle.ebl_base.specs.declared.party.Party.{Party}
use Rattle.ebl_base.specs.declared.platform_code.PlatformCode.{PlatformCode}
use Rattle.ebl_base.specs.declared.transaction.Transaction.{Transaction}
use Rattle.party_roster.specs.RosterRecord.{RosterRecord, carrier, has_platform}
use Rattle.party_roster.specs.RosterForm.{IsRoster}
use Rattle.signed_envelope.specs.KeyRing.{Keys}
use Rattle.title_fold.specs.declared.title.Title.{Title}
use Rattle.title_fold.specs.Title as title
use Rattle.title_fold.specs.Fold.{fold}
use Rattle.title_fold.proofs.FoldLemmas.{fold-begun}
use Rattle.bill_chain.specs.Chain.{ends_in, transactions_of}
use Rattle.bill_chain.proofs.TitleLemmas.{transactions_of-push}
use Rattle.transfer_chain.specs.GoodChain.{first_actor}
use Rattle.bill_diary.specs.declared.record.Record.{Record}
use Rattle.bill_diary.specs.declared.record.Record.TheVariants.{Signed, Acted, Attached, Parted, Settled, Regained, Begun, Stored, Taken, Declined}
use Rattle.bill_diary.specs.declared.bill_place.BillPlace.TheVariants.{Held}
use Rattle.bill_diary.specs.History.{bill_of, of_bill}
use Rattle.bill_diary.specs.Known.{Received, last_begun, taken_chain, settled_chain, told, known, longer}
use Rattle.bill_diary.specs.Place.{place_of, since}
use Rattle.bill_diary.specs.Sound.{IsSoundHistory}
use Rattle.bill_diary.proofs.PlaceLemmas.{stands, absent_knows_nothing}
use Rattle.bill_diary.proofs.KnownLemmas.{tells_known, settled_is_told, taken_tells, settled_tells}
use Rattle.party_roster.proofs.CarrierLemmas.{carrier_listed, party_on_listed}
use Rattle.transfer_judge.specs.Legal.{AreLegal, FollowsLegally}

-- ---- transactions whose first actor is on a listed platform

pub record StartsListed (roster : RosterRecord) (ts : List Transaction) : Type 0 where
  pub first : Party
  pub is : first_actor ts ≡ Some first
  pub listed : has_platform roster first.platform ≡ true

first_more : (ts more : List Transaction) (party : Party) → first_actor ts ≡ Some party
    → first_actor (ts ++ more) ≡ Some party
first_more [] more party is = absurd (let no : None ≡ Some party = is in cc)
first_more (t ∷ ts) more party is = is

starts_more : (roster : RosterRecord) (ts more : List Transaction) → StartsListed roster ts
    → StartsListed roster (ts ++ more)
starts_more roster ts more s =
    record { first = s.first; is = first_more ts more s.first s.is; listed = s.listed }

-- one transaction more, behind two lists
starts_again : (roster : RosterRecord) (a b : List Transaction) (t : Transaction) → StartsListed roster (a ++ b)
    → StartsListed roster (a ++ (b ++ t ∷ []))
starts_again roster a b t s =
    subst (StartsListed roster) (append_assoc a b (t ∷ [])) (starts_more roster (a ++ b) (t ∷ []) s)

-- ---- what the records say

-- of the first actor: who signs, and who began a chain that came
abbrev SaysListed : RosterRecord → Record → Type 0
SaysListed roster (Signed b x t) = has_platform roster t.actor.platform ≡ true
SaysListed roster (Begun b c m x) = StartsListed roster (transactions_of c)
SaysListed roster r = Unit {0}

abbrev AllListed : RosterRecord → List Record → Type 0
AllListed roster [] = Unit {0}
AllListed roster (r ∷ h) = SaysListed roster r × AllListed roster h

abbrev IfChain : RosterRecord → Option (List ChainLink) → Type 0
IfChain roster None = Unit {0}
IfChain roster (Some chain) = StartsListed roster (transactions_of chain)

-- where a chain is known, it starts so with what was made on it; where none is, nothing was made
abbrev IfKnown : RosterRecord → Option (List ChainLink) → List Transaction → Type 0
IfKnown roster None made = made ≡ []
IfKnown roster (Some chain) made = StartsListed roster (transactions_of chain ++ made)

record Begins (roster : RosterRecord) (h : List Record) : Type 0 where
  begun : (entry : Checksum) → IfChain roster (taken_chain entry h)
  settled : (entry : Checksum) → IfChain roster (settled_chain entry h)
  made : IfKnown roster (known h) (since h)

if_known : (roster : RosterRecord) (o : Option (List ChainLink)) (chain : List ChainLink) (made : List Transaction)
    → o ≡ Some chain → IfChain roster o → IfKnown roster o made
if_known roster None chain made is starts = absurd (let no : None ≡ Some chain = is in cc)
if_known roster (Some other) chain made is starts = starts_more roster (transactions_of other) made starts

-- ---- one record more

on_signed : (roster : RosterRecord) (o : Option (List ChainLink)) (made : List Transaction) (t : Transaction)
    → o ≡ None → IfKnown roster o made → has_platform roster t.actor.platform ≡ true
    → StartsListed roster (transactions_of (longer [] o) ++ (made ++ t ∷ []))
on_signed roster None made t none is listed =
    subst (λ (ts : List Transaction). StartsListed roster (ts ++ t ∷ [])) (sym is)
    (record { first = t.actor; is = refl; listed = listed })
on_signed roster (Some chain) made t none is listed = absurd (let no : Some chain ≡ None = none in cc)

on_acted : (roster : RosterRecord) (o : Option (List ChainLink)) (chain : List ChainLink) (made : List Transaction)
    (t : Transaction) → o ≡ Some chain → IfKnown roster o made → IfKnown roster o (made ++ t ∷ [])
on_acted roster None chain made t is starts = absurd (let no : None ≡ Some chain = is in cc)
on_acted roster (Some other) chain made t is starts = starts_again roster (transactions_of other) made t starts

on_parted : (roster : RosterRecord) (o : Option (List ChainLink)) (chain : List ChainLink) (made : List Transaction)
    (link : ChainLink) (last : Transaction) → o ≡ Some chain → IfKnown roster o made
    → link.entry.transactions ≡ made ++ last ∷ []
    → IfChain roster (option_map (λ (known : List ChainLink). known ++ link ∷ []) o)
on_parted roster None chain made link last is starts parts = tt
on_parted roster (Some other) chain made link last is starts parts =
    subst (StartsListed roster)
    (sym (transactions_of-push other link
    ∙ ap (λ (ts : List Transaction). transactions_of other ++ ts) parts))
    (starts_again roster (transactions_of other) made last starts)

begins_more : (roster : RosterRecord) (me : PlatformCode) (r : Record) (h : List Record) → SaysListed roster r
    → IsSoundHistory me (r ∷ h) → Begins roster h → Begins roster (r ∷ h)
begins_more roster me (Signed b x t) h says sound i = record {
  begun = i.begun;
  settled = i.settled;
  made = on_signed roster (known h) (since h) t (absent_knows_nothing h sound.0.absent) i.made says;
}
begins_more roster me (Acted b t) h says sound i =
    let there = stands h (Held sound.0.known sound.0.since) sound.0.held in
    record {
      begun = i.begun;
      settled = i.settled;
      made = on_acted roster (known h) sound.0.known (since h) t there.known_is i.made;
    }
begins_more roster me (Parted b link m x) h says sound i =
    record { begun = i.begun; settled = λ entry. on_test entry (checksum_eq link.name entry); made = i.made }
  where
    whole : IfChain roster (option_map (λ (known : List ChainLink). known ++ link ∷ []) (known h))
    whole =
        let there = stands h (Held sound.0.known sound.0.since) sound.0.held in
        on_parted roster (known h) sound.0.known (since h) link sound.0.last there.known_is i.made
        (sound.0.transactions ∙ ap (λ (ts : List Transaction). ts ++ sound.0.last ∷ []) (sym there.since_is))

    on_test : (entry : Checksum) (test : Bool)
        → IfChain roster (cond test (option_map (λ (known : List ChainLink). known ++ link ∷ []) (known h)) (settled_chain entry h))
    on_test entry true = whole
    on_test entry false = i.settled entry
begins_more roster me (Begun b c m x) h says sound i =
    record { begun = λ entry. on_test entry (ends_in entry c); settled = i.settled; made = i.made }
  where
    on_test : (entry : Checksum) (test : Bool)
        → IfChain roster (option_map (λ (came : Received). came.chain) (cond test (Some (record { chain = c; manifest = m })) (last_begun entry h)))
    on_test entry true = says
    on_test entry false = i.begun entry
begins_more roster me (Taken b e) h says sound i =
    let taken : taken_chain e h ≡ Some sound.0.begun.chain =
    ap (option_map (λ (came : Received). came.chain)) sound.0.begun_is in
    record {
      begun = i.begun;
      settled = i.settled;
      made = subst (λ (o : Option (List ChainLink)). IfKnown roster o []) (sym (taken_tells me b e h sound))
          (if_known roster (taken_chain e h) sound.0.begun.chain [] taken (i.begun e));
    }
begins_more roster me (Settled b e) h says sound i =
    let settled = settled_is_told b e h sound.0 (tells_known me h sound.1) in
    record {
      begun = i.begun;
      settled = i.settled;
      made = subst (λ (o : Option (List ChainLink)). IfKnown roster o (since h)) (sym (settled_tells me b e h sound))
          (if_known roster (settled_chain e h) _ (since h) settled (i.settled e));
    }
begins_more roster me (Regained b e) h says sound i =
    record { begun = i.begun; settled = i.settled; made = i.made }
begins_more roster me (Attached b q x) h says sound i =
    record { begun = i.begun; settled = i.settled; made = i.made }
begins_more roster me (Stored b e c x) h says sound i =
    record { begun = i.begun; settled = i.settled; made = i.made }
begins_more roster me (Declined b e c q v) h says sound i =
    record { begun = i.begun; settled = i.settled; made = i.made }

all_begin : (roster : RosterRecord) (me : PlatformCode) (h : List Record) → AllListed roster h → IsSoundHistory me h
    → Begins roster h
all_begin roster me [] says sound = record { begun = λ entry. tt; settled = λ entry. tt; made = refl }
all_begin roster me (r ∷ h) says sound =
    begins_more roster me r h says.0 sound (all_begin roster me h says.1 sound.1)

-- ---- legal records say so

says_listed : (roster : RosterRecord) (keys : Keys) (me : PlatformCode) → IsRoster roster
    → (records h : List Record) (r : Record) → FollowsLegally roster keys me records h r → SaysListed roster r
says_listed roster keys me is records h (Signed b x t) f =
    party_on_listed roster t.actor is
    (carrier_listed roster f.sound.document_is.document.provider f.sound.document_is.document.code t.actor is f.by_carrier)
says_listed roster keys me is records h (Begun b c m x) f =
    let begins = f.good.carrier in
    record {
      first = begins.0;
      is = begins.2;
      listed = party_on_listed roster begins.0 is
          (carrier_listed roster f.body_is.document_is.document.provider f.body_is.document_is.document.code begins.0 is begins.1);
    }
says_listed roster keys me is records h (Acted b t) f = tt
says_listed roster keys me is records h (Attached b q x) f = tt
says_listed roster keys me is records h (Parted b link m x) f = tt
says_listed roster keys me is records h (Settled b e) f = tt
says_listed roster keys me is records h (Regained b e) f = tt
says_listed roster keys me is records h (Stored b e c x) f = tt
says_listed roster keys me is records h (Taken b e) f = tt
says_listed roster keys me is records h (Declined b e c q v) f = tt

all_listed : (roster : RosterRecord) (keys : Keys) (me : PlatformCode) → IsRoster roster → (bill : Checksum)
    (records : List Record) → AreLegal roster keys me records → AllListed roster (of_bill bill records)
all_listed roster keys me is bill [] legal = tt
all_listed roster keys me is bill (r ∷ records) legal =
    on_test (checksum_eq (bill_of r) bill) (all_listed roster keys me is bill records legal.2)
  where
    on_test : (test : Bool) → AllListed roster (of_bill bill records)
        → AllListed roster (cond test (r ∷ of_bill bill records) (of_bill bill records))
    on_test true rest = (says_listed roster keys me is records (of_bill (bill_of r) records) r legal.0, rest)
    on_test false rest = rest

-- ---- the carrier

begun_listed : (roster : RosterRecord) (ts : List Transaction) (before : Title) → StartsListed roster ts
    → fold ts ≡ Ok (Some before) → has_platform roster (title.carrier before).platform ≡ true
begun_listed roster [] before s folds = absurd (let no : None ≡ Some s.first = s.is in cc)
begun_listed roster (t ∷ ts) before s folds =
    let carrier_is : title.carrier before ≡ t.actor = (fold-begun (t ∷ ts) (Some before) folds).1 in
    let actors : Some t.actor ≡ Some s.first = s.is in
    let first_is : t.actor ≡ s.first = cc actors in
    subst (λ (party : Party). has_platform roster party.platform ≡ true) (sym (carrier_is ∙ first_is)) s.listed

pub carrier_is_listed : (roster : RosterRecord) (keys : Keys) (me : PlatformCode) → IsRoster roster → (bill : Checksum)
    (records : List Record) → AreLegal roster keys me records → IsSoundHistory me (of_bill bill records)
    → (K : List ChainLink) (made : List Transaction) (before : Title)
    → place_of (of_bill bill records) ≡ Held K made → fold (transactions_of K ++ made) ≡ Ok (Some before)
    → has_platform roster (title.carrier before).platform ≡ true
carrier_is_listed roster keys me is bill records legal sound K made before held folds =
    let h = of_bill bill records in
    let begins = all_begin roster me h (all_listed roster keys me is bill records legal) sound in
    let there = stands h (Held K made) held in
    let starts : StartsListed roster (transactions_of K ++ since h) =
    subst (λ (o : Option (List ChainLink)). IfKnown roster o (since h)) there.known_is begins.made in
    begun_listed roster (transactions_of K ++ made) before
    (subst (λ (ts : List Transaction). StartsListed roster (transactions_of K ++ ts)) there.since_is starts) folds
