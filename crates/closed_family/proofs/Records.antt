-- Records of a history: those of the diary, and what their links and documents are.
use Rattle.std.proofs.Common.{◌≡◌, ℕ, Bool, true, false, cond, List, [], ◌∷◌, ◌++◌, refl, sym, ap, subst, ◌∙◌, inl, inr}
use Rattle.std.specs.Prelude.{◌⊎◌}
use Rattle.ebl_base.specs.Checksum.{checksum_eq}
use Rattle.ebl_base.specs.declared.chain.ChainLink.{ChainLink}
use Rattle.ebl_base.specs.declared.checksum.Checksum.{Checksum}
use Rattle.ebl_base.specs.declared.platform_code.PlatformCode.{PlatformCode}
use Rattle.ebl_base.specs.declared.transaction.Transaction.{Transaction}
use Rattle.bill_diary.specs.declared.record.Record.{Record}
use Rattle.bill_diary.specs.declared.record.Record.TheVariants.{Signed, Parted, Begun}
use Rattle.bill_diary.specs.History.{bill_of, of_bill}
use Rattle.bill_diary.specs.Texts.{LinkIsItsText, LinksAreTheirTexts, IsDocumentOf}
use Rattle.bill_diary.specs.Sound.{IsSoundHistory}
use Rattle.closed_family.specs.Chains.{IsAmong, AreAmong}
use Rattle.closed_family.specs.Histories.{is_signed, links_of}
use Rattle.closed_family.specs.Family.{IsTextOf}
use Rattle.closed_family.proofs.Names.{checksum_eq-same}

-- ---- items of lists

pub among_more : {X : Type 0} (x : X) (xs ys : List X) → IsAmong x ys → IsAmong x (xs ++ ys)
among_more x [] ys h = h
among_more x (y ∷ xs) ys h = inr (among_more x xs ys h)

pub among_before : {X : Type 0} (x : X) (xs ys : List X) → IsAmong x xs → IsAmong x (xs ++ ys)
among_before x [] ys h = absurd h
among_before x (y ∷ xs) ys (inl same) = inl same
among_before x (y ∷ xs) ys (inr h) = inr (among_before x xs ys h)

pub among_either : {X : Type 0} (x : X) (xs ys : List X) → IsAmong x (xs ++ ys) → IsAmong x xs ⊎ IsAmong x ys
among_either x [] ys h = inr h
among_either x (y ∷ xs) ys (inl same) = inl (inl same)
among_either x (y ∷ xs) ys (inr h) = on_parts (among_either x xs ys h)
  where
    on_parts : IsAmong x xs ⊎ IsAmong x ys → IsAmong x (y ∷ xs) ⊎ IsAmong x ys
    on_parts (inl first) = inl (inr first)
    on_parts (inr later) = inr later

-- each item of a list is among it
pub all_among : (chain : List ChainLink) (links : List ChainLink)
    → ((e : ChainLink) → IsAmong e chain → IsAmong e links) → AreAmong chain links
all_among [] links each = tt
all_among (x ∷ xs) links each = (each x (inl refl), all_among xs links (λ e among. each e (inr among)))

-- ---- the records of one bill

-- a record of a bill's history is one of the diary's, and of the bill
pub record IsOfBill (bill : Checksum) (records : List Record) (r : Record) : Type 0 where
  pub among : IsAmong r records
  pub of_it : bill_of r ≡ bill

pub of_bill-among : (bill : Checksum) (records : List Record) (r : Record)
    → IsAmong r (of_bill bill records) → IsOfBill bill records r
of_bill-among bill [] r h = absurd h
of_bill-among bill (x ∷ xs) r h = on_test (checksum_eq (bill_of x) bill) refl h (of_bill-among bill xs r)
  where
    later : IsOfBill bill xs r → IsOfBill bill (x ∷ xs) r
    later o = record { among = inr o.among; of_it = o.of_it }

    on_test : (b : Bool) → checksum_eq (bill_of x) bill ≡ b
        → IsAmong r (cond b (x ∷ of_bill bill xs) (of_bill bill xs))
        → (IsAmong r (of_bill bill xs) → IsOfBill bill xs r)
        → IsOfBill bill (x ∷ xs) r
    on_test true is (inl same) further =
        record { among = inl same; of_it = ap bill_of (sym same) ∙ checksum_eq-same (bill_of x) bill is }
    on_test true is (inr old) further = later (further old)
    on_test false is old further = later (further old)

-- ---- links

-- a link stands in a record of the history, and is its text
pub record LinkStands (h : List Record) (link : ChainLink) : Type 0 where
  pub r : Record
  pub among : IsAmong r h
  pub is_text : IsTextOf r link.text.0
  pub is_its_text : LinkIsItsText link

link_of_chain : (chain : List ChainLink) (link : ChainLink) → LinksAreTheirTexts chain → IsAmong link chain
    → LinkIsItsText link
link_of_chain [] link are h = absurd h
link_of_chain (x ∷ xs) link are (inl same) = subst LinkIsItsText same are.0
link_of_chain (x ∷ xs) link are (inr h) = link_of_chain xs link are.1 h

stands_later : (r : Record) (h : List Record) (link : ChainLink) → LinkStands h link → LinkStands (r ∷ h) link
stands_later r h link s = record
    { r = s.r; among = inr s.among; is_text = s.is_text; is_its_text = s.is_its_text }

pub link_stands : (me : PlatformCode) (h : List Record) → IsSoundHistory me h
    → (link : ChainLink) → IsAmong link (links_of h) → LinkStands h link
link_stands me [] sound link among = absurd among
link_stands me (Parted bill parted manifest text ∷ h) sound link (inl same) = record {
  r = Parted bill parted manifest text;
  among = inl refl;
  is_text = inl (ap (λ (l : ChainLink). l.text.0) same);
  is_its_text = subst LinkIsItsText same sound.0.link_is;
}
link_stands me (Parted bill parted manifest text ∷ h) sound link (inr old) =
    stands_later (Parted bill parted manifest text) h link (link_stands me h sound.1 link old)
link_stands me (Begun bill chain manifest body ∷ h) sound link among =
    on_parts (among_either link chain (links_of h) among) (link_stands me h sound.1 link)
  where
    on_parts : IsAmong link chain ⊎ IsAmong link (links_of h) → (IsAmong link (links_of h) → LinkStands h link)
        → LinkStands (Begun bill chain manifest body ∷ h) link
    on_parts (inl here) further = record {
      r = Begun bill chain manifest body;
      among = inl refl;
      is_text = inl (link, here, refl);
      is_its_text = link_of_chain chain link sound.0.links_are here;
    }
    on_parts (inr old) further = stands_later (Begun bill chain manifest body) h link (further old)
link_stands me (r ∷ h) sound link among = stands_later r h link (link_stands me h sound.1 link among)

-- ---- documents

-- the bill was signed by this record
pub record SignedBy (h : List Record) : Type 0 where
  pub bill : Checksum
  pub document : List ℕ
  pub transaction : Transaction
  pub among : IsAmong (Signed bill document transaction) h
  pub document_is : IsDocumentOf bill document

signed_later : (r : Record) (h : List Record) → SignedBy h → SignedBy (r ∷ h)
signed_later r h s = record {
  bill = s.bill;
  document = s.document;
  transaction = s.transaction;
  among = inr s.among;
  document_is = s.document_is;
}

pub signed_by : (me : PlatformCode) (h : List Record) → IsSoundHistory me h → is_signed h ≡ true → SignedBy h
signed_by me [] sound signed = cc
signed_by me (Signed bill document t ∷ h) sound signed = record {
  bill = bill;
  document = document;
  transaction = t;
  among = inl refl;
  document_is = sound.0.document_is;
}
signed_by me (r ∷ h) sound signed = signed_later r h (signed_by me h sound.1 signed)
