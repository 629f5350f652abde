-- Texts and their links.
use Rattle.std.proofs.Common.{◌≡◌, ◌≤◌, ◌<◌, ◌+◌, ℕ, zero, suc, ◌==◌, false, List, [], ◌∷◌, ◌++◌, Ok, length, take, drop, get_or, refl, sym, ap, ◌∙◌, subst, arith}
use Rattle.std.proofs.lemmas.List.{take_more, take-append-drop, length-take-le}
use Rattle.std.proofs.lemmas.List.Elements.{All-nil, All-cons}
use Rattle.std.proofs.Math.Seq.{drop-cons}
use Rattle.canonical_json.specs.Value.{Value}
use Rattle.chain_entry.specs.Form.{IsEntry}
use Rattle.chain_entry.specs.Reading.{entry_of}
use Rattle.chain_entry.proofs.RoundTrips.{entry_form}
use Rattle.ebl_base.specs.declared.chain.ChainLink.{ChainLink}
use Rattle.ebl_base.specs.declared.checksum.Checksum.{Checksum}
use Rattle.ebl_base.specs.declared.entry.Entry.{Entry}
use Rattle.document_checksum.specs.Digest.{checksum_of}
use Rattle.ebl_base.specs.declared.platform_code.PlatformCode.{PlatformCode}
use Rattle.ebl_base.specs.declared.signed_text.SignedText.{SignedText}
use Rattle.signed_envelope.specs.KeyRing.{Keys}
use Rattle.signed_envelope.specs.SignedText.{IsSigned}
use Rattle.transfer_chain.specs.Checked.{texts_of, HaveTransactions}
use Rattle.transfer_chain.specs.GoodChain.{IsLink, AreLinks}
use Rattle.transfer_chain.specs.Refusal.{IsTextWrong, IsTextRefused}
use Rattle.transfer_chain.specs.Steps.{IsTextFault, refusal_at}
use Rattle.transfer_chain.specs.declared.verify_texts.TextFault.{TextFault}
use Rattle.transfer_chain.specs.declared.verify_texts.TextFault.TheVariants.{Signature, Form, Signer, NoMemory}

-- ---- as a loop makes them

AreLinks-push : (keys : Keys) (texts : List SignedText) (links : List ChainLink) (text : SignedText) (link : ChainLink)
    → AreLinks keys texts links → IsLink keys text link → AreLinks keys (texts ++ text ∷ []) (links ++ link ∷ [])
AreLinks-push keys [] [] text link are is = (is, tt)
AreLinks-push keys [] (l ∷ ls) text link are is = absurd are
AreLinks-push keys (t ∷ ts) [] text link are is = absurd are
AreLinks-push keys (t ∷ ts) (l ∷ ls) text link are is = (are.0, AreLinks-push keys ts ls text link are.1 is)

-- the links of one text more
pub links-more : (keys : Keys) (texts : List SignedText) (i : ℕ) (text : SignedText) (links now : List ChainLink) (link : ChainLink)
    → i < length texts → text ≡ get_or texts i text → AreLinks keys (take i texts) links → IsLink keys text link
    → now ≡ links ++ link ∷ [] → AreLinks keys (take (i + 1) texts) now
links-more keys texts i text links now link lt is are link_is pushed =
    subst (AreLinks keys (take (i + 1) texts)) (sym pushed)
    (subst (λ ts. AreLinks keys ts (links ++ link ∷ []))
    (sym (take_more texts i text lt ∙ ap (λ t. take i texts ++ t ∷ []) (sym is)))
    (AreLinks-push keys (take i texts) links text link are link_is))

-- the texts in front, this one, and the rest
split_at : (texts : List SignedText) (i : ℕ) (text : SignedText) → i < length texts → text ≡ get_or texts i text
    → texts ≡ take i texts ++ text ∷ drop (suc i) texts
split_at texts i text lt is =
    sym (take-append-drop i texts)
    ∙ ap (λ ts. take i texts ++ ts) (drop-cons texts i text lt ∙ ap (λ t. t ∷ drop (suc i) texts) (sym is))

-- the first text that is wrong
pub text-refused : (keys : Keys) (texts : List SignedText) (i : ℕ) (text : SignedText) (links : List ChainLink) (fault : TextFault)
    → i < length texts → text ≡ get_or texts i text → AreLinks keys (take i texts) links → IsTextFault keys text fault
    → IsTextRefused keys texts (refusal_at i fault)
text-refused keys texts i text links fault lt is are wrong = by_fault fault wrong
  where
    within : i ≤ length texts
    within = omega arith

    wrong_by : (P : SignedText → Type 0) → P text → IsTextWrong keys texts i P
    wrong_by P holds =
        record {
          front = take i texts;
          text = text;
          rest = drop (suc i) texts;
          parts = split_at texts i text lt is;
          place = length-take-le i texts within;
          links = links;
          right = are;
          is_wrong = holds;
        }

    by_fault : (f : TextFault) → IsTextFault keys text f → IsTextRefused keys texts (refusal_at i f)
    by_fault (Signature why) h = wrong_by _ h
    by_fault (Form field) h = wrong_by _ h
    by_fault Signer h = wrong_by _ h
    by_fault NoMemory h = tt

-- ---- what they have

-- a link is of an entry of the form
pub link_form : (keys : Keys) (text : SignedText) (link : ChainLink) → IsLink keys text link → IsEntry link.entry
link_form keys text link is = entry_form is.value link.entry is.entry

pub links_have_transactions : (keys : Keys) (texts : List SignedText) (chain : List ChainLink)
    → AreLinks keys texts chain → HaveTransactions chain
links_have_transactions keys [] [] are = All-nil (λ (l : ChainLink). 1 ≤ length l.entry.transactions)
links_have_transactions keys [] (link ∷ chain) are = absurd are
links_have_transactions keys (text ∷ texts) [] are = absurd are
links_have_transactions keys (text ∷ texts) (link ∷ chain) are =
    All-cons (λ (l : ChainLink). 1 ≤ length l.entry.transactions) link chain
    (link_form keys text link are.0).some (links_have_transactions keys texts chain are.1)

-- ---- one link

-- what was verified, read and named is a link
pub link_is : (keys : Keys) (t : SignedText) (seen named : List ℕ) (copy : SignedText) (name : Checksum) (entry : Entry)
    (who : PlatformCode) (value : Value) → seen ≡ t.0 → named ≡ t.0 → copy ≡ t → name ≡ checksum_of named
    → IsSigned keys 16384 seen who value → entry_of value ≡ Ok entry → entry.platform ≡ who
    → IsLink keys t (record { text = copy; name = name; entry = entry })
link_is keys t seen named copy name entry who value is_seen is_named is_copy is_name signed reads same =
    record {
      text = is_copy;
      name = is_name ∙ ap checksum_of is_named;
      value = value;
      signed = subst (λ p. IsSigned keys 16384 t.0 p value) (sym same)
          (subst (λ bytes. IsSigned keys 16384 bytes who value) is_seen signed);
      entry = reads;
    }

-- what isn't empty has an item
pub not_empty : (n : ℕ) → false ≡ (n == 0) → 1 ≤ n
not_empty zero h = cc
not_empty (suc n) h = omega arith
