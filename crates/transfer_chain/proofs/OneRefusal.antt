-- Texts have one refusal.
use Rattle.std.proofs.Common.{◌≡◌, ◌≢◌, ◌≤◌, ◌<◌, ℕ, Bool, true, false, List, [], ◌∷◌, ◌++◌, Option, None, Result, Ok, Err, inl, inr, length, refl, sym, ap, ◌∙◌, subst, arith}
use Rattle.std.specs.Prelude.{◌⊎◌}
use Rattle.std.proofs.lemmas.List.{length-append}
use Rattle.canonical_json.specs.Value.{Value}
use Rattle.chain_entry.specs.Reading.{entry_of}
use Rattle.chain_entry.specs.declared.fault.EntryField.{EntryField}
use Rattle.ebl_base.specs.declared.chain.ChainLink.{ChainLink}
use Rattle.ebl_base.specs.declared.entry.Entry.{Entry}
use Rattle.ebl_base.specs.declared.platform_code.PlatformCode.{PlatformCode}
use Rattle.ebl_base.specs.declared.signed_text.SignedText.{SignedText}
use Rattle.ebl_base.specs.declared.transaction.Transaction.{Transaction}
use Rattle.party_roster.specs.RosterRecord.{RosterRecord}
use Rattle.signed_envelope.specs.Compact.{IsCompact}
use Rattle.signed_envelope.specs.Header.{has_crit}
use Rattle.signed_envelope.specs.KeyRing.{Keys}
use Rattle.signed_envelope.specs.Refusal as envelope
use Rattle.signed_envelope.specs.Refusal.{IsNamed, is_asked}
use Rattle.signed_envelope.specs.SignedText.{IsHeader, is_verified}
use Rattle.signed_envelope.specs.declared.alg.Alg.{Alg}
use Rattle.signed_envelope.specs.declared.compact.Parts.{Parts}
use Rattle.signed_envelope.specs.declared.fault.BadSigned.{BadSigned}
use Rattle.signed_envelope.specs.declared.fault.BadSigned.TheVariants as bad
use Rattle.signed_envelope.proofs.Readings.{same_parts, same_signer, same_signed, refused_or_signed}
use Rattle.title_fold.specs.declared.refusal.FoldAt.{FoldAt}
use Rattle.title_fold.specs.declared.refusal.FoldRefusal.{FoldRefusal}
use Rattle.title_fold.specs.declared.title.Title.{Title}
use Rattle.bill_chain.specs.Chain as chains
use Rattle.bill_chain.specs.Chain.{transactions_of, MovesAtItsEnd, FollowsChain}
use Rattle.title_fold.specs.Fold.{Folded, fold_from}
use Rattle.transport_document.specs.DocumentRecord.{DocumentRecord, bill_of}
use Rattle.transfer_chain.specs.GoodChain.{IsLink, AreLinks}
use Rattle.transfer_chain.specs.Refusal.{IsTextWrong, IsTextRefused, IsBegunIfAny, IsByCarrier, IsFoldRefused, IsMoveRefused, IsChainRefused, IsRefusedAt, IsRefused}
use Rattle.transfer_chain.specs.Steps.{IsTextFault, refusal_at}
use Rattle.transfer_chain.specs.declared.fault.ChainRefusal.{ChainRefusal}
use Rattle.transfer_chain.specs.declared.fault.ChainRefusal.TheVariants.{Empty, TooLong, BadSignature, EntryForm, WrongSigner, BrokenLink, WrongBill, Carrier, WrongPlatform, Fold, Move, NoMemory}
use Rattle.transfer_chain.specs.declared.verify_texts.TextFault.{TextFault}
use Rattle.transfer_chain.specs.declared.verify_texts.TextFault.TheVariants as text
use Rattle.transfer_chain.proofs.EntryLemmas.{EntryWrong}
use Rattle.transfer_chain.proofs.GoodChainLemmas.{same_links, follows_at}
use Rattle.transfer_chain.proofs.ExclusionLemmas.{not_badly_signed, has_entry, not_of_another, link_there, texts_right, one_title, fold_taken, move_taken}
use Rattle.transfer_chain.proofs.PassLemmas.{first_of}

-- ---- one cause of a bad signature

-- what is named in a text
one_named : (alg : Alg) (most : ℕ) (t : List ℕ) (p q : Parts) (who other : PlatformCode) (c d : Bool)
    → IsNamed alg most t p who c → IsNamed alg most t q other d → (p ≡ q) × (who ≡ other) × (c ≡ d)
one_named alg most t p q who other c d a b =
    let parts = same_parts most t p q a.compact b.compact in
    let header : IsHeader alg q.header a.head who = subst (λ (x : Parts). IsHeader alg x.header a.head who) parts a.header in
    let signer = same_signer alg q.header a.head b.head who other header b.header in
    (parts, signer.1, sym a.crit ∙ ap has_crit signer.0 ∙ b.crit)

true_false : {b : Bool} → b ≡ true → b ≡ false → ⊥
true_false h k = let no : true ≡ false = sym h ∙ k in cc

no_header : (alg : Alg) (most : ℕ) (t : List ℕ) (p q : Parts) (who : PlatformCode) (c : Bool) → IsCompact most t p
    → ((head : Value) (w : PlatformCode) → ¬ IsHeader alg p.header head w) → IsNamed alg most t q who c → ⊥
no_header alg most t p q who c compact none named =
    none named.head who (subst (λ (x : Parts). IsHeader alg x.header named.head who)
    (same_parts most t q p named.compact compact) named.header)

by_verified : (keys : Keys) (p q : Parts) (who other : PlatformCode) → p ≡ q → who ≡ other
    → is_verified keys p who ≡ false → is_verified keys q other ≡ true → ⊥
by_verified keys p q who other same one refused taken =
    true_false taken (ap (is_verified keys q) (sym one) ∙ ap (λ x. is_verified keys x who) (sym same) ∙ refused)

pub one_refusal : (keys : Keys) (most : ℕ) (asked : Option PlatformCode) (t : List ℕ) (e f : BadSigned)
    → envelope.IsRefused keys most asked t e → envelope.IsRefused keys most asked t f
    → e ≢ bad.NoMemory → f ≢ bad.NoMemory → e ≡ f
one_refusal keys most asked t bad.NotCompact bad.NotCompact a b me mf = refl
one_refusal keys most asked t bad.NotCompact bad.HeaderForm a b me mf = absurd (a b.0 b.1)
one_refusal keys most asked t bad.NotCompact bad.Critical a b me mf = absurd (a b.0 b.2.compact)
one_refusal keys most asked t bad.NotCompact bad.WrongKey a b me mf = absurd (a b.0 b.2.compact)
one_refusal keys most asked t bad.NotCompact bad.Wrong a b me mf = absurd (a b.0 b.2.compact)
one_refusal keys most asked t bad.NotCompact bad.PayloadForm a b me mf = absurd (a b.0 b.2.compact)
one_refusal keys most asked t bad.NotCompact bad.NoMemory a b me mf = absurd (mf refl)
one_refusal keys most asked t bad.HeaderForm bad.NotCompact a b me mf = absurd (b a.0 a.1)
one_refusal keys most asked t bad.HeaderForm bad.HeaderForm a b me mf = refl
one_refusal keys most asked t bad.HeaderForm bad.Critical a b me mf = absurd (no_header keys.alg most t a.0 b.0 b.1 true a.1 a.2 b.2)
one_refusal keys most asked t bad.HeaderForm bad.WrongKey a b me mf = absurd (no_header keys.alg most t a.0 b.0 b.1 false a.1 a.2 b.2)
one_refusal keys most asked t bad.HeaderForm bad.Wrong a b me mf = absurd (no_header keys.alg most t a.0 b.0 b.1 false a.1 a.2 b.2)
one_refusal keys most asked t bad.HeaderForm bad.PayloadForm a b me mf = absurd (no_header keys.alg most t a.0 b.0 b.1 false a.1 a.2 b.2)
one_refusal keys most asked t bad.HeaderForm bad.NoMemory a b me mf = absurd (mf refl)
one_refusal keys most asked t bad.Critical bad.NotCompact a b me mf = absurd (b a.0 a.2.compact)
one_refusal keys most asked t bad.Critical bad.HeaderForm a b me mf = absurd (no_header keys.alg most t b.0 a.0 a.1 true b.1 b.2 a.2)
one_refusal keys most asked t bad.Critical bad.Critical a b me mf = refl
one_refusal keys most asked t bad.Critical bad.WrongKey a b me mf = absurd (true_false refl ((one_named keys.alg most t a.0 b.0 a.1 b.1 true false a.2 b.2).2))
one_refusal keys most asked t bad.Critical bad.Wrong a b me mf = absurd (true_false refl ((one_named keys.alg most t a.0 b.0 a.1 b.1 true false a.2 b.2).2))
one_refusal keys most asked t bad.Critical bad.PayloadForm a b me mf = absurd (true_false refl ((one_named keys.alg most t a.0 b.0 a.1 b.1 true false a.2 b.2).2))
one_refusal keys most asked t bad.Critical bad.NoMemory a b me mf = absurd (mf refl)
one_refusal keys most asked t bad.WrongKey bad.NotCompact a b me mf = absurd (b a.0 a.2.compact)
one_refusal keys most asked t bad.WrongKey bad.HeaderForm a b me mf = absurd (no_header keys.alg most t b.0 a.0 a.1 false b.1 b.2 a.2)
one_refusal keys most asked t bad.WrongKey bad.Critical a b me mf = absurd (true_false refl ((one_named keys.alg most t b.0 a.0 b.1 a.1 true false b.2 a.2).2))
one_refusal keys most asked t bad.WrongKey bad.WrongKey a b me mf = refl
one_refusal keys most asked t bad.WrongKey bad.Wrong a b me mf = absurd (true_false b.3 (ap (is_asked asked) (sym (one_named keys.alg most t a.0 b.0 a.1 b.1 false false a.2 b.2).1) ∙ a.3))
one_refusal keys most asked t bad.WrongKey bad.PayloadForm a b me mf = absurd (true_false b.3 (ap (is_asked asked) (sym (one_named keys.alg most t a.0 b.0 a.1 b.1 false false a.2 b.2).1) ∙ a.3))
one_refusal keys most asked t bad.WrongKey bad.NoMemory a b me mf = absurd (mf refl)
one_refusal keys most asked t bad.Wrong bad.NotCompact a b me mf = absurd (b a.0 a.2.compact)
one_refusal keys most asked t bad.Wrong bad.HeaderForm a b me mf = absurd (no_header keys.alg most t b.0 a.0 a.1 false b.1 b.2 a.2)
one_refusal keys most asked t bad.Wrong bad.Critical a b me mf = absurd (true_false refl ((one_named keys.alg most t b.0 a.0 b.1 a.1 true false b.2 a.2).2))
one_refusal keys most asked t bad.Wrong bad.WrongKey a b me mf = absurd (true_false a.3 (ap (is_asked asked) (sym (one_named keys.alg most t b.0 a.0 b.1 a.1 false false b.2 a.2).1) ∙ b.3))
one_refusal keys most asked t bad.Wrong bad.Wrong a b me mf = refl
one_refusal keys most asked t bad.Wrong bad.PayloadForm a b me mf = absurd (by_verified keys a.0 b.0 a.1 b.1 (one_named keys.alg most t a.0 b.0 a.1 b.1 false false a.2 b.2).0 (one_named keys.alg most t a.0 b.0 a.1 b.1 false false a.2 b.2).1 a.4 b.4)
one_refusal keys most asked t bad.Wrong bad.NoMemory a b me mf = absurd (mf refl)
one_refusal keys most asked t bad.PayloadForm bad.NotCompact a b me mf = absurd (b a.0 a.2.compact)
one_refusal keys most asked t bad.PayloadForm bad.HeaderForm a b me mf = absurd (no_header keys.alg most t b.0 a.0 a.1 false b.1 b.2 a.2)
one_refusal keys most asked t bad.PayloadForm bad.Critical a b me mf = absurd (true_false refl ((one_named keys.alg most t b.0 a.0 b.1 a.1 true false b.2 a.2).2))
one_refusal keys most asked t bad.PayloadForm bad.WrongKey a b me mf = absurd (true_false a.3 (ap (is_asked asked) (sym (one_named keys.alg most t b.0 a.0 b.1 a.1 false false b.2 a.2).1) ∙ b.3))
one_refusal keys most asked t bad.PayloadForm bad.Wrong a b me mf = absurd (by_verified keys b.0 a.0 b.1 a.1 (one_named keys.alg most t b.0 a.0 b.1 a.1 false false b.2 a.2).0 (one_named keys.alg most t b.0 a.0 b.1 a.1 false false b.2 a.2).1 b.4 a.4)
one_refusal keys most asked t bad.PayloadForm bad.PayloadForm a b me mf = refl
one_refusal keys most asked t bad.PayloadForm bad.NoMemory a b me mf = absurd (mf refl)
one_refusal keys most asked t bad.NoMemory bad.NotCompact a b me mf = absurd (me refl)
one_refusal keys most asked t bad.NoMemory bad.HeaderForm a b me mf = absurd (me refl)
one_refusal keys most asked t bad.NoMemory bad.Critical a b me mf = absurd (me refl)
one_refusal keys most asked t bad.NoMemory bad.WrongKey a b me mf = absurd (me refl)
one_refusal keys most asked t bad.NoMemory bad.Wrong a b me mf = absurd (me refl)
one_refusal keys most asked t bad.NoMemory bad.PayloadForm a b me mf = absurd (me refl)
one_refusal keys most asked t bad.NoMemory bad.NoMemory a b me mf = absurd (me refl)

-- ---- one fault of a text

abbrev not_read : EntryField → Result Entry EntryField
not_read field = Err field

abbrev read_as : Entry → Result Entry EntryField
read_as entry = Ok entry

err_or_ok : (field : EntryField) (entry : Entry) → not_read field ≡ read_as entry → ⊥
err_or_ok field entry h = cc

one_fault : (keys : Keys) (t : SignedText) (e f : TextFault) → IsTextFault keys t e → IsTextFault keys t f
    → e ≢ text.NoMemory → f ≢ text.NoMemory → e ≡ f
one_fault keys t (text.Signature a) (text.Signature b) h k me mf =
    ap text.Signature (one_refusal keys 16384 None t.0 a b h.1 k.1 h.0 k.0)
one_fault keys t (text.Signature a) (text.Form field) h k me mf =
    absurd (refused_or_signed keys 16384 None t.0 a k.0 k.1 h.1 h.0 k.2 refl)
one_fault keys t (text.Signature a) text.Signer h k me mf =
    absurd (refused_or_signed keys 16384 None t.0 a k.0 k.1 h.1 h.0 k.3 refl)
one_fault keys t (text.Form field) (text.Signature b) h k me mf =
    absurd (refused_or_signed keys 16384 None t.0 b h.0 h.1 k.1 k.0 h.2 refl)
one_fault keys t text.Signer (text.Signature b) h k me mf =
    absurd (refused_or_signed keys 16384 None t.0 b h.0 h.1 k.1 k.0 h.3 refl)
one_fault keys t (text.Form field) (text.Form other) h k me mf =
    let same = same_signed keys 16384 t.0 h.0 k.0 h.1 k.1 h.2 k.2 in
    let both : Err field ≡ Err other = sym h.3 ∙ ap entry_of same.1 ∙ k.3 in
    let one : field ≡ other = cc in
    ap text.Form one
one_fault keys t (text.Form field) text.Signer h k me mf =
    let same = same_signed keys 16384 t.0 h.0 k.0 h.1 k.1 h.2 k.3 in
    absurd (err_or_ok field k.2 (sym h.3 ∙ ap entry_of same.1 ∙ k.4))
one_fault keys t text.Signer (text.Form field) h k me mf =
    let same = same_signed keys 16384 t.0 k.0 h.0 k.1 h.1 k.2 h.3 in
    absurd (err_or_ok field h.2 (sym k.3 ∙ ap entry_of same.1 ∙ h.4))
one_fault keys t text.Signer text.Signer h k me mf = refl
one_fault keys t text.NoMemory f h k me mf = absurd (me refl)
one_fault keys t (text.Signature a) text.NoMemory h k me mf = absurd (mf refl)
one_fault keys t (text.Form field) text.NoMemory h k me mf = absurd (mf refl)
one_fault keys t text.Signer text.NoMemory h k me mf = absurd (mf refl)

-- a text with a link has no fault
no_fault : (keys : Keys) (t : SignedText) (e : TextFault) (link : ChainLink) → IsLink keys t link → e ≢ text.NoMemory
    → IsTextFault keys t e → ⊥
no_fault keys t (text.Signature why) link is memory h = not_badly_signed keys why t link is h
no_fault keys t (text.Form field) link is memory h = has_entry keys field t link is h
no_fault keys t text.Signer link is memory h = not_of_another keys t link is h
no_fault keys t text.NoMemory link is memory h = memory refl

-- ---- two places of one list

-- two cuts of a list are one, or one lies in front of the other
data Compared {T : Type 0} (f : List T) (t : T) (g : List T) (u : T) : Type 0 where
  one_cut : f ≡ g → t ≡ u → Compared f t g u
  earlier : (m : List T) → g ≡ f ++ t ∷ m → Compared f t g u
  later : (m : List T) → f ≡ g ++ u ∷ m → Compared f t g u

compared-cons : {T : Type 0} (x y : T) (f g : List T) (t u : T) → x ≡ y → Compared f t g u
    → Compared (x ∷ f) t (y ∷ g) u
compared-cons x y f g t u same (one_cut fronts items) = one_cut (ap (λ z. z ∷ f) same ∙ ap (λ l. y ∷ l) fronts) items
compared-cons x y f g t u same (earlier m is) = earlier m (ap (λ z. z ∷ g) (sym same) ∙ ap (λ l. x ∷ l) is)
compared-cons x y f g t u same (later m is) = later m (ap (λ z. z ∷ f) same ∙ ap (λ l. y ∷ l) is)

compared : {T : Type 0} (f : List T) (t : T) (r : List T) (g : List T) (u : T) (s : List T)
    → f ++ t ∷ r ≡ g ++ u ∷ s → Compared f t g u
compared [] t r [] u s h = let same : t ≡ u = cc in one_cut refl same
compared [] t r (y ∷ g) u s h = let same : y ≡ t = cc in earlier g (ap (λ z. z ∷ g) same)
compared (x ∷ f) t r [] u s h = let same : x ≡ u = cc in later f (ap (λ z. z ∷ f) same)
compared (x ∷ f) t r (y ∷ g) u s h =
    let same : x ≡ y = cc in
    let rest : f ++ t ∷ r ≡ g ++ u ∷ s = cc in
    compared-cons x y f g t u same (compared f t r g u s rest)

-- ---- one refusal of the texts

-- a refusal of a text, as a fault at a place
record TextAt (keys : Keys) (texts : List SignedText) (r : ChainRefusal) : Type 0 where
  at : ℕ
  fault : TextFault
  memory : fault ≢ text.NoMemory
  is : r ≡ refusal_at at fault
  wrong : IsTextWrong keys texts at (λ t. IsTextFault keys t fault)

text_at : (keys : Keys) (texts : List SignedText) (r : ChainRefusal) → IsTextRefused keys texts r → r ≢ NoMemory
    → TextAt keys texts r
text_at keys texts (BadSignature i why) h memory =
    record { at = i; fault = text.Signature why; memory = λ e. cc; is = refl; wrong = h }
text_at keys texts (EntryForm i field) h memory =
    record { at = i; fault = text.Form field; memory = λ e. cc; is = refl; wrong = h }
text_at keys texts (WrongSigner i) h memory =
    record { at = i; fault = text.Signer; memory = λ e. cc; is = refl; wrong = h }
text_at keys texts NoMemory h memory = absurd (memory refl)
text_at keys texts Empty h memory = absurd h
text_at keys texts TooLong h memory = absurd h
text_at keys texts (BrokenLink i) h memory = absurd h
text_at keys texts (WrongBill i) h memory = absurd h
text_at keys texts Carrier h memory = absurd h
text_at keys texts (WrongPlatform i) h memory = absurd h
text_at keys texts (Fold i k rule) h memory = absurd h
text_at keys texts (Move i) h memory = absurd h

-- a text that is wrong has no link
not_in_front : (keys : Keys) (front : List SignedText) (t : SignedText) (m whole : List SignedText) (links : List ChainLink)
    (fault : TextFault) → whole ≡ front ++ t ∷ m → AreLinks keys whole links → fault ≢ text.NoMemory
    → IsTextFault keys t fault → ⊥
not_in_front keys front t m whole links fault is are memory wrong =
    let there = link_there keys front t m links (subst (λ ts. AreLinks keys ts links) is are) in
    no_fault keys t fault there.0 there.1 memory wrong

one_text : (keys : Keys) (texts : List SignedText) (r s : ChainRefusal) → TextAt keys texts r → TextAt keys texts s → r ≡ s
one_text keys texts r s a b =
    a.is ∙ by_cut (compared a.wrong.front a.wrong.text a.wrong.rest b.wrong.front b.wrong.text b.wrong.rest
    (sym a.wrong.parts ∙ b.wrong.parts)) ∙ sym b.is
  where
    by_cut : Compared a.wrong.front a.wrong.text b.wrong.front b.wrong.text
        → refusal_at a.at a.fault ≡ refusal_at b.at b.fault
    by_cut (one_cut fronts texts_same) =
        let place : a.at ≡ b.at = sym a.wrong.place ∙ ap length fronts ∙ b.wrong.place in
        let fault : a.fault ≡ b.fault =
        one_fault keys b.wrong.text a.fault b.fault
        (subst (λ t. IsTextFault keys t a.fault) texts_same a.wrong.is_wrong) b.wrong.is_wrong a.memory b.memory in
        ap (λ i. refusal_at i a.fault) place ∙ ap (refusal_at b.at) fault
    by_cut (earlier m is) =
        absurd (not_in_front keys a.wrong.front a.wrong.text m b.wrong.front b.wrong.links a.fault is b.wrong.right a.memory a.wrong.is_wrong)
    by_cut (later m is) =
        absurd (not_in_front keys b.wrong.front b.wrong.text m a.wrong.front a.wrong.links b.fault is a.wrong.right b.memory b.wrong.is_wrong)

-- ---- one refusal of an entry

abbrev folded : Option Title → Folded
folded title = Ok title

abbrev stopped : FoldAt → Folded
stopped at = Err at

stop_or_title : (title : Option Title) (at : FoldAt) → folded title ≡ stopped at → ⊥
stop_or_title title at h = cc

stop_is : (a b : FoldAt) → stopped a ≡ stopped b → a ≡ b
stop_is a b h = cc

one_stop : (i : ℕ) (front : List ChainLink) (entry : Entry) (k m : ℕ) (rule other : FoldRefusal)
    → IsFoldRefused k rule front entry → IsFoldRefused m other front entry → Fold i k rule ≡ Fold i m other
one_stop i front entry k m rule other a b =
    let title = one_title front a.0 b.0 a.1 b.1 in
    let same = stop_is (record { place = k; rule = rule }) (record { place = m; rule = other })
    (sym a.2 ∙ ap (λ t. fold_from entry.transactions t 0) title ∙ b.2) in
    ap (λ (at : FoldAt). Fold i at.place at.rule) same

stop_or_move : (front : List ChainLink) (entry : Entry) (k : ℕ) (rule : FoldRefusal)
    → IsFoldRefused k rule front entry → IsMoveRefused front entry → ⊥
stop_or_move front entry k rule a b =
    stop_or_title b.1 (record { place = k; rule = rule })
    (sym b.3 ∙ ap (λ t. fold_from entry.transactions t 0) (one_title front b.0 a.0 b.2 a.1) ∙ a.2)

one_entry : (roster : RosterRecord) (document : DocumentRecord) (front : List ChainLink) (entry : Entry) (place : ℕ)
    (r s : ChainRefusal) → EntryWrong roster document front entry place r → EntryWrong roster document front entry place s
    → r ≡ s
one_entry roster document front entry place (BrokenLink i) (BrokenLink i2) h k0 = ap BrokenLink (sym h.0 ∙ k0.0)
one_entry roster document front entry place (BrokenLink i) (WrongBill i2) h k0 = absurd (h.1 k0.1)
one_entry roster document front entry place (BrokenLink i) Carrier h k0 = absurd (h.1 k0.1)
one_entry roster document front entry place (BrokenLink i) (WrongPlatform i2) h k0 = absurd (h.1 k0.1)
one_entry roster document front entry place (BrokenLink i) (Fold i2 k2 rule2) h k0 = absurd (h.1 k0.1)
one_entry roster document front entry place (BrokenLink i) (Move i2) h k0 = absurd (h.1 k0.1)
one_entry roster document front entry place (BrokenLink i1) Empty h k0 = absurd k0
one_entry roster document front entry place (BrokenLink i1) TooLong h k0 = absurd k0
one_entry roster document front entry place (BrokenLink i1) (BadSignature i why) h k0 = absurd k0
one_entry roster document front entry place (BrokenLink i1) (EntryForm i field) h k0 = absurd k0
one_entry roster document front entry place (BrokenLink i1) (WrongSigner i) h k0 = absurd k0
one_entry roster document front entry place (BrokenLink i1) NoMemory h k0 = absurd k0
one_entry roster document front entry place (WrongBill i) (BrokenLink i2) h k0 = absurd (k0.1 h.1)
one_entry roster document front entry place (WrongBill i) (WrongBill i2) h k0 = ap WrongBill (sym h.0 ∙ k0.0)
one_entry roster document front entry place (WrongBill i) Carrier h k0 = absurd (h.2 k0.2)
one_entry roster document front entry place (WrongBill i) (WrongPlatform i2) h k0 = absurd (h.2 k0.2)
one_entry roster document front entry place (WrongBill i) (Fold i2 k2 rule2) h k0 = absurd (h.2 k0.2)
one_entry roster document front entry place (WrongBill i) (Move i2) h k0 = absurd (h.2 k0.2)
one_entry roster document front entry place (WrongBill i1) Empty h k0 = absurd k0
one_entry roster document front entry place (WrongBill i1) TooLong h k0 = absurd k0
one_entry roster document front entry place (WrongBill i1) (BadSignature i why) h k0 = absurd k0
one_entry roster document front entry place (WrongBill i1) (EntryForm i field) h k0 = absurd k0
one_entry roster document front entry place (WrongBill i1) (WrongSigner i) h k0 = absurd k0
one_entry roster document front entry place (WrongBill i1) NoMemory h k0 = absurd k0
one_entry roster document front entry place Carrier (BrokenLink i2) h k0 = absurd (k0.1 h.1)
one_entry roster document front entry place Carrier (WrongBill i2) h k0 = absurd (k0.2 h.2)
one_entry roster document front entry place Carrier Carrier h k0 = refl
one_entry roster document front entry place Carrier (WrongPlatform i2) h k0 = absurd (h.3 k0.3)
one_entry roster document front entry place Carrier (Fold i2 k2 rule2) h k0 = absurd (h.3 k0.3)
one_entry roster document front entry place Carrier (Move i2) h k0 = absurd (h.3 k0.3)
one_entry roster document front entry place Carrier Empty h k0 = absurd k0
one_entry roster document front entry place Carrier TooLong h k0 = absurd k0
one_entry roster document front entry place Carrier (BadSignature i why) h k0 = absurd k0
one_entry roster document front entry place Carrier (EntryForm i field) h k0 = absurd k0
one_entry roster document front entry place Carrier (WrongSigner i) h k0 = absurd k0
one_entry roster document front entry place Carrier NoMemory h k0 = absurd k0
one_entry roster document front entry place (WrongPlatform i) (BrokenLink i2) h k0 = absurd (k0.1 h.1)
one_entry roster document front entry place (WrongPlatform i) (WrongBill i2) h k0 = absurd (k0.2 h.2)
one_entry roster document front entry place (WrongPlatform i) Carrier h k0 = absurd (k0.3 h.3)
one_entry roster document front entry place (WrongPlatform i) (WrongPlatform i2) h k0 = ap WrongPlatform (sym h.0 ∙ k0.0)
one_entry roster document front entry place (WrongPlatform i) (Fold i2 k2 rule2) h k0 = absurd (h.4 k0.4)
one_entry roster document front entry place (WrongPlatform i) (Move i2) h k0 = absurd (h.4 k0.4)
one_entry roster document front entry place (WrongPlatform i1) Empty h k0 = absurd k0
one_entry roster document front entry place (WrongPlatform i1) TooLong h k0 = absurd k0
one_entry roster document front entry place (WrongPlatform i1) (BadSignature i why) h k0 = absurd k0
one_entry roster document front entry place (WrongPlatform i1) (EntryForm i field) h k0 = absurd k0
one_entry roster document front entry place (WrongPlatform i1) (WrongSigner i) h k0 = absurd k0
one_entry roster document front entry place (WrongPlatform i1) NoMemory h k0 = absurd k0
one_entry roster document front entry place (Fold i k rule) (BrokenLink i2) h k0 = absurd (k0.1 h.1)
one_entry roster document front entry place (Fold i k rule) (WrongBill i2) h k0 = absurd (k0.2 h.2)
one_entry roster document front entry place (Fold i k rule) Carrier h k0 = absurd (k0.3 h.3)
one_entry roster document front entry place (Fold i k rule) (WrongPlatform i2) h k0 = absurd (k0.4 h.4)
one_entry roster document front entry place (Fold i k rule) (Fold i2 k2 rule2) h k0 = ap (λ n. Fold n k rule) (sym h.0) ∙ one_stop place front entry k k2 rule rule2 h.5 k0.5 ∙ ap (λ n. Fold n k2 rule2) k0.0
one_entry roster document front entry place (Fold i k rule) (Move i2) h k0 = absurd (stop_or_move front entry k rule h.5 k0.5)
one_entry roster document front entry place (Fold i1 k1 rule1) Empty h k0 = absurd k0
one_entry roster document front entry place (Fold i1 k1 rule1) TooLong h k0 = absurd k0
one_entry roster document front entry place (Fold i1 k1 rule1) (BadSignature i why) h k0 = absurd k0
one_entry roster document front entry place (Fold i1 k1 rule1) (EntryForm i field) h k0 = absurd k0
one_entry roster document front entry place (Fold i1 k1 rule1) (WrongSigner i) h k0 = absurd k0
one_entry roster document front entry place (Fold i1 k1 rule1) NoMemory h k0 = absurd k0
one_entry roster document front entry place (Move i) (BrokenLink i2) h k0 = absurd (k0.1 h.1)
one_entry roster document front entry place (Move i) (WrongBill i2) h k0 = absurd (k0.2 h.2)
one_entry roster document front entry place (Move i) Carrier h k0 = absurd (k0.3 h.3)
one_entry roster document front entry place (Move i) (WrongPlatform i2) h k0 = absurd (k0.4 h.4)
one_entry roster document front entry place (Move i) (Fold i2 k2 rule2) h k0 = absurd (stop_or_move front entry k2 rule2 k0.5 h.5)
one_entry roster document front entry place (Move i) (Move i2) h k0 = ap Move (sym h.0 ∙ k0.0)
one_entry roster document front entry place (Move i1) Empty h k0 = absurd k0
one_entry roster document front entry place (Move i1) TooLong h k0 = absurd k0
one_entry roster document front entry place (Move i1) (BadSignature i why) h k0 = absurd k0
one_entry roster document front entry place (Move i1) (EntryForm i field) h k0 = absurd k0
one_entry roster document front entry place (Move i1) (WrongSigner i) h k0 = absurd k0
one_entry roster document front entry place (Move i1) NoMemory h k0 = absurd k0
one_entry roster document front entry place Empty s h k0 = absurd h
one_entry roster document front entry place TooLong s h k0 = absurd h
one_entry roster document front entry place (BadSignature i why) s h k0 = absurd h
one_entry roster document front entry place (EntryForm i field) s h k0 = absurd h
one_entry roster document front entry place (WrongSigner i) s h k0 = absurd h
one_entry roster document front entry place NoMemory s h k0 = absurd h

-- an entry that follows, begun by the carrier, is not wrong
follows-right : (roster : RosterRecord) (document : DocumentRecord) (front : List ChainLink) (entry : Entry) (place : ℕ)
    (r : ChainRefusal) → FollowsChain (bill_of document) front entry → IsByCarrier roster document front entry
    → EntryWrong roster document front entry place r → ⊥
follows-right roster document front entry place (BrokenLink i) f c h = h.1 f.previous
follows-right roster document front entry place (WrongBill i) f c h = h.2 f.bill_is
follows-right roster document front entry place Carrier f c h = h.3 c
follows-right roster document front entry place (WrongPlatform i) f c h = h.4 f.platform
follows-right roster document front entry place (Fold i k rule) f c h = fold_taken front entry k rule (bill_of document) f h.5
follows-right roster document front entry place (Move i) f c h = move_taken front entry (bill_of document) f h.5
follows-right roster document front entry place Empty f c h = h
follows-right roster document front entry place TooLong f c h = h
follows-right roster document front entry place (BadSignature i why) f c h = h
follows-right roster document front entry place (EntryForm i field) f c h = h
follows-right roster document front entry place (WrongSigner i) f c h = h
follows-right roster document front entry place NoMemory f c h = h

-- a refusal of an entry, as what is wrong with it
record EntryAt (roster : RosterRecord) (document : DocumentRecord) (chain : List ChainLink) (r : ChainRefusal) : Type 0 where
  front : List ChainLink
  link : ChainLink
  rest : List ChainLink
  parts : chain ≡ front ++ link ∷ rest
  good : chains.IsChainOfBill (bill_of document) front
  begun : IsBegunIfAny roster document front
  wrong : EntryWrong roster document front link.entry (length front) r

no_front : (front : List ChainLink) → length front ≡ 0 → front ≡ []
no_front [] h = refl
no_front (x ∷ front) h = absurd (omega arith)

entry_at : (roster : RosterRecord) (document : DocumentRecord) (chain : List ChainLink) (r : ChainRefusal)
    → IsChainRefused roster document chain r → EntryAt roster document chain r
entry_at roster document chain (BrokenLink i) h =
    record {
      front = h.front;
      link = h.link;
      rest = h.rest;
      parts = h.parts;
      good = h.good;
      begun = h.begun;
      wrong = (h.place, h.is_wrong);
    }
entry_at roster document chain (WrongBill i) h =
    record {
      front = h.front;
      link = h.link;
      rest = h.rest;
      parts = h.parts;
      good = h.good;
      begun = h.begun;
      wrong = (h.place, h.is_wrong.0, h.is_wrong.1);
    }
entry_at roster document chain Carrier h =
    record {
      front = h.front;
      link = h.link;
      rest = h.rest;
      parts = h.parts;
      good = h.good;
      begun = h.begun;
      wrong = (no_front h.front h.place, h.is_wrong.0, h.is_wrong.1, h.is_wrong.2);
    }
entry_at roster document chain (WrongPlatform i) h =
    record {
      front = h.front;
      link = h.link;
      rest = h.rest;
      parts = h.parts;
      good = h.good;
      begun = h.begun;
      wrong = (h.place, h.is_wrong.0, h.is_wrong.1, h.is_wrong.2, h.is_wrong.3);
    }
entry_at roster document chain (Fold i k rule) h =
    record {
      front = h.front;
      link = h.link;
      rest = h.rest;
      parts = h.parts;
      good = h.good;
      begun = h.begun;
      wrong = (h.place, h.is_wrong.0, h.is_wrong.1, h.is_wrong.2, h.is_wrong.3, h.is_wrong.4);
    }
entry_at roster document chain (Move i) h =
    record {
      front = h.front;
      link = h.link;
      rest = h.rest;
      parts = h.parts;
      good = h.good;
      begun = h.begun;
      wrong = (h.place, h.is_wrong.0, h.is_wrong.1, h.is_wrong.2, h.is_wrong.3, h.is_wrong.4);
    }
entry_at roster document chain Empty h = absurd h
entry_at roster document chain TooLong h = absurd h
entry_at roster document chain (BadSignature i why) h = absurd h
entry_at roster document chain (EntryForm i field) h = absurd h
entry_at roster document chain (WrongSigner i) h = absurd h
entry_at roster document chain NoMemory h = absurd h

ends_some : (ts front : List Transaction) (last : Transaction) → ts ≡ front ++ last ∷ [] → 1 ≤ length ts
ends_some ts front last is =
    let len = length-append front (last ∷ []) in
    let whole : length ts ≡ length (front ++ last ∷ []) = ap length is in
    omega (arith, len, whole)

-- the carrier began an entry in front
by_carrier_in : (roster : RosterRecord) (document : DocumentRecord) (front : List ChainLink) (link : ChainLink)
    (m : List ChainLink) → FollowsChain (bill_of document) front link.entry
    → IsBegunIfAny roster document (front ++ link ∷ m) → IsByCarrier roster document front link.entry
by_carrier_in roster document [] link m f h = (
  h.0,
  h.1,
  first_of link.entry.transactions (transactions_of m) h.0
      (ends_some link.entry.transactions f.moves.front f.moves.last f.moves.parts) h.2,
)
by_carrier_in roster document (first ∷ front) link m f h = tt

-- an entry that is wrong doesn't stand in a good chain
not_in_good : (roster : RosterRecord) (document : DocumentRecord) (front : List ChainLink) (link : ChainLink)
    (m whole : List ChainLink) (r : ChainRefusal) → whole ≡ front ++ link ∷ m
    → chains.IsChainOfBill (bill_of document) whole → IsBegunIfAny roster document whole
    → EntryWrong roster document front link.entry (length front) r → ⊥
not_in_good roster document front link m whole r is good begun wrong =
    let f : FollowsChain (bill_of document) front link.entry =
    follows_at (bill_of document) [] front link m (subst (chains.IsChainOfBill (bill_of document)) is good) in
    follows-right roster document front link.entry (length front) r f
    (by_carrier_in roster document front link m f (subst (IsBegunIfAny roster document) is begun)) wrong

one_at : (roster : RosterRecord) (document : DocumentRecord) (chain : List ChainLink) (r s : ChainRefusal)
    → EntryAt roster document chain r → EntryAt roster document chain s → r ≡ s
one_at roster document chain r s a b =
    by_cut (compared a.front a.link a.rest b.front b.link b.rest (sym a.parts ∙ b.parts))
  where
    by_cut : Compared a.front a.link b.front b.link → r ≡ s
    by_cut (one_cut fronts links) =
        one_entry roster document b.front b.link.entry (length b.front) r s
        (subst (λ (l : ChainLink). EntryWrong roster document b.front l.entry (length b.front) r) links
        (subst (λ ls. EntryWrong roster document ls a.link.entry (length ls) r) fronts a.wrong)) b.wrong
    by_cut (earlier m is) = absurd (not_in_good roster document a.front a.link m b.front r is b.good b.begun a.wrong)
    by_cut (later m is) = absurd (not_in_good roster document b.front b.link m a.front s is a.good a.begun b.wrong)

-- ---- all texts

one_of_some : (roster : RosterRecord) (keys : Keys) (document : DocumentRecord) (texts : List SignedText) (r s : ChainRefusal)
    → r ≢ NoMemory → s ≢ NoMemory → IsRefusedAt roster keys document texts r → IsRefusedAt roster keys document texts s
    → r ≡ s
one_of_some roster keys document texts r s mr ms a b = by_causes a.cause b.cause
  where
    by_causes : IsTextRefused keys texts r
        ⊎ ((chain : List ChainLink) × AreLinks keys texts chain × IsChainRefused roster document chain r)
        → IsTextRefused keys texts s
        ⊎ ((chain : List ChainLink) × AreLinks keys texts chain × IsChainRefused roster document chain s) → r ≡ s
    by_causes (inl h) (inl k) = one_text keys texts r s (text_at keys texts r h mr) (text_at keys texts s k ms)
    by_causes (inl h) (inr k) = absurd (texts_right keys texts k.0 r k.1 mr h)
    by_causes (inr h) (inl k) = absurd (texts_right keys texts h.0 s h.1 ms k)
    by_causes (inr h) (inr k) =
        one_at roster document k.0 r s
        (entry_at roster document k.0 r (subst (λ ls. IsChainRefused roster document ls r) (same_links keys texts h.0 k.0 h.1 k.1) h.2))
        (entry_at roster document k.0 s k.2)

-- no text, too many, or some
data Kinds (roster : RosterRecord) (keys : Keys) (document : DocumentRecord) (texts : List SignedText) (r : ChainRefusal)
    : Type 0 where
  none : r ≡ Empty → length texts ≡ 0 → Kinds roster keys document texts r
  many : r ≡ TooLong → 64 < length texts → Kinds roster keys document texts r
  some : 1 ≤ length texts → length texts ≤ 64 → IsRefusedAt roster keys document texts r → Kinds roster keys document texts r

kinds : (roster : RosterRecord) (keys : Keys) (document : DocumentRecord) (texts : List SignedText) (r : ChainRefusal)
    → IsRefused roster keys document texts r → r ≢ NoMemory → Kinds roster keys document texts r
kinds roster keys document texts Empty h memory = none refl (ap length h)
kinds roster keys document texts TooLong h memory = many refl h
kinds roster keys document texts NoMemory h memory = absurd (memory refl)
kinds roster keys document texts (BadSignature i why) h memory = some h.some h.most h
kinds roster keys document texts (EntryForm i field) h memory = some h.some h.most h
kinds roster keys document texts (WrongSigner i) h memory = some h.some h.most h
kinds roster keys document texts (BrokenLink i) h memory = some h.some h.most h
kinds roster keys document texts (WrongBill i) h memory = some h.some h.most h
kinds roster keys document texts Carrier h memory = some h.some h.most h
kinds roster keys document texts (WrongPlatform i) h memory = some h.some h.most h
kinds roster keys document texts (Fold i k rule) h memory = some h.some h.most h
kinds roster keys document texts (Move i) h memory = some h.some h.most h

by_kinds : (roster : RosterRecord) (keys : Keys) (document : DocumentRecord) (texts : List SignedText) (r s : ChainRefusal)
    → r ≢ NoMemory → s ≢ NoMemory → Kinds roster keys document texts r → Kinds roster keys document texts s → r ≡ s
by_kinds roster keys document texts r s mr ms (none is empty) (none also more) = is ∙ sym also
by_kinds roster keys document texts r s mr ms (none is empty) (many also more) = absurd (omega arith)
by_kinds roster keys document texts r s mr ms (none is empty) (some least most h) = absurd (omega arith)
by_kinds roster keys document texts r s mr ms (many is more) (none also empty) = absurd (omega arith)
by_kinds roster keys document texts r s mr ms (many is more) (many also least) = is ∙ sym also
by_kinds roster keys document texts r s mr ms (many is more) (some least most h) = absurd (omega arith)
by_kinds roster keys document texts r s mr ms (some least most h) (none also empty) = absurd (omega arith)
by_kinds roster keys document texts r s mr ms (some least most h) (many also more) = absurd (omega arith)
by_kinds roster keys document texts r s mr ms (some least most h) (some least2 most2 k) =
    one_of_some roster keys document texts r s mr ms h k

pub one_chain_refusal : (roster : RosterRecord) (keys : Keys) (document : DocumentRecord) (texts : List SignedText)
    (r s : ChainRefusal) → IsRefused roster keys document texts r → IsRefused roster keys document texts s
    → r ≢ NoMemory → s ≢ NoMemory → r ≡ s
one_chain_refusal roster keys document texts r s h k mr ms =
    by_kinds roster keys document texts r s mr ms (kinds roster keys document texts r h mr) (kinds roster keys document texts s k ms)
