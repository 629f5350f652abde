-- Evidence is spelled in one way.
use Rattle.std.proofs.Common.{◌≡◌, ◌≢◌, ◌⊎◌, inl, inr, ℕ, ◌+◌, ◌<◌, ◌≤◌, List, [], ◌∷◌, ◌++◌, Option, Some, None, IfSome, length, refl, sym, ◌∙◌, ap, subst, arith, append_assoc, append-nil}
use Rattle.ebl_base.specs.declared.evidence.Evidence.{Evidence}
use Rattle.ebl_base.specs.declared.signed_text.SignedText.{SignedText}
use Rattle.bill_diary.specs.Texts.{IsCompactText, AreCompact}
use Rattle.record_bytes.specs.Fields.{IsShort, text_bytes, count_of, marked, evidence_bytes}
use Rattle.record_bytes.specs.Reading.{BeginsWithText, IsText, IsCompactOf, IsCompactField, IsTheirs, IsMarked, IsEvidenceText}
use Rattle.record_bytes.proofs.FieldLemmas.{same_text, same_front, same_whole}

pub compact_short : (text : SignedText) → IsCompactText text → IsShort text.0
compact_short text is = let fits = is.1.fits in omega (arith, fits)

pub signed : List ℕ → SignedText
signed bytes = record { 0 = bytes }

pub same_signed : (a b : SignedText) → a.0 ≡ b.0 → a ≡ b
unfolding signed
same_signed a b same = ap signed same

-- ---- the texts that are there

tail_same : (m n : ℕ) (x y : List ℕ) → m ∷ x ≡ n ∷ y → x ≡ y
tail_same m n x y same = cc same

head_same : (m n : ℕ) (x y : List ℕ) → m ∷ x ≡ n ∷ y → m ≡ n
head_same m n x y same = cc same

-- both texts
pub record BothTexts (bytes : List ℕ) : Type 0 where
  pub own : SignedText
  pub theirs : SignedText
  pub own_is : IsCompactText own
  pub theirs_is : IsCompactText theirs
  pub bytes_are : bytes ≡ 1 ∷ (text_bytes own.0 ++ 2 ∷ text_bytes theirs.0)

pub both_there : (bytes : List ℕ) (evidence : Evidence) → IsMarked 2 bytes evidence → BothTexts bytes
both_there bytes evidence is = by evidence.own evidence.theirs is.form.own is.form.theirs is.count_is is.bytes_are
  where
    by : (own theirs : Option SignedText) → IfSome own IsCompactText → IfSome theirs IsCompactText
        → 2 ≡ count_of own + count_of theirs → bytes ≡ marked 1 own ++ marked 2 theirs → BothTexts bytes
    by None None p q e same = absurd (omega (arith, e))
    by None (Some t) p q e same = absurd (omega (arith, e))
    by (Some t) None p q e same = absurd (omega (arith, e))
    by (Some t) (Some u) p q e same =
        record { own = t; theirs = u; own_is = p; theirs_is = q; bytes_are = same }

-- behind the first byte the own text begins
pub own_begins : (rest : List ℕ) (both : BothTexts (1 ∷ rest))
    → BeginsWithText rest both.own.0 (2 ∷ text_bytes both.theirs.0)
own_begins rest both = record {
  short = compact_short both.own both.own_is;
  bytes_are = tail_same 1 1 rest (text_bytes both.own.0 ++ 2 ∷ text_bytes both.theirs.0) both.bytes_are;
}

pub own_missing : (rest x behind : List ℕ) → BeginsWithText rest x behind
    → ((text : SignedText) → ¬ IsCompactOf x text) → (evidence : Evidence) → ¬ IsMarked 2 (1 ∷ rest) evidence
own_missing rest x behind begins none evidence is =
    let both = both_there (1 ∷ rest) evidence is in
    let same = same_front rest x both.own.0 behind (2 ∷ text_bytes both.theirs.0) begins (own_begins rest both) in
    none both.own (record { bytes_are = sym same.0; compact = both.own_is })

pub theirs_missing : (rest x behind : List ℕ) → BeginsWithText rest x behind
    → ((text : SignedText) → ¬ IsTheirs behind text) → (evidence : Evidence) → ¬ IsMarked 2 (1 ∷ rest) evidence
theirs_missing rest x behind begins none evidence is =
    let both = both_there (1 ∷ rest) evidence is in
    let same = same_front rest x both.own.0 behind (2 ∷ text_bytes both.theirs.0) begins (own_begins rest both) in
    none both.theirs (record { compact = both.theirs_is; bytes_are = same.1 })

pub compact_here : (bytes x : List ℕ) → IsText bytes x → (text : SignedText) → IsCompactOf x text
    → IsCompactField bytes text
compact_here bytes x is text of = record {
  compact = of.compact;
  bytes_are = is.bytes_are ∙ ap text_bytes (sym of.bytes_are);
}

pub compact_there : (bytes x : List ℕ) → IsText bytes x → (text : SignedText) → IsCompactField bytes text
    → IsCompactOf x text
compact_there bytes x is text field = record {
  bytes_are = same_whole bytes text.0 x
      (record { short = compact_short text field.compact; bytes_are = field.bytes_are }) is;
  compact = field.compact;
}

-- ---- one spelling

-- a text that is last, with what follows it
last_same : (a b : SignedText) (x y : List ℕ) → IsCompactText a → IsCompactText b
    → text_bytes a.0 ++ x ≡ text_bytes b.0 ++ y → (a ≡ b) × (x ≡ y)
last_same a b x y p q same =
    let texts = same_text a.0 b.0 x y (compact_short a p) (compact_short b q) same in
    (same_signed a b texts.0, texts.1)

closed_same : (a b : List ℕ) (x y : List ℕ) → (a ++ []) ++ x ≡ (b ++ []) ++ y → a ++ x ≡ b ++ y
closed_same a b x y same =
    ap (λ (l : List ℕ). l ++ x) (sym (append-nil a)) ∙ same ∙ ap (λ (l : List ℕ). l ++ y) (append-nil b)

some_same : (a b : SignedText) → a ≡ b → Some a ≡ Some b
some_same a b same = ap (λ (t : SignedText). Some t) same

-- the texts that are there stand in one way
texts_same : (o t u v : Option SignedText) (x y : List ℕ) → IfSome o IsCompactText → IfSome t IsCompactText
    → IfSome u IsCompactText → IfSome v IsCompactText
    → ((count_of o + count_of t) ∷ (marked 1 o ++ marked 2 t)) ++ x
    ≡ ((count_of u + count_of v) ∷ (marked 1 u ++ marked 2 v)) ++ y
    → (o ≡ u) × (t ≡ v) × (x ≡ y)
texts_same None None None None x y po pt qu qv e = (refl, refl, tail_same 0 0 x y e)
texts_same None None None (Some d) x y po pt qu qv e = absurd (omega (arith, head_same _ _ _ _ e))
texts_same None None (Some c) None x y po pt qu qv e = absurd (omega (arith, head_same _ _ _ _ e))
texts_same None None (Some c) (Some d) x y po pt qu qv e = absurd (omega (arith, head_same _ _ _ _ e))
texts_same None (Some b) None None x y po pt qu qv e = absurd (omega (arith, head_same _ _ _ _ e))
texts_same None (Some b) None (Some d) x y po pt qu qv e =
    let inner = tail_same 2 2 (text_bytes b.0 ++ x) (text_bytes d.0 ++ y) (tail_same 1 1 _ _ e) in
    let same = last_same b d x y pt qv inner in
    (refl, some_same b d same.0, same.1)
texts_same None (Some b) (Some c) None x y po pt qu qv e =
    absurd (omega (arith, head_same _ _ _ _ (tail_same 1 1 _ _ e)))
texts_same None (Some b) (Some c) (Some d) x y po pt qu qv e = absurd (omega (arith, head_same _ _ _ _ e))
texts_same (Some a) None None None x y po pt qu qv e = absurd (omega (arith, head_same _ _ _ _ e))
texts_same (Some a) None None (Some d) x y po pt qu qv e =
    absurd (omega (arith, head_same _ _ _ _ (tail_same 1 1 _ _ e)))
texts_same (Some a) None (Some c) None x y po pt qu qv e =
    let inner = tail_same 1 1 ((text_bytes a.0 ++ []) ++ x) ((text_bytes c.0 ++ []) ++ y) (tail_same 1 1 _ _ e) in
    let same = last_same a c x y po qu (closed_same (text_bytes a.0) (text_bytes c.0) x y inner) in
    (some_same a c same.0, refl, same.1)
texts_same (Some a) None (Some c) (Some d) x y po pt qu qv e = absurd (omega (arith, head_same _ _ _ _ e))
texts_same (Some a) (Some b) None None x y po pt qu qv e = absurd (omega (arith, head_same _ _ _ _ e))
texts_same (Some a) (Some b) None (Some d) x y po pt qu qv e = absurd (omega (arith, head_same _ _ _ _ e))
texts_same (Some a) (Some b) (Some c) None x y po pt qu qv e = absurd (omega (arith, head_same _ _ _ _ e))
texts_same (Some a) (Some b) (Some c) (Some d) x y po pt qu qv e =
    let inner = tail_same 1 1 ((text_bytes a.0 ++ 2 ∷ text_bytes b.0) ++ x) ((text_bytes c.0 ++ 2 ∷ text_bytes d.0) ++ y)
    (tail_same 2 2 _ _ e) in
    let first = last_same a c (2 ∷ (text_bytes b.0 ++ x)) (2 ∷ (text_bytes d.0 ++ y)) po qu
    (sym (append_assoc (text_bytes a.0) (2 ∷ text_bytes b.0) x) ∙ inner
    ∙ append_assoc (text_bytes c.0) (2 ∷ text_bytes d.0) y) in
    let second = last_same b d x y pt qv (tail_same 2 2 _ _ first.1) in
    (some_same a c first.0, some_same b d second.0, second.1)

-- evidence stands in one way, whatever follows
pub same_evidence : (a b : Evidence) (x y : List ℕ) → AreCompact a → AreCompact b
    → evidence_bytes a ++ x ≡ evidence_bytes b ++ y → (a ≡ b) × (x ≡ y)
same_evidence a b x y p q same =
    let texts = texts_same a.own a.theirs b.own b.theirs x y p.own p.theirs q.own q.theirs same in
    let own = texts.0 in
    let theirs = texts.1 in
    (λ i. record { own = own i; theirs = theirs i }, texts.2)
