-- A text that is cut at its first full stop.
use Rattle.std.proofs.Common.{◌≡◌, ℕ, zero, suc, ◌+◌, ◌<◌, ◌≤◌, ◌==◌, Bool, true, false, List, [], ◌∷◌, ◌++◌, length, take, drop, slice_index, Some, None, nat_lt, cond, ltb-false, refl, ap, arith}
use Rattle.std.proofs.Math.Bool.{not}
use Rattle.std.proofs.lemmas.Bool.{and_parts, eqb-true}
use Rattle.std.proofs.lemmas.List.Quantifiers.{position-Some}
use Rattle.std.proofs.lemmas.List.{take_all}
use Rattle.std.proofs.lemmas.List.Sums.{fails_before_first}
use Rattle.std.specs.List.{list_all, position, position_or_len}
use Rattle.signed_envelope.specs.Compact.{HasNoStop}

-- the byte is a full stop
abbrev pub is_stop : ℕ → Bool
is_stop byte = byte == 46

-- a front of bytes that are no full stops has none
no_stop_before : (text : List ℕ) (i : ℕ) → ((k : ℕ) → k < i → is_stop (slice_index text k) ≡ false) → HasNoStop (take i text)
no_stop_before [] zero h = refl
no_stop_before [] (suc i) h = refl
no_stop_before (b ∷ bs) zero h = refl
no_stop_before (b ∷ bs) (suc i) h =
    let first = h 0 (omega arith) in
    let rest = no_stop_before bs i (λ k lt. h (suc k) (omega arith)) in
    rw (first, rest) refl

-- a text at one of its bytes
parts_at : (text : List ℕ) (i : ℕ) → i < length text → text ≡ take i text ++ slice_index text i ∷ drop (i + 1) text
parts_at [] i h = absurd (omega arith)
parts_at (b ∷ bs) zero h = refl
parts_at (b ∷ bs) (suc i) h =
    let more : suc i + 1 ≡ suc (i + 1) = omega arith in
    rw more (ap (λ rest. b ∷ rest) (parts_at bs i (omega arith)))

-- what stands before and behind the first full stop
pub cut_at : (text : List ℕ) (i : ℕ) → position is_stop text ≡ Some i
    → (i < length text) × HasNoStop (take i text) × (text ≡ take i text ++ 46 ∷ drop (i + 1) text)
cut_at text i h =
    let at = position-Some is_stop text i 0 h in
    let stop : slice_index text i ≡ 46 = eqb-true (slice_index text i) 46 at.1 in
    (at.0, no_stop_before text i at.2, rw stop at (parts_at text i at.0))

-- a search that found nothing went to the end
position_none : (text : List ℕ) (found : Bool) (at : ℕ) → nat_lt at (length text) ≡ found
    → cond found (Some at) None ≡ None → length text ≤ at
position_none text true at lt h = cc h
position_none text false at lt h = omega (arith, ltb-false at (length text) lt)

-- a text with no first full stop has none
pub no_stop : (text : List ℕ) → position is_stop text ≡ None → HasNoStop text
no_stop text h =
    let past = position_none text (nat_lt (position_or_len is_stop text) (length text)) (position_or_len is_stop text) refl h in
    rw (take_all (length text) text (omega arith)) at
    (no_stop_before text (length text) (λ k lt. fails_before_first is_stop text k 0 (omega (arith, past))))

-- what stands behind the first byte of a text without a full stop
no_stop_behind : (b : ℕ) (bs : List ℕ) → HasNoStop (b ∷ bs) → HasNoStop bs
no_stop_behind b bs h = (and_parts (not (is_stop b)) (list_all (λ byte. not (byte == 46)) bs) h).1

-- two texts that are cut at a first full stop are cut at the same one
pub cut_unique : (a b c d : List ℕ) → HasNoStop a → HasNoStop c → a ++ 46 ∷ b ≡ c ++ 46 ∷ d → (a ≡ c) × (b ≡ d)
cut_unique [] b [] d ha hc e = (refl, cc e)
cut_unique [] b (x ∷ c) d ha hc e =
    let is : x ≡ 46 = cc e in
    absurd (cc (rw is at hc))
cut_unique (x ∷ a) b [] d ha hc e =
    let is : x ≡ 46 = cc e in
    absurd (cc (rw is at ha))
cut_unique (x ∷ a) b (y ∷ c) d ha hc e =
    let same : x ≡ y = cc e in
    let rest : a ++ 46 ∷ b ≡ c ++ 46 ∷ d = cc e in
    let both = cut_unique a b c d (no_stop_behind x a ha) (no_stop_behind y c hc) rest in
    (cc (same, both.0), both.1)

-- no text with a full stop has none
pub stop_stands : (a b : List ℕ) → HasNoStop (a ++ 46 ∷ b) → ⊥
stop_stands [] b h = cc h
stop_stands (x ∷ a) b h = stop_stands a b (no_stop_behind x (a ++ 46 ∷ b) h)
