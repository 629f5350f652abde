-- A list of bytes is a journal of one list of contents at most, or it is damaged at one place.
use Rattle.std.proofs.Common.{◌≡◌, ◌≢◌, inl, inr, ◌⊎◌, ℕ, ◌+◌, ◌<◌, ◌≤◌, ◌^◌, List, [], ◌∷◌, ◌++◌, ◌-◌, ⊎_elim, length, take, drop, refl, sym, ◌∙◌, ap, subst, arith, append_assoc, length-append}
use Rattle.std.proofs.lemmas.List.{append-nil, take_at, drop_at}
use Rattle.std.proofs.lemmas.Nat.{from_be_bytes-to_be_bytes_4}
use Rattle.std.specs.Int.{w32, from_be_bytes}
use Rattle.bill_journal.specs.Framed.{content, IsFramed}
use Rattle.bill_journal.specs.Frames.{length_bytes, frame_text, framed, gated, front_of, IsShort, AreShort, StandsAt, StandsFor, RunsPast, HasNoVersion, IsDamagedAt}

pub length-length_bytes : (n : ℕ) → length (length_bytes n) ≡ 4
unfolding length_bytes
length-length_bytes n = refl

-- the four bytes tell the length
pub length_bytes-same : (m n : ℕ) → m < 2 ^ 32 → n < 2 ^ 32 → length_bytes m ≡ length_bytes n → m ≡ n
unfolding length_bytes
length_bytes-same m n p q same = sym (from_be_bytes-to_be_bytes_4 m p) ∙ ap (from_be_bytes w32) same
    ∙ from_be_bytes-to_be_bytes_4 n q

pub length-frame_text : (x : List ℕ) → length (frame_text x) ≡ 4 + length x
length-frame_text x = omega (arith, length-append (length_bytes (length x)) x, length-length_bytes (length x))

pub gated-append : (h k : List (List ℕ)) → gated (h ++ k) ≡ gated h ++ gated k
gated-append [] k = refl
gated-append (x ∷ h) k = ap (λ (l : List ℕ). 1 ∷ (frame_text x ++ l)) (gated-append h k)
    ∙ ap (λ (l : List ℕ). 1 ∷ l) (sym (append_assoc (frame_text x) (gated h) (gated k)))

-- one frame more
pub front_of-push : (h : List (List ℕ)) (x : List ℕ) → front_of (h ++ x ∷ []) ≡ front_of h ++ 1 ∷ frame_text x
front_of-push h x = ap (λ (l : List ℕ). 1 ∷ l) (gated-append h (x ∷ []))
    ∙ ap (λ (l : List ℕ). 1 ∷ (gated h ++ 1 ∷ l)) (append-nil (frame_text x))

pub length-front_of-push : (h : List (List ℕ)) (x : List ℕ)
    → length (front_of (h ++ x ∷ [])) ≡ length (front_of h) + 5 + length x
length-front_of-push h x = omega (
  arith,
  ap length (front_of-push h x),
  length-append (front_of h) (1 ∷ frame_text x),
  length-frame_text x,
)

pub AreShort-push : (h : List (List ℕ)) (x : List ℕ) → AreShort h → IsShort x → AreShort (h ++ x ∷ [])
AreShort-push [] x short here = (here, tt)
AreShort-push (y ∷ h) x short here = (short.0, AreShort-push h x short.1 here)

-- two lists of bytes that begin alike with a whole frame begin with the same frame
same_frame : (x y t u : List ℕ) → IsShort x → IsShort y → frame_text x ++ t ≡ frame_text y ++ u → (x ≡ y) × (t ≡ u)
same_frame x y t u short_x short_y same =
    let whole : length_bytes (length x) ++ (x ++ t) ≡ length_bytes (length y) ++ (y ++ u) =
    sym (append_assoc (length_bytes (length x)) x t) ∙ same ∙ append_assoc (length_bytes (length y)) y u in
    let fours = sym (take_at (length_bytes (length x)) (x ++ t) 4 (length-length_bytes (length x))) ∙ ap (take 4) whole
    ∙ take_at (length_bytes (length y)) (y ++ u) 4 (length-length_bytes (length y)) in
    let behind = sym (drop_at (length_bytes (length x)) (x ++ t) 4 (length-length_bytes (length x))) ∙ ap (drop 4) whole
    ∙ drop_at (length_bytes (length y)) (y ++ u) 4 (length-length_bytes (length y)) in
    let long : length x ≡ length y = length_bytes-same (length x) (length y) short_x short_y fours in
    let contents = sym (take_at x t (length y) long) ∙ ap (take (length y)) behind ∙ take_at y u (length y) refl in
    (contents, sym (drop_at x t (length y) long) ∙ ap (drop (length y)) behind ∙ drop_at y u (length y) refl)

-- no whole frame behind a gate 1 stands in front
abbrev pub IsEnd : List ℕ → Type 0
IsEnd tail = (x rest : List ℕ) → IsShort x → tail ≡ 1 ∷ (frame_text x ++ rest) → ⊥

pub shut_end : (gate : ℕ) (rest : List ℕ) → gate ≢ 1 → IsEnd (gate ∷ rest)
shut_end gate rest shut x more short same = let opened : gate ≡ 1 = cc in shut opened

past_end : (tail : List ℕ) → RunsPast tail → IsEnd tail
past_end tail runs x more short same = ⊎_elim no_length too_long runs.past
  where
    behind : runs.rest ≡ frame_text x ++ more
    behind = let both : 1 ∷ runs.rest ≡ 1 ∷ (frame_text x ++ more) = sym runs.opened ∙ same in cc

    long : length runs.rest ≡ 4 + length x + length more
    long = omega (arith, ap length behind, length-append (frame_text x) more, length-frame_text x)

    no_length : length runs.rest < 4 → ⊥
    no_length few = omega (arith, few, long)

    too_long : (n : ℕ) × (n < 2 ^ 32) × (length_bytes n ≡ take 4 runs.rest) × (length runs.rest < 4 + n) → ⊥
    too_long (n, fits, four, few) =
        let told : length_bytes n ≡ length_bytes (length x) = four
        ∙ ap (take 4) (behind ∙ append_assoc (length_bytes (length x)) x more)
        ∙ take_at (length_bytes (length x)) (x ++ more) 4 (length-length_bytes (length x)) in
        let same_length : n ≡ length x = length_bytes-same n (length x) fits short told in
        omega (arith, few, long, same_length)

pub broken_end : (tail : List ℕ) → (tail ≡ []) ⊎ RunsPast tail → IsEnd tail
broken_end tail (inl none) x more short same = let clash : [] ≡ 1 ∷ (frame_text x ++ more) = sym none ∙ same in cc
broken_end tail (inr runs) x more short same = past_end tail runs x more short same

-- whole frames with an end behind them are there in one way only
pub same_frames : (h k : List (List ℕ)) (t u : List ℕ) → AreShort h → AreShort k → IsEnd t → IsEnd u → gated h
    ++ t ≡ gated k ++ u → (h ≡ k) × (t ≡ u)
same_frames [] [] t u short_h short_k end_t end_u same = (refl, same)
same_frames [] (y ∷ k) t u short_h short_k end_t end_u same =
    absurd (end_t y (gated k ++ u) short_k.0
    (same ∙ ap (λ (l : List ℕ). 1 ∷ l) (append_assoc (frame_text y) (gated k) u)))
same_frames (x ∷ h) [] t u short_h short_k end_t end_u same =
    absurd (end_u x (gated h ++ t) short_h.0
    (sym same ∙ ap (λ (l : List ℕ). 1 ∷ l) (append_assoc (frame_text x) (gated h) t)))
same_frames (x ∷ h) (y ∷ k) t u short_h short_k end_t end_u same =
    let whole : 1 ∷ (frame_text x ++ (gated h ++ t)) ≡ 1 ∷ (frame_text y ++ (gated k ++ u)) =
    ap (λ (l : List ℕ). 1 ∷ l) (sym (append_assoc (frame_text x) (gated h) t)) ∙ same
    ∙ ap (λ (l : List ℕ). 1 ∷ l) (append_assoc (frame_text y) (gated k) u) in
    let behind : frame_text x ++ (gated h ++ t) ≡ frame_text y ++ (gated k ++ u) = cc in
    let first = same_frame x y (gated h ++ t) (gated k ++ u) short_h.0 short_k.0 behind in
    let others = same_frames h k t u short_h.1 short_k.1 end_t end_u first.1 in
    let both : x ∷ h ≡ y ∷ k = ap (λ (l : List ℕ). l ∷ h) first.0 ∙ ap (λ (l : List (List ℕ)). y ∷ l) others.0 in
    (both, others.1)

fronts : (file : List ℕ) (h k : List (List ℕ)) (t u : List ℕ) → file ≡ front_of h ++ t → file ≡ front_of k ++ u
    → gated h ++ t ≡ gated k ++ u
fronts file h k t u p q = let both : 1 ∷ (gated h ++ t) ≡ 1 ∷ (gated k ++ u) = sym p ∙ q in cc

no_front : (file : List ℕ) (h : List (List ℕ)) (t : List ℕ) → HasNoVersion file → file ≡ front_of h ++ t → ⊥
no_front file h t none is = (subst HasNoVersion is none) refl

pub stands_once : (file : List ℕ) (h k : List (List ℕ)) → StandsFor file h → StandsFor file k → h ≡ k
stands_once file h k p q =
    (same_frames h k (p.gate ∷ p.rest) (q.gate ∷ q.rest) p.short q.short (shut_end p.gate p.rest p.shut)
    (shut_end q.gate q.rest q.shut)
    (fronts file h k _ _ p.bytes q.bytes)).0

no_shut_break : (gate : ℕ) (rest tail : List ℕ) → gate ≢ 1 → gate ∷ rest ≡ tail → (tail ≡ []) ⊎ RunsPast tail → ⊥
no_shut_break gate rest tail shut same (inl none) = let clash : gate ∷ rest ≡ [] = same ∙ none in cc
no_shut_break gate rest tail shut same (inr runs) = let both : gate ∷ rest ≡ 1 ∷ runs.rest = same ∙ runs.opened in
    let opened : gate ≡ 1 = cc in shut opened

pub never_both : (file : List ℕ) (h : List (List ℕ)) (place : ℕ) → StandsFor file h → IsDamagedAt file place → ⊥
never_both file h place stands (inl none) = no_front file h (stands.gate ∷ stands.rest) none.0 stands.bytes
never_both file h place stands (inr breaks) =
    let same = same_frames h breaks.frames (stands.gate ∷ stands.rest) breaks.tail stands.short breaks.short
    (shut_end stands.gate stands.rest stands.shut)
    (broken_end breaks.tail breaks.broken) (fronts file h breaks.frames _ _ stands.bytes breaks.bytes) in
    no_shut_break stands.gate stands.rest breaks.tail stands.shut same.1 breaks.broken

pub breaks_once : (file : List ℕ) (p q : ℕ) → IsDamagedAt file p → IsDamagedAt file q → p ≡ q
breaks_once file p q (inl a) (inl b) = a.1 ∙ sym b.1
breaks_once file p q (inl a) (inr b) = absurd (no_front file b.frames b.tail a.0 b.bytes)
breaks_once file p q (inr a) (inl b) = absurd (no_front file a.frames a.tail b.0 a.bytes)
breaks_once file p q (inr a) (inr b) =
    let same = same_frames a.frames b.frames a.tail b.tail a.short b.short (broken_end a.tail a.broken)
    (broken_end b.tail b.broken)
    (fronts file a.frames b.frames _ _ a.bytes b.bytes) in
    a.here ∙ ap (λ (h : List (List ℕ)). length (front_of h)) same.0 ∙ sym b.here

-- the content of a framed content is that content
pub content-framed : (x : List ℕ) → content (framed x) ≡ x
content-framed x =
    let len : length (framed x) - 5 ≡ length x = omega
    (arith, length-append (frame_text x) (0 ∷ []), length-frame_text x) in
    ap (λ (n : ℕ). take n (drop 4 (framed x))) len
    ∙ ap (λ (l : List ℕ). take (length x) (drop 4 l)) (append_assoc (length_bytes (length x)) x (0 ∷ []))
    ∙ ap (take (length x)) (drop_at (length_bytes (length x)) (x ++ 0 ∷ []) 4 (length-length_bytes (length x)))
    ∙ take_at x (0 ∷ []) (length x) refl

pub length-framed : (x : List ℕ) → length (framed x) ≡ 5 + length x
length-framed x = omega (arith, length-append (frame_text x) (0 ∷ []), length-frame_text x)

pub IsFramed-framed : (bytes x : List ℕ) → bytes ≡ framed x → length x ≤ 16777216 → IsFramed bytes
IsFramed-framed bytes x is fits =
    let same : content bytes ≡ x = ap content is ∙ content-framed x in
    record { whole = is ∙ ap framed (sym same); short = omega (arith, ap length same, fits) }

-- ---- where a content stands

pub stands_at : (file x : List ℕ) (before behind : List (List ℕ)) → StandsFor file (before ++ x ∷ behind)
    → StandsAt file (length (front_of before) + 5) x
stands_at file x before behind stands =
    let four = length_bytes (length x) in
    let rest = gated behind ++ stands.gate ∷ stands.rest in
    let inner : gated (before ++ x ∷ behind) ≡ gated before ++ 1 ∷ (four ++ (x ++ gated behind)) =
    gated-append before (x ∷ behind)
    ∙ ap (λ (l : List ℕ). gated before ++ 1 ∷ l) (append_assoc four x (gated behind)) in
    record {
      front = front_of before ++ 1 ∷ four;
      rest = rest;
      bytes = stands.bytes
          ∙ ap (λ (l : List ℕ). 1 ∷ (l ++ stands.gate ∷ stands.rest)) inner
          ∙ ap (λ (l : List ℕ). 1 ∷ l)
          (append_assoc (gated before) (1 ∷ (four ++ (x ++ gated behind))) (stands.gate ∷ stands.rest)
          ∙ ap (λ (l : List ℕ). gated before ++ 1 ∷ l)
          (append_assoc four (x ++ gated behind) (stands.gate ∷ stands.rest)
          ∙ ap (λ (l : List ℕ). four ++ l) (append_assoc x (gated behind) (stands.gate ∷ stands.rest)))
          ∙ sym (append_assoc (gated before) (1 ∷ four) (x ++ rest)));
      here = omega (arith, length-append (front_of before) (1 ∷ four), length-length_bytes (length x));
    }
