use Rattle.std.proofs.Common.{rules, ◌≡◌, ◌+◌, ◌-◌, ◌≤◌, ◌<◌, ◌^◌, ℕ, List, [], ◌∷◌, ◌++◌, get_or, length, take, drop, ap, sym, ◌∙◌, subst, arith, length-take, length-drop, take-append-drop}
use Rattle.std.proofs.lemmas.List.{length-take-le, append_assoc}
use Rattle.bill_journal.specs.Frames.{length_bytes, IsFrame}
use Rattle.bill_journal.proofs.reading.look_ahead.Goals as goal

-- a gate 1, four bytes that tell n, and n bytes more
frame_ahead : (tail : List ℕ) (n : ℕ) → get_or tail 0 0 ≡ 1 → 5 ≤ length tail
    → length_bytes n ≡ get_or tail 1 0 ∷ get_or tail 2 0 ∷ get_or tail 3 0 ∷ get_or tail 4 0 ∷ []
    → 5 + n ≤ length tail → n < 2 ^ 32 → IsFrame n tail
frame_ahead (g ∷ a ∷ b ∷ c ∷ d ∷ rest) n opened long four fits short =
    let inside : n ≤ length rest = omega (arith, fits) in
    let size : length (take n rest) ≡ n = length-take-le n rest inside in
    record {
      content = take n rest;
      rest = drop n rest;
      bytes = ap (λ (l : ℕ). l ∷ a ∷ b ∷ c ∷ d ∷ rest) opened
          ∙ ap (λ (l : List ℕ). 1 ∷ (l ++ rest)) (sym four)
          ∙ ap (λ (l : List ℕ). 1 ∷ (length_bytes n ++ l)) (sym (take-append-drop n rest))
          ∙ ap (λ (m : ℕ). 1 ∷ (length_bytes m ++ (take n rest ++ drop n rest))) (sym size)
          ∙ ap (λ (l : List ℕ). 1 ∷ l)
          (sym (append_assoc (length_bytes (length (take n rest))) (take n rest) (drop n rest)));
      size = size;
      short = short;
    }
frame_ahead [] n opened long four fits short = absurd (omega arith)
frame_ahead (g ∷ []) n opened long four fits short = absurd (omega arith)
frame_ahead (g ∷ a ∷ []) n opened long four fits short = absurd (omega arith)
frame_ahead (g ∷ a ∷ b ∷ []) n opened long four fits short = absurd (omega arith)
frame_ahead (g ∷ a ∷ b ∷ c ∷ []) n opened long four fits short = absurd (omega arith)

room : (tail : List ℕ) (n : ℕ) → 5 ≤ length tail → n ≤ length (take (length tail - 5) (drop 5 tail))
    → 5 + n ≤ length tail
room tail n long inside = omega (arith, inside, length-take (length tail - 5) (drop 5 tail), length-drop 5 tail, long)

pub returns-then-len-rest-clause-frame : goal.returns-then-len-rest-clause-frame
returns-then-len-rest-clause-frame c n is =
    let same : c.length_of-len.result ≡ n = cc in
    let fits = room c.args.tail.now c.length_of-len.result c.in-1.len_at_least c.if-len-rest.true in
    subst (λ (m : ℕ). IsFrame m c.args.tail.now) same
    (frame_ahead c.args.tail.now c.length_of-len.result
    (search rules) c.in-1.len_at_least c.length_of-len.ensures.bytes fits c.length_of-len.ensures.short)

pub returns-then-len-rest-clause-fits : goal.returns-then-len-rest-clause-fits
returns-then-len-rest-clause-fits c n is =
    let same : c.length_of-len.result ≡ n = cc in
    subst (λ (m : ℕ). 5 + m ≤ length c.args.tail.now) same
    (room c.args.tail.now c.length_of-len.result c.in-1.len_at_least c.if-len-rest.true)
