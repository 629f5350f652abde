-- One frame more that was read.
use Rattle.std.proofs.Common.{◌≡◌, ℕ, ◌+◌, ◌≤◌, List, [], ◌∷◌, ◌++◌, length, take, drop, refl, sym, ◌∙◌, ap, subst, arith, append_assoc, length-append, length-drop}
use Rattle.std.proofs.lemmas.List.{take_at, drop_at, drop-drop}
use Rattle.bill_journal.specs.declared.frame_at.FrameAt.{FrameAt}
use Rattle.bill_journal.specs.Frames.{length_bytes, frame_text, gated, front_of, AreShort, IsFrame}
use Rattle.bill_journal.specs.Places.{contents_of, frames_from}
use Rattle.bill_journal.proofs.FrameLemmas.{length-length_bytes, length-frame_text, front_of-push, length-front_of-push, AreShort-push}

pub contents_of-push : (frames : List FrameAt) (f : FrameAt) → contents_of (frames ++ f ∷ []) ≡ contents_of frames
    ++ f.content ∷ []
contents_of-push [] f = refl
contents_of-push (g ∷ frames) f = ap (λ (l : List (List ℕ)). g.content ∷ l) (contents_of-push frames f)

pub frames_from-push : (from at : ℕ) (h : List (List ℕ)) (x : List ℕ) → at ≡ from + length (gated h)
    → frames_from from (h ++ x ∷ []) ≡ frames_from from h ++ record { place = at; content = x } ∷ []
frames_from-push from at [] x is = let same : at ≡ from = omega (arith, is) in
    ap (λ (n : ℕ). record { place = n; content = x } ∷ []) (sym same)
frames_from-push from at (y ∷ h) x is =
    ap (λ (l : List FrameAt). record { place = from; content = y } ∷ l)
    (frames_from-push (from + 5 + length y) at h x
    (omega (arith, is, length-append (frame_text y) (gated h), length-frame_text y)))

-- the frames were read up to the place
pub record IsReadTo (bytes : List ℕ) (frames : List FrameAt) (place : ℕ) : Type 0 where
  pub split : bytes ≡ front_of (contents_of frames) ++ drop place bytes
  pub here : place ≡ length (front_of (contents_of frames))
  pub inside : place ≤ length bytes
  pub places : frames ≡ frames_from 1 (contents_of frames)
  pub short : AreShort (contents_of frames)

pub IsReadTo-push : (bytes slice x : List ℕ) (frames after : List FrameAt) (place n m : ℕ)
    → IsReadTo bytes frames place → slice ≡ drop place bytes → IsFrame n slice
    → 5 + n ≤ length slice → m ≡ n → x ≡ take m (drop (place + 5) bytes) → after ≡ frames
    ++ record { place = place; content = x } ∷ [] → IsReadTo bytes after (place + (5 + n))
IsReadTo-push bytes slice x frames after place n m to is frame fits count read one_more = record {
  split = to.split ∙ ap (λ (l : List ℕ). front_of (contents_of frames) ++ l) behind
      ∙ sym (append_assoc (front_of (contents_of frames)) (1 ∷ frame_text x) (drop (place + (5 + n)) bytes))
      ∙ ap (λ (l : List ℕ). l ++ drop (place + (5 + n)) bytes) (sym (front_of-push (contents_of frames) x))
      ∙ ap (λ (l : List (List ℕ)). front_of l ++ drop (place + (5 + n)) bytes) (sym contents);
  here = omega (
    arith,
    to.here,
    length-front_of-push (contents_of frames) x,
    size,
    ap (λ (l : List (List ℕ)). length (front_of l)) contents,
  );
  inside = omega (arith, fits, ap length is, length-drop place bytes, to.inside);
  places = one_more ∙ ap (λ (l : List FrameAt). l ++ record { place = place; content = x } ∷ []) to.places
      ∙ sym (frames_from-push 1 place (contents_of frames) x (omega (arith, to.here)))
      ∙ ap (frames_from 1) (sym contents);
  short = subst AreShort (sym contents)
      (AreShort-push (contents_of frames) x to.short (omega (arith, size, frame.short)));
}
  where
    contents : contents_of after ≡ (contents_of frames) ++ x ∷ []
    contents = ap contents_of one_more ∙ contents_of-push frames (record { place = place; content = x })

    whole : drop place bytes ≡ 1 ∷ (frame_text frame.content ++ frame.rest)
    whole = sym is ∙ frame.bytes

    at_content : drop (place + 5) bytes ≡ frame.content ++ frame.rest
    at_content = sym (drop-drop 5 place bytes) ∙ ap (drop 5) whole
        ∙ ap (drop 4) (append_assoc (length_bytes (length frame.content)) frame.content frame.rest)
        ∙ drop_at (length_bytes (length frame.content)) (frame.content ++ frame.rest) 4
        (length-length_bytes (length frame.content))

    same : x ≡ frame.content
    same = read ∙ ap (λ (k : ℕ). take k (drop (place + 5) bytes)) count ∙ ap (take n) at_content
        ∙ take_at frame.content frame.rest n frame.size

    size : length x ≡ n
    size = ap length same ∙ frame.size

    rest : frame.rest ≡ drop (place + (5 + n)) bytes
    rest = sym (drop_at frame.content frame.rest n frame.size) ∙ ap (drop n) (sym at_content)
        ∙ drop-drop n (place + 5) bytes
        ∙ (let sums : place + 5 + n ≡ place + (5 + n) = omega arith in ap (λ (k : ℕ). drop k bytes) sums)

    behind : drop place bytes ≡ (1 ∷ frame_text x) ++ drop (place + (5 + n)) bytes
    behind = whole ∙ ap (λ (l : List ℕ). 1 ∷ (frame_text l ++ frame.rest)) (sym same)
        ∙ ap (λ (l : List ℕ). 1 ∷ (frame_text x ++ l)) rest
