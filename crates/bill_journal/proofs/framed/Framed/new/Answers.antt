use Rattle.std.proofs.Common.{◌≡◌, ◌++◌, [], ◌∷◌, List, ℕ, length, ap, ◌∙◌}
use Rattle.bill_journal.specs.Frames.{length_bytes, framed}
use Rattle.bill_journal.specs.Framed.{content}
use Rattle.bill_journal.proofs.FrameLemmas.{content-framed, IsFramed-framed}
use Rattle.bill_journal.proofs.framed.Framed.new.Goals as goal

whole : (head mid bytes x : List ℕ) → head ≡ length_bytes (length x) → mid ≡ head ++ x → bytes ≡ mid ++ 0 ∷ []
    → bytes ≡ framed x
whole head mid bytes x p q r = r ∙ ap (λ (l : List ℕ). l ++ 0 ∷ []) (q ∙ ap (λ (l : List ℕ). l ++ x) p)

pub invariant_of-result : goal.invariant_of-result
invariant_of-result c =
    let is = whole _ _ _ c.args.content.now
    (c.in_ok-bytes.ensures
    ∙ c.bytes_of_length.ensures) c.in_ok-extend_from_slice.ensures.ok c.in_ok-push.ensures.ok in
    IsFramed-framed c.push.new.self c.args.content.now is c.requires

pub returns : goal.returns
returns c =
    let is = whole _ _ _ c.args.content.now
    (c.in_ok-bytes.ensures
    ∙ c.bytes_of_length.ensures) c.in_ok-extend_from_slice.ensures.ok c.in_ok-push.ensures.ok in
    ap content is ∙ content-framed c.args.content.now
