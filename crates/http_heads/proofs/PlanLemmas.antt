-- A plan by the parts of a head.
use Rattle.std.proofs.Common.{◌≡◌, ℕ, List, ap, sym, ◌∙◌, subst, map}
use Rattle.httparse.specs.Grammar.{RequestHead}
use Rattle.httparse.specs.Spans.{name_and_value}
use Rattle.http_heads.specs.declared.plan.Plan.{Plan}
use Rattle.http_heads.specs.Plan.{IsPlan, IsHead, head, plan}

pub plan_by : (piece method target : List ℕ) (minor : ℕ) (fields : List (List ℕ × List ℕ)) (h : RequestHead) (p : Plan)
    → IsHead piece h → method ≡ h.method → target ≡ h.target → minor ≡ h.minor → fields ≡ map name_and_value h.fields
    → p ≡ plan method target minor fields → IsPlan piece p
plan_by piece method target minor fields h p is_head m t v f same =
    let all : p ≡ plan h.method h.target h.minor (map name_and_value h.fields) =
    same ∙ ap (λ x. plan x target minor fields) m ∙ ap (λ x. plan h.method x minor fields) t
    ∙ ap (λ x. plan h.method h.target x fields) v ∙ ap (λ x. plan h.method h.target h.minor x) f in
    subst (IsPlan piece) (sym all) (head h is_head)
