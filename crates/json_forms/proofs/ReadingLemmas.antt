-- How many values the items of a list are.
use Rattle.std.proofs.Common.{◌≡◌, ℕ, suc, Bool, ◌&&◌, nat_le, List, [], ◌∷◌, Some, None, cond, length, refl, sym, ap, ◌∙◌}
use Rattle.canonical_json.specs.Value.{Values}
use Rattle.canonical_json.specs.declared.value.Json.{Json}
use Rattle.canonical_json.specs.View.{items_view}
use Rattle.json_forms.specs.Reading.{count_of, within}

-- as many values as items
pub count_of-items_view : (items : List Json) → count_of (items_view items) ≡ length items
count_of-items_view [] = refl
count_of-items_view (x ∷ items) = ap suc (count_of-items_view items)

-- what a test of the number of items says of their values
pub within-test : (items : List Json) (seen_values : Values) (least most : ℕ) (test : Bool)
    → items_view items ≡ seen_values → test ≡ (nat_le least (length items) && nat_le (length items) most)
    → cond test (Some (items_view items)) None ≡ within least most seen_values
within-test items seen_values least most test seen is =
    ap (λ b. cond b (Some (items_view items)) None)
    (is ∙ ap (λ n. nat_le least n && nat_le n most) (sym (count_of-items_view items)))
    ∙ ap (within least most) seen
