-- How the items of a list are read one after the other.
use Rattle.std.proofs.Common.{◌≡◌, ℕ, suc, ◌+◌, ◌<◌, List, [], ◌∷◌, ◌++◌, Option, Some, None, length, refl, sym, ap, ◌∙◌, append_assoc, drop, drop-cons, get_or, add-one}
use Rattle.canonical_json.specs.Value.{Value, item}
use Rattle.canonical_json.specs.View.{view, items_view}
use Rattle.canonical_json.specs.declared.value.Json.{Json}
use Rattle.json_forms.specs.Reading.{all_of, with_more}

-- what was read, and then the rest
abbrev pub gathered : {T : Type 0} → List T → Option (List T) → Option (List T)
gathered read None = None
gathered read (Some rest) = Some (read ++ rest)

gathered-with_more : {T : Type 0} (read : List T) (x : T) (rest : Option (List T))
    → gathered (read ++ x ∷ []) rest ≡ gathered read (with_more (Some x) rest)
gathered-with_more read x None = refl
gathered-with_more read x (Some rest) = ap Some (append_assoc read (x ∷ []) rest)

-- the item here, and then those behind it
pub items_view-drop : (items : List Json) (i : ℕ) (j : Json) → i < length items → j ≡ get_or items i j
    → items_view (drop i items) ≡ item (view j) (items_view (drop (i + 1) items))
items_view-drop items i j lt is =
    rw add-one (ap items_view (drop-cons items i j lt ∙ ap (λ first. first ∷ drop (suc i) items) (sym is)))

-- an item that is in the form is gathered
pub gathered-item : {T : Type 0} (form : Value → Option T) (items : List Json) (i : ℕ) (j : Json) (read : List T) (x : T)
    → i < length items → j ≡ get_or items i j → Some x ≡ form (view j)
    → gathered (read ++ x ∷ []) (all_of form (items_view (drop (i + 1) items)))
    ≡ gathered read (all_of form (items_view (drop i items)))
gathered-item form items i j read x lt is found =
    gathered-with_more read x (all_of form (items_view (drop (i + 1) items)))
    ∙ ap (λ first. gathered read (with_more first (all_of form (items_view (drop (i + 1) items))))) found
    ∙ ap (λ vs. gathered read (all_of form vs)) (sym (items_view-drop items i j lt is))
