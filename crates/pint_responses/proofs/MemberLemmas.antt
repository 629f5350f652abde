-- How members are put one after another.
use Rattle.std.proofs.Common.{◌≡◌, ℕ, List, [], ◌∷◌, ◌++◌, map, refl, ap}
use Rattle.canonical_json.specs.Value.{Value, Members, member}
use Rattle.canonical_json.specs.View.{Entry, member_view, members_of}
use Rattle.canonical_json.specs.Value.{no_members}
use Rattle.canonical_json.specs.declared.value.Member.{Member}
use Rattle.pint_responses.specs.Writing.{in_front}

-- one more behind some
pub in_front_push : (items : List Member) (m : Member) (name : List ℕ) (value : Value) (rest : Members)
    → member_view m ≡ (name, value)
    → in_front (map member_view (items ++ m ∷ [])) rest ≡ in_front (map member_view items) (member name value rest)
in_front_push [] m name value rest h = ap (λ (e : Entry). member e.0 e.1 rest) h
in_front_push (x ∷ items) m name value rest h =
    ap (λ ms. member (member_view x).0 (member_view x).1 ms) (in_front_push items m name value rest h)

-- all of them
pub in_front_all : (entries : List Entry) → in_front entries no_members ≡ members_of entries
in_front_all [] = refl
in_front_all (e ∷ es) = ap (λ ms. member e.0 e.1 ms) (in_front_all es)
