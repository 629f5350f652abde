use Rattle.std.proofs.Common.{◌≡◌, ◌≤◌, ◌-◌, List, [], ◌∷◌, length, drop, true, refl, sym, ◌∙◌, arith, length-drop}
use Rattle.canonical_json.specs.View.{members_view}
use Rattle.canonical_json.specs.Name.{names_rise}
use Rattle.canonical_json.specs.declared.value.Member.{Member}
use Rattle.canonical_json.proofs.name.names_rise.Goals as goal

-- one name rises
short : (ms : List Member) → length ms ≤ 1 → names_rise (members_view ms) ≡ true
short [] h = refl
short (m ∷ []) h = refl
short (m ∷ n ∷ ms) h = absurd (omega arith)

pub returns : goal.returns
returns c =
    sym (c.loop-i.invariant ∙ short (drop (c.loop-i.i - 1) c.args.members.now) (omega (arith, length-drop (c.loop-i.i - 1) c.args.members.now)))
