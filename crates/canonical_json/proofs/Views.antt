-- A member beside its view.
use Rattle.std.proofs.Common.{◌≡◌, rules}
use Rattle.canonical_json.specs.View.{view, member_view}
use Rattle.canonical_json.specs.declared.value.Json.{the_lemmas}
use Rattle.canonical_json.specs.declared.value.Json.TheViews.{out-Member}
use Rattle.canonical_json.specs.declared.value.Member.{Member}

pub value_of-member_view : (m : Member) → (member_view m).1 ≡ view (out-Member m).value
value_of-member_view m = search (rules, the_lemmas)
