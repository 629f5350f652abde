use Rattle.std.proofs.Common.{◌≡◌, drop}
use Rattle.canonical_json.specs.View.{list_view, object_view, items_view, members_view}
use Rattle.canonical_json.specs.Lawful.{are_lawful, members_are_lawful}
use Rattle.canonical_json.proofs.lawful.+lawful.Given as goal

abbrev pub invariant-are_lawful-loop-item : goal.invariant-are_lawful-loop-item
invariant-are_lawful-loop-item l = are_lawful (list_view l.list) ≡ are_lawful (items_view (drop l.item-index l.item-items))

abbrev pub invariant-members_are_lawful-loop-member : goal.invariant-members_are_lawful-loop-member
invariant-members_are_lawful-loop-member l =
    members_are_lawful (object_view l.members) ≡ members_are_lawful (members_view (drop l.member-index l.member-items))
