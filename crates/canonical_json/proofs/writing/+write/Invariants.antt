use Rattle.std.proofs.Common.{◌≡◌, ◌++◌, false, drop}
use Rattle.canonical_json.specs.View.{list_view, object_view, items_view, members_view}
use Rattle.canonical_json.specs.Lawful.{HaveTexts, MembersHaveTexts}
use Rattle.canonical_json.specs.Canon.{values_text, members_text}
use Rattle.canonical_json.proofs.writing.+write.Given as goal

abbrev pub invariant-push_list-loop-item : goal.invariant-push_list-loop-item
invariant-push_list-loop-item l =
    (l.out.items ++ values_text l.later (items_view (drop l.item-index l.item-items)) ≡ l.fn.out.items ++ values_text false (list_view l.list))
    × (HaveTexts (items_view (drop l.item-index l.item-items)) → HaveTexts (list_view l.list))

abbrev pub invariant-push_object-loop-member : goal.invariant-push_object-loop-member
invariant-push_object-loop-member l =
    (l.out.items ++ members_text l.later (members_view (drop l.member-index l.member-items)) ≡ l.fn.out.items ++ members_text false (object_view l.members))
    × (MembersHaveTexts (members_view (drop l.member-index l.member-items)) → MembersHaveTexts (object_view l.members))
