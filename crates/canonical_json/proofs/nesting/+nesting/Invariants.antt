use Rattle.std.proofs.Common.{◌≡◌, drop, nat_le}
use Rattle.canonical_json.specs.Value.{values_depth, members_depth}
use Rattle.canonical_json.specs.View.{list_view, object_view, items_view, members_view}
use Rattle.canonical_json.proofs.nesting.+nesting.Given as goal

abbrev pub invariant-list_nests_within-loop-item : goal.invariant-list_nests_within-loop-item
invariant-list_nests_within-loop-item l =
    nat_le (values_depth (list_view l.list)) l.most
    ≡ nat_le (values_depth (items_view (drop l.item-index l.item-items))) l.most

abbrev pub invariant-members_nest_within-loop-member : goal.invariant-members_nest_within-loop-member
invariant-members_nest_within-loop-member l =
    nat_le (members_depth (object_view l.members)) l.most
    ≡ nat_le (members_depth (members_view (drop l.member-index l.member-items))) l.most
