use Rattle.std.proofs.Common.{◌≡◌, map, take}
use Rattle.canonical_json.specs.View.{view, member_view}
use Rattle.canonical_json.proofs.value.+copy.Given as goal

abbrev pub invariant-JsonList::copy-loop-item : goal.invariant-JsonList::copy-loop-item
invariant-JsonList::copy-loop-item l = map view l.copies.items ≡ map view (take l.item-index l.item-items)

abbrev pub invariant-MemberList::copy-loop-member : goal.invariant-MemberList::copy-loop-member
invariant-MemberList::copy-loop-member l = map member_view l.copies.items ≡ map member_view (take l.member-index l.member-items)
