use Rattle.std.proofs.Common.{◌≡◌, drop}
use Rattle.canonical_json.specs.View.{object_view, members_view}
use Rattle.canonical_json.specs.Field.{under}
use Rattle.canonical_json.proofs.field.under.Given as goal

abbrev pub invariant-loop-member : goal.invariant-loop-member
invariant-loop-member l = under l.name (object_view l.members) ≡ under l.name (members_view (drop l.member-index l.member-items))
