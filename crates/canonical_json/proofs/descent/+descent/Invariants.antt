use Rattle.std.proofs.Common.{◌+◌, ◌*◌, length}
use Rattle.json.specs.Json.{value}
use Rattle.canonical_json.proofs.Descents.{ItemsRead, MembersRead}
use Rattle.canonical_json.proofs.descent.+descent.Given as goal

abbrev pub decreases-next_value : goal.decreases-next_value
decreases-next_value l = 2 * l.depth

abbrev pub decreases-next_items : goal.decreases-next_items
decreases-next_items l = 2 * l.depth + 1

abbrev pub decreases-next_members : goal.decreases-next_members
decreases-next_members l = 2 * l.depth + 1

abbrev pub invariant-next_items-loop-alloc : goal.invariant-next_items-loop-alloc
invariant-next_items-loop-alloc l = ItemsRead (value l.depth) l.fn.reader l.reader l.fn.faults l.faults l.found.items

abbrev pub decreases-next_items-loop-alloc : goal.decreases-next_items-loop-alloc
decreases-next_items-loop-alloc l = length l.reader

abbrev pub invariant-next_members-loop-found : goal.invariant-next_members-loop-found
invariant-next_members-loop-found l = MembersRead (value l.depth) l.fn.reader l.reader l.fn.faults l.faults l.found.items

abbrev pub decreases-next_members-loop-found : goal.decreases-next_members-loop-found
decreases-next_members-loop-found l = length l.reader
