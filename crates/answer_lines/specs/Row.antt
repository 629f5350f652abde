-- The members that were put one after another.
use Rattle.std.specs.Prelude.{List, map}
use Rattle.canonical_json.specs.View.{Entry, member_view}
use Rattle.answer_lines.specs.declared.row.Row.{Row}

-- names and values, in their order
unfoldable pub row_entries : Row → List Entry
row_entries row = map member_view row.members.items
