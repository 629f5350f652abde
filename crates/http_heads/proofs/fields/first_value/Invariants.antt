use Rattle.std.proofs.Common.{◌≡◌, List, ℕ, map, drop, codes}
use Rattle.std.specs.List.{list_any, list_all}
use Rattle.httparse.specs.Spans.{header_bytes}
use Rattle.http_heads.specs.Fields.{values, has_one, first_of}
use Rattle.http_heads.specs.Fields.{is_name, is_text}
use Rattle.http_heads.proofs.fields.first_value.Given as goal

abbrev pub invariant-loop-header : goal.invariant-loop-header
invariant-loop-header l = first_of (values l.fn.name (map (header_bytes l.piece) l.headers)) ≡ first_of (values l.fn.name (map (header_bytes l.piece) (drop l.header-index l.headers)))
