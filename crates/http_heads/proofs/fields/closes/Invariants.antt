use Rattle.std.proofs.Common.{◌≡◌, List, ℕ, map, drop, codes}
use Rattle.std.specs.List.{list_any, list_all}
use Rattle.httparse.specs.Spans.{header_bytes}
use Rattle.http_heads.specs.Fields.{values, has_one, first_of}
use Rattle.http_heads.specs.Fields.{is_name, is_text}
use Rattle.http_heads.proofs.fields.closes.Given as goal

abbrev pub invariant-loop-header : goal.invariant-loop-header
invariant-loop-header l = list_any (is_name (codes "close")) (values (codes "connection") (map (header_bytes l.piece) l.headers)) ≡ list_any (is_name (codes "close")) (values (codes "connection") (map (header_bytes l.piece) (drop l.header-index l.headers)))
