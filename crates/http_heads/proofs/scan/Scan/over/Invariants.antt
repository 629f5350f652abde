use Rattle.std.proofs.Common.{◌≡◌, ◌+◌, drop}
use Rattle.http_heads.specs.Scan.{scan}
use Rattle.http_heads.proofs.scan.Scan.over.Given as goal

abbrev pub invariant-loop-byte : goal.invariant-loop-byte
invariant-loop-byte l = record {
  goes : scan l.fn.before l.fn.self l.bytes ≡ scan l.count l.at (drop l.byte-index l.bytes);
  counted : l.count ≡ l.fn.before + l.byte-index;
}
