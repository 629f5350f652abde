-- The items are the checksums so far, which have their digits.
use Rattle.std.proofs.Common.{◌≡◌, ◌<◌, ℕ, get_or, map, take}
use Rattle.canonical_json.specs.View.{view}
use Rattle.ebl_base.specs.declared.checksum.Checksum.{Checksum}
use Rattle.json_forms.specs.Writing.{HasDigits, checksum_value}
use Rattle.json_forms.proofs.writing.checksums_json.Given as goal

abbrev pub invariant-loop-checksum : goal.invariant-loop-checksum
invariant-loop-checksum l = record {
  items : map view l.items.items ≡ map checksum_value (take l.checksum-index l.checksums);
  digits : (k : ℕ) (d : Checksum) → k < l.checksum-index → HasDigits (get_or l.checksums k d);
}
