use Rattle.std.proofs.Common.{◌≡◌, drop}
use Rattle.canonical_json.specs.View.{items_view}
use Rattle.json_forms.specs.Reading.{checksum_in, all_of}
use Rattle.json_forms.proofs.ListLemmas.{gathered}
use Rattle.json_forms.proofs.reading.checksums_in.Given as goal

abbrev pub invariant-loop-item : goal.invariant-loop-item
invariant-loop-item l =
    gathered l.checksums.items (all_of checksum_in (items_view (drop l.item-index l.items)))
    ≡ all_of checksum_in (items_view l.items)
