use Rattle.std.proofs.Common.{◌≡◌, length}
use Rattle.std.specs.Vec.Iter.{into_iter_items, into_iter_len}
use Rattle.canonical_json.specs.View.{items_view}
use Rattle.json_forms.specs.Reading.{all_of, signed_in}
use Rattle.json_forms.proofs.ListLemmas.{gathered}
use Rattle.envelope_manifest.proofs.body_reading.all_signed_in.Given as goal

abbrev pub invariant-loop-item : goal.invariant-loop-item
invariant-loop-item l =
    (gathered l.texts.items (all_of signed_in (items_view (into_iter_items l.item-iterator)))
    ≡ all_of signed_in (items_view l.fn.items.items))
    × (into_iter_len l.item-iterator ≡ length (into_iter_items l.item-iterator))
