use Rattle.std.proofs.Common.{◌≡◌, ◌++◌, false, drop}
use Rattle.canonical_json.specs.Canon.{values_text}
use Rattle.json_forms.specs.Writing.{each_written, signed_value}
use Rattle.envelope_manifest.proofs.body_writing.push_texts.Given as goal

abbrev pub invariant-loop-text : goal.invariant-loop-text
invariant-loop-text l =
    l.out ++ values_text l.later (each_written signed_value (drop l.text-index l.texts))
    ≡ l.fn.out ++ values_text false (each_written signed_value l.texts)
