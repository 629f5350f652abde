use Rattle.std.proofs.Common.{◌++◌, false, codes, sym, ap, ◌∙◌}
use Rattle.canonical_json.specs.Canon.{canon, values_text}
use Rattle.canonical_json.specs.View.{view}
use Rattle.json_forms.specs.Writing.{each_written, signed_value}
use Rattle.envelope_manifest.specs.Body.{body_view}
use Rattle.envelope_manifest.proofs.BodyLemmas.{canon-body_value, joined, put_same}
use Rattle.envelope_manifest.proofs.body.Body.write_around.Goals as goal

pub returns : goal.returns
returns c =
    joined (codes "{\"chain\":[") (values_text false (each_written signed_value c.args.self.now.chain))
    (codes ",\"document\":") (canon (view c.args.self.now.document)) (codes ",\"manifest\":")
    (canon (signed_value c.args.self.now.manifest)) (codes "}")
    _ _ _ _ _ _ _ c.in_ok-out.ensures
    (c.in_ok-push_texts.ensures
    ∙ ap (λ ts. c.in_ok-out.out ++ values_text false (each_written signed_value ts)) c.as_slice.ensures)
    c.in_ok-extend_from_slice.ensures.ok
    (put_same _ _ _ _ c.in_ok-extend_from_slice-2.ensures.ok c.requires)
    c.in_ok-extend_from_slice-3.ensures.ok c.in_ok-push_text.ensures c.in_ok-extend_from_slice-4.ensures.ok
    ∙ sym (canon-body_value (body_view c.args.self.now))
