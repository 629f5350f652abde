use Rattle.std.proofs.Common.{sym, ◌∙◌}
use Rattle.canonical_json.specs.View.{members_view}
use Rattle.envelope_manifest.proofs.BodyLemmas.{parts-no_manifest, parts-no_chain, parts-all}
use Rattle.envelope_manifest.proofs.body_reading.parts_of.Goals as goal

pub returns-in_default-2-clause-err : goal.returns-in_default-2-clause-err
returns-in_default-2-clause-err c =
    parts-no_manifest (members_view c.args.members.items) (members_view c.take_object.new.members.items) _
    c.in-Some.ensures.value c.take_object.ensures.rest (sym c.in_default-2.is ∙ c.in_ok-manifest.ensures.value)

pub returns-in_default-3-clause-err : goal.returns-in_default-3-clause-err
returns-in_default-3-clause-err c =
    parts-no_chain (members_view c.args.members.items) (members_view c.take_object.new.members.items)
    (members_view c.take_text.new.members.items) _ _ c.in-Some.ensures.value c.take_object.ensures.rest
    (sym c.in-Some-2.is ∙ c.in_ok-manifest.ensures.value) c.take_text.ensures.rest
    (sym c.in_default-3.is ∙ c.in_ok-chain.ensures)

pub returns-clause-ok : goal.returns-clause-ok
returns-clause-ok c =
    parts-all (members_view c.args.members.items) (members_view c.take_object.new.members.items)
    (members_view c.take_text.new.members.items) _ _ _ c.in-Some.ensures.value c.take_object.ensures.rest
    (sym c.in-Some-2.is ∙ c.in_ok-manifest.ensures.value) c.take_text.ensures.rest
    (sym c.in-Some-3.is ∙ c.in_ok-chain.ensures)
