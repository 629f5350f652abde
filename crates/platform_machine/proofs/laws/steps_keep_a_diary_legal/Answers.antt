use Rattle.platform_machine.proofs.MachineLaws.{step_keeps}
use Rattle.platform_machine.proofs.laws.steps_keep_a_diary_legal.Goals as goal

pub returns : goal.returns
returns c =
    λ roster keys me diary now request step listed legal asked steps.
    step_keeps roster keys me diary now request step
    (record {
      composed = c.composed_text_is_signed.ensures.signed;
      entry_lawful = c.written_entries_are_lawful.ensures.entry;
      entry_texts = c.written_entries_are_lawful.ensures.entry_texts;
      entry_depth = c.written_entries_are_lawful.ensures.entry_depth;
      manifest_lawful = c.written_manifests_read_back.ensures.lawful;
      manifest_texts = c.written_manifests_read_back.ensures.texts;
      manifest_depth = c.written_manifests_read_back.ensures.depth;
    })
    c.written_bodies_read_back.ensures listed legal asked steps
