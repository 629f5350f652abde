use Rattle.std.proofs.Common.{sym, ◌∙◌}
use Rattle.closed_family.proofs.Verdicts.{distinct_all}
use Rattle.closed_family.proofs.surveying.verdict_of.Goals as goal

pub returns-in-Some-2 : goal.returns-in-Some-2
returns-in-Some-2 c = (
  distinct_all c.in_ok-name.field-0 c.deref.result.now _ c.in-None.is (c.deref.ensures.value ∙ c.in_ok-texts.ensures)
      c.in_ok-name.ensures,
  sym c.in_ok-platform-in-None.ensures ∙ c.in-Some-2.is,
)

pub returns : goal.returns
returns c = (
  distinct_all c.in_ok-name.field-0 c.deref.result.now _ c.in-None.is (c.deref.ensures.value ∙ c.in_ok-texts.ensures)
      c.in_ok-name.ensures,
  sym c.in_ok-platform-in-None.ensures ∙ c.in-None-2.is,
)
