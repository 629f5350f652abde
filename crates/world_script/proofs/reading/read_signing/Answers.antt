use Rattle.std.proofs.Common.{codes, sym, subst}
use Rattle.canonical_json.specs.Lawful.{IsLawful, HasTexts}
use Rattle.canonical_json.specs.View.{view}
use Rattle.canonical_json.proofs.Parts.{HasTexts-member_of, is_lawful-member_of}
use Rattle.world_script.proofs.reading.read_signing.Goals as goal

pub returns-clause-form : goal.returns-clause-form
returns-clause-form c lawful texts = (
  subst IsLawful (sym c.in_ok-document.ensures)
      (is_lawful-member_of (codes "document") (view c.args.json.now) _ lawful (sym c.in-Some.ensures)),
  subst HasTexts (sym c.in_ok-document.ensures)
      (HasTexts-member_of (codes "document") (view c.args.json.now) _ texts (sym c.in-Some.ensures)),
)
