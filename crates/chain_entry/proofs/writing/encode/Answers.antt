use Rattle.std.proofs.Common.{◌≡◌, rules, sym, subst}
use Rattle.canonical_json.specs.View.{view}
use Rattle.canonical_json.specs.Lawful.{IsLawful}
use Rattle.chain_entry.specs.Writing.{entry_value}
use Rattle.chain_entry.proofs.CanonicalForms.{entry-lawful}
use Rattle.chain_entry.proofs.writing.encode.Goals as goal

pub returns-clause-lawful : goal.returns-clause-lawful
returns-clause-lawful c =
    let value : view c.object_json.result ≡ entry_value c.args.entry.now = search rules in
    subst IsLawful (sym value) (entry-lawful c.args.entry.now)
