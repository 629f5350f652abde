use Rattle.std.proofs.Common.{◌≡◌, rules, sym, subst}
use Rattle.canonical_json.specs.View.{view}
use Rattle.canonical_json.specs.Lawful.{IsLawful}
use Rattle.chain_entry.specs.Writing.{transaction_value}
use Rattle.chain_entry.proofs.CanonicalForms.{transaction-lawful}
use Rattle.chain_entry.proofs.writing.encode_transaction.Goals as goal

pub returns-clause-lawful : goal.returns-clause-lawful
returns-clause-lawful c =
    let value : view c.object_json.result ≡ transaction_value c.args.transaction.now = search rules in
    subst IsLawful (sym value) (transaction-lawful c.args.transaction.now)
