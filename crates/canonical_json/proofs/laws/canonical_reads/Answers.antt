use Rattle.canonical_json.proofs.Readings.{canon_reads}
use Rattle.canonical_json.proofs.laws.canonical_reads.Goals as goal

pub returns : goal.returns
returns c = canon_reads
