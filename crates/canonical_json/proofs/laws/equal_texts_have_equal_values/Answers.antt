use Rattle.canonical_json.proofs.Readings.{canon_same}
use Rattle.canonical_json.proofs.laws.equal_texts_have_equal_values.Goals as goal

pub returns : goal.returns
returns c = canon_same
