use Rattle.json_forms.proofs.BytesLemmas.{IsUtf8-base64, base64-bytes_of, bytes_of-base64}
use Rattle.json_forms.proofs.bytes.bytes_have_one_spelling.Goals as goal

pub returns-clause-one : goal.returns-clause-one
returns-clause-one c = base64-bytes_of

pub returns-clause-back : goal.returns-clause-back
returns-clause-back c = bytes_of-base64

pub returns-clause-text : goal.returns-clause-text
returns-clause-text c = IsUtf8-base64
