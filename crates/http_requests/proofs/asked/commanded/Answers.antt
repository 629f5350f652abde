use Rattle.http_requests.proofs.AskedLemmas.{flat_enough}
use Rattle.http_requests.proofs.asked.commanded.Goals as goal

pub returns-in-Ok-clause-may : goal.returns-in-Ok-clause-may
returns-in-Ok-clause-may c =
    (c.in-Ok.ensures.form c.requires.lawful c.requires.texts, flat_enough _ _ c.requires.nests c.in-Ok.ensures.ok)
