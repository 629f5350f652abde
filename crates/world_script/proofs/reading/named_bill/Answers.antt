use Rattle.std.proofs.Common.{codes, sym}
use Rattle.canonical_json.specs.View.{view}
use Rattle.canonical_json.specs.Field.{text_of}
use Rattle.json_forms.proofs.ReadForms.{IsChecksum-read}
use Rattle.world_script.proofs.reading.named_bill.Goals as goal

pub returns-in-Some-required_checksum-clause-form :
    goal.returns-in-Some-required_checksum-clause-form
returns-in-Some-required_checksum-clause-form c =
    IsChecksum-read (text_of (codes "bill") (view c.args.json.now)) _ (sym c.in-Some-required_checksum.ensures)
