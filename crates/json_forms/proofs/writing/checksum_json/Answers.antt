use Rattle.std.proofs.Common.{◌≡◌, length, rules, arith}
use Rattle.hex.specs.Hex.{lower_digits}
use Rattle.hex.proofs.HexLemmas.{length-encode_with}
use Rattle.json_forms.proofs.writing.checksum_json.Goals as goal

pub returns-clause-digits : goal.returns-clause-digits
returns-clause-digits c =
    let size : length c.args.checksum.0 ≡ 32 = search rules in
    omega (arith, length-encode_with lower_digits c.args.checksum.0, size)
