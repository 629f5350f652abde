use Rattle.std.proofs.Common.{rules, ◌≡◌, ◌-◌, true, length, take, drop, bytes_eq}
use Rattle.signed_envelope.proofs.Written.{end_text, some_written}
use Rattle.signed_envelope.proofs.header.written_signer.Goals as goal

pub returns : goal.returns
returns c =
    let header = c.args.header.now in
    let front = c.front.result.now in
    let rest = c.in_ok-strip_prefix.field-0.now in
    let code = c.in_ok-code.code.now in
    let begins : bytes_eq (take (length front) header) front ≡ true = search rules in
    let left : rest ≡ drop (length front) header = search rules in
    let ends : bytes_eq (drop (length rest - 2) rest) end_text ≡ true = search rules in
    let cut : code ≡ take (length rest - 2) rest = search rules in
    some_written c.args.alg header front rest code c.front.ensures begins left ends cut c.try_new.result c.try_new.ensures.value c.try_new.ensures.form
