use Rattle.std.proofs.Common.{arith, nat_eq}
use Rattle.std.proofs.lemmas.List.Sums.{prefix_len-le-length}
use Rattle.std.proofs.Math.Bool.{not}
use Rattle.std.proofs.lemmas.Grind.{common_steps}
use Rattle.ebl_base.proofs.segments.len_before.Goals as goal

pub returns-clause-len : goal.returns-clause-len
returns-clause-len c =
    let most = prefix_len-le-length (λ b. not (nat_eq b c.args.end)) c.args.text.now in
    grind (arith, common_steps, most)

pub returns-clause-most : goal.returns-clause-most
returns-clause-most c =
    let most = prefix_len-le-length (λ b. not (nat_eq b c.args.end)) c.args.text.now in
    grind (arith, common_steps, most)
