use Rattle.std.proofs.Common.{length}
use Rattle.std.specs.Prelude.{nat_le}
use Rattle.http_heads.proofs.LengthLemmas.{AllDigits-length}
use Rattle.http_heads.proofs.head.within.Goals as goal

pub capped_length-length-requires : goal.capped_length-length-requires
capped_length-length-requires c = AllDigits-length _ _ c.args.text.now c.requires
