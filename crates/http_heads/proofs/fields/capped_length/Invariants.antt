use Rattle.std.proofs.Common.{◌≡◌, ◌≤◌, min, drop}
use Rattle.std.specs.Str.Parse.{AllDigits, digits_value_after}
use Rattle.http_heads.proofs.fields.capped_length.Given as goal

abbrev pub invariant-loop-digit : goal.invariant-loop-digit
invariant-loop-digit l =
    (l.size ≤ 4194305)
    × AllDigits 10 (drop l.digit-index l.digits)
    × (min (digits_value_after 10 l.size (drop l.digit-index l.digits)) 4194305 ≡ min (digits_value_after 10 0 l.digits) 4194305)
