use Rattle.std.proofs.Common.{◌≡◌, ◌≤◌, min, drop}
use Rattle.std.specs.Str.Parse.{AllDigits, digits_value_after}
use Rattle.canonical_json.proofs.number.capped_size.Given as goal

abbrev pub invariant-loop-digit : goal.invariant-loop-digit
invariant-loop-digit l =
    (l.size ≤ 9007199254740992)
    × AllDigits 10 (drop l.digit-index l.digits)
    × (min (digits_value_after 10 l.size (drop l.digit-index l.digits)) 9007199254740992 ≡ min (digits_value_after 10 l.start l.digits) 9007199254740992)
