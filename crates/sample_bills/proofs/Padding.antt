-- What `{:07}` writes of a number.
use Rattle.std.proofs.Common.{◌≡◌, ℕ, ◌^◌, ◌-◌, [], false, length, append-nil, arith}
use Rattle.std.specs.Fmt.{char_count, decimal, format_spec, padded_integral}
use Rattle.sample_bills.specs.Documents.{seven_digits}

pub padded_to_seven : (n : ℕ) → padded_integral (format_spec 32 0 4 7 (2 ^ 64 - 1)) false [] (decimal n) ≡ seven_digits n
unfolding padded_integral char_count
padded_to_seven n =
    let room : 7 - length (decimal n) - 0 - 0 ≡ 7 - length (decimal n) = omega arith in
    rw (room, append-nil (decimal n))
