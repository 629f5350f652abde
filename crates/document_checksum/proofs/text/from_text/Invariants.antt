use Rattle.std.proofs.Common.{◌≡◌, ◌*◌, true, length, take}
use Rattle.std.proofs.Common.{drop}
use Rattle.std.specs.List.{list_all}
use Rattle.hex.specs.Hex.{decode_pairs}
use Rattle.hex.proofs.Pairs.{prepend}
use Rattle.document_checksum.specs.Text.{is_lower_digit}
use Rattle.document_checksum.proofs.text.from_text.Given as goal

abbrev pub invariant-bytes : goal.invariant-bytes
invariant-bytes l =
    (length l.bytes ≡ 32)
    × (list_all is_lower_digit (take (2 * l.at) l.text) ≡ true)
    × (decode_pairs 0 l.text ≡ prepend (take l.at l.bytes) (decode_pairs (2 * l.at) (drop (2 * l.at) l.text)))
