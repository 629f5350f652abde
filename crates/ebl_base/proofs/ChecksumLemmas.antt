-- What it says that two checksums are one.
use Rattle.std.proofs.Common.{◌≡◌, ℕ, List, ap}
use Rattle.std.specs.Bool.{Decides}
use Rattle.std.proofs.lemmas.Bool.Decides.{Decides-like}
use Rattle.std.proofs.lemmas.Slice.Eq.{bytes_eq-Decides}
use Rattle.ebl_base.specs.Checksum.{checksum_eq}
use Rattle.ebl_base.specs.declared.checksum.Checksum.{Checksum}

-- two checksums are one if and only if they are equal
pub checksum_eq-Decides : (a b : Checksum) → Decides (checksum_eq a b) (a ≡ b)
checksum_eq-Decides a b =
    let checksum : List ℕ → Checksum = λ bytes. record { 0 = bytes } in
    Decides-like (checksum_eq a b) (ap checksum) (ap (λ (c : Checksum). c.0)) (bytes_eq-Decides a.0 b.0)
