-- A signature: 1 to 64 bytes.
use Rattle.std.specs.Prelude.{◌≡◌, ℕ, ◌-◌, ◌<◌, slice_index, Bool, List, ◌++◌, Option, Some, None, length, ◌&&◌, nat_le, if◌then◌else◌, replicate, take}
use Rattle.ebl_base.specs.declared.signature.Signature.{Signature}

-- 1 to 64 bytes
abbrev pub is_signature : List ℕ → Bool
is_signature bytes = nat_le 1 (length bytes) && nat_le (length bytes) 64

-- the signature of these bytes, with zeros behind them
abbrev pub signature_of : List ℕ → Option Signature
signature_of bytes =
    if is_signature bytes then Some
    (record { bytes = bytes ++ replicate (64 - length bytes) 0; len = length bytes }) else None

-- the bytes of a signature
abbrev pub signature_bytes : Signature → List ℕ
signature_bytes signature = take signature.len signature.bytes

-- 1 to 64 bytes, and zeros behind them: so it is for each signature that code makes
pub record IsSignature (signature : Signature) : Type 0 where
  pub made : signature_of (signature_bytes signature) ≡ Some signature
  pub bytes : (i : ℕ) → slice_index (signature_bytes signature) i < 256
