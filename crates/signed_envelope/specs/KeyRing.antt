-- What a ring of keys takes as signed.
use Rattle.std.specs.Prelude.{ℕ, Bool, List}
use Rattle.ebl_base.specs.declared.platform_code.PlatformCode.{PlatformCode}
use Rattle.ebl_base.specs.declared.signature.Signature.{Signature}
use Rattle.signed_envelope.specs.declared.alg.Alg.{Alg}

-- the algorithm of the keys, and whether a signature is a platform's for an input
pub record Keys : Type 0 where
  pub alg : Alg
  pub signs : PlatformCode → List ℕ → Signature → Bool
