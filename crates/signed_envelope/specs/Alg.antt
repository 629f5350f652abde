-- The algorithms of signatures, by their registered names (RFC 7518, section 3.1).
use Rattle.std.specs.Prelude.{ℕ, List, codes}
use Rattle.signed_envelope.specs.declared.alg.Alg.{Alg}
use Rattle.signed_envelope.specs.declared.alg.Alg.TheVariants.{Hs256, Es256}

-- the name of an algorithm
abbrev pub alg_text : Alg → List ℕ
alg_text Hs256 = codes "HS256"
alg_text Es256 = codes "ES256"
