-- Which platform has which key, and the HS256 signatures of keys.
use Rattle.std.specs.Prelude.{ℕ, Bool, false, List, ◌++◌, Option, Some, None, bytes_eq, codes, if◌then◌else◌}
use Rattle.ebl_base.specs.PlatformCode.{code_eq, code_text}
use Rattle.ebl_base.specs.Signature.{signature_bytes}
use Rattle.ebl_base.specs.declared.platform_code.PlatformCode.{PlatformCode}
use Rattle.sha2.specs.Sha256.{sha256}
use Rattle.signed_envelope.specs.KeyRing.{Keys}
use Rattle.signed_envelope.specs.declared.alg.Alg.TheVariants.{Hs256}
use Rattle.test_signer.specs.Hmac.{hmac_sha256}

-- the key of a platform, if it has one
abbrev pub KeyRule : Type 0
KeyRule = PlatformCode → Option (List ℕ)

-- each platform's key is the digest of a text with its code
abbrev pub derived_key : KeyRule
derived_key who = Some (sha256 (codes "EBL-TEST-KEY-" ++ code_text who))

-- one platform alone has a key
abbrev pub one_key : PlatformCode → List ℕ → KeyRule
one_key owner key who = if code_eq owner who then Some key else None

-- the tag of a key for the input, if there is a key
abbrev pub tag_of : Option (List ℕ) → List ℕ → Option (List ℕ)
tag_of None input = None
tag_of (Some key) input = Some (hmac_sha256 key input)

-- whether these bytes are that tag
abbrev pub is_tag : Option (List ℕ) → List ℕ → Bool
is_tag None bytes = false
is_tag (Some tag) bytes = bytes_eq tag bytes

-- the HS256 signatures of these keys (RFC 7518, section 3.2)
abbrev pub hs256_keys : KeyRule → Keys
hs256_keys rule = record {
  alg = Hs256;
  signs = λ who input signature. is_tag (tag_of (rule who) input) (signature_bytes signature);
}

-- those of the derived keys
abbrev pub derived_keys : Keys
derived_keys = hs256_keys derived_key
