-- What a ring with derived keys, or with one key, shows.
use Rattle.std.specs.Prelude.{ℕ, Option, Some, None}
use Rattle.signed_envelope.specs.KeyRing.{Keys}
use Rattle.test_signer.specs.Keys.{KeyRule, derived_key, hs256_keys, one_key}
use Rattle.test_signer.specs.declared.keyed_ring.KeyedRing.{KeyedRing}
use Rattle.test_signer.specs.declared.keyed_ring.OneKey.{OneKey}

-- the keys, by whether one platform alone has one
abbrev pub rule_of : Option OneKey → KeyRule
rule_of None = derived_key
rule_of (Some one) = one_key one.owner one.key

-- which platform has which key
abbrev pub ring_rule : KeyedRing → KeyRule
ring_rule ring = rule_of ring.one

-- what the ring takes as signed
abbrev pub ring_keys : KeyedRing → Keys
ring_keys ring = hs256_keys (ring_rule ring)

-- how often it failed
abbrev pub ring_faults : KeyedRing → ℕ
ring_faults ring = ring.faults
