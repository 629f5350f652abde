-- What a ring that fails at listed calls shows.
use Rattle.ebl_base.specs.Calls.{CallsRecord}
use Rattle.test_signer.specs.declared.failing_ring.FailingRing.{FailingRing}

-- its calls of `sign`
abbrev pub ring_calls : FailingRing → CallsRecord
ring_calls ring = ring.calls
