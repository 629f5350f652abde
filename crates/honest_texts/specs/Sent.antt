-- What was sent, as code keeps it and as runs see it.
use Rattle.std.specs.Prelude.{◌≡◌, ℕ, Bool, false, List, bytes_eq}
use Rattle.ebl_base.specs.declared.limits.TheConstants.{MAX_SIGNED_TEXT}
use Rattle.ebl_base.specs.declared.platform_code.PlatformCode.{PlatformCode}
use Rattle.ebl_base.specs.declared.signed_text.SignedText.{SignedText}
use Rattle.signed_envelope.specs.KeyRing.{Keys}
use Rattle.envelope_manifest.specs.Body.{BodyRecord, ReadsAs}
use Rattle.party_roster.specs.RosterRecord.{RosterRecord}
use Rattle.closed_family.specs.Chains.{IsAmong}
use Rattle.run_safety.specs.Honest.{IsSignedByListed, WasSentInChain}
use Rattle.run_safety.specs.Network.{Sent, sent_start, sent_reply}
use Rattle.run_safety.specs.Steady.{Rings}
use Rattle.honest_texts.specs.declared.sent.SentText.{SentText}
use Rattle.honest_texts.specs.declared.sent.SentText.TheVariants.{Start, Reply}

-- how runs see what was sent
abbrev pub sent_view : SentText → Sent
sent_view (Start from body) = sent_start from body
sent_view (Reply from bytes) = sent_reply from bytes

-- every shard of every platform has these keys
abbrev pub one_ring : Keys → Rings
one_ring keys p i = keys

-- what was sent is a start that has the text in its chain
abbrev pub HasInChain : Sent → SignedText → Type 0
HasInChain (sent_start from body) text = (parts : BodyRecord) × ReadsAs body parts × IsAmong text parts.chain
HasInChain (sent_reply from bytes) text = ⊥

-- each of the texts that a platform of the roster signed was sent in a chain
abbrev pub AreHonest : RosterRecord → Keys → List Sent → List SignedText → Type 0
AreHonest roster keys sent texts =
    (text : SignedText) → IsAmong text texts → IsSignedByListed roster (one_ring keys) MAX_SIGNED_TEXT text.0
    → WasSentInChain sent text

-- what was sent is a reply with these bytes
abbrev pub is_reply_with : List ℕ → Sent → Bool
is_reply_with bytes (sent_start from other) = false
is_reply_with bytes (sent_reply from other) = bytes_eq other bytes

-- two texts are one
abbrev pub same_text : SignedText → SignedText → Bool
same_text a b = bytes_eq a.0 b.0
