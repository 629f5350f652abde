-- Honest texts: what comes from outside has no text that a platform of the roster signed and hasn't sent.
use Rattle.std.specs.Prelude.{◌≡◌, ◌⊎◌, ℕ, true, List}
use Rattle.ebl_base.specs.declared.limits.TheConstants.{MAX_SEALED_RESPONSE, MAX_SIGNED_TEXT}
use Rattle.canonical_json.specs.Value.{Value}
use Rattle.ebl_base.specs.declared.platform_code.PlatformCode.{PlatformCode}
use Rattle.ebl_base.specs.declared.signed_text.SignedText.{SignedText}
use Rattle.signed_envelope.specs.SignedText.{IsSigned}
use Rattle.party_roster.specs.RosterRecord.{RosterRecord, has_platform}
use Rattle.envelope_manifest.specs.Body.{BodyRecord, ReadsAs}
use Rattle.platform_requests.specs.Request.{RequestRecord, starts, start_replies, finish_replies}
use Rattle.closed_family.specs.Chains.{IsAmong}
use Rattle.run_safety.specs.Network.{Sent, sent_start, sent_reply}
use Rattle.run_safety.specs.Steady.{Rings}

-- the text is signed under one of the rings by a platform of the roster
pub record IsSignedByListed (roster : RosterRecord) (rings : Rings) (most : ℕ) (text : List ℕ) : Type 0 where
  pub who : PlatformCode
  pub listed : has_platform roster who ≡ true
  pub p : PlatformCode
  pub i : ℕ
  pub value : Value
  pub signed : IsSigned (rings p i) most text who value

-- the text stands in the chain of a start that was sent
pub record WasSentInChain (sent : List Sent) (text : SignedText) : Type 0 where
  pub from : PlatformCode
  pub body : List ℕ
  pub among : IsAmong (sent_start from body) sent
  pub parts : BodyRecord
  pub reads : ReadsAs body parts
  pub has : IsAmong text parts.chain

-- the bytes were sent as a body, as a reply
abbrev pub WasSentAsStart : List Sent → List ℕ → Type 0
WasSentAsStart sent body = (from : PlatformCode) × IsAmong (sent_start from body) sent

abbrev pub WasSentAsReply : List Sent → List ℕ → Type 0
WasSentAsReply sent bytes = (from : PlatformCode) × IsAmong (sent_reply from bytes) sent

-- a foreign body is honest: each text of its chain that a platform of the roster signed was sent in a chain
abbrev pub IsHonestBody : RosterRecord → Rings → List Sent → List ℕ → Type 0
IsHonestBody roster rings sent body =
    (parts : BodyRecord) → ReadsAs body parts → (text : SignedText) → IsAmong text parts.chain
    → IsSignedByListed roster rings MAX_SIGNED_TEXT text.0 → WasSentInChain sent text

-- a foreign reply is honest: if a platform of the roster signed it, then it was sent as a reply
abbrev pub IsHonestReply : RosterRecord → Rings → List Sent → List ℕ → Type 0
IsHonestReply roster rings sent bytes =
    IsSignedByListed roster rings MAX_SEALED_RESPONSE bytes → WasSentAsReply sent bytes

-- what a request brings was sent, or it is honest; a document, a finish and a command bring no text that is signed
abbrev pub Comes : RosterRecord → Rings → List Sent → RequestRecord → Type 0
Comes roster rings sent (starts body) = WasSentAsStart sent body ⊎ IsHonestBody roster rings sent body
Comes roster rings sent (start_replies bill bytes) = WasSentAsReply sent bytes ⊎ IsHonestReply roster rings sent bytes
Comes roster rings sent (finish_replies bill bytes) = WasSentAsReply sent bytes ⊎ IsHonestReply roster rings sent bytes
Comes roster rings sent request = Unit {0}
