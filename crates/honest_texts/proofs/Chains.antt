-- Texts that were sent in a chain, and honest texts.
use Rattle.std.proofs.Common.{◌≡◌, inl, inr, ℕ, Bool, true, List, [], ◌∷◌, refl, sym, ap, subst, ◌∙◌, Decides}
use Rattle.std.specs.Prelude.{bytes_eq}
use Rattle.std.proofs.lemmas.Bool.Decides.{Decides-like}
use Rattle.std.proofs.lemmas.Slice.Eq.{bytes_eq-Decides}
use Rattle.ebl_base.specs.declared.platform_code.PlatformCode.{PlatformCode}
use Rattle.ebl_base.specs.declared.signed_text.SignedText.{SignedText}
use Rattle.canonical_json.specs.Value.{Value}
use Rattle.party_roster.specs.RosterRecord.{RosterRecord, has_platform}
use Rattle.signed_envelope.specs.KeyRing.{Keys}
use Rattle.signed_envelope.specs.SignedText.{IsSigned}
use Rattle.envelope_manifest.specs.Body.{BodyRecord, ReadsAs}
use Rattle.closed_family.specs.Chains.{IsAmong}
use Rattle.run_safety.specs.Honest.{IsSignedByListed, WasSentInChain, WasSentAsStart, IsHonestBody}
use Rattle.run_safety.specs.Network.{Sent, sent_start, sent_reply}
use Rattle.honest_texts.specs.Sent.{AreHonest, HasInChain, one_ring, same_text}

-- ---- what was sent

-- what a start has in its chain was sent
pub sent_with : (s : Sent) (sent : List Sent) (text : SignedText) → IsAmong s sent → HasInChain s text
    → WasSentInChain sent text
sent_with (sent_start from body) sent text among has =
    record { from = from; body = body; among = among; parts = has.0; reads = has.1; has = has.2 }
sent_with (sent_reply from bytes) sent text among has = absurd has

-- two texts are one where their bytes are
pub same_text-Decides : (text other : SignedText) → Decides (same_text text other) (other ≡ text)
same_text-Decides text other =
    Decides-like (same_text text other) (λ (e : text.0 ≡ other.0). sym (texts_are text other e))
    (λ (e : other ≡ text). ap (λ (t : SignedText). t.0) (sym e)) (bytes_eq-Decides text.0 other.0)
  where
    texts_are : (a b : SignedText) → a.0 ≡ b.0 → a ≡ b
    texts_are a b e = ap (λ (bytes : List ℕ). record { 0 = bytes }) e

-- ---- honest texts

-- whoever is reported as the signer of a text signed it
pub signer-Decides : (roster : RosterRecord) (keys : Keys) (most : ℕ) (text : List ℕ) (who : PlatformCode)
    (value : Value)
    → ((k : Keys) (m : ℕ) (t : List ℕ) (p q : PlatformCode) (v w : Value)
    → IsSigned k m t p v → IsSigned k m t q w → (p ≡ q) × (v ≡ w))
    → IsSigned keys most text who value
    → Decides (has_platform roster who) (IsSignedByListed roster (one_ring keys) most text)
signer-Decides roster keys most text who value once signed = (
  λ listed. record { who = who; listed = listed; p = who; i = 0; value = value; signed = signed },
  λ s. subst (λ (p : PlatformCode). has_platform roster p ≡ true)
      (once keys most text s.who who s.value value s.signed signed).0 s.listed,
)

-- one honest text more
pub honest_more : (roster : RosterRecord) (keys : Keys) (sent : List Sent) (x : SignedText) (xs : List SignedText)
    → (IsSignedByListed roster (one_ring keys) 16384 x.0 → WasSentInChain sent x)
    → AreHonest roster keys sent xs → AreHonest roster keys sent (x ∷ xs)
honest_more roster keys sent x xs here rest text (inl same) =
    subst (λ (t : SignedText). IsSignedByListed roster (one_ring keys) 16384 t.0 → WasSentInChain sent t) same here
honest_more roster keys sent x xs here rest text (inr among) = rest text among

-- no texts are honest
pub honest_none : (roster : RosterRecord) (keys : Keys) (sent : List Sent) → AreHonest roster keys sent []
honest_none roster keys sent text among = absurd among

-- a body is honest where its texts are
pub body-honest : (roster : RosterRecord) (keys : Keys) (sent : List Sent) (bytes : List ℕ) (parts : BodyRecord)
    → ((t : List ℕ) (a b : BodyRecord) → ReadsAs t a → ReadsAs t b → a ≡ b)
    → ReadsAs bytes parts → (honest : Bool) → Decides honest (AreHonest roster keys sent parts.chain)
    → Decides honest (IsHonestBody roster (one_ring keys) sent bytes)
body-honest roster keys sent bytes parts once reads honest d = (
  λ t other reads_other. subst (λ (b : BodyRecord). AreHonest roster keys sent b.chain) (once bytes parts other reads reads_other) (d.0 t),
  λ is. d.1 (is parts reads),
)

-- a body that was sent is honest
pub sent-honest : (roster : RosterRecord) (keys : Keys) (sent : List Sent) (body : List ℕ) → WasSentAsStart sent body
    → IsHonestBody roster (one_ring keys) sent body
sent-honest roster keys sent body was parts reads text has signed =
    record { from = was.0; body = body; among = was.1; parts = parts; reads = reads; has = has }
