-- Steps from what their parts are.
use Rattle.std.proofs.Common.{◌≡◌, inr, ℕ, List, [], ◌∷◌, ◌++◌, Some, Ok, Err, Result, refl, ap}
use Rattle.std.specs.Prelude.{IfOk}
use Rattle.ebl_base.specs.declared.chain.ChainLink.{ChainLink}
use Rattle.ebl_base.specs.declared.no_memory.NoMemory.{NoMemory}
use Rattle.ebl_base.specs.declared.platform_code.PlatformCode.{PlatformCode}
use Rattle.ebl_base.specs.declared.reference.Reference.{Reference}
use Rattle.ebl_base.specs.declared.signed_text.SignedText.{SignedText}
use Rattle.canonical_json.specs.Canon.{canon}
use Rattle.signed_envelope.specs.KeyRing.{Keys}
use Rattle.party_roster.specs.RosterRecord.{RosterRecord}
use Rattle.envelope_manifest.specs.Body.{BodyRecord, body_value}
use Rattle.pint_responses.specs.declared.fault.SealFault.{SealFault}
use Rattle.transfer_chain.specs.Checked.{texts_of}
use Rattle.bill_diary.specs.declared.record.Record.{Record}
use Rattle.bill_diary.specs.declared.frame.Frame.{Frame}
use Rattle.platform_machine.specs.Receiving.{BegunRecord, IsFinished, IsLastBegun, StepsAtFinish}
use Rattle.platform_machine.specs.Transfer.{IsStartBody, document_in}
use Rattle.transfer_core.specs.declared.decision.Decision.{Decision}
use Rattle.transfer_core.specs.Decision.{step_by}

-- what was begun with the reference is finished
pub finished : (roster : RosterRecord) (keys : Keys) (me : PlatformCode) (diary : List Frame) (reference : Reference)
    (b : BegunRecord) (r : Result Decision SealFault) → IsLastBegun reference diary b
    → IfOk r (λ d. IsFinished roster keys me diary b (step_by diary d))
    → IfOk r (λ d. StepsAtFinish roster keys me diary reference (step_by diary d))
finished roster keys me diary reference b (Ok d) is done = inr (b, is, done)
finished roster keys me diary reference b (Err fault) is done = tt

-- the text of a body with these parts is that of the start
pub start_body_is : (h : List Record) (chain : List ChainLink) (text : SignedText) (parts : BodyRecord)
    (r : Result (List ℕ) NoMemory) → document_in h ≡ Some parts.document → parts.manifest ≡ text
    → parts.chain ≡ texts_of chain → IfOk r (λ bytes. bytes ≡ canon (body_value parts))
    → IfOk r (IsStartBody h chain text)
start_body_is h chain text parts (Ok bytes) document manifest texts is =
    record { parts = parts; text_is = is; document_is = document; manifest_is = manifest; chain_is = texts }
start_body_is h chain text parts (Err fault) document manifest texts is = tt

-- the texts of a chain and of one link more
pub texts_of-push : (chain : List ChainLink) (link : ChainLink)
    → texts_of (chain ++ link ∷ []) ≡ texts_of chain ++ link.text ∷ []
texts_of-push [] link = refl
texts_of-push (first ∷ chain) link = ap (λ (texts : List SignedText). first.text ∷ texts) (texts_of-push chain link)

pub ruleset texts = (texts_of-push)
