-- What a start writes and says, from what its parts are.
use Rattle.std.proofs.Common.{◌≡◌, ℕ, Bool, List, Option, Some, None, Ok, Err, inl, cond, refl, ap, ◌∙◌}
use Rattle.std.specs.Prelude.{IfOk, Result}
use Rattle.ebl_base.specs.declared.checksum.Checksum.{Checksum}
use Rattle.ebl_base.specs.declared.platform_code.PlatformCode.{PlatformCode}
use Rattle.ebl_base.specs.declared.reference.Reference.{Reference}
use Rattle.signed_envelope.specs.KeyRing.{Keys}
use Rattle.party_roster.specs.RosterRecord.{RosterRecord}
use Rattle.pint_responses.specs.declared.fault.SealFault.{SealFault}
use Rattle.platform_requests.specs.declared.reply.Reply.{Reply}
use Rattle.bill_diary.specs.declared.record.Record.{Record}
use Rattle.bill_diary.specs.declared.record.Record.TheVariants.{Begun}
use Rattle.bill_diary.specs.declared.frame.Frame.{Frame}
use Rattle.transfer_judge.specs.declared.judgement.Judgement.{Judgement}
use Rattle.transfer_judge.specs.declared.judgement.Judgement.TheVariants.{Elsewhere, Duplicate, Declined, Parts, Unknown, Missing, Accept}
use Rattle.platform_machine.specs.declared.subject.Subject.{Subject}
use Rattle.platform_machine.specs.declared.refusal.Refusal.{Refusal}
use Rattle.platform_machine.specs.Preface.{IsRefused, ShownRecord}
use Rattle.platform_machine.specs.Answer.{IsAnswer, reference_for, refusal_response, subject_of}
use Rattle.platform_machine.specs.Judged.{response_for}
use Rattle.platform_machine.specs.Receiving.{SaysAtStart, StepsAtStart, body_text, is_again, news_of}
use Rattle.platform_machine.specs.Step.{Answers}
use Rattle.transfer_core.specs.declared.decision.Decision.{Decision}
use Rattle.transfer_core.specs.Decision.{step_by}

pub news_by : (diary : List Frame) (s : ShownRecord) (n : Subject) (r : Reference) (body : List ℕ) (again : Bool)
    (begun : Record) (out : Option Record) → n ≡ subject_of s.manifest → r ≡ reference_for n → body ≡ body_text s.parts
    → again ≡ is_again r body diary → begun ≡ Begun n.bill s.chain s.manifest body
    → out ≡ cond again None (Some begun) → out ≡ news_of diary s
news_by diary s n r body again begun out subject reference text test is given =
    let one : r ≡ reference_for (subject_of s.manifest) = reference ∙ ap reference_for subject in
    let two : again ≡ is_again (reference_for (subject_of s.manifest)) (body_text s.parts) diary
    = test ∙ (λ i. is_again (one i) (text i) diary) in
    let three : begun ≡ Begun s.manifest.bill s.chain s.manifest (body_text s.parts)
    = is ∙ (λ i. Begun ((subject i).bill) s.chain s.manifest (text i)) in
    given ∙ (λ i. cond (two i) None (Some (three i)))

pub says : (keys : Keys) (me : PlatformCode) (n : Subject) (j : Judgement)
    → ((checksums : List Checksum) → j ≡ Missing checksums → ⊥) → (r : Result Reply SealFault)
    → IfOk r (IsAnswer keys me (response_for n j)) → IfOk r (SaysAtStart keys me n j)
says keys me n Elsewhere other r p = p
says keys me n Duplicate other r p = p
says keys me n (Declined code reason evidence) other r p = p
says keys me n (Parts evidence) other r p = p
says keys me n Unknown other r p = p
says keys me n (Missing checksums) other r p = absurd (other checksums refl)
says keys me n Accept other r p = p

-- a body that is refused is answered so, whatever the diary is
pub turned_away : (roster : RosterRecord) (keys : Keys) (me : PlatformCode) (diary : List Frame) (body : List ℕ)
    (refusal : Refusal) (r : Result Decision SealFault) → IsRefused roster keys body refusal
    → IfOk r (λ d. (any : List Frame) → Answers keys me None (refusal_response refusal) (step_by any d))
    → IfOk r (λ d. StepsAtStart roster keys me diary body (step_by diary d))
turned_away roster keys me diary body refusal (Ok d) refused answers = inl (refusal, refused, answers diary)
turned_away roster keys me diary body refusal (Err fault) refused answers = tt
