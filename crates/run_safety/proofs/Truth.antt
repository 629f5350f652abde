-- What a shard answers is so.
use Rattle.std.proofs.Common.{◌≡◌, inl, inr, ℕ, true, false, List, Option, Some, None, refl, sym, ap, subst, ◌∙◌}
use Rattle.std.specs.Prelude.{All}
use Rattle.document_checksum.specs.Digest.{IsChecksum}
use Rattle.ebl_base.specs.declared.checksum.Checksum.{Checksum}
use Rattle.ebl_base.specs.declared.chain.ChainLink.{ChainLink}
use Rattle.ebl_base.specs.declared.code.Code.{Code}
use Rattle.ebl_base.specs.declared.code.Code.TheVariants as codes
use Rattle.ebl_base.specs.declared.evidence.Evidence.{Evidence}
use Rattle.ebl_base.specs.declared.platform_code.PlatformCode.{PlatformCode}
use Rattle.ebl_base.specs.declared.reason.Reason.{Reason}
use Rattle.ebl_base.specs.declared.reason.Reason.TheVariants as reasons
use Rattle.party_roster.specs.RosterRecord.{RosterRecord}
use Rattle.envelope_manifest.specs.declared.manifest.Manifest.{Manifest}
use Rattle.pint_responses.specs.Response.{IsAllowed}
use Rattle.pint_responses.specs.Sealed.{IsSealed}
use Rattle.pint_responses.specs.declared.response.Response.{Response}
use Rattle.platform_requests.specs.declared.reply.Reply.{Reply}
use Rattle.bill_diary.specs.declared.record.Record.{Record}
use Rattle.bill_diary.specs.declared.record.Record.TheVariants as records
use Rattle.bill_diary.specs.declared.frame.Frame.{Frame}
use Rattle.bill_diary.specs.declared.frame.Frame.TheVariants.{One, BegunTaken}
use Rattle.bill_diary.specs.History.{records_of, newest_first, of_bill}
use Rattle.bill_diary.specs.Place.{place_of}
use Rattle.bill_diary.specs.Sound.{MayDecline}
use Rattle.transfer_judge.specs.declared.judgement.Judgement.{Judgement}
use Rattle.transfer_judge.specs.declared.judgement.Judgement.TheVariants.{Elsewhere, Duplicate, Declined, Parts, Unknown, Missing, Accept}
use Rattle.transfer_judge.specs.Judgement.{judgement_by}
use Rattle.platform_machine.specs.Answer.{IsAnswer, no_evidence, subject_of}
use Rattle.platform_machine.specs.Judged.{frame_for, response_for}
use Rattle.closed_family.specs.declared.family.Member.{Member}
use Rattle.closed_family.specs.Chains.{IsAmong}
use Rattle.closed_family.specs.Family.{histories_of}
use Rattle.run_safety.specs.Network.{Network, sent_reply}
use Rattle.run_safety.specs.Steady.{HasCause, IsReceipt, Rings, StandsOn, WasDeclinedOn, WasTakenOn}
use Rattle.run_safety.specs.Sending.{IsReplyText}
use Rattle.run_safety.proofs.Allowed.{accept_allowed, duplicate_allowed, elsewhere_allowed, missing_allowed, missing_have_form, unknown_allowed}
use Rattle.run_safety.proofs.Judging.{DeclinedAs, TakenAs, declined_before, duplicate_taken, missing_listed, taken_as}
use Rattle.run_safety.proofs.Judged.{Becomes, IsAtShard, IsBegunOf, IsSure, by_bill, here_stands, not_disputed, party_cause, taken_there}
use Rattle.run_safety.proofs.Links.{follows_among}
use Rattle.run_safety.proofs.Needs.{met_among}
use Rattle.run_safety.proofs.Readings.{sealed_once}
use Rattle.run_safety.proofs.Sound.{steady_history}
use Rattle.run_safety.proofs.Longer.{stands_later}

-- what some entry of this name is, is so of each that is it
named_so : (P : Checksum → Type 0) (name : Checksum) → P name → (entry : Checksum) → Some name ≡ Some entry → P entry
named_so P name so entry is = let same : name ≡ entry = cc is in subst P same so

not_true : {X : Type 0} → false ≡ true → X
not_true h = cc h

module _ (roster : RosterRecord) (rings : Rings) (n : Network) (p : PlatformCode) (i : ℕ) (d : List Frame)
    (at : IsAtShard roster rings n p i d) where
  -- an answer has its cause where what it says is so
  pub answer_caused : (after : List Member) (response : Response) (reply : Reply) → IsAllowed response
      → IsAnswer (rings p i) p response reply
      → (IsReceipt response.code → (entry : Checksum) → response.last ≡ Some entry → WasTakenOn after p entry)
      → (response.standing ≡ true → (entry : Checksum) → response.last ≡ Some entry → WasDeclinedOn after p entry)
      → (bytes : List ℕ) → IsReplyText reply bytes → HasCause after (sent_reply p bytes)
  answer_caused after response reply allowed answer receipt standing bytes text =
      let sealed : IsSealed (rings p i) answer.text p response
      = at.grounds.sealed (rings p i) answer.text p response answer.signature answer.composed answer.fits at.code allowed in
      let same : answer.text ≡ bytes = subst (λ (r : Reply). IsReplyText r bytes) answer.reply_is text in
      subst (λ (b : List ℕ). HasCause after (sent_reply p b)) same (λ keys who r also.
      let (signer, one) = sealed_once keys (rings p i) answer.text who p r response also sealed in
      record {
        signer = signer;
        receipt = λ is entry last.
            receipt (subst (λ (x : Response). IsReceipt x.code) one is) entry
            (subst (λ (x : Response). x.last ≡ Some entry) one last);
        standing = λ is entry last.
            standing (subst (λ (x : Response). x.standing ≡ true) one is) entry
            (subst (λ (x : Response). x.last ≡ Some entry) one last);
      })

  -- an answer that is no receipt and doesn't stand says nothing
  pub passing_caused : (after : List Member) (response : Response) (reply : Reply) → IsAllowed response
      → IsAnswer (rings p i) p response reply → (IsReceipt response.code → ⊥) → response.standing ≡ false
      → (bytes : List ℕ) → IsReplyText reply bytes → HasCause after (sent_reply p bytes)
  passing_caused after response reply allowed answer no_receipt passes bytes text =
      answer_caused after response reply allowed answer (λ is entry last. absurd (no_receipt is))
      (λ is entry last. not_true (sym passes ∙ is)) bytes text

  -- what was declined before was declined for its party
  pub record DeclinedHere (manifest : Manifest) (code : Code) (reason : Reason) (evidence : Evidence) : Type 0 where
    pub code_is : code ≡ codes.BadEnvelope
    pub reason_is : reason ≡ reasons.Party
    pub evidence_is : evidence ≡ no_evidence
    pub bill : Checksum
    pub stands : StandsOn n.family p (records.Declined bill manifest.last code reason evidence)

  pub declined_here : (chain : List ChainLink) (manifest : Manifest) (sure : IsSure n chain manifest) (code : Code)
      (reason : Reason) (evidence : Evidence)
      → judgement_by roster p (newest_first d) chain manifest ≡ Declined code reason evidence
      → DeclinedHere manifest code reason evidence
  declined_here chain manifest sure code reason evidence is =
      let t : DeclinedAs sure.end.name code reason evidence (newest_first d)
      = declined_before roster p manifest.bill (newest_first d) chain manifest sure.end sure.end_is code reason evidence
      (by_bill roster rings n p i d at chain manifest sure (Declined code reason evidence) is) in
      let r : Record = records.Declined t.bill sure.end.name code reason evidence in
      let stands = here_stands roster rings n p i d at r t.among in
      let (before, need) = met_among (histories_of t.bill n.family) (histories_of t.bill n.family p) r
      (at.steady.met t.bill p) stands in
      let (older, follows) = follows_among p (histories_of t.bill n.family p) r
      (steady_history roster rings n at.steady t.bill p) stands in
      let may : MayDecline older older sure.end.name code reason evidence = follows in
      let cause = party_cause (place_of older) code reason evidence need.0 may.cause in
      record {
        code_is = cause.0;
        reason_is = need.0;
        evidence_is = cause.1;
        bill = t.bill;
        stands = subst (λ (name : Checksum). StandsOn n.family p (records.Declined t.bill name code reason evidence))
            (sym sure.names_last) stands;
      }

  module _ (chain : List ChainLink) (manifest : Manifest) (sure : IsSure n chain manifest)
      (frame : Option Frame) (after : List Member) (becomes : Becomes n p frame after) where
    -- where the entry was taken before, or is taken now
    taken_before : judgement_by roster p (newest_first d) chain manifest ≡ Duplicate
        → WasTakenOn after p manifest.last
    taken_before is =
        let t : TakenAs sure.end.name (newest_first d)
        = taken_as sure.end.name (newest_first d)
        (duplicate_taken roster p manifest.bill (newest_first d) chain manifest sure.end sure.end_is
        (by_bill roster rings n p i d at chain manifest sure Duplicate is)) in
        subst (WasTakenOn after p) (sym sure.names_last)
        (record {
          bill = t.bill;
          stands = stands_later n.family after becomes.later p (records.Taken t.bill sure.end.name)
              (here_stands roster rings n p i d at (records.Taken t.bill sure.end.name) t.among);
        })

    -- what is answered to a judgement has its cause
    pub judged_caused : (begun : Option Record) → IsBegunOf chain manifest begun → (J : Judgement)
        → judgement_by roster p (newest_first d) chain manifest ≡ J
        → frame ≡ frame_for begun (subject_of manifest) J → (reply : Reply)
        → IsAnswer (rings p i) p (response_for (subject_of manifest) J) reply
        → (bytes : List ℕ) → IsReplyText reply bytes → HasCause after (sent_reply p bytes)
    judged_caused begun is_of Elsewhere is written reply answer bytes text =
        passing_caused after (response_for (subject_of manifest) Elsewhere) reply (elsewhere_allowed manifest sure.form)
        answer (λ no_way. no_way) refl bytes text
    judged_caused begun is_of (Missing checksums) is written reply answer bytes text =
        passing_caused after (response_for (subject_of manifest) (Missing checksums)) reply
        (missing_allowed manifest checksums sure.form
        (subst (All IsChecksum)
        (missing_listed roster p manifest.bill (newest_first d) chain manifest sure.end sure.end_is checksums
        (by_bill roster rings n p i d at chain manifest sure (Missing checksums) is))
        (missing_have_form manifest (of_bill manifest.bill (newest_first d)) sure.form)))
        answer (λ no_way. no_way) refl bytes text
    judged_caused begun is_of Duplicate is written reply answer bytes text =
        answer_caused after (response_for (subject_of manifest) Duplicate) reply (duplicate_allowed manifest sure.form)
        answer (λ receipt. named_so (WasTakenOn after p) manifest.last (taken_before is)) (λ stands. not_true stands)
        bytes text
    judged_caused begun is_of (Declined code reason evidence) is written reply answer bytes text =
        let x = declined_here chain manifest sure code reason evidence is in
        let same : response_for (subject_of manifest) (Declined code reason evidence)
        ≡ response_for (subject_of manifest) Unknown = rw (x.code_is, x.reason_is, x.evidence_is) refl in
        answer_caused after (response_for (subject_of manifest) Unknown) reply (unknown_allowed manifest sure.form)
        (subst (λ (r : Response). IsAnswer (rings p i) p r reply) same answer) (λ no_way. absurd no_way)
        (λ stands. named_so (WasDeclinedOn after p) manifest.last
        (record {
          bill = x.bill;
          code = code;
          reason = reason;
          evidence = evidence;
          stands = stands_later n.family after becomes.later p
              (records.Declined x.bill manifest.last code reason evidence) x.stands;
        })) bytes text
    judged_caused begun is_of (Parts evidence) is written reply answer bytes text =
        absurd (not_disputed roster rings n p i d at chain manifest sure evidence is)
    judged_caused begun is_of Unknown is written reply answer bytes text =
        let r : Record = records.Declined manifest.bill manifest.last codes.BadEnvelope reasons.Party no_evidence in
        answer_caused after (response_for (subject_of manifest) Unknown) reply (unknown_allowed manifest sure.form)
        answer (λ no_way. absurd no_way)
        (λ stands. named_so (WasDeclinedOn after p) manifest.last
        (record {
          bill = manifest.bill;
          code = codes.BadEnvelope;
          reason = reasons.Party;
          evidence = no_evidence;
          stands = becomes.stands (One r) written r (inl refl);
        })) bytes text
    judged_caused begun is_of Accept is written reply answer bytes text =
        answer_caused after (response_for (subject_of manifest) Accept) reply (accept_allowed manifest sure.form) answer
        (λ receipt. named_so (WasTakenOn after p) manifest.last
        (record { bill = manifest.bill; stands = taken_now begun is_of written }))
        (λ stands. not_true stands) bytes text
      where
        taken_now : (o : Option Record) → IsBegunOf chain manifest o
            → frame ≡ frame_for o (subject_of manifest) Accept
            → IsAmong (records.Taken manifest.bill manifest.last) (histories_of manifest.bill after p)
        taken_now None of_it is_written =
            becomes.stands (One (records.Taken manifest.bill manifest.last)) is_written
            (records.Taken manifest.bill manifest.last) (inl refl)
        taken_now (Some r) (body, of_it) is_written =
            becomes.stands (BegunTaken r) is_written (records.Taken manifest.bill manifest.last)
            (subst (IsAmong (records.Taken manifest.bill manifest.last))
            (sym (ap (λ (x : Record). records_of (BegunTaken x)) of_it
            ∙ taken_there roster rings n p i d at chain manifest sure body))
            (inr (inl refl)))
