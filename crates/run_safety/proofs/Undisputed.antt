-- No step of a shard is answered with a dispute.
use Rattle.std.proofs.Common.{◌≡◌, inl, inr, ℕ, List, Some, Ok, Err, refl, sym, subst, ◌∙◌}
use Rattle.std.specs.Prelude.{◌≢◌}
use Rattle.ebl_base.specs.Reason.{code_for}
use Rattle.ebl_base.specs.declared.chain.ChainLink.{ChainLink}
use Rattle.ebl_base.specs.declared.checksum.Checksum.{Checksum}
use Rattle.ebl_base.specs.declared.code.Code.TheVariants as codes
use Rattle.ebl_base.specs.declared.moment.Moment.{Moment}
use Rattle.ebl_base.specs.declared.party.Party.{Party}
use Rattle.ebl_base.specs.declared.platform_code.PlatformCode.{PlatformCode}
use Rattle.ebl_base.specs.declared.reason.Reason.{Reason}
use Rattle.ebl_base.specs.declared.reason.Reason.TheVariants as reasons
use Rattle.ebl_base.specs.declared.signed_text.SignedText.{SignedText}
use Rattle.signed_envelope.specs.KeyRing.{Keys}
use Rattle.party_roster.specs.RosterRecord.{RosterRecord}
use Rattle.transport_document.specs.DocumentRecord.{bill_of}
use Rattle.envelope_manifest.specs.declared.manifest.Manifest.{Manifest}
use Rattle.holder_commands.specs.Command.{CommandRecord, signs, acts, attaches}
use Rattle.pint_responses.specs.declared.response.Response.{Response}
use Rattle.platform_requests.specs.Request.{RequestRecord, commands, starts, puts, finishes, start_replies, finish_replies, resends, asks}
use Rattle.platform_requests.specs.declared.reply.Reply.{Reply}
use Rattle.platform_requests.specs.declared.reply.Reply.TheVariants as replies
use Rattle.platform_requests.specs.declared.reply.Reply.TheVariants.{Answer}
use Rattle.transfer_chain.specs.declared.fault.ChainRefusal.{ChainRefusal}
use Rattle.transfer_chain.specs.declared.fault.ChainRefusal.TheVariants.{Empty, TooLong, BadSignature, EntryForm, WrongSigner, BrokenLink, WrongBill, Carrier, WrongPlatform, Fold, Move, NoMemory}
use Rattle.bill_diary.specs.declared.frame.Frame.{Frame}
use Rattle.bill_diary.specs.History.{newest_first}
use Rattle.transfer_judge.specs.Judgement.{judgement_by}
use Rattle.transfer_judge.specs.Plan.{Plan, plan_of}
use Rattle.transfer_judge.specs.declared.judgement.Judgement.{Judgement}
use Rattle.transfer_judge.specs.declared.judgement.Judgement.TheVariants.{Elsewhere, Duplicate, Declined, Parts, Unknown, Missing, Accept}
use Rattle.transfer_judge.specs.declared.planned.Planned.TheVariants.{Nothing, Add, Part}
use Rattle.transfer_judge.specs.declared.planned.PlanRefusal.{PlanRefusal}
use Rattle.transfer_judge.specs.declared.planned.PlanRefusal.TheVariants as refusals
use Rattle.end_manifest.specs.EndManifest.{IsManifestRefused, reason_for}
use Rattle.platform_machine.specs.declared.step.Step.{Step}
use Rattle.platform_machine.specs.Answer.{IsAnswer, reference_for, refusal_response, subject_of}
use Rattle.platform_machine.specs.Commanding.{FollowsPlan, IsThere, StepsAtCommand, reply_to}
use Rattle.platform_machine.specs.Hearing.{StepsAtAnswer}
use Rattle.platform_machine.specs.Judged.{response_for}
use Rattle.platform_machine.specs.Machine.{Steps}
use Rattle.platform_machine.specs.Preface.{IsEnvelopeRefused, IsRefused}
use Rattle.platform_machine.specs.Receiving.{SaysAtStart, judgement_at_finish, judgement_at_start}
use Rattle.platform_machine.specs.declared.refusal.Refusal.{Refusal}
use Rattle.run_safety.specs.Network.{Network}
use Rattle.run_safety.specs.Steady.{Rings}
use Rattle.run_safety.specs.Honest.{Comes}
use Rattle.run_safety.proofs.Judged.{IsAtShard, IsSure, not_disputed}
use Rattle.run_safety.proofs.Owed.{found_sure, shown_sure}
use Rattle.run_safety.proofs.Truth.{declined_here}

-- ---- replies

-- a reply that is no answer of a dispute
abbrev pub IsUndisputed : Reply → Type 0
IsUndisputed (Answer response text) = response.code ≢ codes.DisputedEnvelope
IsUndisputed reply = Unit {0}

by_reply : (reply given : Reply) → reply ≡ given → IsUndisputed given → IsUndisputed reply
by_reply reply given is fine = subst IsUndisputed (sym is) fine

by_answer : (keys : Keys) (p : PlatformCode) (response : Response) (reply : Reply) → IsAnswer keys p response reply
    → response.code ≢ codes.DisputedEnvelope → IsUndisputed reply
by_answer keys p response reply answer fine =
    by_reply reply (Answer response (record { 0 = answer.text })) answer.reply_is fine

-- ---- refusals

-- a reason with which no dispute is answered
abbrev IsOther : Reason → Type 0
IsOther reason = code_for reason ≢ codes.DisputedEnvelope

other_by : (one reason : Reason) → Some one ≡ Some reason → IsOther one → IsOther reason
other_by one reason is fine = let same : one ≡ reason = cc is in subst IsOther same fine

chain_other : (refusal : ChainRefusal) (reason : Reason) → reason_for refusal ≡ Some reason → IsOther reason
chain_other Empty reason is = other_by reasons.Length reason is (λ no_way. cc no_way)
chain_other TooLong reason is = other_by reasons.Length reason is (λ no_way. cc no_way)
chain_other (BadSignature i why) reason is = other_by (reasons.Signature i) reason is (λ no_way. cc no_way)
chain_other (EntryForm i field) reason is = other_by (reasons.Entry i) reason is (λ no_way. cc no_way)
chain_other (WrongSigner i) reason is = other_by (reasons.Signer i) reason is (λ no_way. cc no_way)
chain_other (BrokenLink i) reason is = other_by (reasons.Link i) reason is (λ no_way. cc no_way)
chain_other (WrongBill i) reason is = other_by (reasons.Bill i) reason is (λ no_way. cc no_way)
chain_other Carrier reason is = other_by reasons.Carrier reason is (λ no_way. cc no_way)
chain_other (WrongPlatform i) reason is = other_by (reasons.Platform i) reason is (λ no_way. cc no_way)
chain_other (Fold i k rule) reason is = other_by (reasons.Fold i) reason is (λ no_way. cc no_way)
chain_other (Move i) reason is = other_by (reasons.Move i) reason is (λ no_way. cc no_way)
chain_other NoMemory reason is = cc is

manifest_other : (keys : Keys) (bill : Checksum) (end : ChainLink) (text : SignedText) (reason : Reason)
    → IsManifestRefused keys bill end text reason → IsOther reason
manifest_other keys bill end text reasons.ManifestSignature r = λ no_way. cc no_way
manifest_other keys bill end text reasons.ManifestForm r = λ no_way. cc no_way
manifest_other keys bill end text reasons.ManifestNames r = λ no_way. cc no_way
manifest_other keys bill end text reason r = absurd r

refusal_other : (roster : RosterRecord) (keys : Keys) (body : List ℕ) (r : Refusal) → IsRefused roster keys body r
    → IsOther r.reason
refusal_other roster keys body r (inl (field, wrong, is)) =
    subst (λ (x : Refusal). IsOther x.reason) (sym is) (λ no_way. cc no_way)
refusal_other roster keys body r (inr (parts, reads, inl (fault, document, is))) =
    subst (λ (x : Refusal). IsOther x.reason) (sym is) (λ no_way. cc no_way)
refusal_other roster keys body r (inr (parts, reads, inr (document, reason, read, refused, is))) =
    subst (λ (x : Refusal). IsOther x.reason) (sym is) (on_refused refused)
  where
    on_refused : IsEnvelopeRefused roster keys document parts reason → IsOther reason
    on_refused (inl (refusal, for, chain)) = chain_other refusal reason for
    on_refused (inr end) = manifest_other keys (bill_of document) end.end parts.manifest reason end.refused

plan_undisputed : (refusal : PlanRefusal) → IsUndisputed (reply_to refusal)
plan_undisputed refusals.NotOurs = tt
plan_undisputed (refusals.Document fault) = tt
plan_undisputed refusals.NotCarrier = tt
plan_undisputed refusals.KnownBill = tt
plan_undisputed (refusals.NotHere place) = tt
plan_undisputed (refusals.NoParty party) = tt
plan_undisputed (refusals.NotAllowed rule) = tt
plan_undisputed (refusals.Limit limit) = tt
plan_undisputed refusals.NoMemory = tt

-- ---- at a shard

module _ (roster : RosterRecord) (rings : Rings) (n : Network) (p : PlatformCode) (i : ℕ) (d : List Frame)
    (at : IsAtShard roster rings n p i d) where
  judged_other : (chain : List ChainLink) (manifest : Manifest) → IsSure n chain manifest → (J : Judgement)
      → judgement_by roster p (newest_first d) chain manifest ≡ J
      → (response_for (subject_of manifest) J).code ≢ codes.DisputedEnvelope
  judged_other chain manifest sure Elsewhere is = λ no_way. cc no_way
  judged_other chain manifest sure Duplicate is = λ no_way. cc no_way
  judged_other chain manifest sure (Declined code reason evidence) is =
      λ disputed. let two =
      sym (declined_here roster rings n p i d at chain manifest sure code reason evidence is).code_is ∙ disputed in
      cc two
  judged_other chain manifest sure (Parts evidence) is =
      absurd (not_disputed roster rings n p i d at chain manifest sure evidence is)
  judged_other chain manifest sure Unknown is = λ no_way. cc no_way
  judged_other chain manifest sure (Missing checksums) is = λ no_way. cc no_way
  judged_other chain manifest sure Accept is = λ no_way. cc no_way

  start_says : (chain : List ChainLink) (manifest : Manifest) → IsSure n chain manifest → (J : Judgement)
      → judgement_by roster p (newest_first d) chain manifest ≡ J → (reply : Reply)
      → SaysAtStart (rings p i) p (subject_of manifest) J reply → IsUndisputed reply
  start_says chain manifest sure (Missing checksums) is reply says =
      by_reply reply (replies.Started (reference_for (subject_of manifest)) checksums) says tt
  start_says chain manifest sure Elsewhere is reply says =
      by_answer (rings p i) p (response_for (subject_of manifest) Elsewhere) reply says
      (judged_other chain manifest sure Elsewhere is)
  start_says chain manifest sure Duplicate is reply says =
      by_answer (rings p i) p (response_for (subject_of manifest) Duplicate) reply says
      (judged_other chain manifest sure Duplicate is)
  start_says chain manifest sure (Declined code reason evidence) is reply says =
      by_answer (rings p i) p (response_for (subject_of manifest) (Declined code reason evidence)) reply says
      (judged_other chain manifest sure (Declined code reason evidence) is)
  start_says chain manifest sure (Parts evidence) is reply says =
      absurd (not_disputed roster rings n p i d at chain manifest sure evidence is)
  start_says chain manifest sure Unknown is reply says =
      by_answer (rings p i) p (response_for (subject_of manifest) Unknown) reply says
      (judged_other chain manifest sure Unknown is)
  start_says chain manifest sure Accept is reply says =
      by_answer (rings p i) p (response_for (subject_of manifest) Accept) reply says
      (judged_other chain manifest sure Accept is)

  answer_says : (bill : Checksum) (bytes : List ℕ) (step : Step) → StepsAtAnswer (rings p i) d bill bytes step
      → IsUndisputed step.reply
  answer_says bill bytes step (inl (reason, ignored, only)) =
      by_reply step.reply (replies.Ignored reason) only.reply_is tt
  answer_says bill bytes step (inr (written, ended, done)) = by_reply step.reply (replies.Done _) done.reply_is tt

  there_says : (command : CommandRecord) (step : Step) → IsThere d command step → IsUndisputed step.reply
  there_says (signs value) step there = absurd there
  there_says (acts bill kind recipient) step there = absurd there
  there_says (attaches bill name media bytes) step there = by_reply step.reply (replies.Done _) there.reply_is tt

  command_says : (now : Moment) (party : Party) (command : CommandRecord) (step : Step)
      → StepsAtCommand roster (rings p i) p d now party command step → IsUndisputed step.reply
  command_says now party command step steps = on_plan (plan_of roster p (newest_first d) party command now) steps
    where
      on_plan : (plan : Plan) → FollowsPlan (rings p i) p d command plan step → IsUndisputed step.reply
      on_plan (Err refusal) only = by_reply step.reply (reply_to refusal) only.reply_is (plan_undisputed refusal)
      on_plan (Ok Nothing) there = there_says command step there
      on_plan (Ok (Add r)) done = by_reply step.reply (replies.Done _) done.reply_is tt
      on_plan (Ok (Part entry documents to)) parted = by_reply step.reply (replies.Done _) parted.parts.done.reply_is tt

  pub step_undisputed : (now : Moment) (request : RequestRecord) (step : Step) → Comes roster rings n.sent request
      → Steps roster (rings p i) p d now request step → IsUndisputed step.reply
  step_undisputed now (commands party command) step comes steps = command_says now party command step steps
  step_undisputed now (starts body) step comes (inl (refusal, refused, answers)) =
      by_answer (rings p i) p (refusal_response refusal) step.reply answers.says
      (refusal_other roster (rings p i) body refusal refused)
  step_undisputed now (starts body) step comes (inr (s, shows, judged)) =
      start_says s.chain s.manifest (shown_sure roster rings n p i d at body s shows comes)
      (judgement_at_start roster p d s) refl step.reply judged.says
  step_undisputed now (puts reference checksum bytes) step comes (inl (unknown, only)) =
      by_reply step.reply replies.UnknownReference only.reply_is tt
  step_undisputed now (puts reference checksum bytes) step comes (inr (b, found, inl (not_listed, answers))) =
      by_answer (rings p i) p _ step.reply answers.says (λ no_way. cc no_way)
  step_undisputed now (puts reference checksum bytes) step comes (inr (b, found, inr (piece, listed, inl (misfit, answers)))) =
      by_answer (rings p i) p _ step.reply answers.says (λ no_way. cc no_way)
  step_undisputed now (puts reference checksum bytes) step comes (inr (b, found, inr (piece, listed, inr (fits, stored)))) =
      by_reply step.reply replies.Stored stored.reply_is tt
  step_undisputed now (finishes reference) step comes (inl (unknown, only)) =
      by_reply step.reply replies.UnknownReference only.reply_is tt
  step_undisputed now (finishes reference) step comes (inr (b, found, answers)) =
      by_answer (rings p i) p (response_for (subject_of b.manifest) (judgement_at_finish roster p d b)) step.reply
      answers.says
      (judged_other b.chain b.manifest (found_sure roster rings n p i d at reference b found)
      (judgement_at_finish roster p d b) refl)
  step_undisputed now (start_replies bill bytes) step comes (inr (answer, steps)) = answer_says bill bytes step steps
  step_undisputed now (start_replies bill bytes) step comes (inl (object, inl (reason, ignored, only))) =
      by_reply step.reply (replies.Ignored reason) only.reply_is tt
  step_undisputed now (start_replies bill bytes) step comes (inl (object, inr (sent, upload, done))) =
      by_reply step.reply (replies.Done _) done.reply_is tt
  step_undisputed now (finish_replies bill bytes) step comes steps = answer_says bill bytes step steps
  step_undisputed now (resends bill) step comes (inl (nothing, only)) =
      by_reply step.reply (replies.NotParting _) only.reply_is tt
  step_undisputed now (resends bill) step comes (inr (sent, resent, done)) =
      by_reply step.reply (replies.Done _) done.reply_is tt
  step_undisputed now (asks bill) step comes done = by_reply step.reply (replies.Done _) done.reply_is tt
