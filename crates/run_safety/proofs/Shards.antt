-- What a step writes is of a bill of the shard to which its request goes.
use Rattle.std.proofs.Common.{◌≡◌, inl, inr, ℕ, ◌%◌, Err, Bool, true, false, cond, List, [], ◌∷◌, ◌++◌, length, Option, Some, None, Ok, refl, sym, ap, subst, ◌∙◌, arith, take, drop}
use Rattle.std.specs.Prelude.{IfSome, option_map, slice_index}
use Rattle.std.specs.Option.{option_to_list}
use Rattle.document_checksum.specs.Digest.{IsChecksum}
use Rattle.ebl_base.specs.Reference.{reference_of}
use Rattle.ebl_base.specs.declared.checksum.Checksum.{Checksum}
use Rattle.ebl_base.specs.declared.chain.ChainLink.{ChainLink}
use Rattle.ebl_base.specs.declared.entry.Entry.{Entry}
use Rattle.ebl_base.specs.declared.moment.Moment.{Moment}
use Rattle.ebl_base.specs.declared.party.Party.{Party}
use Rattle.ebl_base.specs.declared.platform_code.PlatformCode.{PlatformCode}
use Rattle.ebl_base.specs.declared.reference.Reference.{Reference}
use Rattle.party_roster.specs.RosterRecord.{RosterRecord}
use Rattle.signed_envelope.specs.KeyRing.{Keys}
use Rattle.envelope_manifest.specs.Manifest.{IsManifest}
use Rattle.transport_document.specs.DocumentRecord.{bill_of}
use Rattle.envelope_manifest.specs.Body.{body_in, body_of_reading}
use Rattle.envelope_manifest.specs.declared.manifest.Manifest.{Manifest}
use Rattle.holder_commands.specs.Command.{CommandRecord, signs, acts, attaches}
use Rattle.platform_requests.specs.Request.{RequestRecord, commands, starts, puts, finishes, start_replies, finish_replies, resends, asks}
use Rattle.platform_requests.specs.Shard as requests
use Rattle.bill_chain.specs.Chain.{last_of}
use Rattle.bill_diary.specs.declared.record.Record.{Record}
use Rattle.bill_diary.specs.declared.record.Record.TheVariants as records
use Rattle.bill_diary.specs.declared.frame.Frame.{Frame}
use Rattle.bill_diary.specs.declared.frame.Frame.TheVariants.{One, BegunTaken}
use Rattle.bill_diary.specs.History as histories
use Rattle.bill_diary.specs.History.{history, newest_first, records_of}
use Rattle.bill_diary.specs.Pieces.{are_there}
use Rattle.bill_diary.specs.Sound.{AreSound, IsSound, MayFollow, has_reference}
use Rattle.transfer_judge.specs.Legal.{IsLegal}
use Rattle.transfer_judge.specs.Plan.{Plan, plan_of}
use Rattle.transfer_judge.specs.declared.judgement.Judgement.{Judgement}
use Rattle.transfer_judge.specs.declared.judgement.Judgement.TheVariants.{Elsewhere, Duplicate, Declined, Parts, Unknown, Missing, Accept}
use Rattle.transfer_judge.specs.declared.planned.Planned.TheVariants.{Nothing, Add, Part}
use Rattle.transfer_judge.proofs.FollowLemmas.{PlannedPart, planned_part}
use Rattle.platform_machine.specs.declared.ending.Ending.{Ending}
use Rattle.platform_machine.specs.declared.ending.Ending.TheVariants as endings
use Rattle.platform_machine.specs.declared.step.Step.{Step}
use Rattle.platform_machine.specs.Answer.{subject_of}
use Rattle.platform_machine.specs.Commanding.{FollowsPlan, IsThere, StepsAtCommand}
use Rattle.platform_machine.specs.Hearing.{StepsAtAnswer, StepsAtStartReply, record_for}
use Rattle.platform_machine.specs.Judged.{frame_for}
use Rattle.platform_machine.specs.Machine.{Steps, StepsAtResend}
use Rattle.platform_machine.specs.Receiving.{BegunRecord, IsLastBegun, StepsAtFinish, StepsAtPut, StepsAtStart, frame_at_put, judgement_at_finish, judgement_at_start, news_of}
use Rattle.platform_machine.proofs.FoundLemmas.{found_reference, found_whole}
use Rattle.closed_family.specs.Chains.{IsAmong}
use Rattle.closed_family.specs.Family.{shard_of}
use Rattle.run_safety.specs.Steady.{IsInShard}
use Rattle.run_safety.proofs.Commanded.{IsOwnRecord, own_record}
use Rattle.run_safety.proofs.Judged.{IsBegunOf, is_news}
use Rattle.run_safety.proofs.Owed.{find_among}
use Rattle.transfer_judge.proofs.LegalLemmas.{legal_is_sound}

-- ---- frames

one_in_shard : (i : ℕ) (r : Record) → shard_of (histories.bill_of r) ≡ i → IsInShard i (One r)
one_in_shard i r is s (inl same) = ap (λ (x : Record). shard_of (histories.bill_of x)) (sym same) ∙ is
one_in_shard i r is s (inr no_more) = absurd no_more

frame_in : (i : ℕ) (frame given : Option Frame) → frame ≡ given → IfSome given (IsInShard i) → IfSome frame (IsInShard i)
frame_in i frame given is in_it = subst (λ (o : Option Frame). IfSome o (IsInShard i)) (sym is) in_it

-- both records of a Begun's frame are of its bill
both_in_shard : (i : ℕ) (bill : Checksum) (chain : List ChainLink) (manifest : Manifest) (body : List ℕ)
    → shard_of bill ≡ i → IsInShard i (BegunTaken (records.Begun bill chain manifest body))
both_in_shard i bill chain manifest body is s (inl same) =
    ap (λ (x : Record). shard_of (histories.bill_of x)) (sym same) ∙ is
both_in_shard i bill chain manifest body is s (inr later) = on_last (last_of chain) later
  where
    on_last : (o : Option ChainLink)
        → IsAmong s (option_to_list (option_map (λ (link : ChainLink). records.Taken bill link.name) o))
        → shard_of (histories.bill_of s) ≡ i
    on_last None among = absurd among
    on_last (Some link) (inl same) = ap (λ (x : Record). shard_of (histories.bill_of x)) (sym same) ∙ is
    on_last (Some link) (inr no_more) = absurd no_more

judged_in_shard : (i : ℕ) (chain : List ChainLink) (manifest : Manifest) (begun : Option Record)
    → IsBegunOf chain manifest begun → shard_of manifest.bill ≡ i → (J : Judgement)
    → IfSome (frame_for begun (subject_of manifest) J) (IsInShard i)
judged_in_shard i chain manifest begun is_of is (Parts evidence) = one_in_shard i (records.Declined manifest.bill manifest.last _ _ evidence) is
judged_in_shard i chain manifest begun is_of is Unknown = one_in_shard i (records.Declined manifest.bill manifest.last _ _ _) is
judged_in_shard i chain manifest None is_of is (Missing checksums) = tt
judged_in_shard i chain manifest (Some r) is_of is (Missing checksums) =
    subst (λ (x : Record). IsInShard i (One x)) (sym is_of.1)
    (one_in_shard i (records.Begun manifest.bill chain manifest is_of.0) is)
judged_in_shard i chain manifest None is_of is Accept = one_in_shard i (records.Taken manifest.bill manifest.last) is
judged_in_shard i chain manifest (Some r) is_of is Accept =
    subst (λ (x : Record). IsInShard i (BegunTaken x)) (sym is_of.1)
    (both_in_shard i manifest.bill chain manifest is_of.0 is)
judged_in_shard i chain manifest begun is_of is Elsewhere = tt
judged_in_shard i chain manifest begun is_of is Duplicate = tt
judged_in_shard i chain manifest begun is_of is (Declined code reason evidence) = tt

-- ---- references

-- the shard of a reference is that of its bill
reference_shard : (bill entry : Checksum) → IsChecksum bill
    → shard_of bill ≡ requests.shard_of_reference (reference_of bill entry)
reference_shard bill entry form = on_bytes bill.0 form.size refl
  where
    on_bytes : (bytes : List ℕ) → length bytes ≡ 32 → bill.0 ≡ bytes
        → slice_index bill.0 0 % 16 ≡ slice_index (take 1 bill.0 ++ drop 1 (take 16 entry.0)) 0 % 16
    on_bytes [] size is = absurd (omega (arith, size))
    on_bytes (b ∷ bs) size is = rw is refl

-- the manifest of a Begun that may follow has the form of one
abbrev IsFormed : Record → Type 0
IsFormed (records.Begun bill chain manifest body) = IsManifest manifest
IsFormed r = Unit {0}

formed : (p : PlatformCode) (before h : List Record) (r : Record) → MayFollow p before h r → IsFormed r
formed p before h (records.Begun bill chain manifest body) may = may.manifest_form
formed p before h (records.Signed bill document t) may = tt
formed p before h (records.Acted bill t) may = tt
formed p before h (records.Attached bill piece bytes) may = tt
formed p before h (records.Parted bill link manifest text) may = tt
formed p before h (records.Settled bill entry) may = tt
formed p before h (records.Regained bill entry) may = tt
formed p before h (records.Stored bill entry checksum bytes) may = tt
formed p before h (records.Taken bill entry) may = tt
formed p before h (records.Declined bill entry code reason evidence) may = tt

formed_among : (p : PlatformCode) (rs : List Record) (r : Record) → AreSound p rs → IsAmong r rs → IsFormed r
formed_among p [] r sound among = absurd among
formed_among p (x ∷ rs) r sound (inl same) =
    subst IsFormed same (formed p rs (histories.of_bill (histories.bill_of x) rs) x sound.0)
formed_among p (x ∷ rs) r sound (inr later) = formed_among p rs r sound.2 later

module _ (roster : RosterRecord) (keys : Keys) (p : PlatformCode) (i : ℕ) (d : List Frame)
    (legal : IsLegal roster keys p d) where
  sound : IsSound p d
  sound = legal_is_sound roster keys p d legal

  found_shard : (reference : Reference) (b : BegunRecord) → IsLastBegun reference d b
      → requests.shard_of_reference reference ≡ i → shard_of b.bill ≡ i
  found_shard reference b found goes =
      let whole = found_whole p d reference b sound found in
      let form : IsManifest b.manifest = formed_among p (newest_first d)
      (records.Begun b.bill b.chain b.manifest b.body) sound.records
      (find_among (has_reference reference) (newest_first d) (records.Begun b.bill b.chain b.manifest b.body) found) in
      reference_shard b.bill whole.last.name (subst IsChecksum whole.names_bill form.bill)
      ∙ ap requests.shard_of_reference (found_reference p d reference b sound found whole.last whole.last_is) ∙ goes

  -- ---- each request

  start_shard : (body : List ℕ) (step : Step) → StepsAtStart roster keys p d body step
      → requests.shard_of_body (body_in body) ≡ i → IfSome step.frame (IsInShard i)
  start_shard body step (inl (refusal, refused, answers)) goes = frame_in i step.frame None answers.frame_is tt
  start_shard body step (inr (s, shows, judged)) goes =
      let (v, reads, is) = shows.reads in
      let read : body_in body ≡ Ok s.parts = ap body_of_reading reads ∙ is in
      let bill : shard_of (bill_of s.document) ≡ i
      = sym (ap requests.shard_of_document shows.shows.document_is) ∙ sym (ap requests.shard_of_body read) ∙ goes in
      frame_in i step.frame (frame_for (news_of d s) (subject_of s.manifest) (judgement_at_start roster p d s))
      judged.frame_is
      (judged_in_shard i s.chain s.manifest (news_of d s) (is_news d s)
      (ap shard_of shows.shows.envelops.manifests.names.0 ∙ bill) (judgement_at_start roster p d s))

  finish_shard : (reference : Reference) (step : Step) → StepsAtFinish roster keys p d reference step
      → requests.shard_of_reference reference ≡ i → IfSome step.frame (IsInShard i)
  finish_shard reference step (inl (unknown, only)) goes = frame_in i step.frame None only.nothing_written tt
  finish_shard reference step (inr (b, found, answers)) goes =
      frame_in i step.frame (frame_for None (subject_of b.manifest) (judgement_at_finish roster p d b)) answers.frame_is
      (judged_in_shard i b.chain b.manifest None tt
      (ap shard_of (found_whole p d reference b sound found).names_bill ∙ found_shard reference b found goes)
      (judgement_at_finish roster p d b))

  put_shard : (reference : Reference) (checksum : Checksum) (bytes : List ℕ) (step : Step)
      → StepsAtPut keys p d reference checksum bytes step
      → requests.shard_of_reference reference ≡ i → IfSome step.frame (IsInShard i)
  put_shard reference checksum bytes step (inl (unknown, only)) goes = frame_in i step.frame None only.nothing_written tt
  put_shard reference checksum bytes step (inr (b, found, inl (not_listed, answers))) goes =
      frame_in i step.frame None answers.frame_is tt
  put_shard reference checksum bytes step (inr (b, found, inr (piece, listed, inl (misfit, answers)))) goes =
      frame_in i step.frame None answers.frame_is tt
  put_shard reference checksum bytes step (inr (b, found, inr (piece, listed, inr (fits, stored)))) goes =
      frame_in i step.frame (frame_at_put d b checksum bytes) stored.frame_is
      (on_test (are_there (history b.bill d) bytes))
    where
      on_test : (there : Bool)
          → IfSome (cond there None (Some (One (records.Stored b.bill b.manifest.last checksum bytes)))) (IsInShard i)
      on_test true = tt
      on_test false =
          one_in_shard i (records.Stored b.bill b.manifest.last checksum bytes) (found_shard reference b found goes)

  answer_shard : (bill : Checksum) (bytes : List ℕ) (step : Step) → StepsAtAnswer keys d bill bytes step
      → shard_of bill ≡ i → IfSome step.frame (IsInShard i)
  answer_shard bill bytes step (inl (reason, ignored, only)) goes = frame_in i step.frame None only.nothing_written tt
  answer_shard bill bytes step (inr (written, (t, ending, under, ends, is), done)) goes =
      frame_in i step.frame (Some (One written)) done.frame_is
      (subst (λ (r : Record). IsInShard i (One r)) (sym is) (by_ending ending))
    where
      by_ending : (e : Ending) → IsInShard i (One (record_for bill t.entry.name e))
      by_ending endings.Received = one_in_shard i (records.Settled bill t.entry.name) goes
      by_ending endings.Declined = one_in_shard i (records.Regained bill t.entry.name) goes

  start_reply_shard : (bill : Checksum) (bytes : List ℕ) (step : Step) → StepsAtStartReply keys d bill bytes step
      → shard_of bill ≡ i → IfSome step.frame (IsInShard i)
  start_reply_shard bill bytes step (inr (answer, steps)) goes = answer_shard bill bytes step steps goes
  start_reply_shard bill bytes step (inl (object, inl (reason, ignored, only))) goes =
      frame_in i step.frame None only.nothing_written tt
  start_reply_shard bill bytes step (inl (object, inr (sent, upload, done))) goes =
      frame_in i step.frame None done.frame_is tt

  resend_shard : (bill : Checksum) (step : Step) → StepsAtResend d bill step → IfSome step.frame (IsInShard i)
  resend_shard bill step (inl (nothing, only)) = frame_in i step.frame None only.nothing_written tt
  resend_shard bill step (inr (sent, resent, done)) = frame_in i step.frame None done.frame_is tt

  own_shard : (command : CommandRecord) (r : Record) → IsOwnRecord command r → requests.shard_of_command command ≡ i
      → IsInShard i (One r)
  own_shard (signs value) r (document, t, read, is) goes =
      subst (λ (x : Record). IsInShard i (One x)) (sym is)
      (one_in_shard i (records.Signed (bill_of document) document.text t)
      (sym (ap requests.shard_of_document read) ∙ goes))
  own_shard (acts bill kind recipient) r (t, is) goes =
      subst (λ (x : Record). IsInShard i (One x)) (sym is) (one_in_shard i (records.Acted bill t) goes)
  own_shard (attaches bill name media bytes) r (piece, is) goes =
      subst (λ (x : Record). IsInShard i (One x)) (sym is) (one_in_shard i (records.Attached bill piece bytes) goes)

  there_shard : (command : CommandRecord) (step : Step) → IsThere d command step → IfSome step.frame (IsInShard i)
  there_shard (signs value) step there = absurd there
  there_shard (acts bill kind recipient) step there = absurd there
  there_shard (attaches bill name media bytes) step there = frame_in i step.frame None there.frame_is tt

  command_shard : (now : Moment) (party : Party) (command : CommandRecord) (step : Step)
      → StepsAtCommand roster keys p d now party command step
      → requests.shard_of_command command ≡ i → IfSome step.frame (IsInShard i)
  command_shard now party command step steps goes =
      on_plan (plan_of roster p (newest_first d) party command now) refl steps
    where
      on_plan : (plan : Plan) → plan_of roster p (newest_first d) party command now ≡ plan
          → FollowsPlan keys p d command plan step → IfSome step.frame (IsInShard i)
      on_plan (Err refusal) is only = frame_in i step.frame None only.nothing_written tt
      on_plan (Ok Nothing) is there = there_shard command step there
      on_plan (Ok (Add r)) is done =
          frame_in i step.frame (Some (One r)) done.frame_is
          (own_shard command r (own_record roster p (newest_first d) party command now r is) goes)
      on_plan (Ok (Part entry documents to)) is parted =
          let part : PlannedPart roster p (newest_first d) party command now entry documents to
          = planned_part roster p (newest_first d) party now entry documents to command is in
          let bill : entry.bill ≡ part.bill = ap (λ (e : Entry). e.bill) (sym part.entry_is) in
          let there : shard_of part.bill ≡ i = sym (ap requests.shard_of_command part.command_is) ∙ goes in
          frame_in i step.frame _ parted.parts.done.frame_is
          (one_in_shard i (records.Parted entry.bill parted.link _ parted.manifest_text) (ap shard_of bill ∙ there))

  -- what is written of a request is of its shard
  pub step_shard : (now : Moment) (request : RequestRecord) (step : Step)
      → Steps roster keys p d now request step → requests.shard_of request ≡ i → IfSome step.frame (IsInShard i)
  step_shard now (commands party command) step steps goes = command_shard now party command step steps goes
  step_shard now (starts body) step steps goes = start_shard body step steps goes
  step_shard now (puts reference checksum bytes) step steps goes = put_shard reference checksum bytes step steps goes
  step_shard now (finishes reference) step steps goes = finish_shard reference step steps goes
  step_shard now (start_replies bill bytes) step steps goes = start_reply_shard bill bytes step steps goes
  step_shard now (finish_replies bill bytes) step steps goes = answer_shard bill bytes step steps goes
  step_shard now (resends bill) step steps goes = resend_shard bill step steps
  step_shard now (asks bill) step steps goes = frame_in i step.frame None steps.frame_is tt
