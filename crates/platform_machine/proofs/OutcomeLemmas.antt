-- What a start and a finish come to, by their judgement.
use Rattle.std.proofs.Common.{◌≡◌, inl, inr, ℕ, true, List, Some, None, ap, sym, subst, ◌∙◌}
use Rattle.ebl_base.specs.declared.checksum.Checksum.{Checksum}
use Rattle.ebl_base.specs.declared.platform_code.PlatformCode.{PlatformCode}
use Rattle.ebl_base.specs.declared.reference.Reference.{Reference}
use Rattle.signed_envelope.specs.KeyRing.{Keys}
use Rattle.party_roster.specs.RosterRecord.{RosterRecord}
use Rattle.bill_chain.specs.Chain.{destination}
use Rattle.bill_diary.specs.declared.record.Record.TheVariants as records
use Rattle.bill_diary.specs.declared.frame.Frame.{Frame}
use Rattle.bill_diary.specs.History.{newest_first}
use Rattle.bill_diary.specs.Receiving.{is_taken}
use Rattle.bill_diary.specs.Sound.{IsSound}
use Rattle.transfer_judge.specs.declared.judgement.Judgement.{Judgement}
use Rattle.transfer_judge.specs.declared.judgement.Judgement.TheVariants as judgements
use Rattle.platform_machine.specs.declared.refusal.Refusal.{Refusal}
use Rattle.platform_machine.specs.declared.step.Step.{Step}
use Rattle.platform_machine.specs.Preface.{IsRefused, ShownRecord, Shows}
use Rattle.platform_machine.specs.Answer.{subject_of}
use Rattle.platform_machine.specs.Judged.{frame_for, response_for, taken_with}
use Rattle.platform_machine.specs.Step.{Answers}
use Rattle.platform_machine.specs.Complete.{HasNoObjection}
use Rattle.platform_machine.specs.Receiving.{BegunRecord, IsFinished, IsJudged, IsLastBegun, SaysAtStart, StepsAtFinish, StepsAtStart, frame_at_start, judgement_at_finish, judgement_at_start, news_of}
use Rattle.platform_machine.proofs.CompleteLemmas.{is_accepted}
use Rattle.platform_machine.proofs.DuplicateLemmas.{taken_is_duplicate}
use Rattle.platform_machine.proofs.FoundLemmas.{found_whole}

-- ---- a start of a body that shows this

abbrev pub ShownOnce : RosterRecord → Keys → List ℕ → Type 0
ShownOnce roster keys body = (a b : ShownRecord) → Shows roster keys body a → Shows roster keys body b → a ≡ b

abbrev pub NeverBoth : RosterRecord → Keys → List ℕ → Type 0
NeverBoth roster keys body =
    (s : ShownRecord) (refusal : Refusal) → Shows roster keys body s → IsRefused roster keys body refusal → ⊥

-- it is judged by what it shows
judged_so : (roster : RosterRecord) (keys : Keys) (me : PlatformCode) (diary : List Frame) (body : List ℕ)
    (s : ShownRecord) (step : Step) → ShownOnce roster keys body → NeverBoth roster keys body
    → Shows roster keys body s → StepsAtStart roster keys me diary body step → IsJudged roster keys me diary s step
judged_so roster keys me diary body s step once never shows (inl (refusal, refused, answers)) =
    absurd (never s refusal shows refused)
judged_so roster keys me diary body s step once never shows (inr (other, also, judged)) =
    subst (λ (x : ShownRecord). IsJudged roster keys me diary x step) (once other s also shows) judged

-- it is answered by its judgement, where that isn't that documents are missing
duplicate_answers : (keys : Keys) (me : PlatformCode) (roster : RosterRecord) (diary : List Frame) (s : ShownRecord)
    (step : Step) → IsJudged roster keys me diary s step
    → judgement_at_start roster me diary s ≡ judgements.Duplicate
    → Answers keys me None (response_for (subject_of s.manifest) judgements.Duplicate) step
duplicate_answers keys me roster diary s step judged is = record {
  frame_is = judged.frame_is ∙ ap (λ (j : Judgement). frame_at_start diary s j) is;
  says = subst (λ (j : Judgement). SaysAtStart keys me (subject_of s.manifest) j step.reply) is judged.says;
  nothing_sent = judged.nothing_sent;
}

accept_answers : (keys : Keys) (me : PlatformCode) (roster : RosterRecord) (diary : List Frame) (s : ShownRecord)
    (step : Step) → IsJudged roster keys me diary s step
    → judgement_at_start roster me diary s ≡ judgements.Accept
    → Answers keys me (Some (taken_with (news_of diary s) (subject_of s.manifest)))
    (response_for (subject_of s.manifest) judgements.Accept) step
accept_answers keys me roster diary s step judged is = record {
  frame_is = judged.frame_is ∙ ap (λ (j : Judgement). frame_at_start diary s j) is;
  says = subst (λ (j : Judgement). SaysAtStart keys me (subject_of s.manifest) j step.reply) is judged.says;
  nothing_sent = judged.nothing_sent;
}

pub start_of_taken : (roster : RosterRecord) (keys : Keys) (me : PlatformCode) (diary : List Frame) (body : List ℕ)
    (s : ShownRecord) (step : Step) → ShownOnce roster keys body → NeverBoth roster keys body
    → Shows roster keys body s → destination s.chain ≡ Some me
    → is_taken s.manifest.last (newest_first diary) ≡ true → StepsAtStart roster keys me diary body step
    → Answers keys me None (response_for (subject_of s.manifest) judgements.Duplicate) step
start_of_taken roster keys me diary body s step once never shows goes taken steps =
    let envelops = shows.shows.envelops in
    duplicate_answers keys me roster diary s step (judged_so roster keys me diary body s step once never shows steps)
    (taken_is_duplicate roster me (newest_first diary) s.chain s.manifest envelops.end envelops.end_is goes
    (ap (λ (n : Checksum). is_taken n (newest_first diary)) (sym envelops.manifests.names.1) ∙ taken))

pub start_of_welcome : (roster : RosterRecord) (keys : Keys) (me : PlatformCode) (diary : List Frame) (body : List ℕ)
    (s : ShownRecord) (step : Step) → ShownOnce roster keys body → NeverBoth roster keys body
    → Shows roster keys body s → HasNoObjection roster me diary s.chain s.manifest
    → StepsAtStart roster keys me diary body step
    → Answers keys me (Some (taken_with (news_of diary s) (subject_of s.manifest)))
    (response_for (subject_of s.manifest) judgements.Accept) step
start_of_welcome roster keys me diary body s step once never shows free steps =
    accept_answers keys me roster diary s step (judged_so roster keys me diary body s step once never shows steps)
    (is_accepted roster me diary s.chain s.manifest free)

-- ---- a finish of what was begun

same_begun : (a b : BegunRecord)
    → records.Begun a.bill a.chain a.manifest a.body ≡ records.Begun b.bill b.chain b.manifest b.body → a ≡ b
same_begun a b same =
    let bills : a.bill ≡ b.bill = cc same in
    let chains : a.chain ≡ b.chain = cc same in
    let manifests : a.manifest ≡ b.manifest = cc same in
    let bodies : a.body ≡ b.body = cc same in
    λ i. record { bill = bills i; chain = chains i; manifest = manifests i; body = bodies i }

finished_so : (roster : RosterRecord) (keys : Keys) (me : PlatformCode) (diary : List Frame) (reference : Reference)
    (b : BegunRecord) (step : Step) → IsLastBegun reference diary b
    → StepsAtFinish roster keys me diary reference step → IsFinished roster keys me diary b step
finished_so roster keys me diary reference b step is (inl (unknown, only)) =
    let both : None ≡ Some (records.Begun b.bill b.chain b.manifest b.body) = sym unknown ∙ is in
    cc both
finished_so roster keys me diary reference b step is (inr (other, also, finished)) =
    let both : Some (records.Begun other.bill other.chain other.manifest other.body)
    ≡ Some (records.Begun b.bill b.chain b.manifest b.body) = sym also ∙ is in
    let same : other ≡ b = same_begun other b (cc both) in
    subst (λ (x : BegunRecord). IsFinished roster keys me diary x step) same finished

-- it is answered by its judgement
finish_answers : (roster : RosterRecord) (keys : Keys) (me : PlatformCode) (diary : List Frame) (b : BegunRecord)
    (step : Step) (j : Judgement) → IsFinished roster keys me diary b step → judgement_at_finish roster me diary b ≡ j
    → Answers keys me (frame_for None (subject_of b.manifest) j) (response_for (subject_of b.manifest) j) step
finish_answers roster keys me diary b step j finished is =
    subst (λ (x : Judgement).
    Answers keys me (frame_for None (subject_of b.manifest) x) (response_for (subject_of b.manifest) x) step) is finished

pub finish_of_taken : (roster : RosterRecord) (keys : Keys) (me : PlatformCode) (diary : List Frame)
    (reference : Reference) (b : BegunRecord) (step : Step) → IsSound me diary → IsLastBegun reference diary b
    → is_taken b.manifest.last (newest_first diary) ≡ true → StepsAtFinish roster keys me diary reference step
    → Answers keys me None (response_for (subject_of b.manifest) judgements.Duplicate) step
finish_of_taken roster keys me diary reference b step sound last_begun taken steps =
    let whole = found_whole me diary reference b sound last_begun in
    finish_answers roster keys me diary b step judgements.Duplicate
    (finished_so roster keys me diary reference b step last_begun steps)
    (taken_is_duplicate roster me (newest_first diary) b.chain b.manifest whole.last whole.last_is
    whole.ends_here
    (ap (λ (n : Checksum). is_taken n (newest_first diary)) (sym whole.names_last) ∙ taken))

pub finish_of_welcome : (roster : RosterRecord) (keys : Keys) (me : PlatformCode) (diary : List Frame)
    (reference : Reference) (b : BegunRecord) (step : Step) → IsLastBegun reference diary b
    → HasNoObjection roster me diary b.chain b.manifest → StepsAtFinish roster keys me diary reference step
    → Answers keys me (Some (taken_with None (subject_of b.manifest)))
    (response_for (subject_of b.manifest) judgements.Accept) step
finish_of_welcome roster keys me diary reference b step last_begun free steps =
    finish_answers roster keys me diary b step judgements.Accept
    (finished_so roster keys me diary reference b step last_begun steps)
    (is_accepted roster me diary b.chain b.manifest free)
