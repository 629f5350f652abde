-- Every event keeps a steady network steady, as long as its texts have distinct names; so every run is steady, and safe.
use Rattle.std.proofs.Common.{◌≡◌, ◌⊎◌, inl, inr, ℕ, true, List, [], Option, Some, None, refl, sym, ap, subst, ◌∙◌}
use Rattle.std.specs.Prelude.{IfSome}
use Rattle.ebl_base.specs.PlatformCode.{code_eq, IsCode}
use Rattle.ebl_base.specs.declared.platform_code.PlatformCode.{PlatformCode}
use Rattle.party_roster.specs.Distinct.{are_distinct}
use Rattle.party_roster.specs.RosterRecord.{RosterRecord}
use Rattle.platform_requests.specs.Request.{RequestRecord, commands, starts, puts, finishes, start_replies, finish_replies, resends, asks}
use Rattle.bill_diary.specs.declared.frame.Frame.{Frame}
use Rattle.bill_diary.specs.History.{records_of}
use Rattle.transfer_judge.specs.Legal.{IsLegal}
use Rattle.platform_machine.specs.Machine.{Steps}
use Rattle.platform_machine.specs.Step.{with_frame}
use Rattle.closed_family.specs.declared.family.Member.{Member}
use Rattle.closed_family.specs.Chains.{IsAmong}
use Rattle.closed_family.specs.Family.{HasDistinctNames}
use Rattle.run_safety.specs.Network.{Network, Sent, sent_start, sent_reply, diary_of, longer_family, written}
use Rattle.run_safety.specs.Steady.{FrameIsMet, HasCause, IsInShard, IsSteady, MayBeWritten, Rings}
use Rattle.run_safety.specs.Honest.{Comes}
use Rattle.run_safety.specs.Sending.{IsSentBy}
use Rattle.run_safety.specs.Run.{Asked, Happens, IsDropped, IsFailed, IsKept, IsWhole, Reaches, at_opening, after_event}
use Rattle.run_safety.proofs.Commanded.{command_owes}
use Rattle.run_safety.proofs.Diaries.{IsHere, here_or_not, found_in}
use Rattle.run_safety.proofs.Heard.{answer_owes, ask_owes, resend_owes, start_reply_owes}
use Rattle.run_safety.proofs.Judged.{Becomes, IsAtShard}
use Rattle.run_safety.proofs.Later.{cause_later}
use Rattle.run_safety.proofs.Longer.{longer_distinct, longer_is_later, written_stands}
use Rattle.run_safety.proofs.Opening.{opening_steady}
use Rattle.run_safety.proofs.Owed.{Owes, finish_owes, put_owes, start_owes}
use Rattle.run_safety.proofs.Shards.{step_shard}
use Rattle.run_safety.proofs.Sound.{Grounds}
use Rattle.run_safety.proofs.Written.{longer_steady}

-- ---- where the family stays

-- a network with the same diaries, whose loose frames may be written, and in which what was sent has its cause
record HasSame (roster : RosterRecord) (rings : Rings) (n after : Network) : Type 0 where
  family_is : after.family ≡ n.family
  loose : (p : PlatformCode) (i : ℕ) (d : List Frame) (frame : Frame) → diary_of n.family p i ≡ Some d
      → after.loose p i ≡ Some frame → MayBeWritten roster rings n.family p i d frame
  caused : (s : Sent) → IsAmong s after.sent → HasCause n.family s

same_steady : (roster : RosterRecord) (rings : Rings) (n after : Network) → IsSteady roster rings n
    → HasSame roster rings n after → IsSteady roster rings after
same_steady roster rings n after S same =
    subst (λ (f : List Member). IsSteady roster rings (record { family = f; loose = after.loose; sent = after.sent }))
    (sym same.family_is)
    (record {
      listed = S.listed;
      apart = S.apart;
      sixteen = S.sixteen;
      legal = S.legal;
      in_shard = S.in_shard;
      met = S.met;
      loose = same.loose;
      caused = same.caused;
    })

-- ---- a request

module _ (roster : RosterRecord) (rings : Rings) (n : Network) (G : Grounds roster) (S : IsSteady roster rings n)
    (distinct : HasDistinctNames n.family) where
  module _ (a : Asked roster rings n) where
    pub at_shard : IsAtShard roster rings n a.p a.i a.diary
    at_shard =
        let f = found_in n.family a.p a.i a.diary a.has_diary in
        record {
          steady = S;
          grounds = G;
          distinct = distinct;
          code = subst IsCode f.platform (G.codes f.m.platform (S.listed f.m f.listed));
          has_diary = a.has_diary;
        }

    legal_after : IsLegal roster (rings a.p a.i) a.p (with_frame a.diary a.step.frame)
    legal_after =
        G.keeps (rings a.p a.i) a.p a.diary a.now a.request a.step (S.legal a.p a.i a.diary a.has_diary) a.may a.steps

    owes : Owes n a.p a.step
    owes = by_request a.request a.comes a.steps
      where
        by_request : (request : RequestRecord) → Comes roster rings n.sent request
            → Steps roster (rings a.p a.i) a.p a.diary a.now request a.step → Owes n a.p a.step
        by_request (commands party command) comes steps =
            command_owes roster rings n a.p a.i a.diary at_shard a.now party command a.step legal_after steps
        by_request (starts body) comes steps = start_owes roster rings n a.p a.i a.diary at_shard body a.step comes steps
        by_request (puts reference checksum bytes) comes steps =
            put_owes roster rings n a.p a.i a.diary at_shard reference checksum bytes a.step steps
        by_request (finishes reference) comes steps =
            finish_owes roster rings n a.p a.i a.diary at_shard reference a.step steps
        by_request (start_replies bill bytes) comes steps =
            start_reply_owes roster rings n a.p a.i a.diary at_shard bill bytes a.step comes steps
        by_request (finish_replies bill bytes) comes steps =
            answer_owes roster rings n a.p a.i a.diary at_shard bill bytes a.step comes steps
        by_request (resends bill) comes steps = resend_owes roster rings n a.p a.i a.diary at_shard bill a.step steps
        by_request (asks bill) comes steps = ask_owes roster rings n a.p a.i a.diary at_shard bill a.step steps

    -- what is to be written may be
    may_be_written : (frame : Frame) → a.step.frame ≡ Some frame
        → MayBeWritten roster rings n.family a.p a.i a.diary frame
    may_be_written frame is = record {
      legal = subst (λ (o : Option Frame). IsLegal roster (rings a.p a.i) a.p (with_frame a.diary o)) is legal_after;
      in_shard = subst (λ (o : Option Frame). IfSome o (IsInShard a.i)) is
          (step_shard roster (rings a.p a.i) a.p a.i a.diary (S.legal a.p a.i a.diary a.has_diary) a.now a.request a.step
          a.steps a.goes_here);
      met = subst (λ (o : Option Frame). IfSome o (FrameIsMet n.family a.p)) is owes.met;
    }

    -- what is sent has its cause afterwards
    sent_caused : (after : List Member) → Becomes n a.p a.step.frame after → (s : Sent)
        → IsAmong s n.sent ⊎ IsSentBy a.p a.step s → HasCause after s
    sent_caused after becomes s (inl old) = cause_later n.family after becomes.later s (S.caused s old)
    sent_caused after becomes (sent_start from body) (inr by) =
        subst (λ (q : PlatformCode). HasCause after (sent_start q body)) (sym by.0)
        (owes.starts after becomes by.1.0 by.1.1 body by.1.2)
    sent_caused after becomes (sent_reply from bytes) (inr by) =
        subst (λ (q : PlatformCode). HasCause after (sent_reply q bytes)) (sym by.0) (owes.replies after becomes bytes by.1)

  -- a loose frame of the network before
  was_loose : (p : PlatformCode) (i : ℕ) (d : List Frame) (frame : Frame) → diary_of n.family p i ≡ Some d
      → n.loose p i ≡ Some frame → MayBeWritten roster rings n.family p i d frame
  was_loose = S.loose

  -- ---- each event

  whole_steady : (after : Network) → IsWhole roster rings n after → IsSteady roster rings after
  whole_steady after w = on_frame w.asked.step.frame refl w.family_is
    where
      on_frame : (o : Option Frame) → w.asked.step.frame ≡ o
          → after.family ≡ written w.asked.p w.asked.i o n.family → IsSteady roster rings after
      on_frame None is family_is =
          same_steady roster rings n after S
          (record {
            family_is = family_is;
            loose = λ q k e f there was. S.loose q k e f there (sym (w.loose_is q k) ∙ was);
            caused = λ s among.
                sent_caused w.asked n.family
                (record {
                  later = λ bill q. record { more = []; history_is = refl };
                  stands = λ f some r in_it. let two = sym is ∙ some in cc two;
                }) s (w.sends s among);
          })
      on_frame (Some frame) is family_is =
          let may = may_be_written w.asked frame is in
          let longer : List Member = longer_family w.asked.p w.asked.i frame n.family in
          let becomes : Becomes n w.asked.p w.asked.step.frame longer = record {
            later = longer_is_later w.asked.p w.asked.i frame n.family w.asked.diary w.asked.has_diary;
            stands = λ f some r in_it.
                let two = sym is ∙ some in
                let same : frame ≡ f = cc two in
                written_stands w.asked.p w.asked.i frame n.family w.asked.diary w.asked.has_diary may.in_shard r
                (subst (λ (x : Frame). IsAmong r (records_of x)) (sym same) in_it);
          } in
          longer_steady roster rings n after S w.asked.p w.asked.i w.asked.diary w.asked.has_diary frame may
          (record {
            family_is = family_is;
            loose = λ q k f was.
                let before = sym (w.loose_is q k) ∙ was in (
                  λ here.
                      let two = sym w.asked.not_loose ∙ ap (λ (x : PlatformCode). n.loose x w.asked.i) (sym here.0)
                      ∙ ap (n.loose q) (sym here.1) ∙ before in
                      cc two,
                  before,
                );
            caused = λ s among.
                subst (λ (f : List Member). HasCause f s) (sym family_is)
                (sent_caused w.asked longer becomes s (w.sends s among));
          })

  failed_steady : (after : Network) → IsFailed roster rings n after → IsSteady roster rings after
  failed_steady after w =
      same_steady roster rings n after S
      (record {
        family_is = w.family_is;
        loose = λ q k e f there was. on_place q k e f there was (here_or_not w.asked.p w.asked.i q k);
        caused = λ s among. S.caused s (w.sends s among);
      })
    where
      on_place : (q : PlatformCode) (k : ℕ) (e : List Frame) (f : Frame) → diary_of n.family q k ≡ Some e
          → after.loose q k ≡ Some f → IsHere w.asked.p w.asked.i q k ⊎ (IsHere w.asked.p w.asked.i q k → ⊥)
          → MayBeWritten roster rings n.family q k e f
      on_place q k e f there was (inr other) = S.loose q k e f there (sym (w.loose_is.elsewhere q k other) ∙ was)
      on_place q k e f there was (inl here) =
          let loose_here : after.loose w.asked.p w.asked.i ≡ Some f
          = ap (λ (x : PlatformCode). after.loose x w.asked.i) (sym here.0) ∙ ap (after.loose q) (sym here.1) ∙ was in
          let diary_there : diary_of n.family w.asked.p w.asked.i ≡ Some e
          = ap (λ (x : PlatformCode). diary_of n.family x w.asked.i) (sym here.0)
          ∙ ap (diary_of n.family q) (sym here.1) ∙ there in
          let two = sym w.asked.has_diary ∙ diary_there in
          let same : w.asked.diary ≡ e = cc two in
          subst (λ (x : PlatformCode). MayBeWritten roster rings n.family x k e f) (sym here.0)
          (subst (λ (j : ℕ). MayBeWritten roster rings n.family w.asked.p j e f) (sym here.1)
          (subst (λ (d : List Frame). MayBeWritten roster rings n.family w.asked.p w.asked.i d f) same
          (may_be_written w.asked f (sym w.loose_is.here ∙ loose_here))))

  kept_steady : (after : Network) → IsKept n after → IsSteady roster rings after
  kept_steady after w =
      longer_steady roster rings n after S w.p w.i w.diary w.has_diary w.frame
      (S.loose w.p w.i w.diary w.frame w.has_diary w.was_loose)
      (record {
        family_is = w.family_is;
        loose = λ q k f was. on_place q k f was (here_or_not w.p w.i q k);
        caused = λ s among.
            subst (λ (f : List Member). HasCause f s) (sym w.family_is)
            (cause_later n.family (longer_family w.p w.i w.frame n.family)
            (longer_is_later w.p w.i w.frame n.family w.diary w.has_diary) s (S.caused s (w.sends s among)));
      })
    where
      on_place : (q : PlatformCode) (k : ℕ) (f : Frame) → after.loose q k ≡ Some f
          → IsHere w.p w.i q k ⊎ (IsHere w.p w.i q k → ⊥) → (IsHere w.p w.i q k → ⊥) × (n.loose q k ≡ Some f)
      on_place q k f was (inr other) = (other, sym (w.loose_is.elsewhere q k other) ∙ was)
      on_place q k f was (inl here) =
          let two = sym w.loose_is.here ∙ ap (λ (x : PlatformCode). after.loose x w.i) (sym here.0)
          ∙ ap (after.loose q) (sym here.1) ∙ was in
          cc two

  dropped_steady : (after : Network) → IsDropped n after → IsSteady roster rings after
  dropped_steady after w =
      same_steady roster rings n after S
      (record {
        family_is = w.family_is;
        loose = λ q k e f there was. on_place q k e f there was (here_or_not w.p w.i q k);
        caused = λ s among. S.caused s (w.sends s among);
      })
    where
      on_place : (q : PlatformCode) (k : ℕ) (e : List Frame) (f : Frame) → diary_of n.family q k ≡ Some e
          → after.loose q k ≡ Some f → IsHere w.p w.i q k ⊎ (IsHere w.p w.i q k → ⊥)
          → MayBeWritten roster rings n.family q k e f
      on_place q k e f there was (inr other) = S.loose q k e f there (sym (w.loose_is.elsewhere q k other) ∙ was)
      on_place q k e f there was (inl here) =
          let two = sym w.loose_is.here ∙ ap (λ (x : PlatformCode). after.loose x w.i) (sym here.0)
          ∙ ap (after.loose q) (sym here.1) ∙ was in
          cc two

  pub event_steady : (after : Network) → Happens roster rings n after → IsSteady roster rings after
  event_steady after (inl w) = whole_steady after w
  event_steady after (inr (inl w)) = failed_steady after w
  event_steady after (inr (inr (inl w))) = kept_steady after w
  event_steady after (inr (inr (inr w))) = dropped_steady after w

-- ---- names

-- where names are distinct after an event, they were before
pub distinct_before : (roster : RosterRecord) (rings : Rings) (n after : Network) → Happens roster rings n after
    → HasDistinctNames after.family → HasDistinctNames n.family
distinct_before roster rings n after (inl w) distinct =
    on_frame w.asked.step.frame (subst HasDistinctNames w.family_is distinct)
  where
    on_frame : (o : Option Frame) → HasDistinctNames (written w.asked.p w.asked.i o n.family) → HasDistinctNames n.family
    on_frame None names = names
    on_frame (Some frame) names = longer_distinct w.asked.p w.asked.i frame n.family names
distinct_before roster rings n after (inr (inl w)) distinct = subst HasDistinctNames w.family_is distinct
distinct_before roster rings n after (inr (inr (inl w))) distinct =
    longer_distinct w.p w.i w.frame n.family (subst HasDistinctNames w.family_is distinct)
distinct_before roster rings n after (inr (inr (inr w))) distinct = subst HasDistinctNames w.family_is distinct

-- ---- runs

pub run_steady : (roster : RosterRecord) (rings : Rings) → Grounds roster
    → are_distinct code_eq roster.platforms ≡ true → (n : Network) → Reaches roster rings n
    → HasDistinctNames n.family → IsSteady roster rings n
run_steady roster rings G apart n at_opening distinct = opening_steady roster rings apart
run_steady roster rings G apart n (after_event before after reached happens) distinct =
    let names = distinct_before roster rings before after happens distinct in
    event_steady roster rings before G (run_steady roster rings G apart before reached names) names after happens
