-- What a step owes: what its frame needs, and the causes of what it sends. Starts, documents and finishes that came.
use Rattle.std.proofs.Common.{◌≡◌, ◌⊎◌, inl, inr, ℕ, Bool, true, false, cond, List, [], ◌∷◌, Option, Some, None, refl, sym, subst, ◌∙◌}
use Rattle.std.specs.Prelude.{IfSome, find}
use Rattle.ebl_base.specs.declared.checksum.Checksum.{Checksum}
use Rattle.ebl_base.specs.declared.platform_code.PlatformCode.{PlatformCode}
use Rattle.ebl_base.specs.Reason.{code_for}
use Rattle.ebl_base.specs.declared.reason.Reason.{Reason}
use Rattle.ebl_base.specs.declared.reason.Reason.TheVariants as reasons
use Rattle.ebl_base.specs.declared.reference.Reference.{Reference}
use Rattle.ebl_base.specs.declared.signed_text.SignedText.{SignedText}
use Rattle.party_roster.specs.RosterRecord.{RosterRecord}
use Rattle.pint_responses.specs.Response.{IsAllowed}
use Rattle.pint_responses.specs.declared.response.Response.{Response}
use Rattle.platform_requests.specs.declared.message.Message.{Message}
use Rattle.platform_requests.specs.declared.message.Message.TheVariants.{Start}
use Rattle.platform_requests.specs.declared.reply.Reply.{Reply}
use Rattle.platform_requests.specs.declared.reply.Reply.TheVariants as replies
use Rattle.transport_document.specs.DocumentRecord.{bill_of}
use Rattle.bill_chain.specs.Chain.{IsChainOfBill}
use Rattle.bill_diary.specs.declared.record.Record.{Record}
use Rattle.bill_diary.specs.declared.record.Record.TheVariants as records
use Rattle.bill_diary.specs.declared.frame.Frame.{Frame}
use Rattle.bill_diary.specs.declared.frame.Frame.TheVariants.{One}
use Rattle.bill_diary.specs.History.{newest_first, history}
use Rattle.bill_diary.specs.Pieces.{are_there}
use Rattle.bill_diary.specs.Sound.{MayBegin, has_reference}
use Rattle.transfer_judge.specs.declared.judgement.Judgement.{Judgement}
use Rattle.transfer_judge.specs.declared.judgement.Judgement.TheVariants.{Elsewhere, Duplicate, Declined, Parts, Unknown, Missing, Accept}
use Rattle.platform_machine.specs.declared.step.Step.{Step}
use Rattle.platform_machine.specs.Answer.{document_response, refusal_response, subject_of}
use Rattle.platform_machine.specs.Hearing.{begins_object}
use Rattle.platform_machine.specs.Judged.{frame_for}
use Rattle.platform_machine.specs.Preface.{ShownRecord, Shows}
use Rattle.platform_machine.specs.Receiving.{BegunRecord, IsLastBegun, SaysAtStart, StepsAtFinish, StepsAtPut, StepsAtStart, frame_at_put, judgement_at_finish, judgement_at_start, news_of}
use Rattle.platform_machine.specs.Step.{Answers, OnlyReplies}
use Rattle.closed_family.specs.declared.family.Member.{Member}
use Rattle.closed_family.specs.Chains.{IsAmong}
use Rattle.closed_family.specs.Closed.{EveryEntryWasParted}
use Rattle.closed_family.specs.Family.{histories_of}
use Rattle.closed_family.proofs.Linked.{empty}
use Rattle.run_safety.specs.Network.{Network, sent_start, sent_reply}
use Rattle.run_safety.specs.Steady.{FrameIsMet, HasCause, IsPartedText, IsReceipt, Rings}
use Rattle.run_safety.specs.Honest.{IsHonestBody, WasSentAsStart, WasSentInChain}
use Rattle.run_safety.specs.Sending.{IsReplyText}
use Rattle.run_safety.proofs.Allowed.{not_listed_allowed, other_bytes_allowed, refusal_allowed}
use Rattle.run_safety.proofs.Bodies.{all_parted, honest_parted}
use Rattle.run_safety.proofs.Judged.{Becomes, IsAtShard, IsBegunOf, IsSure, here_stands, is_news, judged_is_met, one_is_met}
use Rattle.run_safety.proofs.Links.{follows_among}
use Rattle.run_safety.proofs.Needs.{met_among}
use Rattle.run_safety.proofs.Readings.{signed_is_no_object}
use Rattle.run_safety.proofs.Sound.{steady_history}
use Rattle.run_safety.proofs.Truth.{judged_caused, passing_caused}

-- what a step of a shard owes
pub record Owes (n : Network) (p : PlatformCode) (step : Step) : Type 0 where
  pub met : IfSome step.frame (FrameIsMet n.family p)
  pub starts : (after : List Member) → Becomes n p step.frame after → (to : PlatformCode) (bill : Checksum)
      (body : List ℕ) → IsAmong (Start to bill body) step.messages → HasCause after (sent_start p body)
  pub replies : (after : List Member) → Becomes n p step.frame after → (bytes : List ℕ) → IsReplyText step.reply bytes
      → HasCause after (sent_reply p bytes)

-- ---- nothing to say

pub met_by : (n : Network) (p : PlatformCode) (frame given : Option Frame) → frame ≡ given
    → IfSome given (FrameIsMet n.family p) → IfSome frame (FrameIsMet n.family p)
met_by n p frame given is met = subst (λ (o : Option Frame). IfSome o (FrameIsMet n.family p)) (sym is) met

pub starts_none : (ms : List Message) → ms ≡ [] → (to : PlatformCode) (bill : Checksum) (body : List ℕ)
    → IsAmong (Start to bill body) ms → ⊥
starts_none ms none to bill body among = subst (IsAmong (Start to bill body)) none among

-- a JSON object is no response under any keys
pub object_caused : (family : List Member) (p : PlatformCode) (bytes : List ℕ) → begins_object bytes ≡ true
    → HasCause family (sent_reply p bytes)
object_caused family p bytes object = λ keys who r sealed.
    absurd (let two = sym object ∙ signed_is_no_object keys 65536 bytes who sealed.payload sealed.signed in cc two)

-- a reply without a text
abbrev pub HasNoText : Reply → Type 0
HasNoText reply = (bytes : List ℕ) → IsReplyText reply bytes → ⊥

pub no_text : (reply given : Reply) → reply ≡ given → HasNoText given → HasNoText reply
no_text reply given is none bytes text = none bytes (subst (λ (r : Reply). IsReplyText r bytes) is text)

pub owes_only : (n : Network) (p : PlatformCode) (step : Step) (reply : Reply) → OnlyReplies reply step
    → HasNoText reply → Owes n p step
owes_only n p step reply only none = record {
  met = met_by n p step.frame None only.nothing_written tt;
  starts = λ after becomes to bill body among. absurd (starts_none step.messages only.nothing_sent to bill body among);
  replies = λ after becomes bytes text. absurd (no_text step.reply reply only.reply_is none bytes text);
}

-- ---- what was found

pub find_among : (test : Record → Bool) (rs : List Record) (r : Record) → find test rs ≡ Some r → IsAmong r rs
find_among test [] r is = cc is
find_among test (x ∷ rs) r is = on_test (test x) is (find_among test rs r)
  where
    on_test : (b : Bool) → cond b (Some x) (find test rs) ≡ Some r → (find test rs ≡ Some r → IsAmong r rs)
        → IsAmong r (x ∷ rs)
    on_test true found further = inl (cc found)
    on_test false found further = inr (further found)

module _ (roster : RosterRecord) (rings : Rings) (n : Network) (p : PlatformCode) (i : ℕ) (d : List Frame)
    (at : IsAtShard roster rings n p i d) where
  -- each entry of a Begun's chain was parted
  pub found_sure : (reference : Reference) (b : BegunRecord) → IsLastBegun reference d b → IsSure n b.chain b.manifest
  found_sure reference b found =
      let r : Record = records.Begun b.bill b.chain b.manifest b.body in
      let stands = here_stands roster rings n p i d at r
      (find_among (has_reference reference) (newest_first d) r found) in
      let (older, follows) = follows_among p (histories_of b.bill n.family p) r
      (steady_history roster rings n at.steady b.bill p) stands in
      let may : MayBegin p older older b.bill b.chain b.manifest b.body = follows in
      let (before, need) = met_among (histories_of b.bill n.family) (histories_of b.bill n.family p) r
      (at.steady.met b.bill p) stands in
      let parted : EveryEntryWasParted (histories_of b.bill n.family) b.chain = need in
      record {
        end = may.receives.last;
        end_is = may.receives.last_is;
        good = subst (λ (x : Checksum). IsChainOfBill x b.chain) (sym may.names_bill) may.good;
        form = may.manifest_form;
        names_last = may.names_last;
        parted = subst (λ (x : Checksum). EveryEntryWasParted (histories_of x n.family) b.chain) (sym may.names_bill)
            parted;
      }

  -- so was each of a body's chain that was sent, or is honest
  pub shown_sure : (body : List ℕ) (s : ShownRecord) → Shows roster (rings p i) body s
      → WasSentAsStart n.sent body ⊎ IsHonestBody roster rings n.sent body → IsSure n s.chain s.manifest
  shown_sure body s shows comes =
      let e = shows.shows.envelops in
      let bills = e.manifests.names.0 in
      record {
        end = e.end;
        end_is = e.end_is;
        good = subst (λ (x : Checksum). IsChainOfBill x s.chain) (sym bills) e.good.entries;
        form = e.manifests.form;
        names_last = e.manifests.names.1;
        parted = subst (λ (x : Checksum). EveryEntryWasParted (histories_of x n.family) s.chain) (sym bills)
            (on_comes comes);
      }
    where
      was_parted : (text : SignedText) → WasSentInChain n.sent text → IsPartedText n.family text
      was_parted text w = at.steady.caused (sent_start w.from w.body) w.among w.parts w.reads text w.has

      on_comes : WasSentAsStart n.sent body ⊎ IsHonestBody roster rings n.sent body
          → EveryEntryWasParted (histories_of (bill_of s.document) n.family) s.chain
      on_comes (inl (from, among)) =
          all_parted roster rings n at.steady (rings p i) (bill_of s.document) s.parts.chain [] s.chain
          shows.shows.envelops.good.links shows.shows.envelops.good.entries
          (λ text has. at.steady.caused (sent_start from body) among s.parts shows.reads text has)
      on_comes (inr honest) =
          honest_parted roster rings n at.steady at.grounds at.distinct (rings p i) s.document (bill_of s.document)
          s.parts.chain [] s.chain empty tt shows.shows.envelops.good.links shows.shows.envelops.good.entries
          shows.shows.envelops.good.carrier
          (λ text has who value signed listed.
          was_parted text (honest s.parts shows.reads text has
          (record { who = who; listed = listed; p = p; i = i; value = value; signed = signed })))

  -- ---- a start

  start_caused : (s : ShownRecord) (sure : IsSure n s.chain s.manifest) (step : Step) → (J : Judgement)
      → judgement_at_start roster p d s ≡ J → step.frame ≡ frame_for (news_of d s) (subject_of s.manifest) J
      → SaysAtStart (rings p i) p (subject_of s.manifest) J step.reply
      → (after : List Member) → Becomes n p step.frame after → (bytes : List ℕ) → IsReplyText step.reply bytes
      → HasCause after (sent_reply p bytes)
  start_caused s sure step (Missing checksums) is written says after becomes bytes text =
      object_caused after p bytes (subst (λ (r : Reply). IsReplyText r bytes) says text)
  start_caused s sure step Elsewhere is written says after becomes bytes text =
      judged_caused roster rings n p i d at s.chain s.manifest sure step.frame after becomes (news_of d s) (is_news d s)
      Elsewhere is written step.reply says bytes text
  start_caused s sure step Duplicate is written says after becomes bytes text =
      judged_caused roster rings n p i d at s.chain s.manifest sure step.frame after becomes (news_of d s) (is_news d s)
      Duplicate is written step.reply says bytes text
  start_caused s sure step (Declined code reason evidence) is written says after becomes bytes text =
      judged_caused roster rings n p i d at s.chain s.manifest sure step.frame after becomes (news_of d s) (is_news d s)
      (Declined code reason evidence) is written step.reply says bytes text
  start_caused s sure step (Parts evidence) is written says after becomes bytes text =
      judged_caused roster rings n p i d at s.chain s.manifest sure step.frame after becomes (news_of d s) (is_news d s)
      (Parts evidence) is written step.reply says bytes text
  start_caused s sure step Unknown is written says after becomes bytes text =
      judged_caused roster rings n p i d at s.chain s.manifest sure step.frame after becomes (news_of d s) (is_news d s)
      Unknown is written step.reply says bytes text
  start_caused s sure step Accept is written says after becomes bytes text =
      judged_caused roster rings n p i d at s.chain s.manifest sure step.frame after becomes (news_of d s) (is_news d s)
      Accept is written step.reply says bytes text

  -- an answer that says nothing of an entry, and writes nothing
  passing_owes : (response : Response) (step : Step) → IsAllowed response → Answers (rings p i) p None response step
      → (IsReceipt response.code → ⊥) → response.standing ≡ false → Owes n p step
  passing_owes response step allowed answers no_receipt passes = record {
    met = met_by n p step.frame None answers.frame_is tt;
    starts = λ after becomes to bill body among.
        absurd (starts_none step.messages answers.nothing_sent to bill body among);
    replies = λ after becomes bytes text.
        passing_caused roster rings n p i d at after response step.reply allowed answers.says no_receipt passes bytes
        text;
  }

  refusal_no_receipt : (reason : Reason) → IsReceipt (code_for reason) → ⊥
  refusal_no_receipt reason receipt = by_reason reason receipt
    where
      by_reason : (x : Reason) → IsReceipt (code_for x) → ⊥
      by_reason reasons.Body is = is
      by_reason reasons.Document is = is
      by_reason reasons.Length is = is
      by_reason (reasons.Signature k) is = is
      by_reason (reasons.Entry k) is = is
      by_reason (reasons.Signer k) is = is
      by_reason (reasons.Link k) is = is
      by_reason (reasons.Bill k) is = is
      by_reason reasons.Carrier is = is
      by_reason (reasons.Platform k) is = is
      by_reason (reasons.Fold k) is = is
      by_reason (reasons.Move k) is = is
      by_reason reasons.ManifestSignature is = is
      by_reason reasons.ManifestForm is = is
      by_reason reasons.ManifestNames is = is
      by_reason reasons.Destination is = is
      by_reason reasons.Party is = is
      by_reason reasons.Parts is = is
      by_reason reasons.NotListed is = is
      by_reason reasons.Bytes is = is

  pub start_owes : (body : List ℕ) (step : Step)
      → WasSentAsStart n.sent body ⊎ IsHonestBody roster rings n.sent body
      → StepsAtStart roster (rings p i) p d body step → Owes n p step
  start_owes body step comes (inl (refusal, refused, answers)) =
      passing_owes (refusal_response refusal) step (refusal_allowed roster (rings p i) body refusal refused) answers
      (refusal_no_receipt refusal.reason) refl
  start_owes body step comes (inr (s, shows, judged)) =
      let sure = shown_sure body s shows comes in
      let J = judgement_at_start roster p d s in
      record {
        met = met_by n p step.frame (frame_for (news_of d s) (subject_of s.manifest) J) judged.frame_is
            (judged_is_met roster rings n p i d at s.chain s.manifest sure (news_of d s) (is_news d s) J refl);
        starts = λ after becomes to bill b among.
            absurd (starts_none step.messages judged.nothing_sent to bill b among);
        replies = λ after becomes bytes text.
            start_caused s sure step J refl judged.frame_is judged.says after becomes bytes text;
      }

  -- ---- a finish

  pub finish_owes : (reference : Reference) (step : Step) → StepsAtFinish roster (rings p i) p d reference step
      → Owes n p step
  finish_owes reference step (inl (unknown, only)) = owes_only n p step replies.UnknownReference only (λ bytes text. text)
  finish_owes reference step (inr (b, found, answers)) =
      let sure = found_sure reference b found in
      let J = judgement_at_finish roster p d b in
      record {
        met = met_by n p step.frame (frame_for None (subject_of b.manifest) J) answers.frame_is
            (judged_is_met roster rings n p i d at b.chain b.manifest sure None tt J refl);
        starts = λ after becomes to bill body among.
            absurd (starts_none step.messages answers.nothing_sent to bill body among);
        replies = λ after becomes bytes text.
            judged_caused roster rings n p i d at b.chain b.manifest sure step.frame after becomes None tt J refl
            answers.frame_is step.reply answers.says bytes text;
      }

  -- ---- a document

  stored_met : (b : BegunRecord) (checksum : Checksum) (bytes : List ℕ)
      → IfSome (frame_at_put d b checksum bytes) (FrameIsMet n.family p)
  stored_met b checksum bytes = on_test (are_there (history b.bill d) bytes)
    where
      on_test : (there : Bool)
          → IfSome (cond there None (Some (One (records.Stored b.bill b.manifest.last checksum bytes)))) (FrameIsMet n.family p)
      on_test true = tt
      on_test false = one_is_met roster rings n p i d at (records.Stored b.bill b.manifest.last checksum bytes) tt

  pub put_owes : (reference : Reference) (checksum : Checksum) (bytes : List ℕ) (step : Step)
      → StepsAtPut (rings p i) p d reference checksum bytes step → Owes n p step
  put_owes reference checksum bytes step (inl (unknown, only)) =
      owes_only n p step replies.UnknownReference only (λ b text. text)
  put_owes reference checksum bytes step (inr (b, found, inl (not_listed, answers))) =
      passing_owes (document_response (subject_of b.manifest) reasons.NotListed) step
      (not_listed_allowed b.manifest (found_sure reference b found).form) answers (λ no_way. no_way) refl
  put_owes reference checksum bytes step (inr (b, found, inr (piece, listed, inl (misfit, answers)))) =
      passing_owes (document_response (subject_of b.manifest) reasons.Bytes) step
      (other_bytes_allowed b.manifest (found_sure reference b found).form) answers (λ no_way. no_way) refl
  put_owes reference checksum bytes step (inr (b, found, inr (piece, listed, inr (fits, stored)))) = record {
    met = met_by n p step.frame (frame_at_put d b checksum bytes) stored.frame_is (stored_met b checksum bytes);
    starts = λ after becomes to bill body among. absurd (starts_none step.messages stored.nothing_sent to bill body among);
    replies = λ after becomes body text. absurd (no_text step.reply replies.Stored stored.reply_is (λ x t. t) body text);
  }
