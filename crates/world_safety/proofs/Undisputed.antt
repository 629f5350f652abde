-- No event is answered with a dispute.
use Rattle.std.proofs.Common.{◌≡◌, ◌⊎◌, inl, inr, true, List, ◌++◌, Option, Some, None, refl, sym, ap, subst, ◌∙◌}
use Rattle.std.specs.Prelude.{◌≢◌, map}
use Rattle.std.specs.Option.{option_or}
use Rattle.ebl_base.specs.PlatformCode.{code_eq}
use Rattle.ebl_base.specs.declared.checksum.Checksum.{Checksum}
use Rattle.ebl_base.specs.declared.code.Code.TheVariants.{DisputedEnvelope}
use Rattle.ebl_base.specs.declared.moment.Moment.{Moment}
use Rattle.ebl_base.specs.declared.party.Party.{Party}
use Rattle.ebl_base.specs.declared.platform_code.PlatformCode.{PlatformCode}
use Rattle.ebl_base.specs.declared.signed_text.SignedText.{SignedText}
use Rattle.party_roster.specs.Distinct.{are_distinct}
use Rattle.party_roster.specs.RosterRecord.{RosterRecord}
use Rattle.pint_responses.specs.declared.response.Response.{Response}
use Rattle.holder_commands.specs.Command as commands
use Rattle.platform_requests.specs.Request.{RequestRecord}
use Rattle.platform_requests.specs.Request as requests
use Rattle.platform_requests.specs.Shard.{shard_of}
use Rattle.platform_requests.specs.declared.outcome.Outcome.{Outcome}
use Rattle.platform_requests.specs.declared.reply.Reply.{Reply}
use Rattle.platform_requests.specs.declared.reply.Reply.TheVariants as replies
use Rattle.platform_machine.specs.Complete.{is_failure}
use Rattle.platform_machine.specs.Machine.{MayBeAsked}
use Rattle.journaled_shard.specs.Shard.{refusal_of}
use Rattle.closed_family.specs.Family.{HasDistinctNames}
use Rattle.world_script.specs.Event.{DeedRecord, EventRecord, ForeignRecord}
use Rattle.world_script.specs.Event as events
use Rattle.answer_lines.specs.declared.answer.Answer.{Answer}
use Rattle.answer_lines.specs.declared.answer.Answer.TheVariants.{NoBill, NoMessage, Replied, Shown}
use Rattle.answer_lines.specs.declared.parcel.Parcel.{Parcel}
use Rattle.platform_world.specs.declared.fate.Fate.{Fate}
use Rattle.platform_world.specs.declared.fate.FateEnd.{FateEnd}
use Rattle.platform_world.specs.declared.fate.FateEnd.TheVariants.{Whole, SignFault, Failed, Stuck, Short}
use Rattle.platform_world.specs.World.{PlatformState, ShardState, WorldRecord, family_of, member_of, shard_at, with_shard}
use Rattle.world_events.specs.Happening.{Asking, Happening, answers, asked, asks, at_command, at_delivery, at_foreign, at_show, bill_named, comes_to, delivered_to, numbered, on_bill, starts_again}
use Rattle.platform_world.specs.Shard.{EndsAs, IsAskedOnceRead, IsTakenWhole, IsUnread, TakesAs}
use Rattle.world_events.specs.Parcels.{parcels_of}
use Rattle.platform_world.specs.Step.{Happens, IsStep, start_answer}
use Rattle.run_safety.specs.Honest.{Comes}
use Rattle.run_safety.specs.Network as networks
use Rattle.run_safety.specs.Network.{Network}
use Rattle.run_safety.specs.Run.{Asked, Reaches}
use Rattle.run_safety.specs.Steady.{Rings}
use Rattle.run_safety.proofs.Runs.{distinct_before}
use Rattle.world_safety.specs.Safety.{IsHonestEvent}
use Rattle.world_safety.specs.Worlds.{network_of, sent_by}
use Rattle.world_safety.proofs.Comes.{event_comes}
use Rattle.world_safety.proofs.Puts.{at_put, put_twice}
use Rattle.world_safety.proofs.Runs.{Holds, found_whole, is_reached, network_with, resolve_holds, whole_asked, whole_happens, world_with}

-- where a reply is a signed answer, its code isn't that of a dispute
abbrev pub IsUndisputed : Reply → Type 0
IsUndisputed reply =
    (response : Response) (text : SignedText) → reply ≡ replies.Answer response text → response.code ≢ DisputedEnvelope

-- no step of platforms that are reached is answered with a dispute
abbrev pub AreUndisputed : RosterRecord → Rings → Type 0
AreUndisputed roster rings =
    (n : Network) → Reaches roster rings n → HasDistinctNames n.family → (asked : Asked roster rings n)
    → IsUndisputed asked.step.reply

-- ---- what is answered without a platform

-- it is no reply
abbrev IsNoReply : Answer → Type 0
IsNoReply said = (reply : Reply) → said ≡ Replied reply → ⊥

no_bill : (said : Answer) → answers NoBill ≡ answers said → IsNoReply said
no_bill said is = λ reply same. let one : NoBill ≡ said = cc is in let two = one ∙ same in cc two

no_message : (said : Answer) → answers NoMessage ≡ answers said → IsNoReply said
no_message said is = λ reply same. let one : NoMessage ≡ said = cc is in let two = one ∙ same in cc two

shown : (parcel : Parcel) (said : Answer) → answers (Shown parcel) ≡ answers said → IsNoReply said
shown parcel said is = λ reply same. let one : Shown parcel ≡ said = cc is in let two = one ∙ same in cc two

on_no_bill : (o : Option Checksum) (f : Checksum → Happening) (said : Answer)
    → ((name : Checksum) → f name ≡ answers said → ⊥) → on_bill o f ≡ answers said → IsNoReply said
on_no_bill None f said never is = no_bill said is
on_no_bill (Some name) f said never is = absurd (never name is)

on_no_parcel : (at : Option PlatformCode) (o : Option Parcel) (said : Answer) → at_delivery at o ≡ answers said
    → IsNoReply said
on_no_parcel at None said is = no_message said is
on_no_parcel at (Some parcel) said is = on_place (option_or at parcel.to) is
  where
    on_place : (to : Option PlatformCode) → delivered_to to parcel ≡ answers said → IsNoReply said
    on_place None no_place = no_message said no_place
    on_place (Some q) goes = λ reply same. cc goes

on_show : (o : Option Parcel) (said : Answer) → at_show o ≡ answers said → IsNoReply said
on_show None said is = no_message said is
on_show (Some parcel) said is = shown parcel said is

on_asked : (at : PlatformCode) (now : Option Moment) (request : RequestRecord) (said : Answer)
    → asked at now request ≡ answers said → ⊥
on_asked at now request said is = cc is

on_command : (signed : List Checksum) (at : PlatformCode) (party : Party) (now : Moment) (deed : DeedRecord)
    (said : Answer) → at_command signed at party now deed ≡ answers said → IsNoReply said
on_command signed at party now (events.signs document) said is =
    absurd (on_asked at (Some now) (requests.commands party (commands.signs document)) said is)
on_command signed at party now (events.acts bill kind recipient) said is =
    on_no_bill (bill_named signed bill)
    (λ name. asked at (Some now) (requests.commands party (commands.acts name kind recipient))) said
    (λ name. on_asked at (Some now) (requests.commands party (commands.acts name kind recipient)) said) is
on_command signed at party now (events.attaches bill name media bytes) said is =
    on_no_bill (bill_named signed bill)
    (λ checksum. asked at (Some now) (requests.commands party (commands.attaches checksum name media bytes))) said
    (λ checksum. on_asked at (Some now) (requests.commands party (commands.attaches checksum name media bytes)) said) is

on_foreign : (signed : List Checksum) (at : PlatformCode) (bytes : ForeignRecord) (said : Answer)
    → at_foreign signed at bytes ≡ answers said → IsNoReply said
on_foreign signed at (events.starts body) said is = absurd (on_asked at None (requests.starts body) said is)
on_foreign signed at (events.puts reference checksum bytes) said is =
    absurd (on_asked at None (requests.puts reference checksum bytes) said is)
on_foreign signed at (events.finishes reference) said is =
    absurd (on_asked at None (requests.finishes reference) said is)
on_foreign signed at (events.start_replies bill text) said is =
    on_no_bill (bill_named signed bill) (λ name. asked at None (requests.start_replies name text)) said
    (λ name. on_asked at None (requests.start_replies name text) said) is
on_foreign signed at (events.finish_replies bill text) said is =
    on_no_bill (bill_named signed bill) (λ name. asked at None (requests.finish_replies name text)) said
    (λ name. on_asked at None (requests.finish_replies name text) said) is

at_once : (signed : List Checksum) (sent : List Parcel) (event : EventRecord) (said : Answer)
    → comes_to signed sent event ≡ answers said → IsNoReply said
at_once signed sent (events.commands at party now deed) said is = on_command signed at party now deed said is
at_once signed sent (events.delivers number at) said is = on_no_parcel at (numbered number sent) said is
at_once signed sent (events.restarts at) said is = λ reply same. cc is
at_once signed sent (events.resends at bill) said is =
    on_no_bill (bill_named signed bill) (λ name. asked at None (requests.resends name)) said
    (λ name. on_asked at None (requests.resends name) said) is
at_once signed sent (events.asks at bill) said is =
    on_no_bill (bill_named signed bill) (λ name. asked at None (requests.asks name)) said
    (λ name. on_asked at None (requests.asks name) said) is
at_once signed sent (events.receives at bytes) said is = on_foreign signed at bytes said is
at_once signed sent (events.shows number) said is = on_show (numbered number sent) said is

-- a platform's start is answered with no signed answer
started : (end : FateEnd) (response : Response) (text : SignedText)
    → start_answer end ≡ Replied (replies.Answer response text) → ⊥
started Whole response text is = cc is
started SignFault response text is = cc is
started Failed response text is = cc is
started (Stuck i) response text is = cc is
started Short response text is = cc is

-- ---- what a platform replies

-- a failure is no signed answer
no_failure : (response : Response) (text : SignedText) → is_failure (replies.Answer response text) ≡ true → ⊥
no_failure response text is = cc is

refused : (out : Outcome) (reply : Reply) → is_failure reply ≡ true → out ≡ refusal_of reply → IsUndisputed out.reply
refused out reply fails is = λ response text same.
    absurd (no_failure response text (ap is_failure (sym same ∙ ap (λ (o : Outcome). o.reply) is) ∙ fails))

module _ (roster : RosterRecord) (rings : Rings) (apart : are_distinct code_eq roster.platforms ≡ true)
    (law : AreUndisputed roster rings) where
  -- of a shard that isn't loose
  module _ (w : WorldRecord) (H : Holds roster rings (networks.opening roster) w) (a : Asking)
      (shard later : ShardState) (now : Moment) (out : Outcome)
      (is_there : shard_at a.at (shard_of a.request) w.platforms ≡ Some shard) (not_loose : shard.loose ≡ None)
      (may : MayBeAsked shard.diary now a.request) (comes : Comes roster rings (sent_by w) a.request)
      (distinct : HasDistinctNames (map member_of (with_shard a.at (shard_of a.request) later w.platforms))) where
    whole : IsTakenWhole w.roster a.at shard now a.request out later → IsUndisputed out.reply
    whole t =
        law (network_of w) (is_reached roster rings w H)
        (distinct_before roster rings (network_of w)
        (network_with (with_shard a.at (shard_of a.request) later w.platforms) (w.sent ++ parcels_of a out.reply out.messages))
        (whole_happens roster rings (networks.opening roster) apart w H a shard later now out is_there not_loose may comes t)
        distinct)
        (whole_asked roster rings (networks.opening roster) apart w H a shard later now out is_there not_loose may comes t)

    ended : (end : FateEnd) → EndsAs w.roster a.at shard now a.request end out later → IsUndisputed out.reply
    ended Whole (inl t) = whole t
    ended Whole (inr full) = refused out replies.Full refl full.out_is
    ended SignFault (is, same) = refused out replies.Sign refl is
    ended Failed t = refused out replies.Disk refl t.out_is
    ended (Stuck i) no_way = absurd no_way
    ended Short (is, same) = refused out replies.NoMemory refl is

  -- of any shard
  unread : (a : Asking) (fate : Fate) (out : Outcome) (shard later : ShardState)
      → IsUnread (shard_of a.request) shard fate out later → IsUndisputed out.reply
  unread a fate out shard later t = on_cause t.cause
    where
      on_cause : ((fate.end ≡ Stuck (shard_of a.request)) × (t.reply ≡ replies.Disk))
          ⊎ ((fate.end ≡ Short) × (t.reply ≡ replies.NoMemory)) → IsUndisputed out.reply
      on_cause (inl (end, disk)) = refused out t.reply (ap is_failure disk) t.refused.0
      on_cause (inr (end, memory)) = refused out t.reply (ap is_failure memory) t.refused.0

  once_read : (w : WorldRecord) → Holds roster rings (networks.opening roster) w → (a : Asking) (fate : Fate) (out : Outcome)
      (now : Moment) (shard later : ShardState) → shard_at a.at (shard_of a.request) w.platforms ≡ Some shard
      → Comes roster rings (sent_by w) a.request
      → HasDistinctNames (map member_of (with_shard a.at (shard_of a.request) later w.platforms))
      → IsAskedOnceRead w.roster a.at (shard_of a.request) shard now a.request fate out later
      → IsUndisputed out.reply
  once_read w H a fate out now shard later is_there comes distinct t =
      let found_there : shard_at a.at (shard_of a.request)
      (with_shard a.at (shard_of a.request) t.found w.platforms) ≡ Some t.found =
      at_put a.at (shard_of a.request) shard t.found w.platforms is_there in
      let first = resolve_holds roster rings (networks.opening roster) apart w H a.at (shard_of a.request) shard t.found
      is_there t.kept t.resolved in
      ended (world_with w (with_shard a.at (shard_of a.request) t.found w.platforms) w.sent w.signed) first a t.found later
      now out found_there (found_whole shard t.found t.kept t.resolved) t.may comes
      (subst (λ (ps : List PlatformState). HasDistinctNames (map member_of ps))
      (sym (put_twice a.at (shard_of a.request) t.found later w.platforms)) distinct)
      fate.end t.ends

  -- ---- an event

  -- none of a run is answered with a dispute, where names are distinct after it
  pub event_undisputed : (w : WorldRecord) → Holds roster rings (networks.opening roster) w → (event : EventRecord)
      (fate : Fate) (answer : Answer) (after : WorldRecord) → IsStep w event fate answer after → IsHonestEvent w event
      → HasDistinctNames (family_of after) → (response : Response) (text : SignedText)
      → answer ≡ Replied (replies.Answer response text) → response.code ≢ DisputedEnvelope
  event_undisputed w H event fate answer after step honest distinct response text says =
      on_happening (comes_to w.signed w.sent event) refl step
    where
      on_happening : (h : Happening) → comes_to w.signed w.sent event ≡ h → Happens w h fate answer after
          → response.code ≢ DisputedEnvelope
      on_happening (answers said) is (whole, said_so, same) =
          absurd (at_once w.signed w.sent event said is (replies.Answer response text) (sym said_so ∙ says))
      on_happening (asks a) is t =
          let two = sym t.answer_is ∙ says in
          let replied : t.out.reply ≡ replies.Answer response text = cc two in
          on_shard (event_comes roster rings w H.roster_is H.keys_are event honest a is)
          (subst (λ (x : WorldRecord). HasDistinctNames (family_of x)) t.after_is distinct) t.takes response text replied
        where
          on_shard : Comes roster rings (sent_by w) a.request
              → HasDistinctNames (map member_of (with_shard a.at (shard_of a.request) t.later w.platforms))
              → TakesAs w.roster a.at (shard_of a.request) t.shard t.now a.request fate t.out t.later
              → IsUndisputed t.out.reply
          on_shard comes names (inl left) = unread a fate t.out t.shard t.later left
          on_shard comes names (inr read) = once_read w H a fate t.out t.now t.shard t.later t.is_asked comes names read
      on_happening (starts_again at) is t = absurd (started fate.end response text (sym t.answer_is ∙ says))
