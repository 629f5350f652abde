-- A run of a script is a run of its platforms.
use Rattle.std.proofs.Common.{◌≡◌, ◌⊎◌, inl, inr, ℕ, zero, suc, ◌+◌, ◌*◌, ◌≤◌, Bool, true, false, List, [], ◌∷◌, ◌++◌, length, Option, Some, None, refl, sym, ap, subst, ◌∙◌}
use Rattle.std.specs.Prelude.{MatchBool, map, nat_le, option_and_then, option_map, unwrap_or}
use Rattle.std.specs.List.{flat_map}
use Rattle.std.specs.Option.{option_or, option_to_list}
use Rattle.std.proofs.lemmas.List.{append-nil}
use Rattle.ebl_base.specs.PlatformCode.{code_eq}
use Rattle.ebl_base.specs.declared.checksum.Checksum.{Checksum}
use Rattle.ebl_base.specs.declared.moment.Moment.{Moment}
use Rattle.ebl_base.specs.declared.platform_code.PlatformCode.{PlatformCode}
use Rattle.signed_envelope.specs.KeyRing.{Keys}
use Rattle.party_roster.specs.Distinct.{are_distinct}
use Rattle.party_roster.specs.RosterRecord.{RosterRecord}
use Rattle.bill_diary.specs.declared.frame.Frame.{Frame}
use Rattle.platform_requests.specs.Shard.{shard_of}
use Rattle.platform_requests.specs.declared.outcome.Outcome.{Outcome}
use Rattle.platform_requests.specs.declared.reply.Reply.{Reply}
use Rattle.platform_requests.specs.declared.reply.Reply.TheVariants as replies
use Rattle.platform_machine.specs.declared.step.Step.{Step}
use Rattle.platform_machine.specs.Complete.{is_failure}
use Rattle.platform_machine.specs.Machine.{MayBeAsked, Steps}
use Rattle.platform_machine.specs.Step.{with_frame}
use Rattle.journaled_shard.specs.Shard.{refusal_of}
use Rattle.closed_family.specs.Chains.{IsAmong}
use Rattle.world_script.specs.Event.{EventRecord}
use Rattle.answer_lines.specs.declared.answer.Answer.{Answer}
use Rattle.answer_lines.specs.declared.parcel.Content.{Content}
use Rattle.answer_lines.specs.declared.parcel.Parcel.{Parcel}
use Rattle.platform_world.specs.declared.fate.Fate.{Fate}
use Rattle.platform_world.specs.declared.fate.FateEnd.{FateEnd}
use Rattle.platform_world.specs.declared.fate.FateEnd.TheVariants.{Whole, SignFault, Failed, Stuck, Short}
use Rattle.world_events.specs.declared.parcels.ReplyKind.{ReplyKind}
use Rattle.world_events.specs.declared.parcels.ReplyKind.TheVariants as kinds
use Rattle.platform_world.specs.World.{PlatformState, ShardState, WorldRecord, family_of, loose_frame, member_of, opening, platforms_of, shard_at, with_shard}
use Rattle.world_events.specs.Happening.{Asking, Happening, answers, asks, comes_to, starts_again}
use Rattle.platform_world.specs.Shard.{EndsAs, IsAskedOnceRead, IsNotWritten, IsResolved, IsTakenWhole, IsUnread, TakesAs, loosened}
use Rattle.platform_world.specs.Start.{AreLoosened, AreReadAgain, IsLoosenedAt}
use Rattle.world_events.specs.Parcels.{kind_of, parcels_of, reply_bill, reply_content, reply_parcel, request_bill}
use Rattle.platform_world.specs.Step.{Happens, IsStep, bills_signed, world_after}
use Rattle.platform_world.specs.Run.{Ends, Happened, IsAnsweredIn, OnEvent, Run, Runs, bad_line}
use Rattle.world_events.specs.Script.{event_in}
use Rattle.run_safety.specs.Honest.{Comes}
use Rattle.run_safety.specs.Network as networks
use Rattle.run_safety.specs.Network.{Network, diary_of, written}
use Rattle.run_safety.specs.Steady.{Rings}
use Rattle.run_safety.specs.Run as runs
use Rattle.run_safety.specs.Run.{LeadsTo, LooseIs, Reaches, at_once, at_opening}
use Rattle.run_safety.proofs.Moments.{leads_reached}
use Rattle.world_safety.specs.Safety.{AreHonest, IsHonestEvent}
use Rattle.world_safety.specs.Worlds.{loose_in, network_of, no_keys, rings_of, sent_by, sent_of}
use Rattle.world_safety.proofs.Comes.{event_comes}
use Rattle.world_safety.proofs.Opening.{opened_names, opened_network}
use Rattle.world_safety.proofs.Puts.{at_put, elsewhere, put_same, put_twice, same_members}
use Rattle.world_safety.proofs.Sent.{parcels_sent}
use Rattle.world_safety.proofs.Worlds.{diary_at, family_after, platforms_stay, shards_stay, with_diary}

-- what holds of each world of a run that comes after a moment: it is led to from there, and roster, platforms and keys
-- stay
pub record Holds (roster : RosterRecord) (rings : Rings) (start : Network) (w : WorldRecord) : Type 0 where
  pub roster_is : w.roster ≡ roster
  pub platforms_are : platforms_of w ≡ roster.platforms
  pub keys_are : (p : PlatformCode) (i : ℕ) → rings_of w p i ≡ rings p i
  pub led : LeadsTo roster rings start (network_of w)

-- the moment of a world comes after itself
pub from_here : (roster : RosterRecord) (rings : Rings) (start : Network) (w : WorldRecord)
    → Holds roster rings start w → Holds roster rings (network_of w) w
from_here roster rings start w H =
    record { roster_is = H.roster_is; platforms_are = H.platforms_are; keys_are = H.keys_are; led = at_once }

-- a world that comes after the opening is reached
pub is_reached : (roster : RosterRecord) (rings : Rings) (w : WorldRecord)
    → Holds roster rings (networks.opening roster) w → Reaches roster rings (network_of w)
is_reached roster rings w H =
    leads_reached roster rings (networks.opening roster) (network_of w) at_opening H.led

-- ---- the opening

pub opening_holds : (roster : RosterRecord) (rings : List Keys) → 16 * length roster.platforms ≤ length rings
    → Holds roster (rings_of (opening roster rings)) (networks.opening roster) (opening roster rings)
opening_holds roster rings enough = record {
  roster_is = refl;
  platforms_are = opened_names roster.platforms rings;
  keys_are = λ p i. refl;
  led = subst (LeadsTo roster (rings_of (opening roster rings)) (networks.opening roster))
      (sym (opened_network roster rings enough)) at_once;
}

-- ---- what is sent where a request is refused for a failure

quiet_content : (kind : ReplyKind) (reply : Reply) → is_failure reply ≡ true → reply_content kind reply ≡ None
quiet_content kinds.Start replies.Sign is = refl
quiet_content kinds.Finish replies.Sign is = refl
quiet_content kinds.Unsent replies.Sign is = refl
quiet_content kinds.Start replies.Full is = refl
quiet_content kinds.Finish replies.Full is = refl
quiet_content kinds.Unsent replies.Full is = refl
quiet_content kinds.Start replies.Disk is = refl
quiet_content kinds.Finish replies.Disk is = refl
quiet_content kinds.Unsent replies.Disk is = refl
quiet_content kinds.Start (replies.Damaged place) is = refl
quiet_content kinds.Finish (replies.Damaged place) is = refl
quiet_content kinds.Unsent (replies.Damaged place) is = refl
quiet_content kinds.Start replies.NoMemory is = refl
quiet_content kinds.Finish replies.NoMemory is = refl
quiet_content kinds.Unsent replies.NoMemory is = refl
quiet_content kind (replies.Done view) is = cc is
quiet_content kind (replies.Started reference missing) is = cc is
quiet_content kind replies.Stored is = cc is
quiet_content kind (replies.Answer response text) is = cc is
quiet_content kind replies.UnknownReference is = cc is
quiet_content kind replies.NotOurs is = cc is
quiet_content kind (replies.Document fault) is = cc is
quiet_content kind replies.NotCarrier is = cc is
quiet_content kind replies.KnownBill is = cc is
quiet_content kind (replies.NotHere place) is = cc is
quiet_content kind (replies.NoParty party) is = cc is
quiet_content kind (replies.NotAllowed rule) is = cc is
quiet_content kind (replies.Limit limit) is = cc is
quiet_content kind (replies.Ignored reason) is = cc is
quiet_content kind (replies.NotParting place) is = cc is

nothing_sent : (sent : List Parcel) (a : Asking) (out : Outcome) (reply : Reply) → is_failure reply ≡ true
    → out ≡ refusal_of reply → sent ++ parcels_of a out.reply out.messages ≡ sent
nothing_sent sent a out reply fails is =
    ap (λ (o : Outcome). sent ++ parcels_of a o.reply o.messages) is
    ∙ ap (λ (content : Option Content). sent ++ option_to_list
    (option_map (reply_parcel a.at a.sender (option_or (request_bill a.request) (reply_bill reply))) content))
    (quiet_content (kind_of a.request) reply fails)
    ∙ append-nil sent

-- ---- one shard changes

abbrev pub step_of : Option Frame → Outcome → Step
step_of frame out = record { frame = frame; reply = out.reply; messages = out.messages }

-- a world with these platforms and these parcels
abbrev pub world_with : WorldRecord → List PlatformState → List Parcel → List Checksum → WorldRecord
world_with w platforms sent signed =
    record { roster = w.roster; platforms = platforms; sent = sent; signed = signed }

abbrev pub network_with : List PlatformState → List Parcel → Network
network_with platforms sent = record {
  family = map member_of platforms;
  loose = λ p i. option_and_then loose_frame (shard_at p i platforms);
  sent = flat_map sent_of sent;
}

loose_by : (o : Option ShardState) → option_and_then loose_frame o
    ≡ option_and_then (λ (f : Option Frame). f) (option_map loose_frame o)
loose_by None = refl
loose_by (Some s) = refl

-- a shard of which it is found out isn't loose
pub found_whole : (shard found : ShardState) (kept : Bool) → IsResolved shard kept found → found.loose ≡ None
found_whole shard found true (frame, was, is) = ap (λ (s : ShardState). s.loose) is
found_whole shard found false is = ap (λ (s : ShardState). s.loose) is

module _ (roster : RosterRecord) (rings : Rings) (start : Network)
    (apart : are_distinct code_eq roster.platforms ≡ true) where
  module _ (w : WorldRecord) (H : Holds roster rings start w) (p : PlatformCode) (i : ℕ) (shard put : ShardState)
      (is_there : shard_at p i w.platforms ≡ Some shard) where
    stays_apart : are_distinct code_eq (platforms_of w) ≡ true
    stays_apart = ap (are_distinct code_eq) H.platforms_are ∙ apart

    -- the other shard is reached too, with the keys of the first one
    put_holds : (sent : List Parcel) (signed : List Checksum) → put.keys ≡ shard.keys
        → LeadsTo roster rings start (network_with (with_shard p i put w.platforms) sent)
        → Holds roster rings start (world_with w (with_shard p i put w.platforms) sent signed)
    put_holds sent signed same_keys led = record {
      roster_is = H.roster_is;
      platforms_are = platforms_stay p i put w.platforms ∙ H.platforms_are;
      keys_are = λ q k.
          ap (λ (o : Option Keys). unwrap_or o no_keys)
          (shards_stay (λ (s : ShardState). s.keys) p i shard put same_keys w.platforms q k is_there)
          ∙ H.keys_are q k;
      led = led;
    }

    pub has_diary : diary_of (family_of w) p i ≡ Some shard.diary
    has_diary = diary_at p i w.platforms ∙ ap (option_map (λ (s : ShardState). s.diary)) is_there

    family_put : (frame : Option Frame) → put.diary ≡ with_frame shard.diary frame
        → map member_of (with_shard p i put w.platforms) ≡ written p i frame (family_of w)
    family_put frame grown =
        same_members p i put (with_diary shard frame) grown w.platforms
        ∙ family_after p i shard frame w.platforms stays_apart is_there

    loose_put : (sent : List Parcel) (loose : Option Frame) → loose_frame put ≡ loose
        → LooseIs (network_of w) p i loose (network_with (with_shard p i put w.platforms) sent)
    loose_put sent loose is = record {
      here = ap (option_and_then loose_frame) (at_put p i shard put w.platforms is_there) ∙ is;
      elsewhere = λ q k other. ap (option_and_then loose_frame) (elsewhere p i put w.platforms q k other);
    }

    -- the loose frames stay, if it has the same one
    loose_stays : loose_frame put ≡ loose_frame shard → (q : PlatformCode) (k : ℕ)
        → option_and_then loose_frame (shard_at q k (with_shard p i put w.platforms)) ≡ loose_in w q k
    loose_stays same q k =
        loose_by (shard_at q k (with_shard p i put w.platforms))
        ∙ ap (option_and_then (λ (f : Option Frame). f))
        (shards_stay loose_frame p i shard put same w.platforms q k is_there)
        ∙ sym (loose_by (shard_at q k w.platforms))

    -- where nothing that counts changed
    same_network : put.diary ≡ shard.diary → loose_frame put ≡ loose_frame shard
        → network_with (with_shard p i put w.platforms) w.sent ≡ network_of w
    same_network same_diary same_loose =
        let family = family_put None (same_diary ∙ sym (append-nil shard.diary)) in
        λ j. record {
          family = family j;
          loose = λ q k. loose_stays same_loose q k j;
          sent = sent_by w;
        }

    -- ---- what is loose is found out

    pub resolve_holds : (kept : Bool) → IsResolved shard kept put
        → Holds roster rings start (world_with w (with_shard p i put w.platforms) w.sent w.signed)
    resolve_holds true (frame, was, is) =
        put_holds w.sent w.signed (ap (λ (s : ShardState). s.keys) is)
        (runs.and_on (network_of w) (network_with (with_shard p i put w.platforms) w.sent) H.led
        (inr (inr (inl (record {
          p = p;
          i = i;
          diary = shard.diary;
          has_diary = has_diary;
          frame = frame;
          was_loose = ap (option_and_then loose_frame) is_there ∙ ap (option_and_then (λ (f : Option Frame). f)) was;
          family_is = family_put (Some frame) (ap (λ (s : ShardState). s.diary) is);
          loose_is = loose_put w.sent None (ap loose_frame is);
          sends = λ s among. among;
        })))))
    resolve_holds false is =
        put_holds w.sent w.signed (ap (λ (s : ShardState). s.keys) is)
        (runs.and_on (network_of w) (network_with (with_shard p i put w.platforms) w.sent) H.led
        (inr (inr (inr (record {
          p = p;
          i = i;
          family_is = family_put None (ap (λ (s : ShardState). s.diary) is ∙ sym (append-nil shard.diary));
          loose_is = loose_put w.sent None (ap loose_frame is);
          sends = λ s among. among;
        })))))

    -- ---- nothing happens

    quiet_holds : (a : Asking) (out : Outcome) (reply : Reply) (signed : List Checksum) → is_failure reply ≡ true
        → out ≡ refusal_of reply → put ≡ shard
        → Holds roster rings start (world_with w (with_shard p i put w.platforms)
        (w.sent ++ parcels_of a out.reply out.messages) signed)
    quiet_holds a out reply signed fails is same =
        let stays : with_shard p i put w.platforms ≡ w.platforms =
        ap (λ (s : ShardState). with_shard p i s w.platforms) same ∙ put_same p i shard w.platforms is_there in
        put_holds (w.sent ++ parcels_of a out.reply out.messages) signed (ap (λ (s : ShardState). s.keys) same)
        (subst (λ (ps : List PlatformState).
        LeadsTo roster rings start (network_with ps (w.sent ++ parcels_of a out.reply out.messages))) (sym stays)
        (subst (λ (xs : List Parcel). LeadsTo roster rings start (network_with w.platforms xs))
        (sym (nothing_sent w.sent a out reply fails is)) H.led))

  -- ---- a request at a shard that isn't loose

  module _ (w : WorldRecord) (H : Holds roster rings start w) (a : Asking) (shard later : ShardState) (now : Moment)
      (out : Outcome) (is_there : shard_at a.at (shard_of a.request) w.platforms ≡ Some shard)
      (not_loose : shard.loose ≡ None) (may : MayBeAsked shard.diary now a.request)
      (comes : Comes roster rings (sent_by w) a.request) where
    abbrev pub asked_here : (step : Step) → Steps w.roster shard.keys a.at shard.diary now a.request step
        → runs.Asked roster rings (network_of w)
    asked_here step steps = record {
      p = a.at;
      i = shard_of a.request;
      diary = shard.diary;
      has_diary = has_diary w H a.at (shard_of a.request) shard shard is_there;
      not_loose = ap (option_and_then loose_frame) is_there ∙ ap (option_and_then (λ (f : Option Frame). f)) not_loose;
      now = now;
      request = a.request;
      goes_here = refl;
      may = may;
      comes = comes;
      step = step;
      steps = subst (λ (r : RosterRecord). Steps r (rings a.at (shard_of a.request)) a.at shard.diary now a.request step)
          H.roster_is
          (subst (λ (k : Keys). Steps w.roster k a.at shard.diary now a.request step)
          (sym (ap (λ (o : Option ShardState). unwrap_or (option_map (λ (s : ShardState). s.keys) o) no_keys) is_there)
          ∙ H.keys_are a.at (shard_of a.request)) steps);
    }

    abbrev After : Type 0
    After = Holds roster rings start (world_with w (with_shard a.at (shard_of a.request) later w.platforms)
        (w.sent ++ parcels_of a out.reply out.messages) (w.signed ++ bills_signed a.request out.reply))

    -- by a step with this outcome
    abbrev pub whole_asked : IsTakenWhole w.roster a.at shard now a.request out later → runs.Asked roster rings (network_of w)
    whole_asked t =
        asked_here (step_of t.step.frame out)
        (subst (Steps w.roster shard.keys a.at shard.diary now a.request)
        (λ j. record { frame = t.step.frame; reply = sym t.reply_is j; messages = sym t.messages_are j }) t.steps)

    pub whole_happens : IsTakenWhole w.roster a.at shard now a.request out later
        → runs.Happens roster rings (network_of w)
        (network_with (with_shard a.at (shard_of a.request) later w.platforms) (w.sent ++ parcels_of a out.reply out.messages))
    whole_happens t =
        inl (record {
          asked = whole_asked t;
          family_is = family_put w H a.at (shard_of a.request) shard later is_there t.step.frame
              (ap (λ (s : ShardState). s.diary) t.after_is);
          loose_is = loose_stays w H a.at (shard_of a.request) shard later is_there (ap loose_frame t.after_is);
          sends = λ s among. parcels_sent w.sent a (step_of t.step.frame out) s among;
        })

    whole_holds : IsTakenWhole w.roster a.at shard now a.request out later → After
    whole_holds t =
        put_holds w H a.at (shard_of a.request) shard later is_there (w.sent ++ parcels_of a out.reply out.messages)
        (w.signed ++ bills_signed a.request out.reply) (ap (λ (s : ShardState). s.keys) t.after_is)
        (runs.and_on (network_of w) (network_with (with_shard a.at (shard_of a.request) later w.platforms)
        (w.sent ++ parcels_of a out.reply out.messages)) H.led (whole_happens t))

    failed_holds : IsNotWritten w.roster a.at shard now a.request out later → After
    failed_holds t =
        put_holds w H a.at (shard_of a.request) shard later is_there (w.sent ++ parcels_of a out.reply out.messages)
        (w.signed ++ bills_signed a.request out.reply) (ap (λ (s : ShardState). s.keys) t.after_is)
        (runs.and_on (network_of w) (network_with (with_shard a.at (shard_of a.request) later w.platforms)
        (w.sent ++ parcels_of a out.reply out.messages)) H.led
        (inr (inl (record {
          asked = asked_here t.steps.step t.steps.steps;
          family_is = family_put w H a.at (shard_of a.request) shard later is_there None
              (ap (λ (s : ShardState). s.diary) t.after_is ∙ sym (append-nil shard.diary));
          loose_is = loose_put w H a.at (shard_of a.request) shard later is_there
              (w.sent ++ parcels_of a out.reply out.messages) t.steps.step.frame
              (ap loose_frame t.after_is ∙ sym t.steps.frame_is);
          sends = λ s among. subst (λ (xs : List Parcel). IsAmong s (flat_map sent_of xs))
              (nothing_sent w.sent a out replies.Disk refl t.out_is) among;
        }))))

    refused_holds : (reply : Reply) → is_failure reply ≡ true → out ≡ refusal_of reply → later ≡ shard → After
    refused_holds reply fails is same =
        quiet_holds w H a.at (shard_of a.request) shard later is_there a out reply
        (w.signed ++ bills_signed a.request out.reply) fails is same

    ended_holds : (end : FateEnd) → EndsAs w.roster a.at shard now a.request end out later → After
    ended_holds Whole (inl t) = whole_holds t
    ended_holds Whole (inr full) = refused_holds replies.Full refl full.out_is full.after_is
    ended_holds SignFault (is, same) = refused_holds replies.Sign refl is same
    ended_holds Failed t = failed_holds t
    ended_holds (Stuck i) no_way = absurd no_way
    ended_holds Short (is, same) = refused_holds replies.NoMemory refl is same

  -- ---- a request at any shard

  unread_holds : (w : WorldRecord) → Holds roster rings start w → (a : Asking) (fate : Fate) (out : Outcome)
      (shard later : ShardState) → shard_at a.at (shard_of a.request) w.platforms ≡ Some shard
      → IsUnread (shard_of a.request) shard fate out later → Holds roster rings start (world_after w a later out)
  unread_holds w H a fate out shard later is_there t = on_cause t.cause
    where
      on_cause : ((fate.end ≡ Stuck (shard_of a.request)) × (t.reply ≡ replies.Disk))
          ⊎ ((fate.end ≡ Short) × (t.reply ≡ replies.NoMemory)) → Holds roster rings start (world_after w a later out)
      on_cause (inl (end, disk)) =
          quiet_holds w H a.at (shard_of a.request) shard later is_there a out t.reply
          (w.signed ++ bills_signed a.request out.reply) (ap is_failure disk) t.refused.0 t.refused.1
      on_cause (inr (end, memory)) =
          quiet_holds w H a.at (shard_of a.request) shard later is_there a out t.reply
          (w.signed ++ bills_signed a.request out.reply) (ap is_failure memory) t.refused.0 t.refused.1

  asked_holds : (w : WorldRecord) → Holds roster rings start w → (a : Asking) (fate : Fate) (out : Outcome) (now : Moment)
      (shard later : ShardState) → shard_at a.at (shard_of a.request) w.platforms ≡ Some shard
      → Comes roster rings (sent_by w) a.request
      → IsAskedOnceRead w.roster a.at (shard_of a.request) shard now a.request fate out later
      → Holds roster rings start (world_after w a later out)
  asked_holds w H a fate out now shard later is_there comes t =
      let found_there : shard_at a.at (shard_of a.request)
      (with_shard a.at (shard_of a.request) t.found w.platforms) ≡ Some t.found =
      at_put a.at (shard_of a.request) shard t.found w.platforms is_there in
      let first = resolve_holds w H a.at (shard_of a.request) shard t.found is_there t.kept t.resolved in
      subst (λ (ps : List PlatformState). Holds roster rings start (world_with w ps
      (w.sent ++ parcels_of a out.reply out.messages) (w.signed ++ bills_signed a.request out.reply)))
      (put_twice a.at (shard_of a.request) t.found later w.platforms)
      (ended_holds
      (world_with w (with_shard a.at (shard_of a.request) t.found w.platforms) w.sent w.signed) first a t.found later now
      out found_there (found_whole shard t.found t.kept t.resolved) t.may comes fate.end t.ends)

  -- ---- a platform that starts again

  loosened_holds : (w : WorldRecord) (before after : List PlatformState) (p : PlatformCode) (i : ℕ)
      → Holds roster rings start (world_with w before w.sent w.signed) → IsLoosenedAt p i before after
      → Holds roster rings start (world_with w after w.sent w.signed)
  loosened_holds w before after p i H t =
      subst (λ (ps : List PlatformState). Holds roster rings start (world_with w ps w.sent w.signed)) (sym t.after_is)
      (put_holds (world_with w before w.sent w.signed) H p i t.shard (loosened t.shard) t.is_there w.sent w.signed refl
      (subst (LeadsTo roster rings start)
      (sym (same_network (world_with w before w.sent w.signed) H p i t.shard (loosened t.shard) t.is_there refl refl))
      H.led))

  all_loosened_hold : (w : WorldRecord) (p : PlatformCode) (i n : ℕ) (before after : List PlatformState)
      → Holds roster rings start (world_with w before w.sent w.signed) → AreLoosened p i n before after
      → Holds roster rings start (world_with w after w.sent w.signed)
  all_loosened_hold w p i zero before after H is =
      subst (λ (ps : List PlatformState). Holds roster rings start (world_with w ps w.sent w.signed)) (sym is) H
  all_loosened_hold w p i (suc n) before after H (between, first, rest) =
      all_loosened_hold w p (i + 1) n between after (loosened_holds w before between p i H first) rest

  started_holds : (w : WorldRecord) (p : PlatformCode) (i n : ℕ) (before : List PlatformState) (end : FateEnd)
      (kept : List ℕ) (after : List PlatformState)
      → Holds roster rings start (world_with w before w.sent w.signed) → AreReadAgain p i n before end kept after
      → Holds roster rings start (world_with w after w.sent w.signed)
  started_holds w p i zero before end kept after H (whole, none, is) =
      subst (λ (ps : List PlatformState). Holds roster rings start (world_with w ps w.sent w.signed)) (sym is) H
  started_holds w p i (suc n) before end kept after H (inl cut) = on_cause cut.cause
    where
      on_cause : ((end ≡ Stuck i) × AreLoosened p i (suc n) before after)
          ⊎ ((end ≡ Short) × IsLoosenedAt p i before after)
          → Holds roster rings start (world_with w after w.sent w.signed)
      on_cause (inl (stuck, are)) = all_loosened_hold w p i (suc n) before after H are
      on_cause (inr (short, is)) = loosened_holds w before after p i H is
  started_holds w p i (suc n) before end kept after H (inr (here, between, behind, read, kept_is, goes)) =
      started_holds w p (i + 1) n between end behind after
      (subst (λ (ps : List PlatformState). Holds roster rings start (world_with w ps w.sent w.signed)) (sym read.after_is)
      (resolve_holds (world_with w before w.sent w.signed) H p i read.shard read.found read.is_there here read.resolved))
      goes

  -- ---- an event

  pub step_holds : (w : WorldRecord) → Holds roster rings start w → (event : EventRecord) (fate : Fate) (answer : Answer)
      (after : WorldRecord) → IsStep w event fate answer after → IsHonestEvent w event → Holds roster rings start after
  step_holds w H event fate answer after step honest = on_happening (comes_to w.signed w.sent event) refl step
    where
      on_happening : (h : Happening) → comes_to w.signed w.sent event ≡ h → Happens w h fate answer after
          → Holds roster rings start after
      on_happening (answers said) is (whole, said_so, same) = subst (Holds roster rings start) (sym same) H
      on_happening (asks a) is t =
          subst (Holds roster rings start) (sym t.after_is)
          (on_shard (event_comes roster rings w H.roster_is H.keys_are event honest a is) t.takes)
        where
          on_shard : Comes roster rings (sent_by w) a.request
              → TakesAs w.roster a.at (shard_of a.request) t.shard t.now a.request fate t.out t.later
              → Holds roster rings start (world_after w a t.later t.out)
          on_shard comes (inl unread) = unread_holds w H a fate t.out t.shard t.later t.is_asked unread
          on_shard comes (inr asked) = asked_holds w H a fate t.out t.now t.shard t.later t.is_asked comes asked
      on_happening (starts_again at) is t =
          subst (Holds roster rings start) (sym t.after_is)
          (started_holds w at 0 16 w.platforms fate.end fate.kept t.platforms H t.reads)

-- ---- runs

-- each event begins where the one before it ended
abbrev pub GoOn : WorldRecord → List Happened → Type 0
GoOn w [] = Unit {0}
GoOn w (h ∷ hs) = (h.before ≡ w) × IsStep w h.event h.fate h.answer h.after × GoOn h.after hs

pub runs_go_on : (roster : RosterRecord) (lines : List (List ℕ)) (w : WorldRecord) (n : ℕ) (fates : List Fate) (run : Run)
    → Runs roster lines w n fates run → GoOn w run.happened
runs_go_on roster [] w n fates run (inl (none, is)) =
    subst (GoOn w) (sym (ap (λ (r : Run). r.happened) is)) tt
runs_go_on roster [] w n fates run (inr (none, is)) =
    subst (GoOn w) (sym (ap (λ (r : Run). r.happened) is)) tt
runs_go_on roster (line ∷ lines) w n fates run (inl (none, is)) =
    subst (GoOn w) (sym (ap (λ (r : Run). r.happened) is)) tt
runs_go_on roster (line ∷ lines) w n fates run (inr numbered) =
    on_number (nat_le 100000 n) numbered (runs_go_on roster lines)
  where
    answered : (event : EventRecord) (fs : List Fate)
        → IsAnsweredIn w event n fs run (λ after others rest. Runs roster lines after (n + 1) others rest)
        → ((x : WorldRecord) (m : ℕ) (others : List Fate) (r : Run) → Runs roster lines x m others r → GoOn x r.happened)
        → GoOn w run.happened
    answered event [] no_way further = absurd no_way
    answered event (fate ∷ others) (answer, after, rest, step, ended, is, goes) further =
        subst (GoOn w) (sym (ap (λ (r : Run). r.happened) is))
        (refl, step, further after (n + 1) others rest goes)

    on_event : (event : Option EventRecord) (fs : List Fate)
        → OnEvent event w n fs run (λ after others rest. Runs roster lines after (n + 1) others rest)
        → ((x : WorldRecord) (m : ℕ) (others : List Fate) (r : Run) → Runs roster lines x m others r → GoOn x r.happened)
        → GoOn w run.happened
    on_event None fs (none, is) further = subst (GoOn w) (sym (ap (λ (r : Run). r.happened) is)) tt
    on_event (Some event) fs (inl (left, cut, is)) further =
        subst (GoOn w) (sym (ap (λ (r : Run). r.happened) is)) tt
    on_event (Some event) fs (inr so) further = answered event fs so further

    on_number : (b : Bool)
        → MatchBool b (Ends (bad_line (n + 1)) [] w fates run)
        (OnEvent (event_in roster line) w n fates run (λ after fs rest. Runs roster lines after (n + 1) fs rest))
        → ((x : WorldRecord) (m : ℕ) (others : List Fate) (r : Run) → Runs roster lines x m others r → GoOn x r.happened)
        → GoOn w run.happened
    on_number true (none, is) further = subst (GoOn w) (sym (ap (λ (r : Run). r.happened) is)) tt
    on_number false goes further = on_event (event_in roster line) fates goes further

-- an honest event of a run, and what holds before it
pub record IsHonestIn (roster : RosterRecord) (rings : Rings) (start : Network) (h : Happened) : Type 0 where
  pub before : Holds roster rings start h.before
  pub step : IsStep h.before h.event h.fate h.answer h.after
  pub honest : IsHonestEvent h.before h.event

module _ (roster : RosterRecord) (rings : Rings) (start : Network)
    (apart : are_distinct code_eq roster.platforms ≡ true) where
  -- the last of some honest events
  pub honest_in : (w : WorldRecord) → Holds roster rings start w → (front : List Happened) (h : Happened)
      (rest : List Happened) → GoOn w (front ++ h ∷ rest) → AreHonest (front ++ h ∷ [])
      → IsHonestIn roster rings start h
  honest_in w H [] h rest goes honest = record {
    before = subst (Holds roster rings start) (sym goes.0) H;
    step = subst (λ (x : WorldRecord). IsStep x h.event h.fate h.answer h.after) (sym goes.0) goes.1;
    honest = honest.0;
  }
  honest_in w H (x ∷ front) h rest goes honest =
      honest_in x.after
      (step_holds roster rings start apart w H x.event x.fate x.answer x.after goes.1
      (subst (λ (y : WorldRecord). IsHonestEvent y x.event) goes.0 honest.0))
      front h rest goes.2 honest.1

  -- after it the world holds
  pub holds_after : (h : Happened) → IsHonestIn roster rings start h → Holds roster rings start h.after
  holds_after h x = step_holds roster rings start apart h.before x.before h.event h.fate h.answer h.after x.step x.honest

-- the world after an earlier one of them leads to the world after the last
pub earlier_holds : (roster : RosterRecord) (rings : Rings) (start : Network)
    → are_distinct code_eq roster.platforms ≡ true
    → (w : WorldRecord) → Holds roster rings start w → (front : List Happened) (h : Happened) (rest : List Happened)
    → GoOn w (front ++ h ∷ rest) → AreHonest (front ++ h ∷ []) → (e : Happened) → IsAmong e front
    → Holds roster rings start e.after × Holds roster rings (network_of e.after) h.after
earlier_holds roster rings start apart w H [] h rest goes honest e among = absurd among
earlier_holds roster rings start apart w H (x ∷ front) h rest goes honest e among =
    on_place among (earlier_holds roster rings start apart x.after first front h rest goes.2 honest.1 e)
  where
    first : Holds roster rings start x.after
    first = step_holds roster rings start apart w H x.event x.fate x.answer x.after goes.1
        (subst (λ (y : WorldRecord). IsHonestEvent y x.event) goes.0 honest.0)

    on_place : (x ≡ e) ⊎ IsAmong e front
        → (IsAmong e front → Holds roster rings start e.after × Holds roster rings (network_of e.after) h.after)
        → Holds roster rings start e.after × Holds roster rings (network_of e.after) h.after
    on_place (inl same) further =
        subst (λ (y : Happened). Holds roster rings start y.after × Holds roster rings (network_of y.after) h.after) same (
          first,
          holds_after roster rings (network_of x.after) apart h
              (honest_in roster rings (network_of x.after) apart x.after (from_here roster rings start x.after first)
              front h rest goes.2 honest.1),
        )
    on_place (inr later) further = further later
