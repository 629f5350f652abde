-- What becomes of the world where a request was taken.
use Rattle.std.proofs.Common.{ℕ, ◌≡◌, ◌⊎◌, inl, inr, ◌≤◌, Bool, List, [], ◌∷◌, ◌++◌, length, Result, Ok, Err, refl, sym, ap, subst, ◌∙◌, arith}
use Rattle.std.specs.Prelude.{IfOk, OnErr, OnOk}
use Rattle.std.specs.Option.{option_to_list}
use Rattle.std.proofs.lemmas.List.{append-nil, length-append}
use mathlib.Core.List.{IsPrefix}
use Rattle.ebl_base.specs.declared.checksum.Checksum.{Checksum}
use Rattle.ebl_base.specs.declared.moment.Moment.{Moment}
use Rattle.ebl_base.specs.declared.platform_code.PlatformCode.{PlatformCode}
use Rattle.holder_commands.specs.Command.{signs, acts, attaches}
use Rattle.party_roster.specs.RosterRecord.{RosterRecord}
use Rattle.platform_requests.specs.Request.{RequestRecord, commands, starts, puts, finishes, start_replies, finish_replies, resends, asks}
use Rattle.platform_requests.specs.Shard.{shard_of}
use Rattle.platform_requests.specs.declared.message.Message.{Message}
use Rattle.platform_requests.specs.declared.outcome.Outcome.{Outcome}
use Rattle.platform_requests.specs.declared.reply.Reply.{Reply}
use Rattle.platform_requests.specs.declared.reply.Reply.TheVariants as replies
use Rattle.answer_lines.specs.Lines.{IsWritable}
use Rattle.answer_lines.specs.declared.answer.Answer.{Answer}
use Rattle.answer_lines.specs.declared.answer.Answer.TheVariants.{Replied}
use Rattle.answer_lines.specs.declared.parcel.Parcel.{Parcel}
use Rattle.platform_world.specs.declared.fate.Fate.{Fate}
use Rattle.platform_world.specs.declared.fate.FateEnd.{FateEnd}
use Rattle.platform_world.specs.declared.fate.FateEnd.TheVariants.{Short, Stuck, Whole}
use Rattle.world_events.specs.declared.parcels.ReplyPath.{ReplyPath}
use Rattle.world_events.specs.Happening.{Asking, Happening}
use Rattle.world_events.specs.Happening as happening
use Rattle.platform_world.specs.Machine.{Counts, MachineRecord, disk_times, ring_times}
use Rattle.platform_world.specs.Platforms.{EachRose, PlatformsRecord, TakesAt, failures_at, index_of, states_of, times_at, times_if}
use Rattle.platform_world.specs.Shard.{EndsAs, TakesAs}
use Rattle.platform_world.specs.State.{HasFate, HasHappened, IsCut, IsFollowed, WorldState, bill_by, is_sign, world_of}
use Rattle.platform_world.specs.Start.{AreReadAgain}
use Rattle.world_events.specs.Parcels.{IsPathOf, parcels_of, sends}
use Rattle.platform_world.specs.Step.{Happens, IsAt, StartsAgain, bills_signed, disk_failed_at, ring_failed_at, start_answer}
use Rattle.platform_world.specs.World.{PlatformState, ShardState, WorldRecord}
use Rattle.platform_world.proofs.Counts.{asked_disk, asked_ring, none_rose, rose_as, rose_later}
use Rattle.world_events.proofs.Paths.{path_leads}

-- the world with these platforms, and what a reply with its messages sends and signs
abbrev world_with : WorldRecord → Asking → List PlatformState → Reply → List Message → WorldRecord
world_with w a platforms reply own = record {
  roster = w.roster;
  platforms = platforms;
  sent = w.sent ++ parcels_of a reply own;
  signed = w.signed ++ bills_signed a.request reply;
}

-- ---- where memory runs out, the reply says so

short_ends : (roster : RosterRecord) (p : PlatformCode) (found : ShardState) (now : Moment) (request : RequestRecord)
    (end : FateEnd) (out : Outcome) (after : ShardState) → end ≡ Short
    → EndsAs roster p found now request end out after → out.reply ≡ replies.NoMemory
short_ends roster p found now request end out after short ends =
    let so : EndsAs roster p found now request Short out after =
    subst (λ (e : FateEnd). EndsAs roster p found now request e out after) short ends in
    ap (λ (o : Outcome). o.reply) so.0

short_out : (roster : RosterRecord) (p : PlatformCode) (i : ℕ) (shard : ShardState) (now : Moment)
    (request : RequestRecord) (fate : Fate) (out : Outcome) (later : ShardState)
    → TakesAs roster p i shard now request fate out later → fate.end ≡ Short → out.reply ≡ replies.NoMemory
short_out roster p i shard now request fate out later (inl unread) short = on_cause unread.cause
  where
    said : out.reply ≡ unread.reply
    said = ap (λ (o : Outcome). o.reply) unread.refused.0

    on_cause : ((fate.end ≡ Stuck i) × (unread.reply ≡ replies.Disk)) ⊎ ((fate.end ≡ Short) × (unread.reply ≡ replies.NoMemory))
        → out.reply ≡ replies.NoMemory
    on_cause (inl (stuck, disk)) = absurd (let clash = sym stuck ∙ short in cc clash)
    on_cause (inr (is, memory)) = said ∙ memory
short_out roster p i shard now request fate out later (inr t) short =
    short_ends roster p t.found now request fate.end out later short t.ends

-- ---- bills

-- the bill that a reply signs
by_sign : (request : RequestRecord) (reply : Reply)
    → option_to_list (bill_by (is_sign request) reply) ≡ bills_signed request reply
by_sign (commands party (signs document)) (replies.Done view) = refl
by_sign (commands party (signs document)) (replies.Started reference missing) = refl
by_sign (commands party (signs document)) replies.Stored = refl
by_sign (commands party (signs document)) (replies.Answer response text) = refl
by_sign (commands party (signs document)) replies.UnknownReference = refl
by_sign (commands party (signs document)) replies.NotOurs = refl
by_sign (commands party (signs document)) (replies.Document fault) = refl
by_sign (commands party (signs document)) replies.NotCarrier = refl
by_sign (commands party (signs document)) replies.KnownBill = refl
by_sign (commands party (signs document)) (replies.NotHere place) = refl
by_sign (commands party (signs document)) (replies.NoParty who) = refl
by_sign (commands party (signs document)) (replies.NotAllowed rule) = refl
by_sign (commands party (signs document)) (replies.Limit limit) = refl
by_sign (commands party (signs document)) (replies.Ignored reason) = refl
by_sign (commands party (signs document)) (replies.NotParting place) = refl
by_sign (commands party (signs document)) replies.Sign = refl
by_sign (commands party (signs document)) replies.Full = refl
by_sign (commands party (signs document)) replies.Disk = refl
by_sign (commands party (signs document)) (replies.Damaged place) = refl
by_sign (commands party (signs document)) replies.NoMemory = refl
by_sign (commands party (acts bill kind recipient)) reply = refl
by_sign (commands party (attaches bill name media bytes)) reply = refl
by_sign (starts body) reply = refl
by_sign (puts reference checksum bytes) reply = refl
by_sign (finishes reference) reply = refl
by_sign (start_replies bill bytes) reply = refl
by_sign (finish_replies bill bytes) reply = refl
by_sign (resends bill) reply = refl
by_sign (asks bill) reply = refl

-- ---- what was followed to

-- the world with other lists
abbrev listed : WorldRecord → List PlatformState → List Parcel → List Checksum → WorldRecord
listed w platforms sent signed =
    record { roster = w.roster; platforms = platforms; sent = sent; signed = signed }

-- the world that was followed to is that with what the reply sends and signs
followed_to : {M R : Type 0} (seen : M → MachineRecord) (w between after : WorldState M R) (a : Asking) (out : Outcome)
    (path : ReplyPath) (signing : Bool) → IsPathOf a path → signing ≡ is_sign a.request
    → between.sent ≡ w.sent → between.signed ≡ w.signed
    → between.platforms.roster ≡ w.platforms.roster → after.platforms ≡ between.platforms
    → IsFollowed between path signing out after
    → world_with (world_of seen w) a (world_of seen between).platforms out.reply out.messages ≡ world_of seen after
followed_to {M = M} {R = R} seen w between after a out path signing is_path is_signing same_sent same_signed same_roster
    same_platforms follows =
    let parcels_are = path_leads a path out.reply out.messages is_path in
    let bills_are = ap (λ (b : Bool). option_to_list (bill_by b out.reply)) is_signing ∙ by_sign a.request out.reply in
    let sent_is : after.sent ≡ w.sent ++ parcels_of a out.reply out.messages =
    follows.sent
    ∙ ap (λ (xs : List Parcel). xs ++ sends path.from path.sender path.kind path.brought out.reply out.messages) same_sent
    ∙ ap (λ (xs : List Parcel). w.sent ++ xs) parcels_are in
    let signed_is : after.signed ≡ w.signed ++ bills_signed a.request out.reply =
    follows.signed
    ∙ ap (λ (xs : List Checksum). xs ++ option_to_list (bill_by signing out.reply)) same_signed
    ∙ ap (λ (xs : List Checksum). w.signed ++ xs) bills_are in
    ap (λ (xs : List Parcel). record {
      roster = w.platforms.roster;
      platforms = (world_of seen between).platforms;
      sent = xs;
      signed = w.signed ++ bills_signed a.request out.reply;
    }) (sym sent_is)
    ∙ ap (λ (xs : List Checksum). listed (world_of seen w) (world_of seen between).platforms after.sent xs) (sym signed_is)
    ∙ ap (λ (ps : PlatformsRecord M R). listed (world_of seen w) (states_of seen ps) after.sent after.signed)
    (sym same_platforms)
    ∙ ap (λ (roster : RosterRecord). record {
      roster = roster;
      platforms = states_of seen after.platforms;
      sent = after.sent;
      signed = after.signed;
    }) (sym same_roster ∙ ap (λ (ps : PlatformsRecord M R). ps.roster) (sym same_platforms))

-- ---- what was sent and signed before

-- it stands in front where nothing is new, and where something is added
same_front : {A : Type 0} (xs ys : List A) → ys ≡ xs → IsPrefix xs ys
same_front xs ys same = ([], append-nil xs ∙ sym same)

more_front : {A : Type 0} (xs ys more : List A) → ys ≡ xs ++ more → IsPrefix xs ys
more_front xs ys more is = (more, sym is)

-- and so it does behind whatever happened
sent_stands : (w : WorldRecord) (h : Happening) (fate : Fate) (answer : Answer) (to : WorldRecord)
    → Happens w h fate answer to → IsPrefix w.sent to.sent
sent_stands w (happening.answers said) fate answer to (whole, said_is, same) =
    same_front w.sent to.sent (ap (λ (v : WorldRecord). v.sent) same)
sent_stands w (happening.asks a) fate answer to takes =
    more_front w.sent to.sent (parcels_of a takes.out.reply takes.out.messages)
    (ap (λ (v : WorldRecord). v.sent) takes.after_is)
sent_stands w (happening.starts_again at) fate answer to again =
    same_front w.sent to.sent (ap (λ (v : WorldRecord). v.sent) again.after_is)

signed_stands : (w : WorldRecord) (h : Happening) (fate : Fate) (answer : Answer) (to : WorldRecord)
    → Happens w h fate answer to → IsPrefix w.signed to.signed
signed_stands w (happening.answers said) fate answer to (whole, said_is, same) =
    same_front w.signed to.signed (ap (λ (v : WorldRecord). v.signed) same)
signed_stands w (happening.asks a) fate answer to takes =
    more_front w.signed to.signed (bills_signed a.request takes.out.reply)
    (ap (λ (v : WorldRecord). v.signed) takes.after_is)
signed_stands w (happening.starts_again at) fate answer to again =
    same_front w.signed to.signed (ap (λ (v : WorldRecord). v.signed) again.after_is)

-- ---- a request as a whole

longer : (xs ys zs : List Parcel) → zs ≡ xs ++ ys → length xs ≤ length zs
longer xs ys zs is =
    let size = ap (λ (ps : List Parcel). length ps) is ∙ length-append xs ys in omega (arith, size)

-- whatever came of it: it happened by its fate; or memory ran out
pub record Asked {M R E : Type 0} (seen : M → MachineRecord) (faults : Counts M) (w after : WorldState M R) (a : Asking)
    (result : Result Answer E) : Type 0 where
  pub ok : IfOk result (λ answer. HasHappened seen faults w (happening.asks a) answer after)
  pub short : OnErr result (IsCut seen faults w (happening.asks a) after)
  pub writable : IfOk result IsWritable
  pub grown : IfOk result (λ _. length w.sent ≤ length after.sent)

module _ {M R : Type 0} (seen : M → MachineRecord) (faults : Counts M) (w between after : WorldState M R) (a : Asking)
    (now : Moment) (fate : Fate) (out : Outcome) (moment : IsAt a.now now)
    (t : TakesAt w.platforms.roster (world_of seen w).platforms a.at (shard_of a.request) now a.request fate out
    (world_of seen between).platforms)
    (disks : EachRose faults.disk (times_if (disk_times fate.end) (index_of a.at (shard_of a.request) w.platforms.roster.platforms))
    w.platforms.shards between.platforms.shards)
    (rings : EachRose faults.ring (times_if (ring_times fate.end) (index_of a.at (shard_of a.request) w.platforms.roster.platforms))
    w.platforms.shards between.platforms.shards)
    (same_platforms : after.platforms ≡ between.platforms) where
  happened_to : (answer : Answer) (to : WorldRecord) → answer ≡ Replied out.reply
      → world_with (world_of seen w) a (world_of seen between).platforms out.reply out.messages ≡ to
      → Happens (world_of seen w) (happening.asks a) fate answer to
  happened_to answer to said world_is = record {
    shard = t.shard;
    is_asked = t.is_asked;
    now = now;
    moment = moment;
    out = out;
    later = t.later;
    takes = t.takes;
    answer_is = said;
    after_is = sym world_is
        ∙ ap (λ (ps : List PlatformState). world_with (world_of seen w) a ps out.reply out.messages) t.after_is;
  }

  same_shards : between.platforms.shards ≡ after.platforms.shards
  same_shards = ap (λ (ps : PlatformsRecord M R). ps.shards) (sym same_platforms)

  disks_asked : EachRose faults.disk (times_at w.platforms.roster.platforms (disk_failed_at (happening.asks a) fate.end))
      w.platforms.shards after.platforms.shards
  disks_asked =
      subst
      (EachRose faults.disk (times_at w.platforms.roster.platforms (disk_failed_at (happening.asks a) fate.end))
      w.platforms.shards) same_shards
      (rose_as faults.disk (times_if (disk_times fate.end)
      (index_of a.at (shard_of a.request) w.platforms.roster.platforms))
      (times_at w.platforms.roster.platforms (disk_failed_at (happening.asks a) fate.end)) w.platforms.shards
      between.platforms.shards (asked_disk w.platforms.roster.platforms a fate.end) disks)

  rings_asked : EachRose faults.ring (times_at w.platforms.roster.platforms (ring_failed_at (happening.asks a) fate.end))
      w.platforms.shards after.platforms.shards
  rings_asked =
      subst
      (EachRose faults.ring (times_at w.platforms.roster.platforms (ring_failed_at (happening.asks a) fate.end))
      w.platforms.shards) same_shards
      (rose_as faults.ring (times_if (ring_times fate.end)
      (index_of a.at (shard_of a.request) w.platforms.roster.platforms))
      (times_at w.platforms.roster.platforms (ring_failed_at (happening.asks a) fate.end)) w.platforms.shards
      between.platforms.shards (asked_ring w.platforms.roster.platforms a fate.end) rings)

  cut_so : between.sent ≡ w.sent → between.signed ≡ w.signed → after.fates ≡ w.fates ++ fate ∷ []
      → IsPrefix between.sent after.sent → after.signed ≡ between.signed → IsCut seen faults w (happening.asks a) after
  cut_so same_sent same_signed fates stands same_bills = record {
    more = fate ∷ [];
    fates_are = fates;
    left = (
      refl,
      Replied out.reply,
      world_with (world_of seen w) a (world_of seen between).platforms out.reply out.messages,
      happened_to (Replied out.reply)
          (world_with (world_of seen w) a (world_of seen between).platforms out.reply out.messages) refl refl,
      ap (λ (ps : PlatformsRecord M R). states_of seen ps) same_platforms,
    );
    sent = subst (λ (xs : List Parcel). IsPrefix xs after.sent) same_sent stands;
    signed = same_front w.signed after.signed (same_bills ∙ same_signed);
    disks = rose_later faults.disk (times_at w.platforms.roster.platforms (disk_failed_at (happening.asks a) fate.end))
        w.platforms.shards after.platforms.shards disks_asked;
    rings = rose_later faults.ring (times_at w.platforms.roster.platforms (ring_failed_at (happening.asks a) fate.end))
        w.platforms.shards after.platforms.shards rings_asked;
  }

  fate_so : (answer : Answer) → answer ≡ Replied out.reply
      → world_with (world_of seen w) a (world_of seen between).platforms out.reply out.messages ≡ world_of seen after
      → HasFate seen faults w (happening.asks a) fate answer after
  fate_so answer said world_is = record {
    happens = happened_to answer (world_of seen after) said world_is;
    disks = disks_asked;
    rings = rings_asked;
  }

  pub asked_so : {E : Type 0} (path : ReplyPath) (signing : Bool) (result : Result Answer E)
      → IsPathOf a path → signing ≡ is_sign a.request
      → between.sent ≡ w.sent → between.signed ≡ w.signed
      → IsWritable (Replied out.reply)
      → between.platforms.roster ≡ w.platforms.roster
      → after.fates ≡ w.fates ++ fate ∷ []
      → IfOk result (λ answer. answer ≡ Replied out.reply)
      → OnOk result (IsFollowed between path signing out after)
      → OnErr result (IsPrefix between.sent after.sent)
      → OnErr result (after.signed ≡ between.signed)
      → Asked seen faults w after a result
  asked_so path signing (Ok answer) is_path is_signing same_sent same_signed writable same_roster fates said follows
      stands same_bills =
      let world_is = followed_to seen w between after a out path signing is_path is_signing same_sent same_signed
      same_roster same_platforms follows in
      record {
        ok = record {
          fate = fate;
          not_short = λ short. follows.some_reply
              (short_out w.platforms.roster a.at (shard_of a.request) t.shard now a.request fate out t.later t.takes short);
          has_fate = fate_so answer said world_is;
          fates_are = fates;
        };
        short = tt;
        writable = subst IsWritable (sym said) writable;
        grown = longer w.sent (sends path.from path.sender path.kind path.brought out.reply out.messages) after.sent
            (follows.sent ∙ ap (λ (xs : List Parcel).
            xs ++ sends path.from path.sender path.kind path.brought out.reply out.messages) same_sent);
      }
  asked_so path signing (Err e) is_path is_signing same_sent same_signed writable same_roster fates said follows stands
      same_bills = record {
        ok = tt;
        short = cut_so same_sent same_signed fates stands same_bills;
        writable = tt;
        grown = tt;
      }

-- ---- where nothing was asked

-- memory ran out before anything happened
pub cut_before : {M R : Type 0} (seen : M → MachineRecord) (faults : Counts M) (w : WorldState M R) (h : Happening)
    → IsCut seen faults w h w
cut_before seen faults w h = record {
  more = [];
  fates_are = sym (append-nil w.fates);
  left = refl;
  sent = same_front w.sent w.sent refl;
  signed = same_front w.signed w.signed refl;
  disks = none_rose faults.disk w.platforms.shards;
  rings = none_rose faults.ring w.platforms.shards;
}

-- what happened is cut short, where its line couldn't be made
pub cut_behind : {M R : Type 0} (seen : M → MachineRecord) (faults : Counts M) (w : WorldState M R) (h : Happening)
    (answer : Answer) (after : WorldState M R) → HasHappened seen faults w h answer after → IsCut seen faults w h after
cut_behind seen faults w h answer after so = record {
  more = so.fate ∷ [];
  fates_are = so.fates_are;
  left = (refl, answer, world_of seen after, so.has_fate.happens, refl);
  sent = sent_stands (world_of seen w) h so.fate answer (world_of seen after) so.has_fate.happens;
  signed = signed_stands (world_of seen w) h so.fate answer (world_of seen after) so.has_fate.happens;
  disks = rose_later faults.disk (times_at w.platforms.roster.platforms (disk_failed_at h so.fate.end))
      w.platforms.shards after.platforms.shards so.has_fate.disks;
  rings = rose_later faults.ring (times_at w.platforms.roster.platforms (ring_failed_at h so.fate.end))
      w.platforms.shards after.platforms.shards so.has_fate.rings;
}

-- ---- what is answered at once

same_world : {M R : Type 0} (seen : M → MachineRecord) (w after : WorldState M R) → after.platforms ≡ w.platforms
    → after.sent ≡ w.sent → after.signed ≡ w.signed → world_of seen after ≡ world_of seen w
same_world seen w after platforms sent signed = λ j. record {
  roster = (platforms j).roster;
  platforms = states_of seen (platforms j);
  sent = sent j;
  signed = signed j;
}

pub answered_so : {M R : Type 0} (seen : M → MachineRecord) (faults : Counts M) (w after : WorldState M R) (said : Answer)
    (fate : Fate) → fate.end ≡ Whole → fate.kept ≡ [] → after.platforms ≡ w.platforms → after.sent ≡ w.sent
    → after.signed ≡ w.signed → after.fates ≡ w.fates ++ fate ∷ []
    → HasHappened seen faults w (happening.answers said) said after
answered_so {M = M} {R = R} seen faults w after said fate end kept platforms sent signed fates = record {
  fate = fate;
  not_short = λ short. let clash : Whole ≡ Short = sym end ∙ short in cc clash;
  has_fate = record {
    happens = ((end, kept), refl, same_world seen w after platforms sent signed);
    disks = subst (λ (ps : PlatformsRecord M R). EachRose faults.disk (λ (k : ℕ). 0) w.platforms.shards ps.shards)
        (sym platforms) (none_rose faults.disk w.platforms.shards);
    rings = subst (λ (ps : PlatformsRecord M R). EachRose faults.ring (λ (k : ℕ). 0) w.platforms.shards ps.shards)
        (sym platforms) (none_rose faults.ring w.platforms.shards);
  };
  fates_are = fates;
}

-- ---- a platform that starts again

module _ {M R : Type 0} (seen : M → MachineRecord) (faults : Counts M) (w after : WorldState M R) (p : PlatformCode)
    (fate : Fate)
    (reads : AreReadAgain p 0 16 (world_of seen w).platforms fate.end fate.kept (world_of seen after).platforms)
    (disks : EachRose faults.disk (failures_at w.platforms.roster.platforms p fate.end) w.platforms.shards
    after.platforms.shards)
    (rings : EachRose faults.ring (λ (k : ℕ). 0) w.platforms.shards after.platforms.shards)
    (same_roster : after.platforms.roster ≡ w.platforms.roster) (same_sent : after.sent ≡ w.sent)
    (same_signed : after.signed ≡ w.signed) (fates : after.fates ≡ w.fates ++ fate ∷ []) where
  started : StartsAgain (world_of seen w) p fate (start_answer fate.end) (world_of seen after)
  started = record {
    platforms = (world_of seen after).platforms;
    reads = reads;
    answer_is = refl;
    after_is = λ j. record {
      roster = same_roster j;
      platforms = (world_of seen after).platforms;
      sent = same_sent j;
      signed = same_signed j;
    };
  }

  rings_so : EachRose faults.ring (times_at w.platforms.roster.platforms (ring_failed_at (happening.starts_again p) fate.end))
      w.platforms.shards after.platforms.shards
  rings_so = rings

  pub started_so : (answer : Answer) → answer ≡ start_answer fate.end → (fate.end ≡ Short → ⊥)
      → HasHappened seen faults w (happening.starts_again p) answer after
  started_so answer said ended = record {
    fate = fate;
    not_short = ended;
    has_fate = record {
      happens = subst (λ (x : Answer). StartsAgain (world_of seen w) p fate x (world_of seen after)) (sym said) started;
      disks = disks;
      rings = rings_so;
    };
    fates_are = fates;
  }

  pub started_cut : IsCut seen faults w (happening.starts_again p) after
  started_cut = record {
    more = fate ∷ [];
    fates_are = fates;
    left = (refl, start_answer fate.end, world_of seen after, started, refl);
    sent = same_front w.sent after.sent same_sent;
    signed = same_front w.signed after.signed same_signed;
    disks = rose_later faults.disk (failures_at w.platforms.roster.platforms p fate.end) w.platforms.shards
        after.platforms.shards disks;
    rings = rings;
  }

-- whatever a call gave, what holds holds where it failed
pub on_err_so : {T E : Type 0} {Q : Type 0} (result : Result T E) → Q → OnErr result Q
on_err_so (Ok x) holds = tt
on_err_so (Err e) holds = holds

pub on_err : {T E : Type 0} {P Q : Type 0} (result : Result T E) → (P → Q) → OnErr result P → OnErr result Q
on_err (Ok x) follows given = tt
on_err (Err e) follows given = follows given

-- nothing happened, and memory ran out
pub cut_same : {M R : Type 0} (seen : M → MachineRecord) (faults : Counts M) (w after : WorldState M R) (h : Happening)
    → after ≡ w → IsCut seen faults w h after
cut_same seen faults w after h same =
    subst (λ (v : WorldState _ _). IsCut seen faults w h v) (sym same) (cut_before seen faults w h)

-- where there is an answer to a platform's start, memory didn't run out
pub on_started : {E : Type 0} (end : FateEnd) (result : Result Answer E) (Q : Answer → Type 0)
    → IfOk result (λ answer. answer ≡ start_answer end) → (end ≡ Short → OnOk result ⊥)
    → ((answer : Answer) → answer ≡ start_answer end → (end ≡ Short → ⊥) → Q answer) → IfOk result Q
on_started end (Ok answer) Q said ended holds = holds answer said ended
on_started end (Err e) Q said ended holds = tt
