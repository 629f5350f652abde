-- What holds of a world after each event, and why an event of a line may be taken then.
use Rattle.std.proofs.Common.{◌≡◌, ◌≢◌, ◌⊎◌, inl, inr, ℕ, zero, suc, ◌+◌, ◌-◌, ◌<◌, ◌≤◌, Bool, true, false, cond, List, [], ◌∷◌, ◌++◌, length, take, drop, map, Option, Some, None, refl, sym, ap, subst, ◌∙◌, arith}
use Rattle.std.specs.Prelude.{All, IfSome, find, nat_eq, option_and_then, option_map, slice_get, slice_set}
use Rattle.std.specs.Option.{option_map_or, option_or, option_to_list}
use Rattle.std.proofs.lemmas.List.{length-append}
use Rattle.std.proofs.lemmas.List.Elements.{All-append, All-cons, All-drop, All-head, All-map, All-nil, All-tail, All-take}
use Rattle.document_checksum.specs.Digest.{IsChecksum}
use Rattle.ebl_base.specs.Party.{IsParty}
use Rattle.ebl_base.specs.Moment.{IsMoment}
use Rattle.ebl_base.specs.PlatformCode.{code_eq}
use Rattle.ebl_base.specs.declared.checksum.Checksum.{Checksum}
use Rattle.ebl_base.specs.declared.kind.Kind.{Kind}
use Rattle.ebl_base.specs.declared.kind.Kind.TheVariants as kinds
use Rattle.ebl_base.specs.declared.moment.Moment.{Moment}
use Rattle.ebl_base.specs.declared.party.Party.{Party}
use Rattle.ebl_base.specs.declared.platform_code.PlatformCode.{PlatformCode}
use Rattle.holder_commands.specs.Command.{CommandRecord}
use Rattle.holder_commands.specs.Command as commands
use Rattle.holder_commands.specs.Form.{IsCommand}
use Rattle.holder_commands.specs.Reading.{begins_a_bill}
use Rattle.party_roster.specs.RosterRecord.{RosterRecord, has_platform}
use Rattle.platform_requests.specs.Request.{RequestRecord}
use Rattle.platform_requests.specs.Request as requests
use Rattle.platform_requests.specs.Shard.{shard_of}
use Rattle.platform_requests.specs.declared.message.Message.{Message}
use Rattle.platform_requests.specs.declared.message.Message.TheVariants as messages
use Rattle.platform_requests.specs.declared.outcome.Outcome.{Outcome}
use Rattle.platform_requests.specs.declared.reply.Reply.{Reply}
use Rattle.bill_diary.specs.declared.frame.Frame.{Frame}
use Rattle.bill_diary.specs.History.{newest_first}
use Rattle.transfer_judge.specs.Plan.{HasAttempts}
use Rattle.transfer_judge.specs.PlannedTexts.{Nests}
use Rattle.platform_machine.specs.Machine.{MayBeAsked}
use Rattle.platform_machine.specs.Step.{with_frame}
use Rattle.world_script.specs.declared.deed.BillName.{BillName}
use Rattle.world_script.specs.declared.deed.BillName.TheVariants.{Name, Number}
use Rattle.world_script.specs.Event.{DeedRecord, EventRecord, ForeignRecord}
use Rattle.world_script.specs.Event as events
use Rattle.world_script.specs.Form.{IsBillName, IsDeed, IsEvent}
use Rattle.answer_lines.specs.declared.parcel.Content.{Content}
use Rattle.answer_lines.specs.declared.parcel.Content.TheVariants as contents
use Rattle.answer_lines.specs.declared.parcel.Parcel.{Parcel}
use Rattle.world_events.specs.declared.happening.Sender.{Sender}
use Rattle.world_events.specs.declared.parcels.ReplyPath.{ReplyPath}
use Rattle.world_events.specs.Happening.{Asking, Happening, asked, asks, at_command, at_delivery, at_foreign, at_show, bill_named, delivered_to, numbered, on_bill, request_in}
use Rattle.platform_world.specs.Machine.{AreForListed, MachineRecord, receiver_of, shard_state}
use Rattle.platform_world.specs.Platforms.{PlatformsRecord, TakesAt, grouped, states_of}
use Rattle.platform_world.specs.Shard.{EndsAs, IsResolved, TakesAs, loosened}
use Rattle.platform_world.specs.Start.{AreLoosened, AreReadAgain, IsLoosenedAt}
use Rattle.platform_world.specs.declared.fate.Fate.{Fate}
use Rattle.platform_world.specs.declared.fate.FateEnd.{FateEnd}
use Rattle.platform_world.specs.declared.fate.FateEnd.TheVariants.{Whole, SignFault, Failed, Stuck, Short}
use Rattle.world_events.specs.Script.{IsNested, names_listed}
use Rattle.platform_world.specs.State.{AreFresh, frame_count, IsBetweenListed, IsPathBetweenListed, IsReached, MayAsk, MayTake, WorldState, world_of}
use Rattle.world_events.specs.Parcels.{message_parcel, reply_bill, reply_content, reply_parcel, sends}
use Rattle.platform_world.specs.Step.{IsAt}
use Rattle.platform_world.specs.World.{PlatformState, ShardState, WorldRecord, loose_frame, shard_at, with_shard}
use Rattle.platform_world.proofs.Attempts.{attempts_within}

-- what holds of all items holds of the one at a position
at_place : {X : Type 0} (P : X → Type 0) (xs : List X) (k : ℕ) (x : X) → All P xs → slice_get xs k ≡ Some x → P x
at_place P [] k x all is = cc is
at_place P (y ∷ ys) zero x all is = let same : y ≡ x = cc is in subst P same (All-head P y ys all)
at_place P (y ∷ ys) (suc k) x all is = at_place P ys k x (All-tail P y ys all) is

at_number : {X : Type 0} (P : X → Type 0) (xs : List X) (n : ℕ) (x : X) → All P xs → numbered n xs ≡ Some x → P x
at_number P xs n x all is = on_test (nat_eq n 0) is
  where
    on_test : (test : Bool) → cond test None (slice_get xs (n - 1)) ≡ Some x → P x
    on_test true none = cc none
    on_test false found = at_place P xs (n - 1) x all found

-- ---- diaries

-- a shard at a position is the one that was put there, or one that was there before
set_or_before : (shards : List ShardState) (i k : ℕ) (new s : ShardState)
    → slice_get (slice_set shards i new) k ≡ Some s → (s ≡ new) ⊎ (slice_get shards k ≡ Some s)
set_or_before [] i k new s is = inr is
set_or_before (x ∷ xs) zero zero new s is = inl (sym (let same : new ≡ s = cc is in same))
set_or_before (x ∷ xs) zero (suc k) new s is = inr is
set_or_before (x ∷ xs) (suc i) zero new s is = inr is
set_or_before (x ∷ xs) (suc i) (suc k) new s is = set_or_before xs i k new s is

put_or_before : (p : PlatformCode) (i : ℕ) (new : ShardState) (states : List PlatformState) (q : PlatformCode) (k : ℕ)
    (s : ShardState) → shard_at q k (with_shard p i new states) ≡ Some s
    → (s ≡ new) ⊎ (shard_at q k states ≡ Some s)
put_or_before p i new [] q k s is = inr is
put_or_before p i new (state ∷ states) q k s is =
    on_put (code_eq state.platform p) is (put_or_before p i new states q k s)
  where
    set : PlatformState
    set = record state { shards = slice_set state.shards i new }

    Further : Type 0
    Further = shard_at q k (with_shard p i new states) ≡ Some s → (s ≡ new) ⊎ (shard_at q k states ≡ Some s)

    on_here : (at_q : Bool)
        → option_and_then (λ (x : PlatformState). slice_get x.shards k)
        (cond at_q (Some set) (find (λ (x : PlatformState). code_eq x.platform q) states)) ≡ Some s
        → (s ≡ new) ⊎ (option_and_then (λ (x : PlatformState). slice_get x.shards k)
        (cond at_q (Some state) (find (λ (x : PlatformState). code_eq x.platform q) states)) ≡ Some s)
    on_here true found = set_or_before state.shards i k new s found
    on_here false found = inr found

    on_later : (at_q : Bool)
        → option_and_then (λ (x : PlatformState). slice_get x.shards k)
        (cond at_q (Some state) (find (λ (x : PlatformState). code_eq x.platform q) (with_shard p i new states)))
        ≡ Some s → Further
        → (s ≡ new) ⊎ (option_and_then (λ (x : PlatformState). slice_get x.shards k)
        (cond at_q (Some state) (find (λ (x : PlatformState). code_eq x.platform q) states)) ≡ Some s)
    on_later true found further = inr found
    on_later false found further = further found

    on_put : (at_p : Bool)
        → shard_at q k (cond at_p (set ∷ states) (state ∷ with_shard p i new states)) ≡ Some s → Further
        → (s ≡ new) ⊎ (shard_at q k (state ∷ states) ≡ Some s)
    on_put true found further = on_here (code_eq state.platform q) found
    on_put false found further = on_later (code_eq state.platform q) found further

-- each shard has at most so many frames, its loose frame included
abbrev AreWithin : List PlatformState → ℕ → Type 0
AreWithin states n = (p : PlatformCode) (i : ℕ) (s : ShardState) → shard_at p i states ≡ Some s → frame_count s ≤ n

-- what a frame more counts
with_one : (diary : List Frame) (frame : Option Frame)
    → length (with_frame diary frame) ≡ length diary + length (option_to_list frame)
with_one diary frame = length-append diary (option_to_list frame)

one_at_most : (frame : Option Frame) → length (option_to_list frame) ≤ 1
one_at_most None = omega arith
one_at_most (Some frame) = omega arith

-- what is loose is found out, and none is loose any more
resolved_count : (shard : ShardState) (kept : Bool) (found : ShardState) → IsResolved shard kept found
    → (frame_count found ≤ frame_count shard) × (found.loose ≡ None)
resolved_count shard true found (frame, was, is) =
    let loose : loose_frame shard ≡ Some frame = ap (option_and_then (λ (f : Option Frame). f)) was in
    let one : length (option_to_list (loose_frame shard)) ≡ 1 =
    ap (λ (f : Option Frame). length (option_to_list f)) loose in
    let size = length-append shard.diary (frame ∷ []) in
    let now : frame_count found ≡ length (shard.diary ++ frame ∷ []) + 0 = ap frame_count is in
    (omega (arith, size, now, one), ap (λ (s : ShardState). s.loose) is)
resolved_count shard false found is =
    let now : frame_count found ≡ length shard.diary + 0 = ap frame_count is in
    (omega (arith, now), ap (λ (s : ShardState). s.loose) is)

-- a shard whose diary has a frame more, and nothing that is loose more than that
written_count : (diary : List Frame) (frame : Option Frame) (loose : Option (Option Frame)) → loose ≡ None
    → length (with_frame diary frame) + length (option_to_list (option_and_then (λ (f : Option Frame). f) loose))
    ≤ length diary + 1
written_count diary frame loose none =
    let size = with_one diary frame in
    let one = one_at_most frame in
    let no : length (option_to_list (option_and_then (λ (f : Option Frame). f) loose)) ≡ 0 =
    ap (λ (l : Option (Option Frame)). length (option_to_list (option_and_then (λ (f : Option Frame). f) l))) none in
    omega (arith, size, one, no)

ended_count : (roster : RosterRecord) (p : PlatformCode) (found : ShardState) (now : Moment) (request : RequestRecord)
    (end : FateEnd) (out : Outcome) (after : ShardState) → found.loose ≡ None
    → EndsAs roster p found now request end out after → frame_count after ≤ frame_count found + 1
ended_count roster p found now request Whole out after none (inl t) =
    let now_is = ap frame_count t.after_is in
    let few = written_count found.diary t.step.frame found.loose none in
    omega (arith, now_is, few)
ended_count roster p found now request Whole out after none (inr full) =
    let same = ap frame_count full.after_is in omega (arith, same)
ended_count roster p found now request SignFault out after none (out_is, after_is) =
    let same = ap frame_count after_is in omega (arith, same)
ended_count roster p found now request Failed out after none t =
    let now_is : frame_count after ≡ length found.diary + 1 = ap frame_count t.after_is in omega (arith, now_is)
ended_count roster p found now request (Stuck i) out after none no_way = absurd no_way
ended_count roster p found now request Short out after none (out_is, after_is) =
    let same = ap frame_count after_is in omega (arith, same)

taken_count : (roster : RosterRecord) (p : PlatformCode) (i : ℕ) (shard : ShardState) (now : Moment)
    (request : RequestRecord) (fate : Fate) (out : Outcome) (later : ShardState)
    → TakesAs roster p i shard now request fate out later → frame_count later ≤ frame_count shard + 1
taken_count roster p i shard now request fate out later (inl unread) =
    let same = ap frame_count unread.refused.1 in omega (arith, same)
taken_count roster p i shard now request fate out later (inr t) =
    let found = resolved_count shard t.kept t.found t.resolved in
    let few = ended_count roster p t.found now request fate.end out later found.1 t.ends in
    let fewer = found.0 in
    omega (arith, few, fewer)

-- another shard with at most so many
within_put : (before : List PlatformState) (p : PlatformCode) (i : ℕ) (put : ShardState) (after : List PlatformState)
    (n m : ℕ) → AreWithin before n → after ≡ with_shard p i put before → frame_count put ≤ m → n ≤ m → AreWithin after m
within_put before p i put after n m within after_is few more q k s is =
    on_place (put_or_before p i put before q k s (ap (shard_at q k) (sym after_is) ∙ is))
  where
    on_place : (s ≡ put) ⊎ (shard_at q k before ≡ Some s) → frame_count s ≤ m
    on_place (inl same) = subst (λ (x : ShardState). frame_count x ≤ m) (sym same) few
    on_place (inr there) = let fewer = within q k s there in omega (arith, fewer, more)

-- a shard was asked
pub within_taken : (roster : RosterRecord) (before : List PlatformState) (p : PlatformCode) (i : ℕ) (now : Moment)
    (request : RequestRecord) (fate : Fate) (out : Outcome) (after : List PlatformState) (n : ℕ) → AreWithin before n
    → TakesAt roster before p i now request fate out after → AreWithin after (n + 1)
within_taken roster before p i now request fate out after n within t =
    let was = within p i t.shard t.is_asked in
    let few = taken_count roster p i t.shard now request fate out t.later t.takes in
    within_put before p i t.later after n (n + 1) within t.after_is (omega (arith, was, few)) (omega arith)

-- a platform started again
within_loosened : (p : PlatformCode) (i : ℕ) (before after : List PlatformState) (n : ℕ) → AreWithin before n
    → IsLoosenedAt p i before after → AreWithin after n
within_loosened p i before after n within t =
    within_put before p i (loosened t.shard) after n n within t.after_is (within p i t.shard t.is_there) (omega arith)

within_all_loosened : (p : PlatformCode) (i k : ℕ) (before after : List PlatformState) (n : ℕ) → AreWithin before n
    → AreLoosened p i k before after → AreWithin after n
within_all_loosened p i zero before after n within is =
    subst (λ (states : List PlatformState). AreWithin states n) (sym is) within
within_all_loosened p i (suc k) before after n within (between, first, rest) =
    within_all_loosened p (i + 1) k between after n (within_loosened p i before between n within first) rest

pub within_started : (p : PlatformCode) (i k : ℕ) (before : List PlatformState) (end : FateEnd) (kept : List ℕ)
    (after : List PlatformState) (n : ℕ) → AreWithin before n → AreReadAgain p i k before end kept after
    → AreWithin after n
within_started p i zero before end kept after n within (whole, none, is) =
    subst (λ (states : List PlatformState). AreWithin states n) (sym is) within
within_started p i (suc k) before end kept after n within (inl cut) = on_cause cut.cause
  where
    on_cause : ((end ≡ Stuck i) × AreLoosened p i (suc k) before after) ⊎ ((end ≡ Short) × IsLoosenedAt p i before after)
        → AreWithin after n
    on_cause (inl (stuck, are)) = within_all_loosened p i (suc k) before after n within are
    on_cause (inr (short, is)) = within_loosened p i before after n within is
within_started p i (suc k) before end kept after n within (inr (here, between, behind, read, kept_is, goes)) =
    let was = within p i read.shard read.is_there in
    let few = (resolved_count read.shard here read.found read.resolved).0 in
    within_started p (i + 1) k between end behind after n
    (within_put before p i read.found between n n within read.after_is (omega (arith, was, few)) (omega arith)) goes

-- what is found has at most as many
found_within : (s : ShardState) (kept : Bool) (found : ShardState) (n : ℕ) → IsResolved s kept found
    → frame_count s ≤ n → length found.diary ≤ n
found_within s kept found n resolved few =
    let fewer = (resolved_count s kept found resolved).0 in omega (arith, few, fewer)

-- where nothing was written
abbrev IsEmpty : ShardState → Type 0
IsEmpty s = (s.diary ≡ []) × (s.loose ≡ None)

none_counted : (s : ShardState) → IsEmpty s → frame_count s ≡ 0
none_counted s (empty, none) =
    let no_diary : length s.diary ≡ 0 = ap (λ (d : List Frame). length d) empty in
    let no_loose : length (option_to_list (loose_frame s)) ≡ 0 =
    ap (λ (l : Option (Option Frame)). length (option_to_list (option_and_then (λ (f : Option Frame). f) l))) none in
    omega (arith, no_diary, no_loose)

empty_within : (ps : List PlatformCode) (shards : List ShardState) → All IsEmpty shards → AreWithin (grouped ps shards) 0
empty_within [] shards empty p i s is = cc is
empty_within (q ∷ qs) shards empty p i s is =
    on_test (code_eq q p) is (empty_within qs (drop 16 shards) (All-drop IsEmpty 16 shards empty) p i s)
  where
    on_test : (test : Bool)
        → option_and_then (λ (x : PlatformState). slice_get x.shards i)
        (cond test (Some (record { platform = q; shards = take 16 shards }))
        (find (λ (x : PlatformState). code_eq x.platform p) (grouped qs (drop 16 shards)))) ≡ Some s
        → (shard_at p i (grouped qs (drop 16 shards)) ≡ Some s → frame_count s ≤ 0) → frame_count s ≤ 0
    on_test true found further =
        let none = none_counted s (at_place IsEmpty (take 16 shards) i s (All-take IsEmpty 16 shards empty) found) in
        omega (arith, none)
    on_test false found further = further found

pub fresh_reached : {M R : Type 0} (seen : M → MachineRecord) (w : WorldState M R) → AreFresh seen w.platforms.shards
    → w.sent ≡ [] → w.signed ≡ [] → w.fates ≡ [] → IsReached (world_of seen w) (length w.fates)
fresh_reached seen w fresh sent signed fates = record {
  written = subst (AreWithin (states_of seen w.platforms)) (sym (ap (λ (fs : List Fate). length fs) fates))
      (empty_within w.platforms.roster.platforms (map (λ m. shard_state (seen m)) w.platforms.shards)
      (All-map IsEmpty (λ m. shard_state (seen m)) w.platforms.shards fresh));
  between = subst (All (IsBetweenListed w.platforms.roster)) (sym sent) (All-nil (IsBetweenListed w.platforms.roster));
  named = subst (All IsChecksum) (sym signed) (All-nil IsChecksum);
}

-- ---- parcels

message_between : (roster : RosterRecord) (from : PlatformCode) (m : Message) → has_platform roster from ≡ true
    → has_platform roster (receiver_of m) ≡ true → IsBetweenListed roster (message_parcel from m)
message_between roster from (messages.Start to bill body) here there = record { from = here; to = there }
message_between roster from (messages.Put to bill reference checksum bytes) here there =
    record { from = here; to = there }
message_between roster from (messages.Finish to bill reference) here there = record { from = here; to = there }

messages_between : (roster : RosterRecord) (from : PlatformCode) (own : List Message)
    → has_platform roster from ≡ true → AreForListed roster own
    → All (IsBetweenListed roster) (map (message_parcel from) own)
messages_between roster from [] here are = All-nil (IsBetweenListed roster)
messages_between roster from (m ∷ own) here are =
    All-cons (IsBetweenListed roster) (message_parcel from m) (map (message_parcel from) own)
    (message_between roster from m here (All-head (λ x. has_platform roster (receiver_of x) ≡ true) m own are))
    (messages_between roster from own here (All-tail (λ x. has_platform roster (receiver_of x) ≡ true) m own are))

reply_between : (roster : RosterRecord) (from : PlatformCode) (sender : Option Sender) (bill : Option Checksum)
    (o : Option Content) → has_platform roster from ≡ true
    → IfSome sender (λ s. has_platform roster s.platform ≡ true)
    → All (IsBetweenListed roster) (option_to_list (option_map (reply_parcel from sender bill) o))
reply_between roster from sender bill None here there = All-nil (IsBetweenListed roster)
reply_between roster from None bill (Some content) here there =
    All-cons (IsBetweenListed roster) (reply_parcel from None bill content) [] (record { from = here; to = tt })
    (All-nil (IsBetweenListed roster))
reply_between roster from (Some sender) bill (Some content) here there =
    All-cons (IsBetweenListed roster) (reply_parcel from (Some sender) bill content) []
    (record { from = here; to = there }) (All-nil (IsBetweenListed roster))

pub sends_between : (roster : RosterRecord) (path : ReplyPath) (reply : Reply) (own : List Message)
    → IsPathBetweenListed roster path → AreForListed roster own
    → All (IsBetweenListed roster) (sends path.from path.sender path.kind path.brought reply own)
sends_between roster path reply own between are =
    All-append (IsBetweenListed roster) (map (message_parcel path.from) own)
    (option_to_list (option_map (reply_parcel path.from path.sender (option_or path.brought (reply_bill reply)))
    (reply_content path.kind reply)))
    (messages_between roster path.from own between.from are)
    (reply_between roster path.from path.sender (option_or path.brought (reply_bill reply))
    (reply_content path.kind reply) between.from between.sender)

-- ---- what stays so

-- other platforms with at most so many frames, a fate more or not
pub reached_by : {M R : Type 0} (seen : M → MachineRecord) (w : WorldState M R) (platforms : PlatformsRecord M R)
    (fates : List Fate) → IsReached (world_of seen w) (length w.fates) → platforms.roster ≡ w.platforms.roster
    → AreWithin (states_of seen platforms) (length fates)
    → IsReached (world_of seen (record { platforms = platforms; sent = w.sent; signed = w.signed; fates = fates }))
    (length fates)
reached_by seen w platforms fates reached same within = record {
  written = within;
  between = subst (λ (r : RosterRecord). All (IsBetweenListed r) w.sent) (sym same) reached.between;
  named = reached.named;
}

-- a fate more
pub fates_more : (fates after : List Fate) (fate : Fate) → after ≡ fates ++ fate ∷ [] → length after ≡ length fates + 1
fates_more fates after fate is =
    ap (λ (fs : List Fate). length fs) is ∙ length-append fates (fate ∷ [])

pub within_one_more : (states : List PlatformState) (n m : ℕ) → AreWithin states n → n ≤ m → AreWithin states m
within_one_more states n m within more p i s is = let few = within p i s is in omega (arith, few, more)

-- what was sent, and the bills that were signed, are these
abbrev with_lists : WorldRecord → List Parcel → List Checksum → WorldRecord
with_lists w sent signed = record { roster = w.roster; platforms = w.platforms; sent = sent; signed = signed }

pub reached_sent : (w : WorldRecord) (n : ℕ) (sent parcels : List Parcel) (signed : List Checksum) → IsReached w n
    → All (IsBetweenListed w.roster) parcels → sent ≡ w.sent ++ parcels → signed ≡ w.signed
    → IsReached (with_lists w sent signed) n
reached_sent w n sent parcels signed reached between sent_is same_signed = record {
  written = reached.written;
  between = subst (All (IsBetweenListed w.roster)) (sym sent_is)
      (All-append (IsBetweenListed w.roster) w.sent parcels reached.between between);
  named = subst (All IsChecksum) (sym same_signed) reached.named;
}

optional_named : (bill : Option Checksum) → IfSome bill IsChecksum → All IsChecksum (option_to_list bill)
optional_named None named = All-nil IsChecksum
optional_named (Some bill) named = All-cons IsChecksum bill [] named (All-nil IsChecksum)

pub reached_told : (w : WorldRecord) (n : ℕ) (sent parcels : List Parcel) (signed : List Checksum)
    (bill : Option Checksum) → IsReached w n → All (IsBetweenListed w.roster) parcels → IfSome bill IsChecksum
    → sent ≡ w.sent ++ parcels → signed ≡ w.signed ++ option_to_list bill → IsReached (with_lists w sent signed) n
reached_told w n sent parcels signed bill reached between named sent_is signed_is = record {
  written = reached.written;
  between = subst (All (IsBetweenListed w.roster)) (sym sent_is)
      (All-append (IsBetweenListed w.roster) w.sent parcels reached.between between);
  named = subst (All IsChecksum) (sym signed_is)
      (All-append IsChecksum w.signed (option_to_list bill) reached.named (optional_named bill named));
}

-- ---- bills by their names

named_checksum : (signed : List Checksum) (bill : BillName) (name : Checksum) → All IsChecksum signed
    → IsBillName bill → bill_named signed bill ≡ Some name → IsChecksum name
named_checksum signed (Name other) name named form is =
    let same : other ≡ name = cc is in subst IsChecksum same form
named_checksum signed (Number n) name named form is = at_number IsChecksum signed n name named is

begins_none : (kind : Kind) → kind ≢ kinds.Sign → begins_a_bill kind ≡ false
begins_none kinds.Sign other = absurd (other refl)
begins_none kinds.Issue other = refl
begins_none kinds.Endorse other = refl
begins_none kinds.Transfer other = refl
begins_none kinds.SurrenderForDelivery other = refl
begins_none kinds.SurrenderForAmendment other = refl
begins_none kinds.SurrenderAccepted other = refl
begins_none kinds.SurrenderRefused other = refl

-- ---- events

module _ (w : WorldRecord) (n : ℕ) (reached : IsReached w n) (few : n < 4294967295) where
  -- a request to a listed platform that may be any bytes
  asked_may : (at : PlatformCode) (now : Option Moment) (request : RequestRecord) (a : Asking)
      → has_platform w.roster at ≡ true
      → ((time : Moment) (found : ShardState) → IsAt now time → length found.diary ≤ n
      → MayBeAsked found.diary time request)
      → asked at now request ≡ asks a → MayAsk w a
  asked_may at now request a listed may is =
      let same : record { at = at; now = now; request = request; sender = None } ≡ a = cc is in
      subst (MayAsk w) same (record {
        listed = listed;
        sender = tt;
        may = λ time s found kept at_it there resolved.
            may time found at_it (found_within s kept found n resolved (reached.written at (shard_of request) s there));
      })

  -- one for a bill that the script names
  on_name : (o : Option Checksum) (happens : Checksum → Happening) (a : Asking) → on_bill o happens ≡ asks a
      → (name : Checksum) × (o ≡ Some name) × (happens name ≡ asks a)
  on_name None happens a is = cc is
  on_name (Some name) happens a is = (name, refl, is)

  command_may : (at : PlatformCode) (party : Party) (now : Moment) (command : CommandRecord) (a : Asking)
      → has_platform w.roster at ≡ true → IsParty party → IsMoment now → IsCommand command → Nests command
      → ((found : ShardState) → length found.diary ≤ n → HasAttempts command (newest_first found.diary))
      → asked at (Some now) (requests.commands party command) ≡ asks a → MayAsk w a
  command_may at party now command a listed by time form nests attempts is =
      asked_may at (Some now) (requests.commands party command) a listed
      (λ moment found at_it within. (
        record { by = by; form = form; nests = nests; time = subst IsMoment (sym at_it) time },
        attempts found within,
      )) is

  deed_may : (at : PlatformCode) (party : Party) (now : Moment) (deed : DeedRecord) (a : Asking)
      → has_platform w.roster at ≡ true → IsParty party → IsMoment now → IsDeed deed
      → IsNested (events.commands at party now deed) → at_command w.signed at party now deed ≡ asks a → MayAsk w a
  deed_may at party now (events.signs document) a listed by time form nests is =
      command_may at party now (commands.signs document) a listed by time form nests (λ found within. tt) is
  deed_may at party now (events.acts bill kind recipient) a listed by time form nests is =
      let (name, named, goes) = on_name (bill_named w.signed bill) _ a is in
      command_may at party now (commands.acts name kind recipient) a listed by time
      (named_checksum w.signed bill name reached.named form.0 named, begins_none kind form.1, form.2) tt
      (λ found within. let attempts = attempts_within found.diary name in omega (arith, attempts, within, few)) goes
  deed_may at party now (events.attaches bill name media bytes) a listed by time form nests is =
      let (checksum, named, goes) = on_name (bill_named w.signed bill) _ a is in
      command_may at party now (commands.attaches checksum name media bytes) a listed by time
      (named_checksum w.signed bill checksum reached.named form.0 named, form.1, form.2, form.3) tt (λ found within. tt) goes

  -- what was delivered may be any bytes
  content_may : (diary : List Frame) (time : Moment) (bill : Checksum) (content : Content)
      → MayBeAsked diary time (request_in bill content)
  content_may diary time bill (contents.Start body) = tt
  content_may diary time bill (contents.Put reference checksum bytes) = tt
  content_may diary time bill (contents.Finish reference) = tt
  content_may diary time bill (contents.StartReply bytes) = tt
  content_may diary time bill (contents.FinishReply bytes) = tt

  parcel_may : (to : Option PlatformCode) (parcel : Parcel) (a : Asking)
      → IfSome to (λ p. has_platform w.roster p ≡ true) → IsBetweenListed w.roster parcel
      → delivered_to to parcel ≡ asks a → MayAsk w a
  parcel_may None parcel a listed between is = cc is
  parcel_may (Some to) parcel a listed between is =
      let same : record {
        at = to;
        now = None;
        request = request_in parcel.bill parcel.content;
        sender = Some (record { platform = parcel.from; bill = parcel.bill });
      } ≡ a = cc is in
      subst (MayAsk w) same (record {
        listed = listed;
        sender = between.from;
        may = λ time s found kept at_it there resolved. content_may found.diary time parcel.bill parcel.content;
      })

  goes_to : (at to : Option PlatformCode) → option_map_or (has_platform w.roster) at true ≡ true
      → IfSome to (λ p. has_platform w.roster p ≡ true)
      → IfSome (option_or at to) (λ p. has_platform w.roster p ≡ true)
  goes_to None to listed there = there
  goes_to (Some p) to listed there = listed

  delivery_may : (at : Option PlatformCode) (number : ℕ) (o : Option Parcel) (a : Asking) → numbered number w.sent ≡ o
      → option_map_or (has_platform w.roster) at true ≡ true → at_delivery at o ≡ asks a → MayAsk w a
  delivery_may at number None a found listed is = cc is
  delivery_may at number (Some parcel) a found listed is =
      let between = at_number (IsBetweenListed w.roster) w.sent number parcel reached.between found in
      parcel_may (option_or at parcel.to) parcel a (goes_to at parcel.to listed between.to) between is

  -- bytes from outside
  foreign_may : (at : PlatformCode) (bytes : ForeignRecord) (a : Asking) → has_platform w.roster at ≡ true
      → at_foreign w.signed at bytes ≡ asks a → MayAsk w a
  foreign_may at (events.starts body) a listed is = asked_may at None _ a listed (λ time found at_it within. tt) is
  foreign_may at (events.puts reference checksum bytes) a listed is =
      asked_may at None _ a listed (λ time found at_it within. tt) is
  foreign_may at (events.finishes reference) a listed is = asked_may at None _ a listed (λ time found at_it within. tt) is
  foreign_may at (events.start_replies bill text) a listed is =
      let (name, named, goes) = on_name (bill_named w.signed bill) _ a is in
      asked_may at None (requests.start_replies name text) a listed (λ time found at_it within. tt) goes
  foreign_may at (events.finish_replies bill text) a listed is =
      let (name, named, goes) = on_name (bill_named w.signed bill) _ a is in
      asked_may at None (requests.finish_replies name text) a listed (λ time found at_it within. tt) goes

  -- an event of a line may be taken
  pub may_take : (event : EventRecord) → IsEvent event → IsNested event → names_listed w.roster event ≡ true
      → MayTake w event
  may_take (events.commands at party now deed) form nests listed a is =
      deed_may at party now deed a listed form.1 form.2 form.3 nests is
  may_take (events.delivers number at) form nests listed a is =
      delivery_may at number (numbered number w.sent) a refl listed is
  may_take (events.restarts at) form nests listed a is = cc is
  may_take (events.resends at bill) form nests listed a is =
      let (name, named, goes) = on_name (bill_named w.signed bill) _ a is in
      asked_may at None (requests.resends name) a listed (λ time found at_it within. tt) goes
  may_take (events.asks at bill) form nests listed a is =
      let (name, named, goes) = on_name (bill_named w.signed bill) _ a is in
      asked_may at None (requests.asks name) a listed (λ time found at_it within. tt) goes
  may_take (events.receives at bytes) form nests listed a is = foreign_may at bytes a listed is
  may_take (events.shows number) form nests listed a is = shows_nothing (numbered number w.sent) is
    where
      shows_nothing : (o : Option Parcel) → at_show o ≡ asks a → MayAsk w a
      shows_nothing None no_way = cc no_way
      shows_nothing (Some parcel) no_way = cc no_way
