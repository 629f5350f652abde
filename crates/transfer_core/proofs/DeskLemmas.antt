-- A shard as a desk: what it gives suits its requests, and each of its calls goes on with a run.
use Rattle.std.proofs.Common.{◌≡◌, ◌++◌, ◌∷◌, [], ℕ, Bool, true, false, List, refl, sym, subst, arith}
use Rattle.ebl_base.specs.declared.moment.Moment.{Moment}
use Rattle.ebl_base.specs.declared.platform_code.PlatformCode.{PlatformCode}
use Rattle.signed_envelope.specs.KeyRing.{Keys}
use Rattle.party_roster.specs.RosterRecord.{RosterRecord}
use Rattle.holder_commands.specs.Command.{CommandRecord, signs, acts, attaches}
use Rattle.platform_requests.specs.Desk.{Call, IsFlatEnough, MayAsk, MayGive, NamesMissing}
use Rattle.platform_requests.specs.Request.{RequestRecord, commands, starts, puts, finishes, start_replies, finish_replies, resends, asks}
use Rattle.platform_requests.specs.declared.outcome.Outcome.{Outcome}
use Rattle.platform_requests.specs.declared.reply.Reply.{Reply}
use Rattle.platform_requests.specs.declared.reply.Reply.TheVariants as replies
use Rattle.bill_diary.specs.declared.frame.Frame.{Frame}
use Rattle.bill_diary.specs.Sound.{IsSound}
use Rattle.transfer_judge.specs.PlannedTexts.{Nests}
use Rattle.platform_machine.specs.Complete.{is_failure, is_refusal}
use Rattle.platform_machine.specs.Machine.{MayBeAsked}
use Rattle.transfer_core.specs.Shard.{IsStepped, IsUnchanged, ShardRecord}
use Rattle.transfer_core.specs.ShardDesk.{AreTaken, IsAskable, IsTaken}
use Rattle.transfer_core.proofs.GiveLemmas.{messages_suit, names_missing, nothing_suits}

-- ---- what may be asked

nests : (command : CommandRecord) → IsFlatEnough command → Nests command
nests (signs document) flat = flat
nests (acts bill kind recipient) flat = tt
nests (attaches bill name media bytes) flat = tt

pub asked : (diary : List Frame) (now : Moment) (request : RequestRecord) → MayAsk request
    → IsAskable diary now request → MayBeAsked diary now request
asked diary now (commands party command) may can =
    (record { by = can.0; form = may.0; nests = nests command may.1; time = can.1 }, can.2)
asked diary now (starts body) may can = tt
asked diary now (puts reference checksum bytes) may can = tt
asked diary now (finishes reference) may can = tt
asked diary now (start_replies bill bytes) may can = tt
asked diary now (finish_replies bill bytes) may can = tt
asked diary now (resends bill) may can = tt
asked diary now (asks bill) may can = tt

-- ---- what is given

failure_refuses : (reply : Reply) → is_failure reply ≡ true → is_refusal reply ≡ true
failure_refuses (replies.Done view) is = cc is
failure_refuses (replies.Started reference missing) is = cc is
failure_refuses replies.Stored is = cc is
failure_refuses (replies.Answer response text) is = cc is
failure_refuses reply is = refl

failure_names : (reply : Reply) → is_failure reply ≡ true → NamesMissing reply
failure_names (replies.Started reference missing) is = absurd (cc is)
failure_names reply is = tt

pub gives : (roster : RosterRecord) (keys : Keys) (me : PlatformCode) (before : List Frame) (now : Moment)
    (request : RequestRecord) (out : Outcome) (after : List Frame) → IsSound me before
    → (is_failure out.reply ≡ false → IsStepped roster keys me before now request out after)
    → (is_refusal out.reply ≡ true → IsUnchanged before out after) → MayGive request out.messages
gives roster keys me before now request out after sound stepped refused = on_test (is_failure out.reply) refl
  where
    on_test : (b : Bool) → is_failure out.reply ≡ b → MayGive request out.messages
    on_test true fails =
        let unchanged = refused (failure_refuses out.reply fails) in
        subst (MayGive request) (sym unchanged.1) (nothing_suits request)
    on_test false not =
        let is = stepped not in
        messages_suit roster keys me before now request
        (record { frame = is.0; reply = out.reply; messages = out.messages }) sound is.1

pub names : (roster : RosterRecord) (keys : Keys) (me : PlatformCode) (before : List Frame) (now : Moment)
    (request : RequestRecord) (out : Outcome) (after : List Frame) → IsSound me before
    → (is_failure out.reply ≡ false → IsStepped roster keys me before now request out after) → NamesMissing out.reply
names roster keys me before now request out after sound stepped = on_test (is_failure out.reply) refl
  where
    on_test : (b : Bool) → is_failure out.reply ≡ b → NamesMissing out.reply
    on_test true fails = failure_names out.reply fails
    on_test false not =
        let is = stepped not in
        names_missing roster keys me before now request
        (record { frame = is.0; reply = out.reply; messages = out.messages }) sound is.1

-- ---- runs

pub taken_more : {G : Type 0} (keys : G → Keys) (faults : G → ℕ) (start : ShardRecord G) (calls : List Call)
    (middle : ShardRecord G) (call : Call) (end : ShardRecord G) → AreTaken keys faults start calls middle
    → IsTaken keys faults middle call end → AreTaken keys faults start (calls ++ call ∷ []) end
taken_more keys faults start [] middle call end are is =
    (end, subst (λ (s : ShardRecord _). IsTaken keys faults s call end) (sym are) is, refl)
taken_more keys faults start (c ∷ calls) middle call end are is =
    (are.0, are.1, taken_more keys faults are.0 calls middle call end are.2 is)

-- memory ran out: nothing changed
nothing_taken : {G : Type 0} (keys : G → Keys) (faults : G → ℕ) (shard : ShardRecord G) (now : Moment)
    (request : RequestRecord)
    → IsTaken keys faults shard
    (record { now = now; request = request; outcome = record { reply = replies.NoMemory; messages = [] } }) shard
nothing_taken keys faults shard now request = record {
  step = λ is. cc is;
  refused = λ is. (refl, refl);
  sign = λ is. cc is;
  no_disk = refl;
  me = refl;
  roster = refl;
  same = refl;
  later = omega arith;
}

pub not_taken : {G : Type 0} (keys : G → Keys) (faults : G → ℕ) (shard : ShardRecord G) (now : Moment)
    (request : RequestRecord) (out : Outcome) → out ≡ record { reply = replies.NoMemory; messages = [] }
    → IsTaken keys faults shard (record { now = now; request = request; outcome = out }) shard
not_taken keys faults shard now request out is =
    subst (λ (o : Outcome). IsTaken keys faults shard (record { now = now; request = request; outcome = o }) shard)
    (sym is) (nothing_taken keys faults shard now request)
