-- The messages and the reply of a step suit its request: of a Resend at most one message, a Start; of a reply to a start
-- at most 16 Puts and then at most one Finish; of a reply to a finish none; and a Started names 1 to 16 documents.
use Rattle.std.proofs.Common.{◌≡◌, ◌≤◌, ℕ, suc, ◌++◌, ◌∷◌, [], Bool, true, false, cond, List, inl, inr, Option, Some, None, Ok, Err, length, refl, sym, subst, ◌∙◌, arith}
use Rattle.std.specs.Prelude.{◌&&◌, IfSome, IsTrue, find, option_map}
use Rattle.std.specs.Set.{is_member}
use Rattle.std.specs.List.{flat_map, list_all}
use Rattle.std.specs.Option.{option_to_list}
use Rattle.ebl_base.specs.declared.chain.ChainLink.{ChainLink}
use Rattle.ebl_base.specs.declared.checksum.Checksum.{Checksum}
use Rattle.ebl_base.specs.declared.evidence.Evidence.{Evidence}
use Rattle.ebl_base.specs.declared.moment.Moment.{Moment}
use Rattle.ebl_base.specs.declared.party.Party.{Party}
use Rattle.ebl_base.specs.declared.platform_code.PlatformCode.{PlatformCode}
use Rattle.ebl_base.specs.Checksum.{checksum_eq}
use Rattle.ebl_base.specs.PlatformCode.{code_eq}
use Rattle.signed_envelope.specs.KeyRing.{Keys}
use Rattle.envelope_manifest.specs.declared.manifest.Manifest.{Manifest}
use Rattle.envelope_manifest.specs.declared.piece.Piece.{Piece}
use Rattle.party_roster.specs.RosterRecord.{RosterRecord, knows}
use Rattle.holder_commands.specs.Command.{CommandRecord, signs, acts, attaches}
use Rattle.pint_responses.specs.Response.{IsSealable}
use Rattle.pint_responses.specs.declared.response.Response.{Response}
use Rattle.platform_requests.specs.Desk.{ArePutsAndFinish, MayGive, NamesMissing, is_put}
use Rattle.platform_requests.specs.Request.{RequestRecord, commands, starts, puts, finishes, start_replies, finish_replies, resends, asks}
use Rattle.platform_requests.specs.declared.message.Message.{Message}
use Rattle.platform_requests.specs.declared.message.Message.TheVariants as messages
use Rattle.platform_requests.specs.declared.reply.Reply.{Reply}
use Rattle.bill_chain.specs.Chain.{last_of}
use Rattle.bill_diary.specs.declared.record.Record.{Record}
use Rattle.bill_diary.specs.declared.record.Record.TheVariants.{Signed, Acted, Attached, Parted, Settled, Regained, Begun, Stored, Taken, Declined}
use Rattle.bill_diary.specs.declared.frame.Frame.{Frame}
use Rattle.bill_diary.specs.History.{history, newest_first, of_bill}
use Rattle.bill_diary.specs.Pieces.{missing_of}
use Rattle.bill_diary.specs.Place.{place_of}
use Rattle.bill_diary.specs.Receiving.{Declination, is_taken, last_declined}
use Rattle.bill_diary.specs.Searches.{first_bytes, last_parted_record}
use Rattle.bill_diary.specs.Sound.{IsSound, IsSoundHistory, MayFollow, is_parted}
use Rattle.bill_diary.proofs.HistoryLemmas.{history_of_sound}
use Rattle.transfer_judge.specs.declared.judgement.Judgement.{Judgement}
use Rattle.transfer_judge.specs.declared.judgement.Judgement.TheVariants as judgements
use Rattle.transfer_judge.specs.declared.planned.Planned.TheVariants.{Nothing, Add, Part}
use Rattle.transfer_judge.specs.declared.planned.PlanRefusal.{PlanRefusal}
use Rattle.transfer_judge.specs.declared.planned.PlanRefusal.TheVariants as refusals
use Rattle.transfer_judge.specs.Dispute.{dispute_of}
use Rattle.transfer_judge.specs.Judgement.{judgement_at_place, judgement_by, judgement_here, judgement_of, on_declined, on_dispute, on_last, on_missing, on_receiver, on_receiver_here, receiver_of}
use Rattle.transfer_judge.specs.Plan.{Plan, plan_of}
use Rattle.platform_machine.specs.declared.step.Step.{Step}
use Rattle.platform_machine.specs.declared.subject.Subject.{Subject}
use Rattle.platform_machine.specs.Answer.{subject_of}
use Rattle.platform_machine.specs.Commanding.{FollowsPlan, reply_to}
use Rattle.platform_machine.specs.Hearing.{StepsAtAnswer}
use Rattle.platform_machine.specs.Judged.{response_for}
use Rattle.platform_machine.specs.Machine.{Steps}
use Rattle.platform_machine.specs.Receiving.{SaysAtStart, judgement_at_start}
use Rattle.platform_machine.specs.Step.{Answers, IsDone, OnlyReplies}
use Rattle.platform_machine.specs.Transfer.{TransferRecord, IsUnderWay, put_of, reference_at, uploads_of}
use Rattle.platform_machine.proofs.SealLemmas.{sealable_at_start}

-- ---- a judgement that finds documents missing names one at least

abbrev NamesSome : Judgement → Type 0
NamesSome (judgements.Missing checksums) = 1 ≤ length checksums
NamesSome judgement = Unit {0}

some_missing : (checksums : List Checksum) → NamesSome (on_missing checksums)
some_missing [] = tt
some_missing (c ∷ cs) = omega arith

some_if : (b : Bool) (x y : Judgement) → NamesSome x → NamesSome y → NamesSome (cond b x y)
some_if true x y f g = f
some_if false x y f g = g

some_dispute : (o : Option Evidence) (rest : Judgement) → NamesSome rest → NamesSome (on_dispute o rest)
some_dispute None rest f = f
some_dispute (Some evidence) rest f = tt

some_declined : (o : Option Declination) (rest : Judgement) → NamesSome rest → NamesSome (on_declined o rest)
some_declined None rest f = f
some_declined (Some declined) rest f = tt

some_here : (me : PlatformCode) (o : Option Party) (rest : Party → Judgement) → ((p : Party) → NamesSome (rest p))
    → NamesSome (on_receiver_here me o rest)
some_here me None rest f = tt
some_here me (Some p) rest f = some_if (code_eq p.platform me) (rest p) judgements.Elsewhere (f p) tt

some_last : (o : Option ChainLink) (rest : ChainLink → Judgement) → ((l : ChainLink) → NamesSome (rest l))
    → NamesSome (on_last o rest)
some_last None rest f = tt
some_last (Some l) rest f = f l

some_at_place : (roster : RosterRecord) (h : List Record) (receiver : Party) (chain : List ChainLink)
    (manifest : Manifest) → NamesSome (judgement_at_place roster h receiver chain manifest)
some_at_place roster h receiver chain manifest =
    some_dispute (dispute_of (place_of h) chain) (on_receiver roster receiver (on_missing (missing_of manifest h)))
    (some_if (knows roster receiver) (on_missing (missing_of manifest h)) judgements.Unknown
    (some_missing (missing_of manifest h)) tt)

some_of : (roster : RosterRecord) (me : PlatformCode) (bill : Checksum) (records : List Record)
    (chain : List ChainLink) (manifest : Manifest) → NamesSome (judgement_of roster me bill records chain manifest)
some_of roster me bill records chain manifest =
    some_last (last_of chain) (λ last. on_receiver_here me (receiver_of chain)
    (λ receiver. judgement_here roster bill records last.name receiver chain manifest)) (λ last.
    some_here me (receiver_of chain) (λ receiver. judgement_here roster bill records last.name receiver chain manifest)
    (λ receiver.
    let rest = judgement_at_place roster (of_bill bill records) receiver chain manifest in
    some_if (is_taken last.name records) judgements.Duplicate (on_declined (last_declined last.name records) rest) tt
    (some_declined (last_declined last.name records) rest
    (some_at_place roster (of_bill bill records) receiver chain manifest))))

some_by : (roster : RosterRecord) (me : PlatformCode) (records : List Record) (chain : List ChainLink)
    (manifest : Manifest) → NamesSome (judgement_by roster me records chain manifest)
some_by roster me records chain manifest =
    some_last (last_of chain) (λ last. judgement_of roster me last.entry.bill records chain manifest)
    (λ last. some_of roster me last.entry.bill records chain manifest)

-- ---- a Started names its documents

says_names : (keys : Keys) (me : PlatformCode) (n : Subject) (j : Judgement) (reply : Reply) → NamesSome j
    → IsSealable (response_for n j) → SaysAtStart keys me n j reply → NamesMissing reply
says_names keys me n judgements.Elsewhere reply some sealable s = subst NamesMissing (sym s.reply_is) tt
says_names keys me n judgements.Duplicate reply some sealable s = subst NamesMissing (sym s.reply_is) tt
says_names keys me n (judgements.Declined code reason evidence) reply some sealable s =
    subst NamesMissing (sym s.reply_is) tt
says_names keys me n (judgements.Parts evidence) reply some sealable s = subst NamesMissing (sym s.reply_is) tt
says_names keys me n judgements.Unknown reply some sealable s = subst NamesMissing (sym s.reply_is) tt
says_names keys me n (judgements.Missing checksums) reply some sealable s =
    subst NamesMissing (sym s) (some, sealable.missing)
says_names keys me n judgements.Accept reply some sealable s = subst NamesMissing (sym s.reply_is) tt

only_names : {reply : Reply} (step : Step) → NamesMissing reply → OnlyReplies reply step → NamesMissing step.reply
only_names step names o = subst NamesMissing (sym o.reply_is) names

answer_names : {keys : Keys} {me : PlatformCode} {frame : Option Frame} {response : Response} (step : Step)
    → Answers keys me frame response step → NamesMissing step.reply
answer_names step a = subst NamesMissing (sym a.says.reply_is) tt

done_names : {bill : Checksum} {diary : List Frame} {frame : Option Frame} {sent : List Message} (step : Step)
    → IsDone bill diary frame sent step → NamesMissing step.reply
done_names step d = subst NamesMissing (sym d.reply_is) tt

refusal_names : (refusal : PlanRefusal) → NamesMissing (reply_to refusal)
refusal_names refusals.NotOurs = tt
refusal_names (refusals.Document fault) = tt
refusal_names refusals.NotCarrier = tt
refusal_names refusals.KnownBill = tt
refusal_names (refusals.NotHere place) = tt
refusal_names (refusals.NoParty party) = tt
refusal_names (refusals.NotAllowed rule) = tt
refusal_names (refusals.Limit limit) = tt
refusal_names refusals.NoMemory = tt

plan_names : (keys : Keys) (me : PlatformCode) (diary : List Frame) (command : CommandRecord) (plan : Plan) (step : Step)
    → FollowsPlan keys me diary command plan step → NamesMissing step.reply
plan_names keys me diary command (Err refusal) step f = only_names step (refusal_names refusal) f
plan_names keys me diary (signs document) (Ok Nothing) step f = absurd f
plan_names keys me diary (acts bill kind recipient) (Ok Nothing) step f = absurd f
plan_names keys me diary (attaches bill name media bytes) (Ok Nothing) step f = done_names step f
plan_names keys me diary command (Ok (Add r)) step f = done_names step f
plan_names keys me diary command (Ok (Part entry documents to)) step f = done_names step f.parts.done

heard_names : (keys : Keys) (diary : List Frame) (bill : Checksum) (bytes : List ℕ) (step : Step)
    → StepsAtAnswer keys diary bill bytes step → NamesMissing step.reply
heard_names keys diary bill bytes step (inl (reason, ignored, o)) = only_names step tt o
heard_names keys diary bill bytes step (inr (written, ended, d)) = done_names step d

pub names_missing : (roster : RosterRecord) (keys : Keys) (me : PlatformCode) (diary : List Frame) (now : Moment)
    (request : RequestRecord) (step : Step) → IsSound me diary → Steps roster keys me diary now request step
    → NamesMissing step.reply
names_missing roster keys me diary now (commands party command) step sound s =
    plan_names keys me diary command (plan_of roster me (newest_first diary) party command now) step s
names_missing roster keys me diary now (starts body) step sound (inl (refusal, refused, a)) = answer_names step a
names_missing roster keys me diary now (starts body) step sound (inr (shown, shows, judged)) =
    says_names keys me (subject_of shown.manifest) (judgement_at_start roster me diary shown) step.reply
    (some_by roster me (newest_first diary) shown.chain shown.manifest)
    (sealable_at_start roster keys me diary body shown sound shows) judged.says
names_missing roster keys me diary now (puts reference checksum bytes) step sound (inl (unknown, o)) =
    only_names step tt o
names_missing roster keys me diary now (puts reference checksum bytes) step sound (inr (b, is, inl (unlisted, a))) =
    answer_names step a
names_missing roster keys me diary now (puts reference checksum bytes) step sound (inr (b, is, inr (piece, listed, inl (misfits, a)))) =
    answer_names step a
names_missing roster keys me diary now (puts reference checksum bytes) step sound (inr (b, is, inr (piece, listed, inr (fits, stored)))) =
    subst NamesMissing (sym stored.reply_is) tt
names_missing roster keys me diary now (finishes reference) step sound (inl (unknown, o)) = only_names step tt o
names_missing roster keys me diary now (finishes reference) step sound (inr (b, is, a)) = answer_names step a
names_missing roster keys me diary now (start_replies bill bytes) step sound (inl (begins, inl (reason, ignored, o))) =
    only_names step tt o
names_missing roster keys me diary now (start_replies bill bytes) step sound (inl (begins, inr (sent, upload, d))) =
    done_names step d
names_missing roster keys me diary now (start_replies bill bytes) step sound (inr (begins, s)) =
    heard_names keys diary bill bytes step s
names_missing roster keys me diary now (finish_replies bill bytes) step sound s = heard_names keys diary bill bytes step s
names_missing roster keys me diary now (resends bill) step sound (inl (nothing, o)) = only_names step tt o
names_missing roster keys me diary now (resends bill) step sound (inr (sent, resent, d)) = done_names step d
names_missing roster keys me diary now (asks bill) step sound s = done_names step s

-- ---- messages

-- no message suits every request
pub nothing_suits : (request : RequestRecord) → MayGive request []
nothing_suits (commands party command) = tt
nothing_suits (starts body) = tt
nothing_suits (puts reference checksum bytes) = tt
nothing_suits (finishes reference) = tt
nothing_suits (start_replies bill bytes) = ([], [], refl, refl, omega arith, inl refl)
nothing_suits (finish_replies bill bytes) = refl
nothing_suits (resends bill) = inl refl
nothing_suits (asks bill) = tt

-- the manifest of a Parted lists at most 16 documents
abbrev IfParted : Record → Type 0
IfParted (Parted bill link manifest text) = length manifest.documents ≤ 16
IfParted r = Unit {0}

if_parted : (me : PlatformCode) (records h : List Record) (r : Record) → MayFollow me records h r → IfParted r
if_parted me records h (Parted b l m t) may = may.manifest_form.documents.count
if_parted me records h (Signed b x t) may = tt
if_parted me records h (Acted b t) may = tt
if_parted me records h (Attached b q t) may = tt
if_parted me records h (Settled b e) may = tt
if_parted me records h (Regained b e) may = tt
if_parted me records h (Begun b c m t) may = tt
if_parted me records h (Stored b e x t) may = tt
if_parted me records h (Taken b e) may = tt
if_parted me records h (Declined b e x q v) may = tt

parted_found : (me : PlatformCode) (h : List Record) → IsSoundHistory me h → (r : Record)
    → last_parted_record h ≡ Some r → IfParted r
parted_found me [] sound r is = cc is
parted_found me (x ∷ h) sound r is = on_test (is_parted x) is (parted_found me h sound.1 r)
  where
    on_test : (b : Bool) → cond b (Some x) (find is_parted h) ≡ Some r
        → (last_parted_record h ≡ Some r → IfParted r) → IfParted r
    on_test true found further =
        let same : x ≡ r = cc found in
        subst IfParted same (if_parted me h h x sound.0)
    on_test false found further = further found

-- one Put more, if there is one
one_more : (o : Option Message) (rest : List Message) (n : ℕ) → IfSome o (λ m. IsTrue (is_put m))
    → IsTrue (list_all is_put rest) → length rest ≤ n
    → IsTrue (list_all is_put (option_to_list o ++ rest)) × (length (option_to_list o ++ rest) ≤ suc n)
one_more None rest n is all fits = (all, omega (arith, fits))
one_more (Some m) rest n is all fits = (both (is_put m) (list_all is_put rest) is all, omega (arith, fits))
  where
    both : (a b : Bool) → IsTrue a → IsTrue b → IsTrue (a && b)
    both true b one two = two
    both false b one two = one

is_a_put : (bill : Checksum) (h : List Record) (t : TransferRecord) (missing : List Checksum) (piece : Piece)
    → IfSome (put_of bill h t missing piece) (λ m. IsTrue (is_put m))
is_a_put bill h t missing piece = on_test (is_member checksum_eq missing piece.checksum) (first_bytes piece.checksum h)
  where
    on_test : (b : Bool) (o : Option (List ℕ))
        → IfSome (cond b (option_map (λ bytes. messages.Put t.to bill (reference_at bill t) piece.checksum bytes) o) None)
        (λ m. IsTrue (is_put m))
    on_test true None = tt
    on_test true (Some bytes) = refl
    on_test false o = tt

-- each Put is one, and there are no more of them than documents
puts_are : (bill : Checksum) (h : List Record) (t : TransferRecord) (missing : List Checksum) (pieces : List Piece)
    → IsTrue (list_all is_put (flat_map (λ piece. option_to_list (put_of bill h t missing piece)) pieces))
    × (length (flat_map (λ piece. option_to_list (put_of bill h t missing piece)) pieces) ≤ length pieces)
puts_are bill h t missing [] = (refl, omega arith)
puts_are bill h t missing (piece ∷ pieces) =
    let rest = puts_are bill h t missing pieces in
    one_more (put_of bill h t missing piece)
    (flat_map (λ (p : Piece). option_to_list (put_of bill h t missing p)) pieces) (length pieces)
    (is_a_put bill h t missing piece) rest.0 rest.1

uploads_suit : (me : PlatformCode) (h : List Record) (bill : Checksum) (t : TransferRecord) (missing : List Checksum)
    (sent : List Message) → IsSoundHistory me h → IsUnderWay bill h t → sent ≡ uploads_of bill h t missing
    → ArePutsAndFinish sent
uploads_suit me h bill t missing sent sound way is =
    let puts = puts_are bill h t missing t.manifest.documents in
    let few = parted_found me h sound (Parted bill t.entry t.manifest t.manifest_text) way.parted in (
      flat_map (λ (piece : Piece). option_to_list (put_of bill h t missing piece)) t.manifest.documents,
      messages.Finish t.to bill (reference_at bill t) ∷ [],
      is,
      puts.0,
      omega (arith, few, puts.1),
      inr (messages.Finish t.to bill (reference_at bill t), refl, refl),
    )

none_suits : (step : Step) → step.messages ≡ [] → ArePutsAndFinish step.messages
none_suits step none = ([], [], none, refl, omega arith, inl refl)

heard_gives : (keys : Keys) (diary : List Frame) (bill : Checksum) (bytes : List ℕ) (step : Step)
    → StepsAtAnswer keys diary bill bytes step → step.messages ≡ []
heard_gives keys diary bill bytes step (inl (reason, ignored, o)) = o.nothing_sent
heard_gives keys diary bill bytes step (inr (written, ended, d)) = d.messages_are

pub messages_suit : (roster : RosterRecord) (keys : Keys) (me : PlatformCode) (diary : List Frame) (now : Moment)
    (request : RequestRecord) (step : Step) → IsSound me diary → Steps roster keys me diary now request step
    → MayGive request step.messages
messages_suit roster keys me diary now (commands party command) step sound s = tt
messages_suit roster keys me diary now (starts body) step sound s = tt
messages_suit roster keys me diary now (puts reference checksum bytes) step sound s = tt
messages_suit roster keys me diary now (finishes reference) step sound s = tt
messages_suit roster keys me diary now (start_replies bill bytes) step sound (inl (begins, inl (reason, ignored, o))) =
    none_suits step o.nothing_sent
messages_suit roster keys me diary now (start_replies bill bytes) step sound (inl (begins, inr (sent, upload, d))) =
    uploads_suit me (history bill diary) bill upload.0 upload.1.missing step.messages
    (history_of_sound me diary bill sound) upload.2 (d.messages_are ∙ upload.5)
messages_suit roster keys me diary now (start_replies bill bytes) step sound (inr (begins, s)) =
    none_suits step (heard_gives keys diary bill bytes step s)
messages_suit roster keys me diary now (finish_replies bill bytes) step sound s = heard_gives keys diary bill bytes step s
messages_suit roster keys me diary now (resends bill) step sound (inl (nothing, o)) = inl o.nothing_sent
messages_suit roster keys me diary now (resends bill) step sound (inr (sent, resent, d)) =
    let sends = resent.2 in
    inr (messages.Start resent.0.to bill sends.body, d.messages_are ∙ sends.sent_is, refl)
messages_suit roster keys me diary now (asks bill) step sound s = tt
