-- In a steady network nothing is answered as a dispute, and nothing was declined as one.
use Rattle.std.proofs.Common.{◌≡◌, inl, ℕ, List, ◌∷◌, Some, refl, sym, subst}
use Rattle.std.specs.Prelude.{◌≢◌}
use Rattle.ebl_base.specs.declared.checksum.Checksum.{Checksum}
use Rattle.ebl_base.specs.declared.code.Code.{Code}
use Rattle.ebl_base.specs.declared.code.Code.TheVariants as codes
use Rattle.ebl_base.specs.declared.evidence.Evidence.{Evidence}
use Rattle.ebl_base.specs.declared.platform_code.PlatformCode.{PlatformCode}
use Rattle.ebl_base.specs.declared.reason.Reason.{Reason}
use Rattle.ebl_base.specs.declared.reason.Reason.TheVariants as reasons
use Rattle.ebl_base.specs.declared.signed_text.SignedText.{SignedText}
use Rattle.party_roster.specs.RosterRecord.{RosterRecord}
use Rattle.pint_responses.specs.declared.response.Response.{Response}
use Rattle.platform_requests.specs.declared.reply.Reply.TheVariants.{Answer}
use Rattle.bill_diary.specs.declared.record.Record.{Record}
use Rattle.bill_diary.specs.declared.record.Record.TheVariants.{Declined}
use Rattle.bill_diary.specs.declared.frame.Frame.{Frame}
use Rattle.bill_diary.specs.History.{IsRecordOf, newest_first}
use Rattle.closed_family.specs.Chains.{IsAmong}
use Rattle.closed_family.specs.Family.{HasDistinctNames, histories_of}
use Rattle.closed_family.proofs.Records.{among_more}
use Rattle.run_safety.specs.Network.{Network, diary_of}
use Rattle.run_safety.specs.Steady.{IsSteady, Rings}
use Rattle.run_safety.specs.Run.{Asked}
use Rattle.run_safety.proofs.Needs.{met_among}
use Rattle.run_safety.proofs.Runs.{at_shard}
use Rattle.run_safety.proofs.Sound.{Grounds, stands_there}
use Rattle.run_safety.proofs.Undisputed.{IsUndisputed, step_undisputed}

pub undisputed : (roster : RosterRecord) (rings : Rings) (n : Network) → Grounds roster → IsSteady roster rings n
    → HasDistinctNames n.family → (a : Asked roster rings n) (response : Response) (text : SignedText)
    → a.step.reply ≡ Answer response text → response.code ≢ codes.DisputedEnvelope
undisputed roster rings n G S distinct a response text is =
    subst IsUndisputed is
    (step_undisputed roster rings n a.p a.i a.diary (at_shard roster rings n G S distinct a) a.now a.request a.step
    a.comes a.steps)

pub declined_for_party : (roster : RosterRecord) (rings : Rings) (n : Network) → IsSteady roster rings n
    → (p : PlatformCode) (i : ℕ) (diary : List Frame) (bill entry : Checksum) (code : Code) (reason : Reason)
    (evidence : Evidence) → diary_of n.family p i ≡ Some diary
    → IsRecordOf diary (Declined bill entry code reason evidence) → reason ≡ reasons.Party
declined_for_party roster rings n S p i diary bill entry code reason evidence there is =
    let r : Record = Declined bill entry code reason evidence in
    let among : IsAmong r (newest_first diary)
    = subst (IsAmong r) (sym is.parts) (among_more r is.newer (r ∷ is.older) (inl refl)) in
    let (before, need) = met_among (histories_of bill n.family) (histories_of bill n.family p) r (S.met bill p)
    (stands_there roster rings n S p i diary there r among) in
    need.0
