-- What nothing speaks against is received.
use Rattle.std.proofs.Common.{◌≡◌, Bool, cond, List, Option, Some, None, Ok, Err, ap, sym, ◌∙◌}
use Rattle.ebl_base.specs.declared.chain.ChainLink.{ChainLink}
use Rattle.ebl_base.specs.declared.party.Party.{Party}
use Rattle.ebl_base.specs.declared.platform_code.PlatformCode.{PlatformCode}
use Rattle.ebl_base.proofs.SameLemmas.{code_eq-Decides}
use Rattle.envelope_manifest.specs.declared.manifest.Manifest.{Manifest}
use Rattle.party_roster.specs.RosterRecord.{RosterRecord}
use Rattle.title_fold.specs.Title.{possessor}
use Rattle.title_fold.specs.Fold.{Folded}
use Rattle.bill_chain.specs.Chain.{platform_with, possessor_with, title_after_chain}
use Rattle.bill_diary.specs.declared.frame.Frame.{Frame}
use Rattle.bill_diary.specs.History.{history, newest_first}
use Rattle.bill_diary.specs.Pieces.{missing_of}
use Rattle.bill_diary.specs.Place.{chain_at, place_of}
use Rattle.bill_diary.specs.Receiving.{Declination, continues, last_declined}
use Rattle.transfer_judge.specs.declared.judgement.Judgement.{Judgement}
use Rattle.transfer_judge.specs.declared.judgement.Judgement.TheVariants as judgements
use Rattle.transfer_judge.specs.Dispute.{evidence_of}
use Rattle.transfer_judge.specs.Judgement.{judgement_by, judgement_here, judgement_of, on_declined, on_dispute, on_last, on_missing, on_receiver, on_receiver_here, on_taken, receiver_of}
use Rattle.platform_machine.specs.Complete.{HasNoObjection}

here_on : (me : PlatformCode) (folded : Folded) (receiver : Party) → platform_with folded ≡ Some me
    → possessor_with folded ≡ Some receiver → receiver.platform ≡ me
here_on me (Err at) receiver goes is = cc goes
here_on me (Ok None) receiver goes is = cc goes
here_on me (Ok (Some title)) receiver goes is =
    let same : possessor title ≡ receiver = cc is in
    let platform : (possessor title).platform ≡ me = cc goes in
    ap (λ (p : Party). p.platform) (sym same) ∙ platform

pub is_accepted : (roster : RosterRecord) (me : PlatformCode) (diary : List Frame) (chain : List ChainLink)
    (manifest : Manifest) → HasNoObjection roster me diary chain manifest
    → judgement_by roster me (newest_first diary) chain manifest ≡ judgements.Accept
is_accepted roster me diary chain manifest free =
    let all = newest_first diary in
    let last = free.last in
    let bill = last.entry.bill in
    let h = history bill diary in
    let receiver = free.receiver in
    let place = place_of h in
    let at_receiver : Judgement = on_receiver roster receiver (on_missing (missing_of manifest h)) in
    let at_place : Judgement = on_dispute (cond (continues place chain) None (Some (evidence_of (chain_at place) chain))) at_receiver in
    let platform : receiver.platform ≡ me =
    here_on me (title_after_chain chain) receiver free.ends_here free.receiver_is in
    let first : judgement_by roster me all chain manifest
    ≡ on_receiver_here me (receiver_of chain) (λ (party : Party). judgement_here roster bill all last.name party chain manifest) =
    ap (λ (o : Option ChainLink). on_last o (λ (l : ChainLink). judgement_of roster me l.entry.bill all chain manifest)) free.last_is
    ∙ ap (λ (o : Option ChainLink). on_last o (λ (l : ChainLink).
    on_receiver_here me (receiver_of chain) (λ (party : Party). judgement_here roster bill all l.name party chain manifest))) free.last_is in
    let second : on_receiver_here me (receiver_of chain) (λ (party : Party). judgement_here roster bill all last.name party chain manifest)
    ≡ judgement_here roster bill all last.name receiver chain manifest =
    ap (λ (o : Option Party). on_receiver_here me o (λ (party : Party). judgement_here roster bill all last.name party chain manifest)) free.receiver_is
    ∙ ap (λ (b : Bool). cond b (judgement_here roster bill all last.name receiver chain manifest) judgements.Elsewhere)
    ((code_eq-Decides receiver.platform me).1 platform) in
    let third : judgement_here roster bill all last.name receiver chain manifest ≡ at_place =
    ap (λ (b : Bool). on_taken b (on_declined (last_declined last.name all) at_place)) free.not_taken
    ∙ ap (λ (o : Option Declination). on_declined o at_place) free.not_declined in
    let fourth : at_place ≡ judgements.Accept =
    ap (λ (b : Bool). on_dispute (cond b None (Some (evidence_of (chain_at place) chain))) at_receiver) free.continues_place
    ∙ ap (λ (b : Bool). cond b (on_missing (missing_of manifest h)) judgements.Unknown) free.is_known
    ∙ ap on_missing free.none_missing in
    first ∙ second ∙ third ∙ fourth
