-- What was taken is a duplicate.
use Rattle.std.proofs.Common.{◌≡◌, Bool, true, cond, List, Option, Some, None, Ok, Err, refl, ap, ◌∙◌}
use Rattle.ebl_base.specs.declared.chain.ChainLink.{ChainLink}
use Rattle.ebl_base.specs.declared.party.Party.{Party}
use Rattle.ebl_base.specs.declared.platform_code.PlatformCode.{PlatformCode}
use Rattle.ebl_base.proofs.SameLemmas.{code_eq-Decides}
use Rattle.envelope_manifest.specs.declared.manifest.Manifest.{Manifest}
use Rattle.party_roster.specs.RosterRecord.{RosterRecord}
use Rattle.title_fold.specs.Title.{possessor}
use Rattle.title_fold.specs.Fold.{Folded}
use Rattle.bill_chain.specs.Chain.{destination, last_of, platform_with, possessor_with, title_after_chain}
use Rattle.bill_diary.specs.declared.record.Record.{Record}
use Rattle.bill_diary.specs.History.{of_bill}
use Rattle.bill_diary.specs.Receiving.{is_taken, last_declined}
use Rattle.transfer_judge.specs.declared.judgement.Judgement.{Judgement}
use Rattle.transfer_judge.specs.declared.judgement.Judgement.TheVariants as judgements
use Rattle.transfer_judge.specs.Judgement.{judgement_at_place, judgement_by, judgement_here, judgement_of, on_declined, on_last, on_receiver_here, on_taken, receiver_of}

-- a chain that goes to a platform gives a party there possession
record HasReceiver (me : PlatformCode) (o : Option Party) : Type 0 where
  receiver : Party
  receiver_is : o ≡ Some receiver
  here : receiver.platform ≡ me

receiver_on : (me : PlatformCode) (folded : Folded) → platform_with folded ≡ Some me
    → HasReceiver me (possessor_with folded)
receiver_on me (Err at) goes = cc goes
receiver_on me (Ok None) goes = cc goes
receiver_on me (Ok (Some title)) goes = record { receiver = possessor title; receiver_is = refl; here = cc goes }

pub taken_is_duplicate : (roster : RosterRecord) (me : PlatformCode) (all : List Record) (chain : List ChainLink)
    (manifest : Manifest) (last : ChainLink) → last_of chain ≡ Some last → destination chain ≡ Some me
    → is_taken last.name all ≡ true → judgement_by roster me all chain manifest ≡ judgements.Duplicate
taken_is_duplicate roster me all chain manifest last last_is goes taken =
    let has = receiver_on me (title_after_chain chain) goes in
    let rest : Party → Judgement =
    λ party. judgement_here roster last.entry.bill all last.name party chain manifest in
    let on_party : judgement_by roster me all chain manifest ≡ on_receiver_here me (receiver_of chain) rest =
    ap (λ (o : Option ChainLink). on_last o (λ (l : ChainLink). judgement_of roster me l.entry.bill all chain manifest)) last_is
    ∙ ap (λ (o : Option ChainLink). on_last o (λ (l : ChainLink).
    on_receiver_here me (receiver_of chain) (λ (party : Party).
    judgement_here roster last.entry.bill all l.name party chain manifest))) last_is in
    let here : on_receiver_here me (receiver_of chain) rest ≡ rest has.receiver =
    ap (λ (o : Option Party). on_receiver_here me o rest) has.receiver_is
    ∙ ap (λ (b : Bool). cond b (rest has.receiver) judgements.Elsewhere) ((code_eq-Decides has.receiver.platform me).1 has.here) in
    on_party ∙ here
    ∙ ap (λ (b : Bool). on_taken b (on_declined (last_declined last.name all)
    (judgement_at_place roster (of_bill last.entry.bill all) has.receiver chain manifest))) taken
