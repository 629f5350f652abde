-- A Begun changes no judgement.
use Rattle.std.proofs.Common.{◌≡◌, ℕ, Bool, true, false, cond, List, ◌∷◌, Option, Some, None, refl}
use Rattle.ebl_base.specs.Checksum.{checksum_eq}
use Rattle.ebl_base.specs.declared.chain.ChainLink.{ChainLink}
use Rattle.ebl_base.specs.declared.checksum.Checksum.{Checksum}
use Rattle.ebl_base.specs.declared.party.Party.{Party}
use Rattle.ebl_base.specs.declared.platform_code.PlatformCode.{PlatformCode}
use Rattle.envelope_manifest.specs.declared.manifest.Manifest.{Manifest}
use Rattle.party_roster.specs.RosterRecord.{RosterRecord}
use Rattle.bill_chain.specs.Chain.{last_of}
use Rattle.bill_diary.specs.declared.record.Record.{Record}
use Rattle.bill_diary.specs.declared.record.Record.TheVariants.{Begun}
use Rattle.bill_diary.specs.History.{of_bill}
use Rattle.bill_diary.specs.Known.{known}
use Rattle.bill_diary.specs.Pieces.{missing_of}
use Rattle.bill_diary.specs.Place.{parting, place_with}
use Rattle.bill_diary.specs.Receiving.{is_taken, last_declined}
use Rattle.transfer_judge.specs.Dispute.{dispute_of}
use Rattle.transfer_judge.specs.Judgement.{receiver_of, on_missing, on_receiver, on_dispute, on_last, on_receiver_here, on_taken, on_declined, judgement_at_place, judgement_of}

-- a Begun leaves the place
place_same : (h : List Record) (b : Checksum) (c : List ChainLink) (m : Manifest) (t : List ℕ)
    (known1 : Option (List ChainLink)) (parting1 : Option ChainLink)
    → place_with known1 parting1 (Begun b c m t ∷ h) ≡ place_with known1 parting1 h
place_same h b c m t None parting1 = refl
place_same h b c m t (Some chain) (Some link) = refl
place_same h b c m t (Some chain) None = refl

at_place : (roster : RosterRecord) (h : List Record) (b : Checksum) (c : List ChainLink) (m : Manifest) (t : List ℕ)
    (receiver : Party) (chain : List ChainLink) (manifest : Manifest) (kept : Bool)
    → judgement_at_place roster (cond kept (Begun b c m t ∷ h) h) receiver chain manifest
    ≡ judgement_at_place roster h receiver chain manifest
at_place roster h b c m t receiver chain manifest true =
    let same = place_same h b c m t (known h) (parting h) in
    λ i. on_dispute (dispute_of (same i) chain) (on_receiver roster receiver (on_missing (missing_of manifest h)))
at_place roster h b c m t receiver chain manifest false = refl

pub begun_changes_nothing : (roster : RosterRecord) (me : PlatformCode) (bill : Checksum) (records : List Record)
    (chain : List ChainLink) (manifest : Manifest) (b : Checksum) (c : List ChainLink) (m : Manifest) (t : List ℕ)
    → judgement_of roster me bill (Begun b c m t ∷ records) chain manifest
    ≡ judgement_of roster me bill records chain manifest
begun_changes_nothing roster me bill records chain manifest b c m t =
    λ i. on_last (last_of chain) (λ (last : ChainLink).
    on_receiver_here me (receiver_of chain) (λ (receiver : Party).
    on_taken (is_taken last.name records) (on_declined (last_declined last.name records)
    (at_place roster (of_bill bill records) b c m t receiver chain manifest (checksum_eq b bill) i))))
