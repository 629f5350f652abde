-- The judgement of a chain with its manifest, by a diary: seven cases, of which the first that applies is given.
use Rattle.std.specs.Prelude.{Bool, List, [], ◌∷◌, Option, Some, None, if◌then◌else◌}
use Rattle.ebl_base.specs.PlatformCode.{code_eq}
use Rattle.ebl_base.specs.declared.chain.ChainLink.{ChainLink}
use Rattle.ebl_base.specs.declared.checksum.Checksum.{Checksum}
use Rattle.ebl_base.specs.declared.evidence.Evidence.{Evidence}
use Rattle.ebl_base.specs.declared.party.Party.{Party}
use Rattle.ebl_base.specs.declared.platform_code.PlatformCode.{PlatformCode}
use Rattle.envelope_manifest.specs.declared.manifest.Manifest.{Manifest}
use Rattle.party_roster.specs.RosterRecord.{RosterRecord, knows}
use Rattle.bill_chain.specs.Chain.{last_of, possessor_after}
use Rattle.bill_diary.specs.declared.record.Record.{Record}
use Rattle.bill_diary.specs.History.{of_bill}
use Rattle.bill_diary.specs.Place.{place_of}
use Rattle.bill_diary.specs.Pieces.{missing_of}
use Rattle.bill_diary.specs.Receiving.{Declination, is_taken, last_declined}
use Rattle.transfer_judge.specs.declared.judgement.Judgement.{Judgement}
use Rattle.transfer_judge.specs.declared.judgement.Judgement.TheVariants.{Elsewhere, Duplicate, Declined, Parts, Unknown, Missing, Accept}
use Rattle.transfer_judge.specs.Dispute.{dispute_of}

-- ---- the party that is to have possession

-- the possessor after a chain, if there is one
abbrev pub receiver_of : List ChainLink → Option Party
receiver_of chain = possessor_after chain

-- ---- the cases

-- 7 and 6: all documents of the manifest are there; or else those that aren't
abbrev pub on_missing : List Checksum → Judgement
on_missing [] = Accept
on_missing (checksum ∷ checksums) = Missing (checksum ∷ checksums)

-- 5: the roster doesn't know the party that is to have possession
abbrev pub on_receiver : RosterRecord → Party → Judgement → Judgement
on_receiver roster receiver rest = if knows roster receiver then rest else Unknown

-- 4: the chain doesn't continue the bill's place
abbrev pub on_dispute : Option Evidence → Judgement → Judgement
on_dispute None rest = rest
on_dispute (Some evidence) rest = Parts evidence

-- 3: the last entry was declined for good
abbrev pub on_declined : Option Declination → Judgement → Judgement
on_declined None rest = rest
on_declined (Some declined) rest = Declined declined.code declined.reason declined.evidence

-- 2: the last entry was taken
abbrev pub on_taken : Bool → Judgement → Judgement
on_taken taken rest = if taken then Duplicate else rest

-- 1: the possessor after the chain is on another platform, or there is none
abbrev pub on_receiver_here : PlatformCode → Option Party → (Party → Judgement) → Judgement
on_receiver_here me None rest = Elsewhere
on_receiver_here me (Some receiver) rest = if code_eq receiver.platform me then rest receiver else Elsewhere

-- the last link of the chain, without which it ends nowhere
abbrev pub on_last : Option ChainLink → (ChainLink → Judgement) → Judgement
on_last None rest = Elsewhere
on_last (Some last) rest = rest last

-- cases 4 to 7, by the records of the bill
abbrev pub judgement_at_place : RosterRecord → List Record → Party → List ChainLink → Manifest → Judgement
judgement_at_place roster h receiver chain manifest =
    on_dispute (dispute_of (place_of h) chain) (on_receiver roster receiver (on_missing (missing_of manifest h)))

-- cases 2 to 7, of a chain of a bill that ends here with an entry of this name
abbrev pub judgement_here : RosterRecord → Checksum → List Record → Checksum → Party → List ChainLink → Manifest
    → Judgement
judgement_here roster bill records last receiver chain manifest =
    on_taken (is_taken last records) (
    on_declined (last_declined last records) (
    judgement_at_place roster (of_bill bill records) receiver chain manifest))

-- the judgement of a chain of a bill, by all records of a diary, newest first
abbrev pub judgement_of : RosterRecord → PlatformCode → Checksum → List Record → List ChainLink → Manifest → Judgement
judgement_of roster me bill records chain manifest =
    on_last (last_of chain) (λ last.
    on_receiver_here me (receiver_of chain) (λ receiver.
    judgement_here roster bill records last.name receiver chain manifest))

-- the judgement of a chain of its last entry's bill
abbrev pub judgement_by : RosterRecord → PlatformCode → List Record → List ChainLink → Manifest → Judgement
judgement_by roster me records chain manifest =
    on_last (last_of chain) (λ last. judgement_of roster me last.entry.bill records chain manifest)
