-- The records that a family lacks: those that other records need, in the order of the family.
use Rattle.std.specs.Prelude.{Bool, List, [], ◌∷◌, ◌++◌, Option, Some, None, if◌then◌else◌}
use Rattle.std.specs.List.{flat_map}
use Rattle.ebl_base.specs.declared.checksum.Checksum.{Checksum}
use Rattle.ebl_base.specs.declared.chain.ChainLink.{ChainLink}
use Rattle.ebl_base.specs.declared.platform_code.PlatformCode.{PlatformCode}
use Rattle.bill_chain.specs.Chain.{last_of, destination}
use Rattle.bill_diary.specs.declared.record.Record.{Record}
use Rattle.bill_diary.specs.declared.record.Record.TheVariants as records
use Rattle.bill_diary.specs.History.{bill_of, newest_first, of_bill}
use Rattle.bill_diary.specs.Known.{taken_chain, settled_chain}
use Rattle.bill_diary.specs.Receiving.{takes, declines, is_taken, is_declined}
use Rattle.closed_family.specs.declared.family.Member.{Member}
use Rattle.closed_family.specs.declared.lacking.Lacking.{Lacking}
use Rattle.closed_family.specs.declared.verdict.Lack.{Lack}
use Rattle.closed_family.specs.declared.verdict.Lack.TheVariants as lacks
use Rattle.closed_family.specs.Histories.{parts_entry, is_parted}
use Rattle.closed_family.specs.Closed.{Histories}
use Rattle.closed_family.specs.Family.{histories_of}

-- whether a record is the one that says this of an entry
abbrev pub says : Lack → Checksum → Record → Bool
says lacks.Parted entry r = parts_entry entry r
says lacks.Taken entry r = takes entry r
says lacks.Declined entry r = declines entry r

-- the first of them, if there are any
abbrev pub first_of : List Lacking → Option Lacking
first_of [] = None
first_of (x ∷ xs) = Some x

-- a record of this entry is lacking there, unless the test says that it stands
abbrev pub unless_it_stands : Bool → PlatformCode → Lack → ChainLink → List Lacking
unless_it_stands stands platform what link =
    if stands then [] else record { platform = platform; what = what; text = link.text } ∷ []

-- the Parted records that a taken chain lacks, from its first entry on
abbrev pub unparted : Histories → List ChainLink → List Lacking
unparted at [] = []
unparted at (link ∷ links) =
    unless_it_stands (is_parted link.name (at link.entry.platform)) link.entry.platform lacks.Parted link
    ++ unparted at links

-- the same, where a chain is recorded
abbrev pub unparted_of : Histories → Option (List ChainLink) → List Lacking
unparted_of at None = []
unparted_of at (Some chain) = unparted at chain

-- what a chain that was answered lacks at its destination
abbrev pub unanswered : (PlatformCode → Bool) → Lack → Option PlatformCode → Option ChainLink → List Lacking
unanswered stands what (Some to) (Some link) = unless_it_stands (stands to) to what link
unanswered stands what to link = []

-- the same, where a chain is recorded
abbrev pub unanswered_of : (PlatformCode → Bool) → Lack → Option (List ChainLink) → List Lacking
unanswered_of stands what None = []
unanswered_of stands what (Some chain) = unanswered stands what (destination chain) (last_of chain)

-- what a record needs and lacks, with the records of its bill before it
abbrev pub lacking_of : Histories → List Record → Record → List Lacking
lacking_of at h (records.Taken bill entry) = unparted_of at (taken_chain entry h)
lacking_of at h (records.Settled bill entry) =
    unanswered_of (λ to. is_taken entry (at to)) lacks.Taken (settled_chain entry h)
lacking_of at h (records.Regained bill entry) =
    unanswered_of (λ to. is_declined entry (at to)) lacks.Declined (settled_chain entry h)
lacking_of at h r = []

-- what the newest of some records of a bill needs and lacks, in a family
abbrev pub newest_lacks : List Member → List Record → List Lacking
newest_lacks family [] = []
newest_lacks family (r ∷ before) = lacking_of (histories_of (bill_of r) family) before r

-- what the records of a diary need and lack, from the oldest on
abbrev pub lacking_in : List Member → List Record → List Lacking
lacking_in family [] = []
lacking_in family (r ∷ before) =
    lacking_in family before ++ lacking_of (histories_of (bill_of r) family) (of_bill (bill_of r) before) r

-- what a family lacks, in its order: by platform, shard, frame and record
abbrev pub lacking : List Member → List Lacking
lacking family =
    flat_map (λ member. flat_map (λ diary. lacking_in family (newest_first diary)) member.diaries) family
