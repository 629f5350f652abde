-- Closed histories: what a record says of another platform stands in that platform's history.
use Rattle.std.specs.Prelude.{◌≡◌, ◌⊎◌, true, List, [], ◌∷◌, Option, option_and_then, IfSome}
use Rattle.ebl_base.specs.declared.checksum.Checksum.{Checksum}
use Rattle.ebl_base.specs.declared.chain.ChainLink.{ChainLink}
use Rattle.ebl_base.specs.declared.platform_code.PlatformCode.{PlatformCode}
use Rattle.bill_chain.specs.Chain.{destination}
use Rattle.bill_diary.specs.declared.record.Record.{Record}
use Rattle.bill_diary.specs.declared.record.Record.TheVariants.{Parted, Settled, Regained, Taken}
use Rattle.bill_diary.specs.Known.{taken_chain, settled_chain}
use Rattle.bill_diary.specs.Receiving.{is_taken, is_declined}
use Rattle.closed_family.specs.Histories.{is_parted}

-- the histories of one bill on all platforms, each newest first; empty where a platform knows nothing of it
abbrev pub Histories : Type 0
Histories = PlatformCode → List Record

-- each entry of a chain was parted on its platform
abbrev pub AreParted : Histories → List ChainLink → Type 0
AreParted at [] = Unit {0}
AreParted at (link ∷ links) = (is_parted link.name (at link.entry.platform) ≡ true) × AreParted at links

-- where an entry that parted here moves possession, with the records before it
abbrev pub destination_of : Checksum → List Record → Option PlatformCode
destination_of entry before = option_and_then destination (settled_chain entry before)

-- each record of a history has what it says of others: each entry of a taken chain was parted on its platform, a
-- settled entry was taken at its destination, and a regained one was declined there
abbrev pub IsCorroborated : Histories → List Record → Type 0
IsCorroborated at [] = Unit {0}
IsCorroborated at (Taken bill entry ∷ h) = IfSome (taken_chain entry h) (AreParted at) × IsCorroborated at h
IsCorroborated at (Settled bill entry ∷ h) =
    IfSome (destination_of entry h) (λ to. is_taken entry (at to) ≡ true) × IsCorroborated at h
IsCorroborated at (Regained bill entry ∷ h) =
    IfSome (destination_of entry h) (λ to. is_declined entry (at to) ≡ true) × IsCorroborated at h
IsCorroborated at (r ∷ h) = IsCorroborated at h

-- a Parted of this very link stands in a history
abbrev pub HasParted : ChainLink → List Record → Type 0
HasParted link [] = ⊥
HasParted link (Parted bill parted manifest manifest_text ∷ h) = (parted ≡ link) ⊎ HasParted link h
HasParted link (r ∷ h) = HasParted link h

-- each link of a chain stands in a Parted of its platform
abbrev pub EveryEntryWasParted : Histories → List ChainLink → Type 0
EveryEntryWasParted at [] = Unit {0}
EveryEntryWasParted at (link ∷ links) = HasParted link (at link.entry.platform) × EveryEntryWasParted at links
