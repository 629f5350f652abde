-- Families of diaries: sound ones, closed ones, and those whose texts have distinct names.
use Rattle.std.specs.Prelude.{◌≡◌, ◌⊎◌, ℕ, ◌≤◌, ◌%◌, List, [], ◌∷◌, Some, length, count_by, true, false, slice_index, slice_get, if◌then◌else◌}
use Rattle.std.specs.List.{flat_map}
use Rattle.std.specs.Option.{option_map_or}
use Rattle.ebl_base.specs.PlatformCode.{code_eq}
use Rattle.ebl_base.specs.declared.checksum.Checksum.{Checksum}
use Rattle.ebl_base.specs.declared.chain.ChainLink.{ChainLink}
use Rattle.ebl_base.specs.declared.platform_code.PlatformCode.{PlatformCode}
use Rattle.document_checksum.specs.Digest.{checksum_of}
use Rattle.canonical_json.specs.Canon.{canon}
use Rattle.bill_diary.specs.declared.record.Record.{Record}
use Rattle.bill_diary.specs.declared.record.Record.TheVariants.{Signed, Parted, Begun}
use Rattle.bill_diary.specs.declared.frame.Frame.{Frame}
use Rattle.bill_diary.specs.History.{bill_of, records_of, newest_first, history}
use Rattle.bill_diary.specs.Receiving.{takes, is_taken, is_declined}
use Rattle.bill_diary.specs.Texts.{IsBodyOf}
use Rattle.bill_diary.specs.Sound.{IsSound}
use Rattle.closed_family.specs.declared.family.Member.{Member}
use Rattle.closed_family.specs.Chains.{IsAmong}
use Rattle.closed_family.specs.Histories.{is_signed}
use Rattle.closed_family.specs.Closed.{Histories, IsCorroborated}
use Rattle.closed_family.specs.Safe.{IsSafe}

-- ---- the histories of a bill in a family

-- the shard of a bill
abbrev pub shard_of : Checksum → ℕ
shard_of bill = slice_index bill.0 0 % 16

-- the history of a bill in the diary of its shard
abbrev pub history_in : Checksum → Member → List Record
history_in bill member = option_map_or (history bill) (slice_get member.diaries (shard_of bill)) []

-- the history of a bill on a platform; empty where the family doesn't list the platform
abbrev pub histories_of : Checksum → List Member → Histories
histories_of bill [] platform = []
histories_of bill (member ∷ members) platform =
    if code_eq member.platform platform then history_in bill member else histories_of bill members platform

-- some diary of the family has the bill's Signed
abbrev pub IsSignedIn : List Member → Checksum → Type 0
IsSignedIn family bill = (p : PlatformCode) × (is_signed (histories_of bill family p) ≡ true)

-- the records of a family: by platform, shard, frame and record
abbrev pub records_in : List Member → List Record
records_in family = flat_map (λ member. flat_map (λ diary. flat_map records_of diary) member.diaries) family

-- ---- texts

-- a record is the Signed of this document
abbrev pub SignsDocument : List ℕ → Record → Type 0
SignsDocument text (Signed bill document transaction) = document ≡ text
SignsDocument text r = ⊥

-- a text of a record: the document of a Signed; the entry and the manifest of a Parted; the chain, the document and the
-- manifest of a Begun
abbrev pub IsTextOf : Record → List ℕ → Type 0
IsTextOf (Signed bill document transaction) text = document ≡ text
IsTextOf (Parted bill link manifest manifest_text) text = (link.text.0 ≡ text) ⊎ (manifest_text.0 ≡ text)
IsTextOf (Begun bill chain manifest body) text =
    ((link : ChainLink) × IsAmong link chain × (link.text.0 ≡ text))
    ⊎ ((came : IsBodyOf bill chain manifest body)
    × ((canon came.parts.document ≡ text) ⊎ (came.parts.manifest.0 ≡ text)))
IsTextOf r text = ⊥

-- a record stands in a diary of a member of the family
pub record StandsIn (family : List Member) (member : Member) (r : Record) : Type 0 where
  pub listed : IsAmong member family
  pub diary : List Frame
  pub has_diary : IsAmong diary member.diaries
  pub has_record : IsAmong r (newest_first diary)

-- a text of the family: that of some record
pub record IsTextIn (family : List Member) (text : List ℕ) : Type 0 where
  pub member : Member
  pub r : Record
  pub stands : StandsIn family member r
  pub is_text : IsTextOf r text

-- no two different texts of the family have one name
abbrev pub HasDistinctNames : List Member → Type 0
HasDistinctNames family =
    (s t : List ℕ) → IsTextIn family s → IsTextIn family t → checksum_of s ≡ checksum_of t → s ≡ t

-- ---- sound families, closed families

-- no platform is listed twice
abbrev pub AreApart : List Member → Type 0
AreApart [] = Unit {0}
AreApart (member ∷ members) =
    ((other : Member) → IsAmong other members → other.platform ≡ member.platform → ⊥) × AreApart members

-- no platform is listed twice, each has sixteen diaries, each of which is sound for it and has only bills of its shard;
-- and no document is signed on two platforms
pub record IsSoundFamily (family : List Member) : Type 0 where
  pub apart : AreApart family
  pub sixteen : (m : Member) → IsAmong m family → length m.diaries ≡ 16
  pub sound : (m : Member) → IsAmong m family → (d : List Frame) → IsAmong d m.diaries → IsSound m.platform d
  pub in_shard : (m : Member) → IsAmong m family → (i : ℕ) (d : List Frame) → slice_get m.diaries i ≡ Some d
      → (r : Record) → IsAmong r (newest_first d) → shard_of (bill_of r) ≡ i
  pub signed_on_one : (m n : Member) (r s : Record) (document : List ℕ)
      → StandsIn family m r → StandsIn family n s → SignsDocument document r → SignsDocument document s
      → m.platform ≡ n.platform

-- each record has what it says of other platforms in the histories of its bill
abbrev pub IsClosedFamily : List Member → Type 0
IsClosedFamily family =
    (bill : Checksum) (m : Member) → IsAmong m family → IsCorroborated (histories_of bill family) (history_in bill m)

-- a family is safe
pub record IsSafeFamily (family : List Member) : Type 0 where
  -- each bill that was signed is safe
  pub bills : (bill : Checksum) → IsSignedIn family bill → IsSafe (histories_of bill family)
  -- each entry is taken at most once in all diaries, whatever bills the records name
  pub taken_once : (entry : Checksum) → count_by (takes entry) (records_in family) ≤ 1
  -- and no diary has it both taken and declined
  pub not_both : (entry : Checksum) (m : Member) (d : List Frame) → IsAmong m family → IsAmong d m.diaries
      → is_taken entry (newest_first d) ≡ true → is_declined entry (newest_first d) ≡ false
