-- An entry that is planned: its bill is held, its text and its manifest's are short, and it parts once both are signed.
use Rattle.std.proofs.Common.{◌≡◌, ◌≤◌, List, Ok, length, ap, sym, ◌∙◌, arith}
use Rattle.ebl_base.specs.declared.entry.Entry.{Entry}
use Rattle.ebl_base.specs.declared.moment.Moment.{Moment}
use Rattle.ebl_base.specs.declared.party.Party.{Party}
use Rattle.ebl_base.specs.declared.platform_code.PlatformCode.{PlatformCode}
use Rattle.canonical_json.specs.Canon.{canon}
use Rattle.canonical_json.specs.Value.{Value}
use Rattle.chain_entry.specs.Form.{IsEntry}
use Rattle.chain_entry.specs.Writing.{entry_value}
use Rattle.chain_entry.proofs.LengthLemmas.{entry_length}
use Rattle.envelope_manifest.specs.Manifest.{AreDocuments, IsManifest, manifest_value}
use Rattle.envelope_manifest.specs.declared.manifest.Manifest.{Manifest}
use Rattle.envelope_manifest.specs.declared.piece.Piece.{Piece}
use Rattle.envelope_manifest.proofs.LengthLemmas.{manifest_length}
use Rattle.holder_commands.specs.Command.{CommandRecord}
use Rattle.party_roster.specs.RosterRecord.{RosterRecord}
use Rattle.bill_diary.specs.declared.frame.Frame.{Frame}
use Rattle.bill_diary.specs.History.{history, newest_first}
use Rattle.bill_diary.specs.Place.{place_of}
use Rattle.bill_diary.specs.Sound.{IsSound}
use Rattle.transfer_judge.specs.Plan.{HasAttempts, plan_of}
use Rattle.transfer_judge.specs.PlannedTexts.{IsHandedIn}
use Rattle.transfer_judge.specs.declared.planned.Planned.TheVariants.{Part}
use Rattle.transfer_judge.proofs.FollowLemmas.{planned_forms, planned_part}
use Rattle.transfer_core.specs.Held.{IsHeld}

-- the bill of an entry that is planned is held
pub part_is_held : (roster : RosterRecord) (me : PlatformCode) (diary : List Frame) (party : Party)
    (command : CommandRecord) (now : Moment) (entry : Entry) (documents : List Piece) (to : PlatformCode)
    → plan_of roster me (newest_first diary) party command now ≡ Ok (Part entry documents to)
    → IsHeld (place_of (history entry.bill diary))
part_is_held roster me diary party command now entry documents to is =
    let p = planned_part roster me (newest_first diary) party now entry documents to command is in (
      p.known,
      p.since,
      ap (λ (e : Entry). place_of (history e.bill diary)) (sym p.entry_is) ∙ p.held,
    )

-- the entry and the documents have their form
pub part_forms : (roster : RosterRecord) (me : PlatformCode) (diary : List Frame) (party : Party)
    (command : CommandRecord) (now : Moment) (entry : Entry) (documents : List Piece) (to : PlatformCode)
    → IsSound me diary → IsHandedIn party command now → HasAttempts command (newest_first diary)
    → plan_of roster me (newest_first diary) party command now ≡ Ok (Part entry documents to)
    → IsEntry entry × AreDocuments documents
part_forms roster me diary party command now entry documents to sound given has is =
    planned_forms roster me diary party command now entry documents to sound given has
    (planned_part roster me (newest_first diary) party now entry documents to command is)

-- texts that fit
pub entry_fits : (v : Value) (entry : Entry) → v ≡ entry_value entry → IsEntry entry → length (canon v) ≤ 9000
entry_fits v entry is form =
    let same : length (canon v) ≡ length (canon (entry_value entry)) = ap (λ (x : Value). length (canon x)) is in
    let short = entry_length entry form in
    omega (arith, same, short)

pub manifest_fits : (v : Value) (manifest : Manifest) → v ≡ manifest_value manifest → IsManifest manifest
    → length (canon v) ≤ 9000
manifest_fits v manifest is form =
    let same : length (canon v) ≡ length (canon (manifest_value manifest)) = ap (λ (x : Value). length (canon x)) is in
    let short = manifest_length manifest form in
    omega (arith, same, short)
