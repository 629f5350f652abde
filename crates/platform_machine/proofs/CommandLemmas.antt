-- What a party's command writes keeps a legal diary legal; and a command that isn't refused is done.
use Rattle.std.proofs.Common.{◌≡◌, ◌≤◌, ℕ, List, None, Ok, Err, length, refl, ap, sym, subst, arith}
use Rattle.ebl_base.specs.PlatformCode.{IsCode}
use Rattle.ebl_base.specs.declared.chain.ChainLink.{ChainLink}
use Rattle.ebl_base.specs.declared.entry.Entry.{Entry}
use Rattle.ebl_base.specs.declared.moment.Moment.{Moment}
use Rattle.ebl_base.specs.declared.party.Party.{Party}
use Rattle.ebl_base.specs.declared.platform_code.PlatformCode.{PlatformCode}
use Rattle.ebl_base.specs.declared.signature.Signature.{Signature}
use Rattle.ebl_base.specs.declared.signed_text.SignedText.{SignedText}
use Rattle.ebl_base.proofs.FormLemmas.{IsParty-platform}
use Rattle.canonical_json.specs.Lawful.{HasTexts, IsLawful}
use Rattle.canonical_json.specs.Value.{Value, depth}
use Rattle.chain_entry.specs.Form.{IsEntry}
use Rattle.chain_entry.specs.Writing.{entry_value}
use Rattle.document_checksum.specs.Digest.{IsChecksum}
use Rattle.envelope_manifest.specs.Manifest.{AreDocuments, IsManifest, manifest_value}
use Rattle.envelope_manifest.specs.declared.manifest.Manifest.{Manifest}
use Rattle.envelope_manifest.specs.declared.piece.Piece.{Piece}
use Rattle.holder_commands.specs.Command.{CommandRecord, signs, acts, attaches}
use Rattle.party_roster.specs.RosterForm.{IsRoster}
use Rattle.party_roster.specs.RosterRecord.{RosterRecord}
use Rattle.signed_envelope.specs.KeyRing.{Keys}
use Rattle.signed_envelope.specs.SignedText.{IsComposed, IsSigned}
use Rattle.bill_diary.specs.declared.frame.Frame.{Frame}
use Rattle.bill_diary.specs.History.{newest_first}
use Rattle.transfer_judge.specs.Legal.{IsLegal}
use Rattle.transfer_judge.specs.Plan.{HasAttempts, Plan, plan_of}
use Rattle.transfer_judge.specs.PlannedTexts.{IsHandedIn, IsLinkOf, IsManifestOf}
use Rattle.transfer_judge.specs.declared.planned.Planned.TheVariants.{Nothing, Add, Part}
use Rattle.transfer_judge.proofs.FollowLemmas.{entry_follows, planned_forms, planned_part, record_follows}
use Rattle.transfer_judge.proofs.FormLemmas.{checksum_form}
use Rattle.transfer_judge.proofs.LegalLemmas.{legal_is_sound}
use Rattle.platform_machine.specs.declared.step.Step.{Step}
use Rattle.platform_machine.specs.Commanding.{FollowsPlan, IsParted, IsSignedEntry, IsSignedManifest, IsThere, StepsAtCommand, manifest_for}
use Rattle.platform_machine.specs.Step.{with_frame}
use Rattle.platform_machine.proofs.JudgedFrames.{MayFollowIfAny}
use Rattle.platform_machine.proofs.StepLaws.{legal_with, nothing_may}

-- composed texts are signed, and the written forms of entries and manifests may be written as JSON
pub record AreWritten : Type 0 where
  pub composed : (keys : Keys) (most : ℕ) (text : List ℕ) (who : PlatformCode) (value : Value) (signature : Signature)
      → IsComposed keys text who value signature → length text ≤ most → IsCode who
      → IsLawful value → HasTexts value → depth value ≤ 127 → IsSigned keys most text who value
  pub entry_lawful : (entry : Entry) → IsLawful (entry_value entry)
  pub entry_texts : (entry : Entry) → HasTexts (entry_value entry)
  pub entry_depth : (entry : Entry) → depth (entry_value entry) ≤ 3
  pub manifest_lawful : (manifest : Manifest) → IsManifest manifest → IsLawful (manifest_value manifest)
  pub manifest_texts : (manifest : Manifest) → IsManifest manifest → HasTexts (manifest_value manifest)
  pub manifest_depth : (manifest : Manifest) → depth (manifest_value manifest) ≤ 3

-- ---- an entry that parts

link_of : (keys : Keys) (me : PlatformCode) (entry : Entry) (link : ChainLink) → AreWritten → IsCode me
    → IsSignedEntry keys me entry link → IsLinkOf keys me entry link
link_of keys me entry link written code made =
    let deep = written.entry_depth entry in
    record {
      has_entry = made.entry_is;
      name = made.name_is;
      signed = written.composed keys 16384 link.text.0 me (entry_value entry) made.signature made.composed made.fits
          code (written.entry_lawful entry) (written.entry_texts entry) (omega (arith, deep));
    }

pub manifest_form : (keys : Keys) (me : PlatformCode) (entry : Entry) (link : ChainLink) (documents : List Piece)
    → IsSignedEntry keys me entry link → IsEntry entry → AreDocuments documents
    → IsManifest (manifest_for entry.bill link.name documents)
manifest_form keys me entry link documents made form listed = record {
  bill = form.bill;
  last = subst IsChecksum (sym made.name_is) (checksum_form link.text.0);
  documents = listed;
}

manifest_made : (keys : Keys) (me : PlatformCode) (entry : Entry) (link : ChainLink) (documents : List Piece)
    (text : SignedText) → AreWritten → IsCode me → IsSignedEntry keys me entry link
    → IsManifest (manifest_for entry.bill link.name documents)
    → IsSignedManifest keys me (manifest_for entry.bill link.name documents) text
    → IsManifestOf keys me link documents (manifest_for entry.bill link.name documents) text
manifest_made keys me entry link documents text written code link_made form made =
    let manifest = manifest_for entry.bill link.name documents in
    let deep = written.manifest_depth manifest in
    record {
      names_bill = ap (λ (e : Entry). e.bill) (sym link_made.entry_is);
      names_link = refl;
      lists = refl;
      signed = written.composed keys 16384 text.0 me (manifest_value manifest) made.signature made.composed made.fits
          code (written.manifest_lawful manifest form) (written.manifest_texts manifest form) (omega (arith, deep));
    }

parted_may : (roster : RosterRecord) (keys : Keys) (me : PlatformCode) (diary : List Frame) (party : Party)
    (command : CommandRecord) (now : Moment) (entry : Entry) (documents : List Piece) (to : PlatformCode) (step : Step)
    → AreWritten → IsRoster roster → IsLegal roster keys me diary → IsHandedIn party command now
    → HasAttempts command (newest_first diary)
    → plan_of roster me (newest_first diary) party command now ≡ Ok (Part entry documents to)
    → IsParted keys me diary entry documents to step → MayFollowIfAny roster keys me diary step.frame
parted_may roster keys me diary party command now entry documents to step written listed legal given has is parted =
    let part = planned_part roster me (newest_first diary) party now entry documents to command is in
    let sound = legal_is_sound roster keys me diary legal in
    let forms = planned_forms roster me diary party command now entry documents to sound given has part in
    let code : IsCode me = subst IsCode part.ours (IsParty-platform party given.by) in
    let link = parted.link in
    let form = manifest_form keys me entry link documents parted.entry_signed forms.0 forms.1 in
    subst (MayFollowIfAny roster keys me diary) (sym parted.parts.done.frame_is)
    (entry_follows roster keys me diary party command now entry documents to link
    (manifest_for entry.bill link.name documents) parted.manifest_text listed legal given has is
    (link_of keys me entry link written code parted.entry_signed)
    (manifest_made keys me entry link documents parted.manifest_text written code parted.entry_signed form parted.manifest_signed))

-- ---- a command

nothing_there : (diary : List Frame) (command : CommandRecord) (step : Step) → IsThere diary command step
    → step.frame ≡ None
nothing_there diary (signs document) step there = absurd there
nothing_there diary (acts bill kind recipient) step there = absurd there
nothing_there diary (attaches bill name media bytes) step there = there.frame_is

pub command_keeps : (roster : RosterRecord) (keys : Keys) (me : PlatformCode) (diary : List Frame) (now : Moment)
    (party : Party) (command : CommandRecord) (step : Step) → AreWritten → IsRoster roster
    → IsLegal roster keys me diary → IsHandedIn party command now → HasAttempts command (newest_first diary)
    → StepsAtCommand roster keys me diary now party command step
    → IsLegal roster keys me (with_frame diary step.frame)
command_keeps roster keys me diary now party command step written listed legal given has steps =
    legal_with roster keys me diary step.frame legal
    (on_plan (plan_of roster me (newest_first diary) party command now) refl steps)
  where
    on_plan : (plan : Plan) → plan_of roster me (newest_first diary) party command now ≡ plan
        → FollowsPlan keys me diary command plan step → MayFollowIfAny roster keys me diary step.frame
    on_plan (Err refusal) is only = nothing_may roster keys me diary step.frame only.nothing_written
    on_plan (Ok Nothing) is there =
        nothing_may roster keys me diary step.frame (nothing_there diary command step there)
    on_plan (Ok (Add r)) is done =
        subst (MayFollowIfAny roster keys me diary) (sym done.frame_is)
        (record_follows roster keys me diary party command now r given is)
    on_plan (Ok (Part entry documents to)) is parted =
        parted_may roster keys me diary party command now entry documents to step written listed legal given has is
        parted
