-- What is judged is answered by a response that can be sealed.
use Rattle.std.proofs.Common.{◌≤◌, ℕ, List, length, Option, Some, None, arith}
use Rattle.std.specs.Prelude.{IfSome}
use Rattle.ebl_base.specs.declared.chain.ChainLink.{ChainLink}
use Rattle.ebl_base.specs.declared.platform_code.PlatformCode.{PlatformCode}
use Rattle.ebl_base.specs.declared.reference.Reference.{Reference}
use Rattle.ebl_base.specs.declared.signed_text.SignedText.{SignedText}
use Rattle.signed_envelope.specs.KeyRing.{Keys}
use Rattle.party_roster.specs.RosterRecord.{RosterRecord}
use Rattle.envelope_manifest.specs.declared.manifest.Manifest.{Manifest}
use Rattle.pint_responses.specs.Response.{IsSealable, IsOptionalEvidence}
use Rattle.bill_chain.specs.Chain.{last_of}
use Rattle.bill_diary.specs.declared.record.Record.{Record}
use Rattle.bill_diary.specs.declared.frame.Frame.{Frame}
use Rattle.bill_diary.specs.History.{newest_first}
use Rattle.bill_diary.specs.Sound.{AreSound, IsSound}
use Rattle.bill_diary.specs.Texts.{IsCompactText, LinksAreTheirTexts}
use Rattle.transfer_judge.specs.declared.judgement.Judgement.{Judgement}
use Rattle.transfer_judge.specs.declared.judgement.Judgement.TheVariants as judgements
use Rattle.transfer_judge.specs.Judgement.{judgement_of, on_last}
use Rattle.transfer_judge.specs.Sealing.{CanBeSealed}
use Rattle.transfer_judge.proofs.LegalLemmas.{links_are}
use Rattle.transfer_judge.proofs.SealLemmas.{judged_can_be_sealed}
use Rattle.platform_machine.specs.declared.subject.Subject.{Subject}
use Rattle.platform_machine.specs.Preface.{ShownRecord, Shows}
use Rattle.platform_machine.specs.Answer.{subject_of}
use Rattle.platform_machine.specs.Judged.{response_for}
use Rattle.platform_machine.proofs.FoundLemmas.{found_whole}
use Rattle.platform_machine.specs.Receiving.{BegunRecord, IsLastBegun, judgement_at_start, judgement_at_finish}

-- ---- responses

optional : (text : Option SignedText) → IfSome text IsCompactText → IsOptionalEvidence text
optional None is = tt
optional (Some text) is = is

sealable_with : (s : Subject) (j : Judgement) → CanBeSealed j → IsSealable (response_for s j)
sealable_with s judgements.Elsewhere fine = record { missing = omega arith; own = tt; theirs = tt }
sealable_with s judgements.Duplicate fine = record { missing = omega arith; own = tt; theirs = tt }
sealable_with s (judgements.Declined code reason evidence) fine =
    record { missing = omega arith; own = optional evidence.own fine.own; theirs = optional evidence.theirs fine.theirs }
sealable_with s (judgements.Parts evidence) fine =
    record { missing = omega arith; own = optional evidence.own fine.own; theirs = optional evidence.theirs fine.theirs }
sealable_with s judgements.Unknown fine = record { missing = omega arith; own = tt; theirs = tt }
sealable_with s (judgements.Missing checksums) fine = record { missing = fine; own = tt; theirs = tt }
sealable_with s judgements.Accept fine = record { missing = omega arith; own = tt; theirs = tt }

-- ---- judgements

fine_by : (roster : RosterRecord) (me : PlatformCode) (records : List Record) (chain : List ChainLink)
    (manifest : Manifest) → AreSound me records → LinksAreTheirTexts chain → length manifest.documents ≤ 16
    → (last : Option ChainLink)
    → CanBeSealed (on_last last (λ (l : ChainLink). judgement_of roster me l.entry.bill records chain manifest))
fine_by roster me records chain manifest sound are count None = tt
fine_by roster me records chain manifest sound are count (Some l) =
    judged_can_be_sealed roster me l.entry.bill records chain manifest sound are count

-- of what a body shows
pub sealable_at_start : (roster : RosterRecord) (keys : Keys) (me : PlatformCode) (diary : List Frame) (bytes : List ℕ)
    (s : ShownRecord) → IsSound me diary → Shows roster keys bytes s
    → IsSealable (response_for (subject_of s.manifest) (judgement_at_start roster me diary s))
sealable_at_start roster keys me diary bytes s sound shows =
    let envelops = shows.shows.envelops in
    sealable_with (subject_of s.manifest) (judgement_at_start roster me diary s)
    (fine_by roster me (newest_first diary) s.chain s.manifest sound.records
    (links_are keys s.parts.chain s.chain envelops.good.links) envelops.manifests.form.documents.count (last_of s.chain))

-- ---- what was begun

-- of what was begun with a reference
pub sealable_at_finish : (roster : RosterRecord) (me : PlatformCode) (diary : List Frame) (reference : Reference)
    (b : BegunRecord) → IsSound me diary → IsLastBegun reference diary b
    → IsSealable (response_for (subject_of b.manifest) (judgement_at_finish roster me diary b))
sealable_at_finish roster me diary reference b sound is =
    let is_whole = found_whole me diary reference b sound is in
    sealable_with (subject_of b.manifest) (judgement_at_finish roster me diary b)
    (fine_by roster me (newest_first diary) b.chain b.manifest sound.records is_whole.links_are is_whole.count
    (last_of b.chain))
