-- What the messages of other platforms write may follow a legal diary.
use Rattle.std.proofs.Common.{◌≡◌, ℕ, Bool, true, false, cond, List, [], ◌∷◌, Some, None, refl, ap, sym, subst, ◌∙◌, arith}
use Rattle.std.specs.Prelude.{Contains, find}
use Rattle.std.proofs.lemmas.List.Elements.{Contains-append_right}
use Rattle.ebl_base.specs.Checksum.{checksum_eq}
use Rattle.ebl_base.specs.declared.checksum.Checksum.{Checksum}
use Rattle.ebl_base.specs.declared.platform_code.PlatformCode.{PlatformCode}
use Rattle.ebl_base.specs.declared.reference.Reference.{Reference}
use Rattle.ebl_base.proofs.ChecksumLemmas.{checksum_eq-Decides}
use Rattle.signed_envelope.specs.KeyRing.{Keys}
use Rattle.party_roster.specs.RosterRecord.{RosterRecord}
use Rattle.envelope_manifest.specs.declared.piece.Piece.{Piece}
use Rattle.upload_state.specs.Piece.{Fits}
use Rattle.bill_chain.specs.Chain.{IsChainOfBill}
use Rattle.bill_diary.specs.declared.record.Record.{Record}
use Rattle.bill_diary.specs.declared.record.Record.TheVariants as records
use Rattle.bill_diary.specs.declared.frame.Frame.{Frame}
use Rattle.bill_diary.specs.declared.frame.Frame.TheVariants.{One}
use Rattle.bill_diary.specs.History.{history, newest_first, of_bill}
use Rattle.bill_diary.specs.Known.{last_begun}
use Rattle.bill_diary.specs.Pieces.{are_there}
use Rattle.bill_diary.specs.Sound.{IsSound}
use Rattle.transfer_judge.specs.declared.judgement.Judgement.{Judgement}
use Rattle.transfer_judge.specs.declared.judgement.Judgement.TheVariants as judgements
use Rattle.transfer_judge.specs.Judgement.{judgement_of}
use Rattle.transfer_judge.specs.Legal.{FollowsDiaryLegally, IsLegal}
use Rattle.transfer_judge.specs.Sealing.{CanBeSealed}
use Rattle.transfer_judge.proofs.LegalLemmas.{legal_is_sound}
use Rattle.transfer_judge.proofs.SealLemmas.{judged_can_be_sealed}
use Rattle.platform_machine.specs.declared.ending.Ending.{Ending}
use Rattle.platform_machine.specs.declared.ending.Ending.TheVariants as endings
use Rattle.platform_machine.specs.Answer.{subject_of}
use Rattle.platform_machine.specs.Judged.{frame_for}
use Rattle.platform_machine.specs.Receiving.{BegunRecord, IsLastBegun, frame_at_put, judgement_at_finish, listed_with}
use Rattle.platform_machine.specs.Transfer.{TransferRecord, IsUnderWay}
use Rattle.platform_machine.specs.Hearing.{IsEnded, record_for}
use Rattle.platform_machine.proofs.FoundLemmas.{IsWhole, came_with, found_last, found_whole}
use Rattle.platform_machine.proofs.JudgedLemmas.{judged_by_bill}
use Rattle.platform_machine.proofs.JudgedFrames.{IsNamed, MayFollowIfAny, parts_may, taken_may, unknown_may}

-- ---- a finish

pub finish_may : (roster : RosterRecord) (keys : Keys) (me : PlatformCode) (diary : List Frame) (reference : Reference)
    (b : BegunRecord) → IsLegal roster keys me diary → IsLastBegun reference diary b
    → MayFollowIfAny roster keys me diary
    (frame_for None (subject_of b.manifest) (judgement_at_finish roster me diary b))
finish_may roster keys me diary reference b legal is =
    on_judgement (judgement_at_finish roster me diary b) refl
  where
    sound : IsSound me diary
    sound = legal_is_sound roster keys me diary legal

    whole : IsWhole me b
    whole = found_whole me diary reference b sound is

    named : IsNamed b.chain b.manifest
    named = record {
      end = whole.last;
      end_is = whole.last_is;
      good = subst (λ (bill : Checksum). IsChainOfBill bill b.chain) (sym whole.names_bill) whole.good;
      names_last = whole.names_last;
    }

    by_bill : (j : Judgement) → judgement_at_finish roster me diary b ≡ j
        → judgement_of roster me b.manifest.bill (newest_first diary) b.chain b.manifest ≡ j
    by_bill j same =
        sym (judged_by_bill roster me (newest_first diary) b.manifest.bill b.chain b.manifest named.end named.good named.end_is)
        ∙ same

    fine : CanBeSealed (judgement_of roster me b.manifest.bill (newest_first diary) b.chain b.manifest)
    fine =
        judged_can_be_sealed roster me b.manifest.bill (newest_first diary) b.chain b.manifest sound.records
        whole.links_are whole.count

    on_judgement : (j : Judgement) → judgement_at_finish roster me diary b ≡ j
        → MayFollowIfAny roster keys me diary (frame_for None (subject_of b.manifest) j)
    on_judgement judgements.Elsewhere same = tt
    on_judgement judgements.Duplicate same = tt
    on_judgement (judgements.Declined code reason evidence) same = tt
    on_judgement (judgements.Parts evidence) same = record {
      is_frame = tt;
      records = (
        parts_may roster me (newest_first diary) b.chain b.manifest evidence named fine
            (by_bill (judgements.Parts evidence) same),
        tt,
        tt,
      );
    }
    on_judgement judgements.Unknown same = record {
      is_frame = tt;
      records = (unknown_may roster me (newest_first diary) b.chain b.manifest named (by_bill judgements.Unknown same), tt, tt);
    }
    on_judgement (judgements.Missing checksums) same = tt
    on_judgement judgements.Accept same =
        taken_may roster keys me diary b.chain b.manifest
        (ap (λ (bill : Checksum). last_begun b.manifest.last (of_bill bill (newest_first diary))) whole.names_bill
        ∙ found_last me diary reference b sound is)
        (by_bill judgements.Accept same)

-- ---- a document

-- what is found in a list is there, and passes the test
record IsFoundIn (P : Piece → Bool) (pieces : List Piece) (piece : Piece) : Type 0 where
  there : Contains pieces piece
  passes : P piece ≡ true

found_in : (P : Piece → Bool) (pieces : List Piece) (piece : Piece) → find P pieces ≡ Some piece
    → IsFoundIn P pieces piece
found_in P [] piece is = cc is
found_in P (x ∷ pieces) piece is = on_test (P x) refl is (found_in P pieces piece)
  where
    on_test : (b : Bool) → P x ≡ b → cond b (Some x) (find P pieces) ≡ Some piece
        → (find P pieces ≡ Some piece → IsFoundIn P pieces piece) → IsFoundIn P (x ∷ pieces) piece
    on_test true passes found further =
        let same : x ≡ piece = cc found in
        subst (IsFoundIn P (x ∷ pieces)) same (record { there = (0, omega arith, refl); passes = passes })
    on_test false passes found further =
        let rest = further found in
        record { there = Contains-append_right (x ∷ []) pieces piece rest.there; passes = rest.passes }

pub put_may : (roster : RosterRecord) (keys : Keys) (me : PlatformCode) (diary : List Frame) (reference : Reference)
    (b : BegunRecord) (checksum : Checksum) (bytes : List ℕ) (piece : Piece) → IsLegal roster keys me diary
    → IsLastBegun reference diary b → listed_with checksum b.manifest ≡ Some piece → Fits piece bytes
    → MayFollowIfAny roster keys me diary (frame_at_put diary b checksum bytes)
put_may roster keys me diary reference b checksum bytes piece legal is listed fits =
    on_there (are_there (history b.bill diary) bytes) refl
  where
    found : IsFoundIn (λ (p : Piece). checksum_eq p.checksum checksum) b.manifest.documents piece
    found = found_in (λ (p : Piece). checksum_eq p.checksum checksum) b.manifest.documents piece listed

    on_there : (there : Bool) → are_there (history b.bill diary) bytes ≡ there
        → MayFollowIfAny roster keys me diary
        (cond there None (Some (One (records.Stored b.bill b.manifest.last checksum bytes))))
    on_there true new = tt
    on_there false new = record {
      is_frame = tt;
      records = (
        record {
          manifest = b.manifest;
          came = came_with b.manifest.last (history b.bill diary) (record { chain = b.chain; manifest = b.manifest })
              (found_last me diary reference b (legal_is_sound roster keys me diary legal) is);
          piece = piece;
          listed = found.there;
          fits = record { size = fits.size; checksum = fits.checksum };
          names = sym ((checksum_eq-Decides piece.checksum checksum).0 found.passes);
          new = new;
        },
        tt,
        tt,
      );
    }

-- ---- an answer

ending_may : (roster : RosterRecord) (keys : Keys) (me : PlatformCode) (diary : List Frame) (bill : Checksum)
    (t : TransferRecord) (ending : Ending) → IsUnderWay bill (history bill diary) t
    → FollowsDiaryLegally roster keys me diary (One (record_for bill t.entry.name ending))
ending_may roster keys me diary bill t endings.Received under = record {
  is_frame = tt;
  records = (record { known = under.known; link = t.entry; parting = under.parting; names = refl }, tt, tt);
}
ending_may roster keys me diary bill t endings.Declined under = record {
  is_frame = tt;
  records = (record { known = under.known; link = t.entry; parting = under.parting; names = refl }, tt, tt);
}

pub ended_may : (roster : RosterRecord) (keys : Keys) (me : PlatformCode) (diary : List Frame) (bill : Checksum)
    (bytes : List ℕ) (written : Record) → IsEnded keys (history bill diary) bill bytes written
    → FollowsDiaryLegally roster keys me diary (One written)
ended_may roster keys me diary bill bytes written (t, ending, under, ends, is) =
    subst (λ (r : Record). FollowsDiaryLegally roster keys me diary (One r)) (sym is)
    (ending_may roster keys me diary bill t ending under)
