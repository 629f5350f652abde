-- A bill that is parting has the record of its last Parted, and goes somewhere.
use Rattle.std.proofs.Common.{◌≡◌, Bool, true, false, cond, List, [], ◌∷◌, ◌++◌, Option, Some, None, Ok, refl, ap, sym, subst, ◌∙◌}
use Rattle.std.specs.Prelude.{option_map}
use Rattle.std.proofs.lemmas.List.{append_assoc}
use Rattle.ebl_base.specs.Checksum.{checksum_eq}
use Rattle.ebl_base.specs.declared.checksum.Checksum.{Checksum}
use Rattle.ebl_base.specs.declared.chain.ChainLink.{ChainLink}
use Rattle.ebl_base.specs.declared.platform_code.PlatformCode.{PlatformCode}
use Rattle.ebl_base.specs.declared.signed_text.SignedText.{SignedText}
use Rattle.ebl_base.specs.declared.transaction.Transaction.{Transaction}
use Rattle.ebl_base.proofs.ChecksumLemmas.{checksum_eq-Decides}
use Rattle.envelope_manifest.specs.declared.manifest.Manifest.{Manifest}
use Rattle.title_fold.specs.Title.{possessor}
use Rattle.title_fold.specs.Fold.{fold}
use Rattle.title_fold.proofs.FoldLemmas.{fold-push-allowed}
use Rattle.bill_chain.specs.Chain.{destination, platform_with, transactions_of}
use Rattle.bill_chain.proofs.TitleLemmas.{transactions_of-push}
use Rattle.bill_diary.specs.declared.record.Record.{Record}
use Rattle.bill_diary.specs.declared.record.Record.TheVariants.{Signed, Acted, Attached, Parted, Settled, Regained, Begun, Stored, Taken, Declined}
use Rattle.bill_diary.specs.declared.bill_place.BillPlace.TheVariants.{Held, Parting}
use Rattle.bill_diary.specs.declared.frame.Frame.{Frame}
use Rattle.bill_diary.specs.History.{bill_of, history, newest_first, of_bill}
use Rattle.bill_diary.specs.Known.{known, settled_chain}
use Rattle.bill_diary.specs.Place.{last_parted, place_of}
use Rattle.bill_diary.specs.Searches.{last_parted_record}
use Rattle.bill_diary.specs.Sound.{IsSound, IsSoundHistory, MayPart, is_parted}
use Rattle.bill_diary.proofs.HistoryLemmas.{history_of_sound}
use Rattle.platform_machine.specs.Transfer.{TransferRecord, IsUnderWay}
use Rattle.bill_diary.proofs.PlaceLemmas.{stands, WhereHeld, WhereParting, parting_is_last}
use Rattle.bill_diary.proofs.KnownLemmas.{tells_known}

-- ---- its record

-- the last Parted of a history is that of an entry
pub record PartedSo (h : List Record) (entry : ChainLink) : Type 0 where
  pub bill : Checksum
  pub manifest : Manifest
  pub manifest_text : SignedText
  pub found : last_parted_record h ≡ Some (Parted bill entry manifest manifest_text)

parted_so : (h : List Record) (entry : ChainLink) → last_parted h ≡ Some entry → PartedSo h entry
parted_so [] entry is = cc is
parted_so (Parted b link m t ∷ h) entry is =
    let same : link ≡ entry = cc is in
    record { bill = b; manifest = m; manifest_text = t; found = ap (λ (l : ChainLink). Some (Parted b l m t)) same }
parted_so (Signed b x t ∷ h) entry is =
    let so = parted_so h entry is in
    record { bill = so.bill; manifest = so.manifest; manifest_text = so.manifest_text; found = so.found }
parted_so (Acted b t ∷ h) entry is =
    let so = parted_so h entry is in
    record { bill = so.bill; manifest = so.manifest; manifest_text = so.manifest_text; found = so.found }
parted_so (Attached b q t ∷ h) entry is =
    let so = parted_so h entry is in
    record { bill = so.bill; manifest = so.manifest; manifest_text = so.manifest_text; found = so.found }
parted_so (Settled b e ∷ h) entry is =
    let so = parted_so h entry is in
    record { bill = so.bill; manifest = so.manifest; manifest_text = so.manifest_text; found = so.found }
parted_so (Regained b e ∷ h) entry is =
    let so = parted_so h entry is in
    record { bill = so.bill; manifest = so.manifest; manifest_text = so.manifest_text; found = so.found }
parted_so (Begun b c m t ∷ h) entry is =
    let so = parted_so h entry is in
    record { bill = so.bill; manifest = so.manifest; manifest_text = so.manifest_text; found = so.found }
parted_so (Stored b e c t ∷ h) entry is =
    let so = parted_so h entry is in
    record { bill = so.bill; manifest = so.manifest; manifest_text = so.manifest_text; found = so.found }
parted_so (Taken b e ∷ h) entry is =
    let so = parted_so h entry is in
    record { bill = so.bill; manifest = so.manifest; manifest_text = so.manifest_text; found = so.found }
parted_so (Declined b e c q v ∷ h) entry is =
    let so = parted_so h entry is in
    record { bill = so.bill; manifest = so.manifest; manifest_text = so.manifest_text; found = so.found }

-- a bill that is parting has it
pub parting_so : (h : List Record) (chain : List ChainLink) (entry : ChainLink) → place_of h ≡ Parting chain entry
    → PartedSo h entry
parting_so h chain entry is =
    let where1 : WhereParting h chain entry = stands h (Parting chain entry) is in
    parted_so h entry (parting_is_last h entry where1.parting_is).0

-- what is found among the records of a bill is of that bill
found_on : (bill : Checksum) (r : Record) (rest : List Record) (x : Record) (of_it parts : Bool)
    → (of_it ≡ true → bill_of r ≡ bill) → is_parted r ≡ parts
    → (last_parted_record rest ≡ Some x → bill_of x ≡ bill)
    → last_parted_record (cond of_it (r ∷ rest) rest) ≡ Some x → bill_of x ≡ bill
found_on bill r rest x true true decides here further is =
    let found : Some r ≡ Some x = ap (λ b. cond b (Some r) (last_parted_record rest)) (sym here) ∙ is in
    let same : r ≡ x = cc found in
    ap bill_of (sym same) ∙ decides refl
found_on bill r rest x true false decides here further is =
    further (ap (λ b. cond b (Some r) (last_parted_record rest)) (sym here) ∙ is)
found_on bill r rest x false parts decides here further is = further is

pub found_of_its_bill : (bill : Checksum) (records : List Record) (x : Record)
    → last_parted_record (of_bill bill records) ≡ Some x → bill_of x ≡ bill
found_of_its_bill bill [] x is = cc is
found_of_its_bill bill (r ∷ records) x is =
    found_on bill r (of_bill bill records) x (checksum_eq (bill_of r) bill) (is_parted r)
    (checksum_eq-Decides (bill_of r) bill).0 refl (found_of_its_bill bill records x) is

-- ---- where it goes

abbrev pub Goes : List ChainLink → Type 0
Goes chain = (to : PlatformCode) × (destination chain ≡ Some to)

-- an entry that may part goes somewhere
goes_on_parting : (me : PlatformCode) (h : List Record) (bill : Checksum) (link : ChainLink) (manifest : Manifest)
    (text : SignedText) (parts : MayPart me h bill link manifest text) → Goes (parts.known ++ link ∷ [])
goes_on_parting me h bill link manifest text parts =
    let listed : transactions_of (parts.known ++ link ∷ [])
    ≡ (transactions_of parts.known ++ parts.since) ++ parts.last ∷ [] =
    transactions_of-push parts.known link
    ∙ ap (λ (ts : List Transaction). transactions_of parts.known ++ ts) parts.transactions
    ∙ sym (append_assoc (transactions_of parts.known) parts.since (parts.last ∷ [])) in
    let folds : fold (transactions_of (parts.known ++ link ∷ [])) ≡ Ok (Some parts.after) =
    ap fold listed
    ∙ fold-push-allowed (transactions_of parts.known ++ parts.since) parts.last parts.before parts.after parts.title parts.allowed in
    ((possessor parts.after).platform, ap platform_with folds)

abbrev IfGoes : Option (List ChainLink) → Type 0
IfGoes None = Unit {0}
IfGoes (Some chain) = Goes chain

held_goes : (me : PlatformCode) (h : List Record) (bill : Checksum) (link : ChainLink) (manifest : Manifest)
    (text : SignedText) (parts : MayPart me h bill link manifest text) → (o : Option (List ChainLink)) → known h ≡ o
    → IfGoes (option_map (λ (k : List ChainLink). k ++ link ∷ []) o)
held_goes me h bill link manifest text parts None is = tt
held_goes me h bill link manifest text parts (Some chain) is =
    let where1 : WhereHeld h parts.known parts.since = stands h (Held parts.known parts.since) parts.held in
    let both : Some parts.known ≡ Some chain = sym where1.known_is ∙ is in
    let same : parts.known ≡ chain = cc both in
    subst (λ (k : List ChainLink). Goes (k ++ link ∷ [])) same (goes_on_parting me h bill link manifest text parts)

-- what a Settled of an entry would tell goes somewhere
settled_goes : (me : PlatformCode) (h : List Record) → IsSoundHistory me h → (entry : Checksum)
    → IfGoes (settled_chain entry h)
settled_goes me [] sound entry = tt
settled_goes me (Parted b link m t ∷ h) sound entry =
    on_test (checksum_eq link.name entry) (settled_goes me h sound.1 entry)
  where
    on_test : (test : Bool) → IfGoes (settled_chain entry h)
        → IfGoes (cond test (option_map (λ (k : List ChainLink). k ++ link ∷ []) (known h)) (settled_chain entry h))
    on_test true further = held_goes me h b link m t sound.0 (known h) refl
    on_test false further = further
settled_goes me (Signed b x t ∷ h) sound entry = settled_goes me h sound.1 entry
settled_goes me (Acted b t ∷ h) sound entry = settled_goes me h sound.1 entry
settled_goes me (Attached b q t ∷ h) sound entry = settled_goes me h sound.1 entry
settled_goes me (Settled b e ∷ h) sound entry = settled_goes me h sound.1 entry
settled_goes me (Regained b e ∷ h) sound entry = settled_goes me h sound.1 entry
settled_goes me (Begun b c m t ∷ h) sound entry = settled_goes me h sound.1 entry
settled_goes me (Stored b e c t ∷ h) sound entry = settled_goes me h sound.1 entry
settled_goes me (Taken b e ∷ h) sound entry = settled_goes me h sound.1 entry
settled_goes me (Declined b e c q v ∷ h) sound entry = settled_goes me h sound.1 entry

-- in a sound history a bill that is parting goes somewhere
pub parting_goes : (me : PlatformCode) (h : List Record) (chain : List ChainLink) (entry : ChainLink)
    → IsSoundHistory me h → place_of h ≡ Parting chain entry → Goes (chain ++ entry ∷ [])
parting_goes me h chain entry sound is =
    let where1 : WhereParting h chain entry = stands h (Parting chain entry) is in
    let tells : settled_chain entry.name h ≡ Some (chain ++ entry ∷ []) =
    (tells_known me h sound).at_parting entry where1.parting_is
    ∙ ap (option_map (λ (k : List ChainLink). k ++ entry ∷ [])) where1.known_is in
    subst IfGoes tells (settled_goes me h sound entry.name)

-- ---- the transfer

-- in a sound diary a bill that is parting has its transfer under way
pub under_way_so : (me : PlatformCode) (diary : List Frame) (bill : Checksum) (chain : List ChainLink)
    (entry : ChainLink) → IsSound me diary → place_of (history bill diary) ≡ Parting chain entry
    → (t : TransferRecord) × IsUnderWay bill (history bill diary) t
under_way_so me diary bill chain entry sound is =
    let so = parting_so (history bill diary) chain entry is in
    let goes = parting_goes me (history bill diary) chain entry (history_of_sound me diary bill sound) is in
    let same : so.bill ≡ bill =
    found_of_its_bill bill (newest_first diary) (Parted so.bill entry so.manifest so.manifest_text) so.found in (
      record {
        chain = chain ++ entry ∷ [];
        entry = entry;
        manifest = so.manifest;
        manifest_text = so.manifest_text;
        to = goes.0;
      },
      record {
        known = chain;
        parting = is;
        chain_is = refl;
        goes = goes.1;
        parted = so.found ∙ ap (λ (b : Checksum). Some (Parted b entry so.manifest so.manifest_text)) same;
      },
    )
