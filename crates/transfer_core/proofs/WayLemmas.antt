-- The transfer of a bill that is parting in a sound diary, by what the diary is searched for.
use Rattle.std.proofs.Common.{◌≡◌, ◌++◌, ◌∷◌, [], List, Option, Some, None, ap, sym, ◌∙◌}
use Rattle.ebl_base.specs.declared.checksum.Checksum.{Checksum}
use Rattle.ebl_base.specs.declared.chain.ChainLink.{ChainLink}
use Rattle.ebl_base.specs.declared.platform_code.PlatformCode.{PlatformCode}
use Rattle.ebl_base.specs.declared.transaction.Transaction.{Transaction}
use Rattle.title_fold.specs.Fold.{fold}
use Rattle.bill_chain.specs.Chain.{destination, platform_with}
use Rattle.bill_diary.specs.declared.record.Record.{Record}
use Rattle.bill_diary.specs.declared.record.Record.TheVariants.{Parted}
use Rattle.bill_diary.specs.declared.frame.Frame.{Frame}
use Rattle.bill_diary.specs.declared.bill_place.BillPlace.{BillPlace}
use Rattle.bill_diary.specs.declared.bill_place.BillPlace.TheVariants.{Parting}
use Rattle.bill_diary.specs.History.{history, newest_first}
use Rattle.bill_diary.specs.Place.{place_of, title_at}
use Rattle.bill_diary.specs.Searches.{last_parted_record}
use Rattle.bill_diary.specs.Sound.{IsSound}
use Rattle.bill_diary.proofs.HistoryLemmas.{history_of_sound}
use Rattle.bill_chain.proofs.TitleLemmas.{transactions_of-push}
use Rattle.platform_machine.specs.Transfer.{TransferRecord, IsUnderWay}
use Rattle.platform_machine.proofs.TransferLemmas.{found_of_its_bill, parting_goes, parting_so}

pub parted_is_there : (diary : List Frame) (bill : Checksum) (known : List ChainLink) (entry : ChainLink)
    → place_of (history bill diary) ≡ Parting known entry → last_parted_record (history bill diary) ≡ None → ⊥
parted_is_there diary bill known entry parting none =
    let so = parting_so (history bill diary) known entry parting in
    let both : None ≡ Some (Parted so.bill entry so.manifest so.manifest_text) = sym none ∙ so.found in
    cc both

-- a transfer goes where the title at its place does
goes_by : (h : List Record) (known : List ChainLink) (entry : ChainLink) → place_of h ≡ Parting known entry
    → destination (known ++ entry ∷ []) ≡ platform_with (title_at (place_of h))
goes_by h known entry parting =
    ap (λ (ts : List Transaction). platform_with (fold ts)) (transactions_of-push known entry)
    ∙ ap (λ (p : BillPlace). platform_with (title_at p)) (sym parting)

pub goes_somewhere : (me : PlatformCode) (diary : List Frame) (bill : Checksum) (known : List ChainLink)
    (entry : ChainLink) → IsSound me diary → place_of (history bill diary) ≡ Parting known entry
    → platform_with (title_at (place_of (history bill diary))) ≡ None → ⊥
goes_somewhere me diary bill known entry sound parting none =
    let goes = parting_goes me (history bill diary) known entry (history_of_sound me diary bill sound) parting in
    let both : None ≡ Some goes.0 = sym none ∙ sym (goes_by (history bill diary) known entry parting) ∙ goes.1 in
    cc both

-- the record that is found is that of the entry
pub transfer_is : (diary : List Frame) (bill : Checksum) (known : List ChainLink) (entry : ChainLink)
    (b : Checksum) (t : TransferRecord) → place_of (history bill diary) ≡ Parting known entry
    → platform_with (title_at (place_of (history bill diary))) ≡ Some t.to → t.chain ≡ known ++ t.entry ∷ []
    → last_parted_record (history bill diary) ≡ Some (Parted b t.entry t.manifest t.manifest_text)
    → IsUnderWay bill (history bill diary) t
transfer_is diary bill known entry b t parting goes chain_is found =
    let so = parting_so (history bill diary) known entry parting in
    let both : Some (Parted so.bill entry so.manifest so.manifest_text)
    ≡ Some (Parted b t.entry t.manifest t.manifest_text) = sym so.found ∙ found in
    let same : entry ≡ t.entry = cc both in
    let its : b ≡ bill =
    found_of_its_bill bill (newest_first diary) (Parted b t.entry t.manifest t.manifest_text) found in
    record {
      known = known;
      parting = parting ∙ ap (Parting known) same;
      chain_is = chain_is;
      goes = ap destination (chain_is ∙ ap (λ (l : ChainLink). known ++ l ∷ []) (sym same))
          ∙ goes_by (history bill diary) known entry parting ∙ goes;
      parted = found ∙ ap (λ (x : Checksum). Some (Parted x t.entry t.manifest t.manifest_text)) its;
    }

pub not_none : {A : Type 0} (o : Option A) → (x : A) × (o ≡ Some x) → o ≡ None → ⊥
not_none o some none =
    let both : None ≡ Some some.0 = sym none ∙ some.1 in
    cc both

pub ruleset ways = (parted_is_there)
