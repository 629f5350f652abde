-- What is lacking first: among the links of a chain that are left, in a diary frame by frame, and among the diaries and
-- members that are left.
use Rattle.std.proofs.Common.{◌≡◌, ℕ, ◌+◌, ◌<◌, Bool, true, false, cond, List, [], ◌∷◌, ◌++◌, Some, None, length, get_or, take, drop, reverse, suc, refl, sym, ap, subst, ◌∙◌, add-one, drop-cons}
use Rattle.std.specs.Prelude.{Option, Result, IfOk, option_map}
use Rattle.std.specs.List.{list_any, flat_map}
use Rattle.std.specs.Option.{option_or, option_to_list}
use Rattle.std.proofs.lemmas.List.{append-nil, take_more, take-append-drop}
use Rattle.ebl_base.specs.Checksum.{checksum_eq}
use Rattle.ebl_base.specs.declared.checksum.Checksum.{Checksum}
use Rattle.ebl_base.specs.declared.chain.ChainLink.{ChainLink}
use Rattle.ebl_base.specs.declared.platform_code.PlatformCode.{PlatformCode}
use Rattle.envelope_manifest.specs.declared.manifest.Manifest.{Manifest}
use Rattle.bill_chain.specs.Chain.{last_of}
use Rattle.bill_diary.specs.declared.record.Record.{Record}
use Rattle.bill_diary.specs.declared.record.Record.TheVariants.{Signed, Acted, Attached, Parted, Settled, Regained, Begun, Stored, Taken, Declined}
use Rattle.bill_diary.specs.declared.frame.Frame.{Frame}
use Rattle.bill_diary.specs.declared.frame.Frame.TheVariants.{One, BegunTaken}
use Rattle.bill_diary.specs.History.{bill_of, records_of, newest_first, of_bill, history}
use Rattle.bill_diary.specs.Linked.{bill_in}
use Rattle.bill_diary.proofs.HistoryLemmas.{newest_first-append, one_frame}
use Rattle.bill_diary.proofs.LinkedLemmas.{own_history}
use Rattle.closed_family.specs.declared.family.Member.{Member}
use Rattle.closed_family.specs.declared.lacking.Lacking.{Lacking}
use Rattle.closed_family.specs.declared.verdict.Lack.{Lack}
use Rattle.closed_family.specs.declared.verdict.Lack.TheVariants as lacks
use Rattle.closed_family.specs.Closed.{Histories}
use Rattle.closed_family.specs.Family.{histories_of}
use Rattle.closed_family.specs.Lacking.{says, first_of, unless_it_stands, unparted, unanswered, lacking_of, lacking_in, newest_lacks}
use Rattle.closed_family.proofs.Names.{checksum_eq-itself}

-- ---- the links of a chain

unparted-drop : (at : Histories) (chain : List ChainLink) (i : ℕ) (link : ChainLink)
    → i < length chain → link ≡ get_or chain i link
    → unparted at (drop i chain)
    ≡ unless_it_stands
    (list_any (says lacks.Parted link.name) (at link.entry.platform)) link.entry.platform lacks.Parted link
    ++ unparted at (drop (i + 1) chain)
unparted-drop at chain i link within is =
    ap (unparted at) (drop-cons chain i link within
    ∙ ap (λ (x : ChainLink). x ∷ drop (suc i) chain) (sym is)
    ∙ ap (λ (j : ℕ). link ∷ drop j chain) (sym (add-one i)))

-- a link whose Parted stands lacks nothing
pub unparted-stands : (at : Histories) (chain : List ChainLink) (i : ℕ) (link : ChainLink)
    → i < length chain → link ≡ get_or chain i link
    → list_any (says lacks.Parted link.name) (at link.entry.platform) ≡ true
    → first_of (unparted at (drop i chain)) ≡ first_of (unparted at (drop (i + 1) chain))
unparted-stands at chain i link within is stands =
    ap first_of (unparted-drop at chain i link within is)
    ∙ ap (λ (b : Bool). first_of
    (unless_it_stands b link.entry.platform lacks.Parted link ++ unparted at (drop (i + 1) chain))) stands

-- one whose Parted doesn't is the first that is lacking
pub unparted-lacks : (at : Histories) (chain : List ChainLink) (i : ℕ) (link : ChainLink)
    → i < length chain → link ≡ get_or chain i link
    → list_any (says lacks.Parted link.name) (at link.entry.platform) ≡ false
    → first_of (unparted at (drop i chain))
    ≡ Some (record { platform = link.entry.platform; what = lacks.Parted; text = link.text })
unparted-lacks at chain i link within is stands =
    ap first_of (unparted-drop at chain i link within is)
    ∙ ap (λ (b : Bool). first_of
    (unless_it_stands b link.entry.platform lacks.Parted link ++ unparted at (drop (i + 1) chain))) stands

-- ---- one list after another

-- what is first of two lists is first of the one, and else of the other
first_of-append : (xs ys : List Lacking) → first_of (xs ++ ys) ≡ option_or (first_of xs) (first_of ys)
first_of-append [] ys = refl
first_of-append (x ∷ xs) ys = refl

-- ---- the frames of a diary

module _ (family : List Member) where
  -- of a frame with its Taken, the Begun lacks nothing
  taken_lacks : (bill : Checksum) (chain : List ChainLink) (manifest : Manifest) (body : List ℕ)
      → (last : Option ChainLink) (records : List Record)
      → lacking_in family (reverse (Begun bill chain manifest body
      ∷ option_to_list (option_map (λ (link : ChainLink). Taken bill link.name) last)) ++ records)
      ≡ lacking_in family records ++ newest_lacks family (reverse (Begun bill chain manifest body
      ∷ option_to_list (option_map (λ (link : ChainLink). Taken bill link.name) last)) ++ of_bill bill records)
  taken_lacks bill chain manifest body None records = refl
  taken_lacks bill chain manifest body (Some link) records =
      let begun : Record = Begun bill chain manifest body in
      let older : List Record = of_bill bill records in
      let Lacks : List Record → List Lacking
      = λ h. lacking_of (histories_of bill family) h (Taken bill link.name) in
      ap (λ (xs : List Lacking). xs ++ Lacks (cond (checksum_eq bill bill) (begun ∷ older) older))
      (append-nil (lacking_in family records))
      ∙ ap (λ (b : Bool). lacking_in family records ++ Lacks (cond b (begun ∷ older) older)) (checksum_eq-itself bill)

  frame_lacks : (frame : Frame) (records : List Record)
      → lacking_in family (reverse (records_of frame) ++ records)
      ≡ lacking_in family records
      ++ newest_lacks family (reverse (records_of frame) ++ of_bill (bill_in frame) records)
  frame_lacks (One r) records = refl
  frame_lacks (BegunTaken (Signed bill document transaction)) records = refl
  frame_lacks (BegunTaken (Acted bill transaction)) records = refl
  frame_lacks (BegunTaken (Attached bill piece bytes)) records = refl
  frame_lacks (BegunTaken (Parted bill link manifest manifest_text)) records = refl
  frame_lacks (BegunTaken (Settled bill entry)) records = refl
  frame_lacks (BegunTaken (Regained bill entry)) records = refl
  frame_lacks (BegunTaken (Begun bill chain manifest body)) records =
      taken_lacks bill chain manifest body (last_of chain) records
  frame_lacks (BegunTaken (Stored bill entry checksum bytes)) records = refl
  frame_lacks (BegunTaken (Taken bill entry)) records = refl
  frame_lacks (BegunTaken (Declined bill entry code reason evidence)) records = refl

  -- one frame more lacks what its newest record does
  pub lacks_more : (frames : List Frame) (i : ℕ) (frame : Frame) → i < length frames → frame ≡ get_or frames i frame
      → lacking_in family (newest_first (take (i + 1) frames))
      ≡ lacking_in family (newest_first (take i frames))
      ++ newest_lacks family (history (bill_in frame) (take (i + 1) frames))
  lacks_more frames i frame within is =
      let done : List Frame = take i frames in
      let bill : Checksum = bill_in frame in
      let more : take (i + 1) frames ≡ done ++ frame ∷ []
      = take_more frames i frame within ∙ ap (λ (f : Frame). done ++ f ∷ []) (sym is) in
      ap (λ (fs : List Frame). lacking_in family (newest_first fs)) more
      ∙ ap (lacking_in family) (one_frame done frame)
      ∙ frame_lacks frame (newest_first done)
      ∙ ap (λ (h : List Record). lacking_in family (newest_first done) ++ newest_lacks family h)
      (sym (own_history done frame bill (checksum_eq-itself bill)) ∙ ap (history bill) (sym more))

  none_of : (xs : List Lacking) → first_of xs ≡ None → xs ≡ []
  none_of [] h = refl
  none_of (x ∷ xs) h = cc

  -- where no frame so far lacks anything, and the next one doesn't
  pub lacks_none : (frames : List Frame) (i : ℕ) (frame : Frame) → i < length frames → frame ≡ get_or frames i frame
      → lacking_in family (newest_first (take i frames)) ≡ []
      → first_of (newest_lacks family (history (bill_in frame) (take (i + 1) frames))) ≡ None
      → lacking_in family (newest_first (take (i + 1) frames)) ≡ []
  lacks_none frames i frame within is before next =
      let h : List Record = history (bill_in frame) (take (i + 1) frames) in
      lacks_more frames i frame within is
      ∙ ap (λ (xs : List Lacking). xs ++ newest_lacks family h) before
      ∙ none_of (newest_lacks family h) next

  -- what is first in the older records is first in all
  first_behind : (newer records : List Record) (found : Lacking) → first_of (lacking_in family records) ≡ Some found
      → first_of (lacking_in family (newer ++ records)) ≡ Some found
  first_behind [] records found is = is
  first_behind (r ∷ newer) records found is =
      let xs : List Lacking = lacking_in family (newer ++ records) in
      let ys : List Lacking = lacking_of (histories_of (bill_of r) family) (of_bill (bill_of r) (newer ++ records)) r in
      first_of-append xs ys
      ∙ ap (λ (o : Option Lacking). option_or o (first_of ys)) (first_behind newer records found is)

  -- and where the next one does
  pub lacks_first : (frames : List Frame) (i : ℕ) (frame : Frame) (found : Lacking)
      → i < length frames → frame ≡ get_or frames i frame
      → lacking_in family (newest_first (take i frames)) ≡ []
      → first_of (newest_lacks family (history (bill_in frame) (take (i + 1) frames))) ≡ Some found
      → first_of (lacking_in family (newest_first frames)) ≡ Some found
  lacks_first frames i frame found within is before next =
      let h : List Record = history (bill_in frame) (take (i + 1) frames) in
      let here : first_of (lacking_in family (newest_first (take (i + 1) frames))) ≡ Some found
      = ap first_of (lacks_more frames i frame within is
      ∙ ap (λ (xs : List Lacking). xs ++ newest_lacks family h) before) ∙ next in
      let parts : newest_first frames ≡ newest_first (drop (i + 1) frames) ++ newest_first (take (i + 1) frames)
      = ap newest_first (sym (take-append-drop (i + 1) frames))
      ∙ newest_first-append (take (i + 1) frames) (drop (i + 1) frames) in
      ap (λ (rs : List Record). first_of (lacking_in family rs)) parts
      ∙ first_behind (newest_first (drop (i + 1) frames)) (newest_first (take (i + 1) frames)) found here

-- ---- diaries and members

flat_at : {X : Type 0} (f : X → List Lacking) (items : List X) (i : ℕ) (x : X)
    → i < length items → x ≡ get_or items i x
    → first_of (flat_map f (drop i items)) ≡ option_or (first_of (f x)) (first_of (flat_map f (drop (i + 1) items)))
flat_at {X} f items i x within is =
    ap (λ (ys : List X). first_of (flat_map f ys)) (drop-cons items i x within
    ∙ ap (λ (y : X). y ∷ drop (suc i) items) (sym is)
    ∙ ap (λ (j : ℕ). x ∷ drop j items) (sym (add-one i)))
    ∙ first_of-append (f x) (flat_map f (drop (i + 1) items))

-- an item that lacks something
pub flat_first : {X : Type 0} (f : X → List Lacking) (items : List X) (i : ℕ) (x : X) (found : Lacking)
    → i < length items → x ≡ get_or items i x → first_of (f x) ≡ Some found
    → first_of (flat_map f (drop i items)) ≡ Some found
flat_first f items i x found within is first =
    flat_at f items i x within is
    ∙ ap (λ (o : Option Lacking). option_or o (first_of (flat_map f (drop (i + 1) items)))) first

-- what is so of one value is so of an equal one
pub if_ok-same : {A E : Type 0} (r : Result A E) (a b : A) → a ≡ b → IfOk r (λ (x : A). x ≡ a)
    → IfOk r (λ (x : A). x ≡ b)
if_ok-same {A} r a b same h = subst (λ (y : A). IfOk r (λ (x : A). x ≡ y)) same h

-- a chain whose answer doesn't stand where it goes lacks it there
pub unanswered-lacks : (stands : PlatformCode → Bool) (what : Lack) (to : PlatformCode) (link : ChainLink)
    → (goes : Option PlatformCode) (ends : Option ChainLink) → goes ≡ Some to → ends ≡ Some link
    → stands to ≡ false
    → first_of (unanswered stands what goes ends)
    ≡ Some (record { platform = to; what = what; text = link.text })
unanswered-lacks stands what to link goes ends is last missing =
    ap (λ (o : Option PlatformCode). first_of (unanswered stands what o ends)) is
    ∙ ap (λ (o : Option ChainLink). first_of (unanswered stands what (Some to) o)) last
    ∙ ap (λ (b : Bool). first_of (unless_it_stands b to what link)) missing
