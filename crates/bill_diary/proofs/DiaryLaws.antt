-- The laws of diaries and places.
use Rattle.std.proofs.Common.{◌≡◌, Bool, true, false, not, List, [], ◌++◌, refl, ap, sym, subst, ◌∙◌, ◌↔◌}
use Rattle.ebl_base.specs.declared.checksum.Checksum.{Checksum}
use Rattle.ebl_base.specs.declared.chain.ChainLink.{ChainLink}
use Rattle.ebl_base.specs.declared.platform_code.PlatformCode.{PlatformCode}
use Rattle.ebl_base.specs.declared.transaction.Transaction.{Transaction}
use Rattle.bill_diary.specs.declared.record.Record.{Record}
use Rattle.bill_diary.specs.declared.frame.Frame.{Frame}
use Rattle.bill_diary.specs.declared.bill_place.BillPlace.{BillPlace}
use Rattle.bill_diary.specs.declared.bill_place.BillPlace.TheVariants.{Absent, Held, Parting, Gone}
use Rattle.bill_diary.specs.History.{history}
use Rattle.bill_diary.specs.Known.{known}
use Rattle.bill_diary.specs.Place.{place_of, may_act_at, may_act_by, is_ended, title_at}
use Rattle.bill_diary.specs.Growth.{GoesOnIn}
use Rattle.bill_diary.specs.Sound.{IsSound, IsSoundHistory}
use Rattle.bill_diary.proofs.HistoryLemmas.{history-append, history_of_sound}
use Rattle.bill_diary.proofs.GrowthLemmas.{known_goes_on}
use Rattle.bill_diary.proofs.PlaceLemmas.{Stands, stands, stands_so}

-- further frames of a sound diary
pub known_grows : (me : PlatformCode) (diary more : List Frame) (bill : Checksum) → IsSound me (diary ++ more)
    → GoesOnIn (known (history bill diary)) (known (history bill (diary ++ more)))
known_grows me diary more bill sound =
    let parts = history-append diary more bill in
    subst (λ h. GoesOnIn (known (history bill diary)) (known h)) (sym parts)
    (known_goes_on me (history bill more) (history bill diary)
    (subst (IsSoundHistory me) parts (history_of_sound me (diary ++ more) bill sound)))

-- frames of other bills
pub others_change_nothing : (diary more : List Frame) (bill : Checksum) → history bill more ≡ []
    → history bill (diary ++ more) ≡ history bill diary
others_change_nothing diary more bill none =
    history-append diary more bill ∙ ap (λ h. h ++ history bill diary) none

-- a place is what stands
pub place_is_what_stands : (h : List Record) (place : BillPlace) → (place_of h ≡ place) ↔ Stands h place
place_is_what_stands h place = (stands h place, stands_so h place)

-- ---- who may act

-- a bill is held, and its title isn't ended
abbrev pub IsHeldAndLives : BillPlace → Type 0
IsHeldAndLives place =
    (chain : List ChainLink) × (made : List Transaction) × (place ≡ Held chain made)
    × (is_ended (title_at (Held chain made)) ≡ false)

not_ended : (b : Bool) → not b ≡ true → b ≡ false
not_ended true h = absurd (let no : false ≡ true = h in cc)
not_ended false h = refl

acts_at : (place : BillPlace) → may_act_at place ≡ true → IsHeldAndLives place
acts_at Absent h = absurd (let no : false ≡ true = h in cc)
acts_at (Held chain made) h = (chain, made, refl, not_ended (is_ended (title_at (Held chain made))) h)
acts_at (Parting chain link) h = absurd (let no : false ≡ true = h in cc)
acts_at (Gone chain) h = absurd (let no : false ≡ true = h in cc)

may_act_held : (place : BillPlace) → IsHeldAndLives place → may_act_at place ≡ true
may_act_held place (chain, made, is, lives) = ap may_act_at is ∙ ap not lives

pub acts_where_held : (h : List Record) → (may_act_by h ≡ true) ↔ IsHeldAndLives (place_of h)
acts_where_held h = (acts_at (place_of h), may_act_held (place_of h))
