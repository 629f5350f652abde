-- What is kept among bills, and what one frame more does to a history.
use Rattle.std.proofs.Common.{◌≡◌, Bool, true, false, cond, List, [], ◌∷◌, ◌++◌, Option, Some, None, reverse, refl, sym, ap, ◌∙◌}
use Rattle.std.specs.Prelude.{ℕ, option_map, unwrap_or}
use Rattle.std.specs.Option.{option_map_or}
use Rattle.std.proofs.lemmas.List.{append-nil}
use Rattle.ebl_base.specs.Checksum.{checksum_cmp, checksum_eq}
use Rattle.ebl_base.specs.declared.checksum.Checksum.{Checksum}
use Rattle.ebl_base.specs.declared.chain.ChainLink.{ChainLink}
use Rattle.ebl_base.proofs.ChecksumLemmas.{checksum_eq-Decides}
use Rattle.bill_chain.specs.Chain.{last_of}
use Rattle.bill_diary.specs.declared.record.Record.{Record}
use Rattle.bill_diary.specs.declared.record.Record.TheVariants.{Begun}
use Rattle.bill_diary.specs.declared.frame.Frame.{Frame}
use Rattle.bill_diary.specs.Known.{Received, known, last_begun, taken_chain}
use Rattle.envelope_manifest.specs.declared.manifest.Manifest.{Manifest}
use Rattle.std.specs.Ordering.{is_eq}
use Rattle.std.specs.BTreeMap.{BTreeMap, get, Updates}
use Rattle.std.proofs.lemmas.Map.Text.{is_eq-slice_cmp}
use Rattle.title_register.specs.declared.bill_state.BillState.{BillState}
use Rattle.title_register.specs.BillState.{unknown}
use Rattle.bill_diary.specs.Place.{parting, place_of, place_with, since}
use Rattle.bill_diary.specs.History.{history, records_of}
use Rattle.bill_diary.specs.Linked.{bill_in}
use Rattle.bill_diary.proofs.LinkedLemmas.{other_history, own_history as own_history_by}
use Rattle.title_register.specs.Standing.{left_by, placed, place_at, standing_of}
use Rattle.title_register.specs.Register.{state_in}

-- ---- places

placed_on : (h : List Record) (known1 : Option (List ChainLink)) (parting1 : Option ChainLink)
    → placed known1 parting1 (left_by known1 h) (since h) ≡ place_with known1 parting1 h
placed_on h None parting1 = refl
placed_on h (Some chain) (Some link) = refl
placed_on h (Some chain) None = refl

-- the place at the standing by some records is their place
pub place_at-standing_of : (h : List Record) → place_at (standing_of h) ≡ place_of h
place_at-standing_of h = placed_on h (known h) (parting h)

-- ---- one frame more

same : (bill : Checksum) → checksum_eq bill bill ≡ true
same bill = (checksum_eq-Decides bill bill).1 refl

-- one frame more stands in the history of its bill
pub own_history : (diary : List Frame) (frame : Frame)
    → history (bill_in frame) (diary ++ frame ∷ []) ≡ reverse (records_of frame) ++ history (bill_in frame) diary
own_history diary frame = own_history_by diary frame (bill_in frame) (same (bill_in frame))

-- and is all of it by itself
pub own_frame : (frame : Frame) → history (bill_in frame) (frame ∷ []) ≡ reverse (records_of frame)
own_frame frame = own_history [] frame ∙ append-nil (reverse (records_of frame))

-- in another history it has no record
pub other_frame : (bill : Checksum) (frame : Frame) → checksum_eq (bill_in frame) bill ≡ false
    → history bill (frame ∷ []) ≡ []
other_frame bill frame is = other_history [] frame bill is

-- what came with a Begun that is taken
pub begun_received : (bill : Checksum) (chain : List ChainLink) (manifest : Manifest) (body : List ℕ) (link : ChainLink)
    → (h : List Record) → last_of chain ≡ Some link
    → last_begun link.name (Begun bill chain manifest body ∷ h)
    ≡ Some (record { chain = chain; manifest = manifest })
begun_received bill chain manifest body link h is =
    ap (λ (b : Bool). cond b (Some (record { chain = chain; manifest = manifest })) (last_begun link.name h))
    (ap (λ (last : Option ChainLink). option_map_or (λ (l : ChainLink). checksum_eq l.name link.name) last false) is
    ∙ same link.name)

-- the chain of a Begun that is taken is that of its Taken
pub begun_taken : (bill : Checksum) (chain : List ChainLink) (manifest : Manifest) (body : List ℕ) (link : ChainLink)
    → (h : List Record) → last_of chain ≡ Some link
    → taken_chain link.name (Begun bill chain manifest body ∷ h) ≡ Some chain
begun_taken bill chain manifest body link h is =
    ap (λ (came : Option Received). option_map (λ (c : Received). c.chain) came)
    (begun_received bill chain manifest body link h is)

-- ---- what is kept among bills

same_name : (a b : Checksum) → is_eq (checksum_cmp a b) ≡ true → a ≡ b
same_name a b h = (checksum_eq-Decides a b).0 (sym (is_eq-slice_cmp a.0 b.0) ∙ h)

added_on : (bills : BTreeMap Checksum BillState) (k q : Checksum) (b : Bool) → is_eq (checksum_cmp k q) ≡ b
    → get checksum_cmp bills k ≡ None
    → unwrap_or (cond b (Some unknown) (get checksum_cmp bills q)) unknown ≡ state_in bills q
added_on bills k q true e absent =
    ap (λ (o : Option BillState). unwrap_or o unknown) (sym absent ∙ ap (get checksum_cmp bills) (same_name k q e))
added_on bills k q false e absent = refl

-- a bill of which there is no record changes nothing
pub added : (bills new : BTreeMap Checksum BillState) (k q : Checksum) → Updates checksum_cmp bills new k (Some unknown)
    → get checksum_cmp bills k ≡ None → state_in new q ≡ state_in bills q
added bills new k q updates absent =
    ap (λ (o : Option BillState). unwrap_or o unknown) (updates.0 q)
    ∙ added_on bills k q (is_eq (checksum_cmp k q)) refl absent

pub ruleset places = (place_at-standing_of)

pub ruleset histories = (own_history, begun_taken)
