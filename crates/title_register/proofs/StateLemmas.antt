-- What one frame changes in the documents of its bill, in its title, and in how often it was parted.
use Rattle.std.proofs.Common.{◌≡◌, ℕ, ◌+◌, ◌≤◌, arith, Bool, true, false, ◌&&◌, cond, List, [], ◌∷◌, ◌++◌, Option, Some, length, map, refl, sym, ap, ◌∙◌}
use Rattle.std.specs.Prelude.{not, count_by, unwrap_or}
use Rattle.std.specs.Option.{option_map_or}
use Rattle.std.proofs.lemmas.List.{map-append, length-map}
use Rattle.std.proofs.lemmas.List.Sums.{sum_by-cons, sum_by-append, count_by-le-length}
use Rattle.ebl_base.specs.Checksum.{checksum_eq}
use Rattle.ebl_base.specs.declared.checksum.Checksum.{Checksum}
use Rattle.ebl_base.specs.declared.chain.ChainLink.{ChainLink}
use Rattle.ebl_base.proofs.ChecksumLemmas.{checksum_eq-Decides}
use Rattle.envelope_manifest.specs.declared.manifest.Manifest.{Manifest}
use Rattle.envelope_manifest.specs.declared.piece.Piece.{Piece}
use Rattle.bill_chain.specs.Chain.{last_of}
use Rattle.bill_diary.specs.declared.record.Record.{Record}
use Rattle.bill_diary.specs.declared.record.Record.TheVariants.{Begun}
use Rattle.bill_diary.specs.declared.frame.Frame.{Frame}
use Rattle.bill_diary.specs.declared.bill_place.BillPlace.{BillPlace}
use Rattle.bill_diary.specs.declared.bill_place.BillPlace.TheVariants.{Absent, Held, Parting, Gone}
use Rattle.bill_diary.specs.History.{history}
use Rattle.bill_diary.specs.Known.{Received}
use Rattle.bill_diary.specs.Pieces.{pieces_of}
use Rattle.bill_diary.specs.Place.{may_act_at, may_act_by, place_of, title_at}
use Rattle.bill_diary.specs.Searches.{kept_in, listed, parts_bill}
use Rattle.bill_diary.specs.Sound.{is_parted}
use Rattle.bill_diary.specs.Titles.{FoldedBy, unplaced}
use Rattle.bill_diary.proofs.CountLemmas.{parted-frames}
use Rattle.bill_diary.proofs.TitleLemmas.{is_ended-unplaced}
use Rattle.title_register.specs.declared.standing.Standing.{Standing}
use Rattle.title_register.specs.declared.bill_state.BillState.{BillState}
use Rattle.title_register.specs.declared.bill_state.StateChange.{StateChange}
use Rattle.title_register.specs.Past.{arrived, is_fresh}
use Rattle.title_register.specs.Standing.{place_at, standing_of, standing_with}
use Rattle.title_register.specs.BillState.{acts_with, state_of, state_with, title_by}
use Rattle.bill_diary.specs.Linked.{bill_in}
use Rattle.title_register.proofs.RegisterLemmas.{place_at-standing_of, begun_received}

-- ---- titles

-- the title by the standing is that by the records
pub title_by-standing_of : (h : List Record) → title_by (standing_of h) ≡ unplaced (title_at (place_of h))
title_by-standing_of h = ap (λ (place : BillPlace). unplaced (title_at place)) (place_at-standing_of h)

acts_at : (place : BillPlace) → acts_with place (unplaced (title_at place)) ≡ may_act_at place
acts_at Absent = refl
acts_at (Held chain made) = ap not (is_ended-unplaced (title_at (Held chain made)))
acts_at (Parting chain link) = refl
acts_at (Gone chain) = refl

-- whether the possessor may act, by what is kept
pub acts-state_of : (h : List Record)
    → acts_with (place_at (standing_of h)) (unplaced (title_at (place_of h))) ≡ may_act_by h
acts-state_of h =
    ap (λ (place : BillPlace). acts_with place (unplaced (title_at (place_of h)))) (place_at-standing_of h)
    ∙ acts_at (place_of h)

pub ruleset titles = (title_by-standing_of, acts-state_of)

-- ---- documents

-- the documents of a Begun that is taken
pub begun_pieces : (bill : Checksum) (chain : List ChainLink) (manifest : Manifest) (body : List ℕ) (link : ChainLink)
    → (h : List Record) → last_of chain ≡ Some link
    → listed link.name (Begun bill chain manifest body ∷ h) ≡ manifest.documents
begun_pieces bill chain manifest body link h is =
    ap (λ (came : Option Received). option_map_or (λ (c : Received). c.manifest.documents) came [])
    (begun_received bill chain manifest body link h is)

-- ---- how often a bill was parted

abbrev counts : Bool → ℕ
counts b = cond b 1 0

same : (bill : Checksum) → checksum_eq bill bill ≡ true
same bill = (checksum_eq-Decides bill bill).1 refl

own_parted : (frame : Frame) → parts_bill (bill_in frame) (kept_in frame) ≡ is_parted (kept_in frame)
own_parted frame = ap (λ (b : Bool). is_parted (kept_in frame) && b) (same (bill_in frame)) ∙ on_test (is_parted (kept_in frame))
  where
    on_test : (b : Bool) → (b && true) ≡ b
    on_test true = refl
    on_test false = refl

count_one : (test : Record → Bool) (r : Record) → count_by test (r ∷ []) ≡ counts (test r)
count_one test r =
    let more = sum_by-cons (λ (x : Record). counts (test x)) r [] in
    more ∙ none (counts (test r))
  where
    none : (n : ℕ) → n + 0 ≡ n
    none n = omega arith

partings_more : (diary : List Frame) (frame : Frame)
    → count_by is_parted (history (bill_in frame) (diary ++ frame ∷ []))
    ≡ count_by is_parted (history (bill_in frame) diary) + counts (is_parted (kept_in frame))
partings_more diary frame =
    let bill = bill_in frame in
    let test : Record → Bool = parts_bill bill in
    parted-frames bill (diary ++ frame ∷ [])
    ∙ ap (count_by test) (map-append kept_in diary (frame ∷ []))
    ∙ sum_by-append (λ (x : Record). counts (test x)) (map kept_in diary) (kept_in frame ∷ [])
    ∙ ap (λ (n : ℕ). n + count_by test (kept_in frame ∷ [])) (sym (parted-frames bill diary))
    ∙ ap (λ (n : ℕ). count_by is_parted (history bill diary) + n)
    (count_one test (kept_in frame) ∙ ap counts (own_parted frame))

-- a frame with a Parted is one more
pub parted_more : (diary : List Frame) (frame : Frame) → is_parted (kept_in frame) ≡ true
    → count_by is_parted (history (bill_in frame) (diary ++ frame ∷ []))
    ≡ count_by is_parted (history (bill_in frame) diary) + 1
parted_more diary frame is =
    partings_more diary frame
    ∙ ap (λ (b : Bool). count_by is_parted (history (bill_in frame) diary) + counts b) is

-- and no other one is
pub parted_same : (diary : List Frame) (frame : Frame) → is_parted (kept_in frame) ≡ false
    → count_by is_parted (history (bill_in frame) (diary ++ frame ∷ []))
    ≡ count_by is_parted (history (bill_in frame) diary)
parted_same diary frame is =
    partings_more diary frame
    ∙ ap (λ (b : Bool). count_by is_parted (history (bill_in frame) diary) + counts b) is
    ∙ none (count_by is_parted (history (bill_in frame) diary))
  where
    none : (n : ℕ) → n + 0 ≡ n
    none n = omega arith

-- a bill was parted at most as often as there are frames
pub partings-le-length : (bill : Checksum) (diary : List Frame) → count_by is_parted (history bill diary) ≤ length diary
partings-le-length bill diary =
    let most = count_by-le-length (parts_bill bill) (map kept_in diary) in
    omega (arith, parted-frames bill diary, most, length-map diary kept_in)

pub ruleset documents = (begun_pieces)

pub ruleset partings = (parted_more, parted_same, partings-le-length)

-- ---- what is kept

-- a state is its parts
by_parts : (s : BillState) (standing1 : Standing) (title1 : FoldedBy) (pieces1 : List Piece) (partings1 : ℕ)
    (arrived1 : List Checksum) (fresh1 : Bool) → standing1 ≡ s.standing → title1 ≡ s.title → pieces1 ≡ s.pieces
    → partings1 ≡ s.partings → arrived1 ≡ s.arrived → fresh1 ≡ s.fresh
    → record {
      standing = standing1;
      title = title1;
      pieces = pieces1;
      partings = partings1;
      arrived = arrived1;
      fresh = fresh1;
    } ≡ s
by_parts s standing1 title1 pieces1 partings1 arrived1 fresh1 a b c d e f =
    λ i. record {
      standing = a i;
      title = b i;
      pieces = c i;
      partings = d i;
      arrived = e i;
      fresh = f i;
    }

-- what is kept after a change is what the records say, where each part is
pub state_changed : (change : StateChange) (s : BillState) (h : List Record)
    → standing_with change.standing s.standing ≡ standing_of h
    → change.title ≡ title_by (standing_with change.standing s.standing)
    → unwrap_or change.pieces s.pieces ≡ pieces_of h → change.partings ≡ count_by is_parted h
    → unwrap_or change.arrived s.arrived ≡ arrived h → change.fresh ≡ is_fresh h
    → state_with change s ≡ state_of h
state_changed change s h standing_is title_is pieces_are partings_are arrived_are fresh_is =
    by_parts (state_of h) (standing_with change.standing s.standing) change.title (unwrap_or change.pieces s.pieces)
    change.partings (unwrap_or change.arrived s.arrived) change.fresh standing_is
    (title_is ∙ ap title_by standing_is ∙ title_by-standing_of h) pieces_are partings_are arrived_are fresh_is

pub ruleset states = (state_changed)
