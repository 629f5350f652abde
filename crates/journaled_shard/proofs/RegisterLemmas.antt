-- What a register's look-ups say: how often a bill was parted.
use Rattle.std.proofs.Common.{◌≡◌, ◌≤◌, ◌+◌, Bool, cond, List, [], ◌∷◌, ◌++◌, Option, Some, None, inl, inr, length, map, ap, ◌∙◌, arith}
use Rattle.std.specs.Prelude.{count_by}
use Rattle.std.proofs.lemmas.List.{length-map, map-append}
use Rattle.std.proofs.lemmas.List.Sums.{sum_by-append, count_by-le-length}
use Rattle.ebl_base.specs.declared.checksum.Checksum.{Checksum}
use Rattle.bill_diary.specs.declared.record.Record.{Record}
use Rattle.bill_diary.specs.declared.frame.Frame.{Frame}
use Rattle.bill_diary.specs.History.{history}
use Rattle.bill_diary.specs.Searches.{kept_in, parts_bill}
use Rattle.bill_diary.specs.Sound.{is_parted}
use Rattle.bill_diary.proofs.CountLemmas.{parted-frames}
use Rattle.journaled_shard.specs.Written.{IsKeptOrDropped}

-- at most as often as there are frames
pub partings_few : (bill : Checksum) (diary : List Frame) → count_by is_parted (history bill diary) ≤ length diary
partings_few bill diary =
    omega (
      arith,
      parted-frames bill diary,
      count_by-le-length (parts_bill bill) (map kept_in diary),
      length-map diary kept_in,
    )

-- a frame more is a Parted at most
partings_with : (bill : Checksum) (diary : List Frame) (frame : Frame)
    → count_by is_parted (history bill (diary ++ frame ∷ [])) ≤ count_by is_parted (history bill diary) + 1
partings_with bill diary frame =
    let test : Record → Bool = parts_bill bill in
    let more : count_by is_parted (history bill (diary ++ frame ∷ []))
    ≡ count_by test (map kept_in diary) + count_by test (kept_in frame ∷ []) =
    parted-frames bill (diary ++ frame ∷ [])
    ∙ ap (count_by test) (map-append kept_in diary (frame ∷ []))
    ∙ sum_by-append (λ (x : Record). cond (test x) 1 0) (map kept_in diary) (kept_in frame ∷ []) in
    let one : count_by test (kept_in frame ∷ []) ≤ 1 = count_by-le-length test (kept_in frame ∷ []) in
    omega (arith, more, one, parted-frames bill diary)

-- with the loose frame kept or dropped
pub partings_found : (bill : Checksum) (diary : List Frame) (loose : Option Frame) (found : List Frame)
    → IsKeptOrDropped diary loose found
    → count_by is_parted (history bill found) ≤ count_by is_parted (history bill diary) + 1
partings_found bill diary None found is =
    let same = ap (λ (d : List Frame). count_by is_parted (history bill d)) is in
    omega (arith, same)
partings_found bill diary (Some frame) found (inl is) =
    let same = ap (λ (d : List Frame). count_by is_parted (history bill d)) is in
    omega (arith, same)
partings_found bill diary (Some frame) found (inr is) =
    let same = ap (λ (d : List Frame). count_by is_parted (history bill d)) is in
    omega (arith, same, partings_with bill diary frame)

pub ruleset partings = (partings_few, partings_found)
