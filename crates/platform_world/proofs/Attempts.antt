-- A diary has at most as many Parted as frames, of each bill too.
use Rattle.std.proofs.Common.{◌≡◌, ℕ, ◌+◌, ◌≤◌, Bool, true, false, cond, reverse, List, [], ◌∷◌, Option, Some, None, length, refl, ap, ◌∙◌, arith}
use Rattle.std.specs.Prelude.{count_by, option_map, sum_by}
use Rattle.std.specs.List.{filter, flat_map}
use Rattle.std.specs.Option.{option_to_list}
use Rattle.std.proofs.lemmas.List.{reverse-append}
use Rattle.std.proofs.lemmas.List.Sums.{sum_by-append, sum_by-cons}
use Rattle.ebl_base.specs.Checksum.{checksum_eq}
use Rattle.ebl_base.specs.declared.checksum.Checksum.{Checksum}
use Rattle.ebl_base.specs.declared.chain.ChainLink.{ChainLink}
use Rattle.bill_chain.specs.Chain.{last_of}
use Rattle.bill_diary.specs.declared.record.Record.{Record}
use Rattle.bill_diary.specs.declared.record.Record.TheVariants.{Signed, Acted, Attached, Parted, Settled, Regained, Begun, Stored, Taken, Declined}
use Rattle.bill_diary.specs.declared.frame.Frame.{Frame}
use Rattle.bill_diary.specs.declared.frame.Frame.TheVariants.{One, BegunTaken}
use Rattle.bill_diary.specs.History.{bill_of, newest_first, of_bill, records_of}
use Rattle.bill_diary.specs.Sound.{is_parted}

-- one for a Parted
abbrev one_if : Record → ℕ
one_if r = cond (is_parted r) 1 0

-- those of some records are no more than those of all
count_kept : (keeps : Record → Bool) (records : List Record)
    → sum_by one_if (filter keeps records) ≤ sum_by one_if records
count_kept keeps [] = omega arith
count_kept keeps (r ∷ records) = on_test (keeps r) (count_kept keeps records)
  where
    on_test : (test : Bool) → sum_by one_if (filter keeps records) ≤ sum_by one_if records
        → sum_by one_if (cond test (r ∷ filter keeps records) (filter keeps records)) ≤ sum_by one_if (r ∷ records)
    on_test true fewer =
        let some = sum_by-cons one_if r (filter keeps records) in
        let all = sum_by-cons one_if r records in
        omega (arith, fewer, some, all)
    on_test false fewer = let all = sum_by-cons one_if r records in omega (arith, fewer, all)

count_reversed : (records : List Record) → sum_by one_if (reverse records) ≡ sum_by one_if records
count_reversed [] = refl
count_reversed (r ∷ records) =
    let ends : sum_by one_if (reverse (r ∷ records)) ≡ sum_by one_if (reverse records) + sum_by one_if (r ∷ []) =
    ap (sum_by one_if) (reverse-append (r ∷ []) records) ∙ sum_by-append one_if (reverse records) (r ∷ []) in
    let last = sum_by-cons one_if r [] in
    let all = sum_by-cons one_if r records in
    omega (arith, ends, last, all, count_reversed records)

count_taken : (bill : Checksum) (o : Option ChainLink)
    → sum_by one_if (option_to_list (option_map (λ (link : ChainLink). Taken bill link.name) o)) ≤ 0
count_taken bill None = omega arith
count_taken bill (Some link) = omega arith

count_frame : (frame : Frame) → sum_by one_if (records_of frame) ≤ 1
count_frame (One r) = count_one r
  where
    at_most_one : (test : Bool) → cond test 1 0 ≤ 1
    at_most_one true = omega arith
    at_most_one false = omega arith

    count_one : (x : Record) → sum_by one_if (x ∷ []) ≤ 1
    count_one x =
        let all = sum_by-cons one_if x [] in let one : one_if x ≤ 1 = at_most_one (is_parted x) in
        omega (arith, all, one)
count_frame (BegunTaken (Begun bill chain manifest body)) =
    let all = sum_by-cons one_if (Begun bill chain manifest body)
    (option_to_list (option_map (λ (link : ChainLink). Taken bill link.name) (last_of chain))) in
    omega (arith, all, count_taken bill (last_of chain))
count_frame (BegunTaken (Signed bill document transaction)) = omega arith
count_frame (BegunTaken (Acted bill transaction)) = omega arith
count_frame (BegunTaken (Attached bill piece bytes)) = omega arith
count_frame (BegunTaken (Parted bill link manifest text)) = omega arith
count_frame (BegunTaken (Settled bill entry)) = omega arith
count_frame (BegunTaken (Regained bill entry)) = omega arith
count_frame (BegunTaken (Stored bill entry checksum bytes)) = omega arith
count_frame (BegunTaken (Taken bill entry)) = omega arith
count_frame (BegunTaken (Declined bill entry code reason evidence)) = omega arith

count_frames : (diary : List Frame) → sum_by one_if (flat_map records_of diary) ≤ length diary
count_frames [] = omega arith
count_frames (frame ∷ diary) =
    let parts = sum_by-append one_if (records_of frame) (flat_map records_of diary) in
    omega (arith, parts, count_frame frame, count_frames diary)

pub attempts_within : (diary : List Frame) (bill : Checksum)
    → count_by is_parted (of_bill bill (newest_first diary)) ≤ length diary
attempts_within diary bill =
    let fewer = count_kept (λ r. checksum_eq (bill_of r) bill) (newest_first diary) in
    let all = count_reversed (flat_map records_of diary) in
    let within : sum_by one_if (of_bill bill (newest_first diary)) ≤ length diary =
    omega (arith, fewer, all, count_frames diary) in
    within
