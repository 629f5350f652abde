use Rattle.std.proofs.Common.{◌≡◌, ◌==◌, ℕ, List, length, true, ap, sym, ◌∙◌}
use Rattle.std.proofs.Common.{◌++◌}
use Rattle.std.specs.List.{flat_map}
use Rattle.std.specs.Option.{option_to_list}
use Rattle.bill_diary.specs.History.{taken_after}
use Rattle.record_bytes.specs.Grammar.{record_bytes}
use Rattle.record_bytes.proofs.FindLemmas.{found_is, from_none, isnt, not_found}
use Rattle.record_bytes.proofs.BegunLemmas.{one_begun_of}
use Rattle.record_bytes.proofs.FrameLemmas.{no_frame_text, no_frame_begun, no_frame_behind}
use Rattle.record_bytes.proofs.reading.begun_frame.Goals as goal

pub returns-in_default : goal.returns-in_default
returns-in_default c =
    no_frame_text c.args.fields.now (from_none c.text_at.result _ c.in_default.not-Some c.text_at.ensures.none)

pub returns-in_default-2 : goal.returns-in_default-2
returns-in_default-2 c =
    no_frame_begun c.args.fields.now c.in-Some.body.now c.in-Some.behind.now c.in-Some.ensures.found
    (not_found _ c.in_ok-begun.field-0 c.in_default-2.not-Some c.in_ok-begun.ensures)

pub returns-else-are_same : goal.returns-else-are_same
returns-else-are_same c =
    let begun = found_is _ c.in_ok-begun.field-0 c.in-Some-2.begun c.in-Some-2.is c.in_ok-begun.ensures in
    let after = flat_map record_bytes (option_to_list (taken_after c.in-Some-2.begun)) in
    no_frame_behind c.args.fields.now c.in-Some.body.now c.in-Some.behind.now c.push_taken_after.new.out c.in-Some-2.begun
    (λ other are. one_begun_of c.in-Some.body.now c.in-Some-2.begun other begun are) c.in-Some.ensures.found
    (c.in_ok-push_taken_after.ensures ∙ ap (λ (l : List ℕ). l ++ after) c.new-taken.ensures)
    (λ none. let full : (length c.in-Some.behind.now == 0) ≡ true = ap (λ (l : List ℕ). length l == 0) none in cc)
    (λ same. isnt c.are_same.result _ c.if-are_same.false c.are_same.ensures.1 (c.as_slice.ensures ∙ same))
