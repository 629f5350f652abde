use Rattle.std.proofs.Common.{◌≡◌, ℕ, ◌+◌, List, take, sym, ap, ◌∙◌}
use Rattle.ebl_base.specs.declared.checksum.Checksum.{Checksum}
use Rattle.bill_diary.specs.declared.record.Record.{Record}
use Rattle.bill_diary.specs.declared.frame.Frame.{Frame}
use Rattle.bill_diary.specs.History.{history, newest_first}
use Rattle.bill_diary.specs.Linked.{bill_in}
use Rattle.closed_family.specs.Lacking.{first_of, lacking_in, newest_lacks}
use Rattle.closed_family.proofs.Lacks.{lacks_first, lacks_none}
use Rattle.closed_family.proofs.lacking.first_in_diary.Goals as goal

pub returns-in-Some : goal.returns-in-Some
returns-in-Some c =
    let family = c.args.family.now in
    let frames = c.frames-frames.result.now in
    let frame = c.index-frames-i.result in
    let n : ℕ = c.loop-i.i + 1 in
    let until : c.history_in_front-until.result ≡ history (bill_in frame) (take n frames)
    = c.history_in_front-until.ensures
    ∙ ap (λ (b : Checksum). history b (take n c.args.diary.now)) c.bill.ensures
    ∙ ap (λ (fs : List Frame). history (bill_in frame) (take n fs)) (sym c.frames-frames.ensures) in
    sym (ap (λ (fs : List Frame). first_of (lacking_in family (newest_first fs))) (sym c.frames-frames.ensures)
    ∙ lacks_first family frames c.loop-i.i frame c.in-Some.found c.loop-i-test.true c.index-frames-i.is
    c.loop-i.invariant
    (ap (λ (h : List Record). first_of (newest_lacks family h)) (sym until) ∙ sym c.in_ok-found.ensures
    ∙ c.in-Some.is))

pub loop-i-preserved : goal.loop-i-preserved
loop-i-preserved c =
    let family = c.args.family.now in
    let frames = c.frames-frames.result.now in
    let frame = c.index-frames-i.result in
    let n : ℕ = c.loop-i.i + 1 in
    let until : c.history_in_front-until.result ≡ history (bill_in frame) (take n frames)
    = c.history_in_front-until.ensures
    ∙ ap (λ (b : Checksum). history b (take n c.args.diary.now)) c.bill.ensures
    ∙ ap (λ (fs : List Frame). history (bill_in frame) (take n fs)) (sym c.frames-frames.ensures) in
    lacks_none family frames c.loop-i.i frame c.loop-i-test.true c.index-frames-i.is c.loop-i.invariant
    (ap (λ (h : List Record). first_of (newest_lacks family h)) (sym until) ∙ sym c.in_ok-found.ensures
    ∙ c.in_default.is)
