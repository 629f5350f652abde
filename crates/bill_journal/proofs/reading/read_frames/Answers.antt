use Rattle.std.proofs.Common.{◌+◌, ◌-◌, ◌≤◌, ℕ, List, length, take, drop, rules, refl, arith, length-take, length-drop}
use Rattle.std.proofs.lemmas.List.{take_all}
use Rattle.bill_journal.proofs.ReadLemmas.{IsReadTo-push}
use Rattle.bill_journal.proofs.reading.read_frames.Goals as goal

-- a whole frame ends inside the bytes
ends : (bytes : List ℕ) (place n : ℕ) → place ≤ length bytes
    → 5 + n ≤ length (take (length bytes - place) (drop place bytes)) → place + 5 + n ≤ length bytes
ends bytes place n inside fits = omega (
  arith,
  fits,
  length-take (length bytes - place) (drop place bytes),
  length-drop place bytes,
  inside,
)

pub overflow_add-place-in-Frame-2 : goal.overflow_add-place-in-Frame-2
overflow_add-place-in-Frame-2 c =
    let inside = ends c.args.bytes.now c.loop-frames.place c.in-Frame.len c.loop-frames.invariant.inside
    (c.in-Frame.ensures.fits c.in-Frame.len refl) in
    search rules

pub slice_bounds-push_frame-end : goal.slice_bounds-push_frame-end
slice_bounds-push_frame-end c =
    let inside = ends c.args.bytes.now c.loop-frames.place c.in-Frame.len c.loop-frames.invariant.inside
    (c.in-Frame.ensures.fits c.in-Frame.len refl) in
    search rules

pub loop-frames-smaller : goal.loop-frames-smaller
loop-frames-smaller c =
    let inside = ends c.args.bytes.now c.loop-frames.place c.in-Frame.len c.loop-frames.invariant.inside
    (c.in-Frame.ensures.fits c.in-Frame.len refl) in
    omega arith

pub loop-frames-preserved : goal.loop-frames-preserved
loop-frames-preserved c =
    let behind = take_all (length c.args.bytes.now - c.loop-frames.place) (drop c.loop-frames.place c.args.bytes.now)
    (omega (arith, length-drop c.loop-frames.place c.args.bytes.now)) in
    let to = c.loop-frames.invariant in
    let read =
    IsReadTo-push c.args.bytes.now _ _ c.loop-frames.frames c.push_frame.new.frames c.loop-frames.place c.in-Frame.len _
    (record { split = to.split; here = to.here; inside = to.inside; places = to.places; short = to.short })
    behind (c.in-Frame.ensures.frame c.in-Frame.len refl) (c.in-Frame.ensures.fits c.in-Frame.len refl)
    (omega arith) refl c.in_ok-push_frame-in-Frame.ensures in
    record { split = read.split; here = read.here; inside = read.inside; places = read.places; short = read.short }
