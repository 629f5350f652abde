use Rattle.std.proofs.Common.{◌≡◌, ◌<◌, ◌≤◌, ◌∙◌, Some, length, refl, arith}
use Rattle.std.specs.Prelude.{slice_get}
use Rattle.std.proofs.lemmas.List.{drop-set-lt}
use Rattle.std.proofs.lemmas.Option.{slice_get_read}
use Rattle.ebl_run.proofs.Measuring.{all_blank, blank_more, measured_more, none_before, not_blank_at, one_measured, rose_at, told_at}
use Rattle.ebl_run.proofs.racks.measure.Goals as goal

pub returns-in-Ok-clause-unfit : goal.returns-in-Ok-clause-unfit
returns-in-Ok-clause-unfit g c =
    let disk = g.D.Disk in
    let before = c.args.racks.now.items in
    let now = c.loop-place.racks.items in
    let r = c.index_mut.result.now in
    let so_far = c.loop-place.invariant.measured in
    let enough : c.args.needed ≤ length before = omega (arith, c.len-given.ensures, c.if-given-needed.false) in
    let within : c.loop-place.place < length now = omega (arith, enough, c.loop-place-test.true, so_far.length_is) in
    let at : slice_get now c.loop-place.place ≡ Some r = slice_get_read now (length now) c.loop-place.place r refl within c.index_mut.ensures.value in
    let told = told_at disk.tells disk.seen disk.faults before now c.loop-place.place r so_far c.requires.told at in
    let some : 0 < c.in-Ok.field-0 = omega (arith, c.in-Ok.field-0-test) in (
      enough,
      not_blank_at disk.tells disk.seen disk.faults before now c.args.needed c.loop-place.place c.in-Ok.field-0 r
          so_far c.loop-place-test.true enough c.loop-place.invariant.blank at some (c.in-Ok.ensures.length told),
    )

pub returns-in-Ok-clause-measured : goal.returns-in-Ok-clause-measured
returns-in-Ok-clause-measured g c =
    let disk = g.D.Disk in
    let before = c.args.racks.now.items in
    let now = c.loop-place.racks.items in
    let r = c.index_mut.result.now in
    let so_far = c.loop-place.invariant.measured in
    let within : c.loop-place.place < length now =
    omega (arith, c.len-given.ensures, c.if-given-needed.false, c.loop-place-test.true, so_far.length_is) in
    let at : slice_get now c.loop-place.place ≡ Some r = slice_get_read now (length now) c.loop-place.place r refl within c.index_mut.ensures.value in
    let told = told_at disk.tells disk.seen disk.faults before now c.loop-place.place r so_far c.requires.told at in
    measured_more disk.tells disk.seen disk.faults before now c.loop-place.place r _ so_far at
    (one_measured disk.tells disk.seen disk.faults r c.len.new.self c.len.ensures.told (c.len.ensures.seen told) c.len.ensures.cause.later)

pub returns-in-Err-clause-measured : goal.returns-in-Err-clause-measured
returns-in-Err-clause-measured g c =
    let disk = g.D.Disk in
    let before = c.args.racks.now.items in
    let now = c.loop-place.racks.items in
    let r = c.index_mut.result.now in
    let so_far = c.loop-place.invariant.measured in
    let within : c.loop-place.place < length now =
    omega (arith, c.len-given.ensures, c.if-given-needed.false, c.loop-place-test.true, so_far.length_is) in
    let at : slice_get now c.loop-place.place ≡ Some r = slice_get_read now (length now) c.loop-place.place r refl within c.index_mut.ensures.value in
    let told = told_at disk.tells disk.seen disk.faults before now c.loop-place.place r so_far c.requires.told at in
    measured_more disk.tells disk.seen disk.faults before now c.loop-place.place r _ so_far at
    (one_measured disk.tells disk.seen disk.faults r c.len.new.self c.len.ensures.told (c.len.ensures.seen told) c.len.ensures.cause.later)

pub returns-in-Err-clause-unfit : goal.returns-in-Err-clause-unfit
returns-in-Err-clause-unfit g c =
    let disk = g.D.Disk in
    let before = c.args.racks.now.items in
    let now = c.loop-place.racks.items in
    let r = c.index_mut.result.now in
    let so_far = c.loop-place.invariant.measured in
    let enough : c.args.needed ≤ length before = omega (arith, c.len-given.ensures, c.if-given-needed.false) in
    let within : c.loop-place.place < length now = omega (arith, enough, c.loop-place-test.true, so_far.length_is) in
    let at : slice_get now c.loop-place.place ≡ Some r = slice_get_read now (length now) c.loop-place.place r refl within c.index_mut.ensures.value in (
      enough,
      c.loop-place-test.true,
      none_before disk.tells disk.seen disk.faults before c.args.needed c.loop-place.place c.loop-place-test.true
          c.loop-place.invariant.blank,
      rose_at disk.tells disk.seen disk.faults before now c.loop-place.place r c.len.new.self so_far at
          c.in-Err.ensures.cause.failed,
    )

pub loop-place-preserved : goal.loop-place-preserved
loop-place-preserved g c =
    let disk = g.D.Disk in
    let before = c.args.racks.now.items in
    let now = c.loop-place.racks.items in
    let r = c.index_mut.result.now in
    let so_far = c.loop-place.invariant.measured in
    let within : c.loop-place.place < length now =
    omega (arith, c.len-given.ensures, c.if-given-needed.false, c.loop-place-test.true, so_far.length_is) in
    let at : slice_get now c.loop-place.place ≡ Some r = slice_get_read now (length now) c.loop-place.place r refl within c.index_mut.ensures.value in
    let told = told_at disk.tells disk.seen disk.faults before now c.loop-place.place r so_far c.requires.told at in
    let long : 0 ≡ length (disk.seen r.disk) = omega (arith, c.in-Ok-eq0.field-0-is, c.in-Ok-eq0.ensures.length told) in
    record {
      measured = measured_more disk.tells disk.seen disk.faults before now c.loop-place.place r _ so_far at
          (one_measured disk.tells disk.seen disk.faults r c.len.new.self c.len.ensures.told (c.len.ensures.seen told)
          c.len.ensures.cause.later);
      further = drop-set-lt c.args.needed now c.loop-place.place _ c.loop-place-test.true ∙ c.loop-place.invariant.further;
      blank = blank_more disk.tells disk.seen disk.faults before now c.loop-place.place r so_far
          c.loop-place.invariant.blank at long;
    }

pub returns-clause-blank : goal.returns-clause-blank
returns-clause-blank g c =
    let disk = g.D.Disk in
    all_blank disk.tells disk.seen disk.faults c.args.racks.now.items c.args.needed
    (λ k r less is. c.loop-place.invariant.blank k r (omega (arith, less, c.loop-place-test.false)) is)
