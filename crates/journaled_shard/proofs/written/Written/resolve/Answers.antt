use Rattle.std.proofs.Common.{◌≡◌, ◌∙◌, List, Err, ap, rules}
use Rattle.bill_journal.specs.declared.fault.OpenFault.TheVariants.{Damaged}
use Rattle.bill_journal.specs.declared.frame_at.FrameAt.{FrameAt}
use Rattle.bill_journal.specs.Places.{contents_of}
use Rattle.journaled_diary.specs.Contents.{contents_in}
use Rattle.journaled_shard.proofs.written.Written.resolve.Goals as goal

pub returns-in_err-frames-clause-undamaged : goal.returns-in_err-frames-clause-undamaged
returns-in_err-frames-clause-undamaged g c = λ place tells on is.
    let e : c.from_residual.result ≡ Err c.in_err-frames.field-0.0 = search rules in
    let fault : c.in_err-frames.field-0.0 ≡ Damaged place = cc in
    c.no_journal_is_damaged.ensures (g.D.Disk.seen c.args.self.now.journal.disk) (contents_in on.now.0) place on.now.2
    (c.in_err-frames.ensures.damaged place tells (ap Err fault))

pub returns-in_err-keep_or_drop-clause-undamaged : goal.returns-in_err-keep_or_drop-clause-undamaged
returns-in_err-keep_or_drop-clause-undamaged g c = λ place tells on is.
    let e : c.from_residual-in_err-keep_or_drop.result ≡ Err c.in_err-keep_or_drop.field-0.0 = search rules in
    let fault : c.in_err-keep_or_drop.field-0.0 ≡ Damaged place = cc in
    c.in_err-keep_or_drop.ensures.damaged place on.now.0 (ap Err fault) on.now.1
    (ap (λ (frames : List FrameAt). contents_of frames) c.as_slice.ensures
    ∙ c.in_ok-frames.ensures.kept (contents_in on.now.0) tells on.now.2)
