use Rattle.std.proofs.Common.{◌≡◌, ◌<◌, ◌+◌, ℕ, Bool, true, List, Err, length, ap, sym, subst, ◌∙◌, refl, rules}
use Rattle.disk_model.proofs.Moments.{LeavesOnly-weaker}
use Rattle.bill_journal.specs.Journal.{HasContents, WithOrWithout, room_for}
use Rattle.journaled_diary.specs.Contents.{contents_in}
use Rattle.journaled_shard.specs.View.{written_view}
use Rattle.journaled_shard.specs.Written.{AreNamed, IsLeft, IsLeftOpen, IsWritten, WrittenRecord}
use Rattle.journaled_shard.proofs.WrittenLemmas.{added, as_before, behind, contents_added, left_by_added, left_by_failed, left_on_disk, named_more, refused, room_behind, settled_on_disk, too_long}
use Rattle.journaled_shard.proofs.written.Written.write.Goals as goal

pub returns-in_err-framed-clause-written : goal.returns-in_err-framed-clause-written
returns-in_err-framed-clause-written g c =
    let before = written_view c.args.self.now in
    let after : WrittenRecord g.row.D.Denot = record before { diary = c.make_ready.new.register.diary } in
    let e : c.from_residual.result ≡ Err c.in_err-framed.field-0.0 = search rules in
    subst (IsWritten before c.args.frame after) (sym e)
    (refused before after c.args.frame c.in_err-framed.field-0.0
    (as_before before after c.requires.read c.make_ready.ensures.diary refl refl refl) c.requires.read
    (λ is. c.in_err-framed.ensures.full (ap Err is)) (λ is. c.in_err-framed.ensures.no_disk (ap Err is)))

pub returns-in-Ok-clause-written : goal.returns-in-Ok-clause-written
returns-in-Ok-clause-written g c =
    let before = written_view c.args.self.now in
    let after : WrittenRecord g.row.D.Denot =
    record before { diary = c.add.new.self.diary; journal = c.append.new.self } in
    let added_is = behind before.diary c.make_ready.new.register.diary after.diary c.args.frame c.make_ready.ensures.diary
    c.add.ensures.diary in
    added before after c.args.frame c.in_ok-framed.framed c.requires.read c.in_ok-framed.ensures.ok
    added_is refl refl c.in-Ok.ensures.ready c.in-Ok.ensures.end
    (λ long. let clash = c.in-Ok.ensures.full.1 (subst (λ (s : Bool). room_for s
    < c.args.self.now.journal.end + 6 + length c.in_ok-framed.framed) (sym c.is_settling-settling.ensures) long)
    in cc clash)

pub returns-in-Ok-clause-named : goal.returns-in-Ok-clause-named
returns-in-Ok-clause-named g c = λ named. (
  subst AreNamed
      (sym (behind c.args.self.now.register.diary c.make_ready.new.register.diary c.add.new.self.diary c.args.frame
      c.make_ready.ensures.diary c.add.ensures.diary))
      (named_more c.args.self.now.register.diary c.args.frame named.0 c.in_ok-framed.ensures.named),
  named.1,
)

pub returns-in-Ok-clause-on_disk : goal.returns-in-Ok-clause-on_disk
returns-in-Ok-clause-on_disk g c = λ tells on.
    let before = written_view c.args.self.now in
    let after : WrittenRecord g.row.D.Denot =
    record before { diary = c.add.new.self.diary; journal = c.append.new.self } in
    let added_is = behind before.diary c.make_ready.new.register.diary after.diary c.args.frame c.make_ready.ensures.diary
    c.add.ensures.diary in
    settled_on_disk g.D.Disk.seen g.D.Disk.may_leave after
    (subst (λ (h : List (List ℕ)). HasContents g.D.Disk.seen g.D.Disk.may_leave c.append.new.self h)
    (contents_added before.diary after.diary c.args.frame c.in_ok-framed.framed added_is
    c.in_ok-framed.ensures.ok)
    (c.in-Ok.ensures.appended (contents_in before.diary) tells (on.settled c.requires.read.read)))

pub returns-in-Ok-clause-any_moment : goal.returns-in-Ok-clause-any_moment
returns-in-Ok-clause-any_moment g c = λ tells on.
    let before = written_view c.args.self.now in
    let after : WrittenRecord g.row.D.Denot =
    record before { diary = c.add.new.self.diary; journal = c.append.new.self } in
    let added_is = behind before.diary c.make_ready.new.register.diary after.diary c.args.frame c.make_ready.ensures.diary
    c.add.ensures.diary in
    LeavesOnly-weaker g.D.Disk.moment g.D.Disk.left_since before.journal.disk after.journal.disk
    (WithOrWithout (contents_in before.diary) c.in_ok-framed.framed) (IsLeft before after)
    (λ bytes. left_by_added g.D.Disk.seen g.D.Disk.may_leave before after c.args.frame c.in_ok-framed.framed bytes
    added_is c.in_ok-framed.ensures.ok)
    (c.in-Ok.ensures.any_moment (contents_in before.diary) tells (on.settled c.requires.read.read))

pub returns-in-Err-Full-clause-written : goal.returns-in-Err-Full-clause-written
returns-in-Err-Full-clause-written g c =
    let before = written_view c.args.self.now in
    let after : WrittenRecord g.row.D.Denot =
    record before { diary = c.release.new.self.diary; journal = c.append.new.self } in
    let full = ap Err c.in-Err-Full.field-0-is in (
      as_before before after c.requires.read
          (c.release.ensures.diary ∙ c.make_ready.ensures.diary) refl refl
          (c.in-Err-Full.ensures.full_same full),
      too_long before c.args.frame c.in_ok-framed.framed c.requires.read c.in_ok-framed.ensures.ok
          (subst (λ (s : Bool). room_for s < c.args.self.now.journal.end + 6 + length c.in_ok-framed.framed)
          c.is_settling-settling.ensures (c.in-Err-Full.ensures.full.0 full)),
    )

pub returns-clause-written : goal.returns-clause-written
returns-clause-written g c =
    let before = written_view c.args.self.now in
    record {
      diary = c.release-in-Err-Disk.ensures.diary ∙ c.make_ready.ensures.diary;
      fits = room_behind before c.args.frame c.in_ok-framed.framed c.requires.read c.in_ok-framed.ensures.ok
          (λ long. let clash = c.in-Err-Disk.ensures.full.1 (subst (λ (s : Bool). room_for s
          < c.args.self.now.journal.end + 6 + length c.in_ok-framed.framed) (sym c.is_settling-settling.ensures) long)
          in cc clash);
      loose = c.hold.ensures;
      unread = refl;
    }

pub returns-clause-on_disk : goal.returns-clause-on_disk
returns-clause-on_disk g c = λ tells on.
    let before = written_view c.args.self.now in
    let after : WrittenRecord g.row.D.Denot =
    record { diary = c.release-in-Err-Disk.new.self.diary; loose = c.hold.new.loose; unread = true; journal = c.append.new.self } in
    let left : IsLeftOpen before c.args.frame after = record {
      diary = c.release-in-Err-Disk.ensures.diary ∙ c.make_ready.ensures.diary;
      fits = room_behind before c.args.frame c.in_ok-framed.framed c.requires.read c.in_ok-framed.ensures.ok
          (λ long. let clash = c.in-Err-Disk.ensures.full.1 (subst (λ (s : Bool). room_for s
          < c.args.self.now.journal.end + 6 + length c.in_ok-framed.framed) (sym c.is_settling-settling.ensures) long)
          in cc clash);
      loose = c.hold.ensures;
      unread = refl;
    } in
    left_on_disk g.D.Disk.seen g.D.Disk.may_leave before after c.args.frame c.in_ok-framed.framed left
    c.in_ok-framed.ensures.ok
    (c.in-Err-Disk.ensures.may_have (contents_in before.diary) tells (on.settled c.requires.read.read))

pub returns-clause-any_moment : goal.returns-clause-any_moment
returns-clause-any_moment g c = λ tells on.
    let before = written_view c.args.self.now in
    let after : WrittenRecord g.row.D.Denot =
    record { diary = c.release-in-Err-Disk.new.self.diary; loose = c.hold.new.loose; unread = true; journal = c.append.new.self } in
    let left : IsLeftOpen before c.args.frame after = record {
      diary = c.release-in-Err-Disk.ensures.diary ∙ c.make_ready.ensures.diary;
      fits = room_behind before c.args.frame c.in_ok-framed.framed c.requires.read c.in_ok-framed.ensures.ok
          (λ long. let clash = c.in-Err-Disk.ensures.full.1 (subst (λ (s : Bool). room_for s
          < c.args.self.now.journal.end + 6 + length c.in_ok-framed.framed) (sym c.is_settling-settling.ensures) long)
          in cc clash);
      loose = c.hold.ensures;
      unread = refl;
    } in
    LeavesOnly-weaker g.D.Disk.moment g.D.Disk.left_since before.journal.disk after.journal.disk
    (WithOrWithout (contents_in before.diary) c.in_ok-framed.framed) (IsLeft before after)
    (λ bytes. left_by_failed g.D.Disk.seen g.D.Disk.may_leave before after c.args.frame c.in_ok-framed.framed bytes
    left c.in_ok-framed.ensures.ok)
    (c.in-Err-Disk.ensures.any_moment (contents_in before.diary) tells (on.settled c.requires.read.read))
