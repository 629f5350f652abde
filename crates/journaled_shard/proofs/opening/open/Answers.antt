use Rattle.std.proofs.Common.{◌≡◌, ◌<◌, ◌∙◌, inr, false, None, sym, ap, length, Err}
use Rattle.bill_journal.specs.Places.{ReadsAs, contents_of}
use Rattle.journaled_diary.specs.declared.reading.DiaryFault.TheVariants.{Refused}
use Rattle.journaled_shard.proofs.OpeningLemmas.{is_not_blank, opened_on_disk, refused_there, spelled_are_named}
use Rattle.journaled_shard.proofs.opening.open.Goals as goal

pub returns-clause-damaged : goal.returns-clause-damaged
returns-clause-damaged g c = λ place tells is.
    let file = g.D.Disk.seen c.args.disk in
    let frames = c.in-Ok.opened.1 in
    let fault : c.in-Err-read_register.fault ≡ Refused place =
    refused_there c.in-Err-read_register.fault place (sym c.fault_of.ensures ∙ is) in
    let refused = c.in-Err-read_register.ensures.refused place (ap Err fault) in
    let some : 0 < length file = is_not_blank c.args.roster.now (g.G.KeyRing.keys c.args.ring.now) c.args.me file frames
    place (λ blank. c.in-Ok.ensures.blank tells blank) refused in
    let reads : ReadsAs file frames c.in-Ok.opened.0.end = record {
      read = c.in-Ok.ensures.places;
      stands = c.in-Ok.ensures.stands tells some;
    } in
    inr (frames, c.in-Ok.opened.0.end, reads, refused)

pub returns-in-Err-clause-not_blank : goal.returns-in-Err-clause-not_blank
returns-in-Err-clause-not_blank g c = λ place tells is. (c.in-Err.ensures.damaged place tells is).0

pub returns-in-Ok-read_register-clause-on_disk : goal.returns-in-Ok-read_register-clause-on_disk
returns-in-Ok-read_register-clause-on_disk g c = λ tells.
    opened_on_disk g.D.Disk.seen g.D.Disk.may_leave
    (record {
      diary = c.in-Ok-read_register.register.diary;
      loose = None;
      unread = false;
      journal = c.in-Ok.opened.0;
    }) (g.D.Disk.seen c.args.disk) (contents_of c.in-Ok.opened.1) c.in-Ok-read_register.ensures.ok.contents_are
    (λ blank. ap contents_of (c.in-Ok.ensures.blank tells blank)) (λ blank. c.in-Ok.ensures.fresh tells blank)
    (λ some. c.in-Ok.ensures.settled tells some)

pub returns-clause-not_blank : goal.returns-clause-not_blank
returns-clause-not_blank g c = λ place tells is.
    let fault : c.in-Err-read_register.fault ≡ Refused place =
    refused_there c.in-Err-read_register.fault place (sym c.fault_of.ensures ∙ is) in
    is_not_blank c.args.roster.now (g.G.KeyRing.keys c.args.ring.now) c.args.me (g.D.Disk.seen c.args.disk)
    c.in-Ok.opened.1 place (λ blank. c.in-Ok.ensures.blank tells blank)
    (c.in-Err-read_register.ensures.refused place (ap Err fault))

pub returns-in-Ok-read_register-clause-named : goal.returns-in-Ok-read_register-clause-named
returns-in-Ok-read_register-clause-named g c =
    (spelled_are_named c.in-Ok-read_register.register.diary c.in-Ok-read_register.ensures.ok.spelled, tt)
