use Rattle.std.proofs.Common.{◌≡◌, ◌∙◌, Err, ap, rules, subst, sym}
use Rattle.bill_journal.specs.declared.fault.OpenFault.TheVariants.{Damaged}
use Rattle.bill_journal.specs.Places.{contents_of}
use Rattle.journaled_diary.specs.declared.reading.DiaryFault.TheVariants.{Refused}
use Rattle.journaled_diary.specs.Contents.{contents_in}
use Rattle.journaled_shard.specs.Written.{IsKeptOrDropped, IsNamedIfAny}
use Rattle.journaled_shard.proofs.OpeningLemmas.{found_is_diary, refused_there, spelled_are_named}
use Rattle.journaled_shard.proofs.written.Written.reopen.Goals as goal

pub returns-in_err-frames-clause-undamaged : goal.returns-in_err-frames-clause-undamaged
returns-in_err-frames-clause-undamaged g c = λ place tells on is.
    let e : c.from_residual.result ≡ Err c.in_err-frames.field-0.0 = search rules in
    let fault : c.in_err-frames.field-0.0 ≡ Damaged place = cc in
    c.no_journal_is_damaged.ensures (g.D.Disk.seen c.args.self.now.journal.disk) (contents_in on.now.0) place on.now.2
    (c.in_err-frames.ensures.damaged place tells (ap Err fault))

pub returns-in-Ok-clause-found : goal.returns-in-Ok-clause-found
returns-in-Ok-clause-found g c = λ tells on.
    let roster = c.args.roster.now in
    let keys = g.G.KeyRing.keys c.args.ring.now in
    let before = c.args.self.now in
    let is = found_is_diary roster keys c.args.me before.register.diary on.now.0 before.loose
    (contents_of c.in_ok-frames.frames) (c.frame_of_a_sound_diary_has_a_spelling.ensures c.args.me)
    (c.legal_diary_is_sound.ensures roster keys c.args.me on.now.0) c.requires.legal c.requires.named.0
    c.requires.named.1 on.now.1 (c.in_ok-frames.ensures.kept (contents_in on.now.0) tells on.now.2)
    c.requires.has_room in
    subst (IsKeptOrDropped before.register.diary before.loose)
    (c.contents_are_one_diary.ensures roster keys c.args.me (contents_of c.in_ok-frames.frames) on.now.0 c.in-Ok.register.diary
    is c.in-Ok.ensures.ok) on.now.1

pub returns-in-Ok-clause-named : goal.returns-in-Ok-clause-named
returns-in-Ok-clause-named g c =
    (spelled_are_named c.in-Ok.register.diary c.in-Ok.ensures.ok.spelled, subst IsNamedIfAny (sym c.forget.ensures) tt)

pub returns-clause-undamaged : goal.returns-clause-undamaged
returns-clause-undamaged g c = λ place tells on is.
    let roster = c.args.roster.now in
    let keys = g.G.KeyRing.keys c.args.ring.now in
    let before = c.args.self.now in
    let there : c.fault_of.result ≡ Damaged place = cc in
    let fault : c.in-Err.fault ≡ Refused place =
    refused_there c.in-Err.fault place (sym c.fault_of.ensures ∙ there) in
    let is = found_is_diary roster keys c.args.me before.register.diary on.now.0 before.loose
    (contents_of c.in_ok-frames.frames) (c.frame_of_a_sound_diary_has_a_spelling.ensures c.args.me)
    (c.legal_diary_is_sound.ensures roster keys c.args.me on.now.0) c.requires.legal c.requires.named.0
    c.requires.named.1 on.now.1 (c.in_ok-frames.ensures.kept (contents_in on.now.0) tells on.now.2)
    c.requires.has_room in
    c.diary_is_refused_nowhere.ensures roster keys c.args.me c.in_ok-frames.frames on.now.0 place is
    (c.in-Err.ensures.refused place (ap Err fault))
