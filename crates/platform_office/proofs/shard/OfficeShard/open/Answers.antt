use Rattle.std.proofs.Common.{◌≡◌, ◌≤◌, List, All, Some, inl, length, sym, ap, refl, subst, ◌∙◌}
use Rattle.bill_diary.specs.declared.frame.Frame.{Frame}
use Rattle.journaled_shard.specs.declared.rack.Rack.{Rack}
use Rattle.platform_office.specs.Opening.{IsOpened, IsStray}
use Rattle.platform_office.specs.Post.{IsOfShard}
use Rattle.platform_office.proofs.OpeningLemmas.{opened_so, order_when_opened, stray_damages}
use Rattle.platform_office.proofs.shard.OfficeShard.open.Goals as goal

pub at_post-requires-clause-order : goal.at_post-requires-clause-order
at_post-requires-clause-order g c =
    let same = c.as_slice.ensures ∙ c.diary.ensures.diary in
    order_when_opened g.D.Disk.tells g.G.KeyRing.keys g.D.Disk.seen g.D.Disk.may_leave c.args.number c.in-Ok.shard
    c.diary.ensures.legal c.in-Ok.ensures.read
    (subst (All (IsOfShard c.args.number)) same (c.stray.ensures.own c.in-None.is))
    (subst (λ (d : List Frame). length d ≤ 4294967293) same (c.stray.ensures.few c.in-None.is))
    (λ told. c.in-Ok.ensures.on_disk (sym c.in-Ok.ensures.told ∙ told))

pub at_post-requires-clause-keys : goal.at_post-requires-clause-keys
at_post-requires-clause-keys g c =
    ap g.G.KeyRing.keys c.in-Ok.ensures.ring
    ∙ sym (ap (λ (r : Rack g.row.D.Denot g.row.G.Denot). g.G.KeyRing.keys r.ring) c.of-opened.ensures)

pub at_post-requires-clause-told : goal.at_post-requires-clause-told
at_post-requires-clause-told g c =
    c.in-Ok.ensures.told
    ∙ sym (ap (λ (r : Rack g.row.D.Denot g.row.G.Denot). g.D.Disk.tells r.disk) c.of-opened.ensures)

pub returns-in-None-clause-opened : goal.returns-in-None-clause-opened
returns-in-None-clause-opened g c =
    subst (IsOpened g.D.Disk.tells g.D.Disk.seen g.D.Disk.faults c.args.me c.args.roster c.args.number c.args.rack)
    (sym c.at_post.ensures)
    (opened_so g.D.Disk.tells g.D.Disk.seen g.D.Disk.faults c.args.me c.args.roster c.args.number c.args.rack
    (record { shard = c.in-Ok.shard; number = c.args.number; rack = c.of-opened.result.value })
    c.in-Ok.ensures.me c.in-Ok.ensures.roster refl c.of-opened.ensures c.in-Ok.ensures.ring c.in-Ok.ensures.told
    (λ told some. (c.in-Ok.ensures.nothing_written told some).same) c.in-Ok.ensures.later c.in-Ok.ensures.read c.in-Ok.ensures.blank c.in-Ok.ensures.stands)

pub returns-in-Some-clause-back : goal.returns-in-Some-clause-back
returns-in-Some-clause-back g c = record {
  ring = c.rack_of.ensures.ring ∙ c.in-Ok.ensures.ring;
  told = ap g.D.Disk.tells c.rack_of.ensures.disk ∙ c.in-Ok.ensures.told;
  same = λ told some. ap g.D.Disk.seen c.rack_of.ensures.disk ∙ (c.in-Ok.ensures.nothing_written told some).same;
  later = subst (λ (d : g.row.D.Denot). g.D.Disk.faults c.args.rack.disk ≤ g.D.Disk.faults d) (sym c.rack_of.ensures.disk)
      c.in-Ok.ensures.later;
}

pub returns-in-Some-clause-failed : goal.returns-in-Some-clause-failed
returns-in-Some-clause-failed g c = λ is. absurd (c.stray.ensures.no_disk (c.in-Some.is ∙ ap Some is))

pub returns-in-Some-clause-damaged : goal.returns-in-Some-clause-damaged
returns-in-Some-clause-damaged g c = λ place is told.
    let same = c.as_slice.ensures ∙ c.diary.ensures.diary in
    stray_damages c.args.roster (g.G.KeyRing.keys c.args.rack.ring) c.args.me c.args.number
    (g.D.Disk.seen c.args.rack.disk) c.in-Ok.shard.written.diary place (c.in-Ok.ensures.blank told)
    (c.in-Ok.ensures.stands told)
    (subst (λ (d : List Frame). IsStray c.args.number d place) same
    (c.stray.ensures.stray place (c.in-Some.is ∙ ap Some is)))

pub returns-in-Err-clause-back : goal.returns-in-Err-clause-back
returns-in-Err-clause-back g c = record {
  ring = c.in-Err.ensures.ring;
  told = c.in-Err.ensures.told;
  same = λ told some. (c.in-Err.ensures.nothing_written told some).same;
  later = c.in-Err.ensures.later;
}

pub returns-in-Err-clause-damaged : goal.returns-in-Err-clause-damaged
returns-in-Err-clause-damaged g c = λ place is told. inl (c.in-Err.ensures.damaged place told is)
