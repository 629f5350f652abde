use Rattle.std.proofs.Common.{Ok, inl, inr, sym, subst, IfOk, IsTrue, ◌↔◌}
use Rattle.bill_diary.specs.declared.record.Record.{Record}
use Rattle.bill_diary.specs.History.{newest_first}
use Rattle.legal_frames.specs.Rows.{Follows}
use Rattle.legal_frames.proofs.FrameLemmas.{of_kind}
use Rattle.legal_frames.proofs.frames.record_may_follow.Goals as goal

pub returns-in-Signed : goal.returns-in-Signed
returns-in-Signed g c =
    of_kind c.args.roster.now (g.G.KeyRing.keys c.args.ring.now) c.args.me (newest_first c.args.register.now.diary) c.args.one.now _
    c.may_sign.result c.in-Signed.is c.may_sign.ensures tt

pub returns-in-Acted : goal.returns-in-Acted
returns-in-Acted g c =
    of_kind c.args.roster.now (g.G.KeyRing.keys c.args.ring.now) c.args.me (newest_first c.args.register.now.diary) c.args.one.now _
    (Ok c.may_act.result) c.in-Acted.is c.may_act.ensures tt

pub returns-in-Attached : goal.returns-in-Attached
returns-in-Attached g c =
    of_kind c.args.roster.now (g.G.KeyRing.keys c.args.ring.now) c.args.me (newest_first c.args.register.now.diary) c.args.one.now _
    (Ok c.may_attach.result) c.in-Attached.is c.may_attach.ensures tt

pub returns-in-Parted : goal.returns-in-Parted
returns-in-Parted g c =
    of_kind c.args.roster.now (g.G.KeyRing.keys c.args.ring.now) c.args.me (newest_first c.args.register.now.diary) c.args.one.now _
    c.may_part.result c.in-Parted.is c.may_part.ensures tt

pub returns-in-Settled : goal.returns-in-Settled
returns-in-Settled g c =
    elim c.in-Settled.is [
      | inl is ↦ of_kind c.args.roster.now (g.G.KeyRing.keys c.args.ring.now) c.args.me (newest_first c.args.register.now.diary)
          c.args.one.now _ (Ok c.may_end.result) is c.may_end.ensures tt
      | inr is ↦ of_kind c.args.roster.now (g.G.KeyRing.keys c.args.ring.now) c.args.me (newest_first c.args.register.now.diary)
          c.args.one.now _ (Ok c.may_end.result) is c.may_end.ensures tt
    ]

pub returns-in-Begun : goal.returns-in-Begun
returns-in-Begun g c =
    subst (λ (r : Record). IfOk c.may_begin.result (λ b. IsTrue b ↔ Follows c.args.roster.now (g.G.KeyRing.keys
    c.args.ring.now) c.args.me (newest_first c.args.register.now.diary) r))
    (sym c.in-Begun.is) c.may_begin.ensures

pub returns-in-Taken : goal.returns-in-Taken
returns-in-Taken g c =
    of_kind c.args.roster.now (g.G.KeyRing.keys c.args.ring.now) c.args.me (newest_first c.args.register.now.diary) c.args.one.now _
    c.may_take.result c.in-Taken.is c.may_take.ensures tt

pub returns-in-Declined : goal.returns-in-Declined
returns-in-Declined g c =
    of_kind c.args.roster.now (g.G.KeyRing.keys c.args.ring.now) c.args.me (newest_first c.args.register.now.diary) c.args.one.now _
    (Ok c.may_decline.result) c.in-Declined.is c.may_decline.ensures tt
