use Rattle.std.proofs.Common.{length, sym, ap, subst}
use Rattle.std.specs.Prelude.{All}
use Rattle.party_roster.specs.RosterRecord.{RosterRecord}
use Rattle.platform_world.specs.State.{IsBetweenListed, WorldState, world_of}
use Rattle.platform_world.proofs.Reached.{reached_sent, reached_told, sends_between}
use Rattle.platform_world.proofs.world.World.follow.Goals as goal

pub invariant_of-self-in_err-sign-in_default : goal.invariant_of-self-in_err-sign-in_default
invariant_of-self-in_err-sign-in_default g c =
    let parcels = c.in_ok-parcels-in_default.parcels.items in
    let between =
    subst (λ (r : RosterRecord). All (IsBetweenListed r) parcels)
    (sym (ap (λ (w : WorldState _ _). w.platforms.roster) c.self.view_is))
    (subst (All (IsBetweenListed c.args.self.now.platforms.roster)) (sym c.in_ok-parcels-in_default.ensures)
    (sends_between c.args.self.now.platforms.roster c.args.path c.args.out.reply c.args.out.messages c.requires.path
    c.requires.listed)) in
    reached_sent
    (world_of g.M.Machine.seen
    (record {
      platforms = c.self.inside.platforms;
      sent = c.self.inside.sent.items;
      signed = c.self.inside.signed;
      fates = c.self.inside.fates.items;
    })) (length c.self.inside.fates.items) c.send.new.sent.items parcels c.sign.new.signed c.self.invariant between
    c.in_ok-send-in_default.ensures.ok c.in_err-sign-in_default.ensures.err

pub invariant_of-self-in_default : goal.invariant_of-self-in_default
invariant_of-self-in_default g c =
    let parcels = c.in_ok-parcels-in_default.parcels.items in
    let between =
    subst (λ (r : RosterRecord). All (IsBetweenListed r) parcels)
    (sym (ap (λ (w : WorldState _ _). w.platforms.roster) c.self.view_is))
    (subst (All (IsBetweenListed c.args.self.now.platforms.roster)) (sym c.in_ok-parcels-in_default.ensures)
    (sends_between c.args.self.now.platforms.roster c.args.path c.args.out.reply c.args.out.messages c.requires.path
    c.requires.listed)) in
    reached_told
    (world_of g.M.Machine.seen
    (record {
      platforms = c.self.inside.platforms;
      sent = c.self.inside.sent.items;
      signed = c.self.inside.signed;
      fates = c.self.inside.fates.items;
    })) (length c.self.inside.fates.items) c.send.new.sent.items parcels c.sign.new.signed c.bill_by-bill.result
    c.self.invariant between c.in_ok-sign-in_default.ensures.form c.in_ok-send-in_default.ensures.ok
    c.in_ok-sign-in_default.ensures.ok
