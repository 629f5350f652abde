use Rattle.transfer_core.specs.Shown.{shown_view}
use Rattle.platform_machine.specs.Preface.{Shows}
use Rattle.platform_machine.proofs.SealLemmas.{sealable_at_start}
use Rattle.transfer_core.proofs.StartLemmas.{turned_away}
use Rattle.transfer_core.proofs.starting.start.Goals as goal

pub start_shown-requires-clause-own : goal.start_shown-requires-clause-own
start_shown-requires-clause-own g c =
    let is : Shows c.args.roster.now (g.G.KeyRing.keys c.args.ring.now) c.args.body.now (shown_view c.in-Ok.shown)
    = rw c.in-Ok.is at c.in_ok-shown.ensures.shown in
    is.shows.document_is

pub start_shown-requires-clause-sealable : goal.start_shown-requires-clause-sealable
start_shown-requires-clause-sealable g c =
    sealable_at_start c.args.roster.now (g.G.KeyRing.keys c.args.ring.now) c.args.me c.args.register.now.diary c.args.body.now
    (shown_view c.in-Ok.shown) c.requires (rw c.in-Ok.is at c.in_ok-shown.ensures.shown)

pub returns-in-Err-clause-ok : goal.returns-in-Err-clause-ok
returns-in-Err-clause-ok g c =
    turned_away c.args.roster.now (g.G.KeyRing.keys c.args.ring.now) c.args.me c.args.register.now.diary
    c.args.body.now c.in-Err.refusal c.turn_away.result (rw c.in-Err.is at c.in_ok-shown.ensures.refused)
    c.turn_away.ensures.ok
