use Rattle.pint_http.proofs.SessionLemmas.{goes_on-nil, served_at_entry}
use Rattle.pint_http.specs.Session.{GoesOn}
use Rattle.pint_http.proofs.serve.serve_link.Goals as goal

pub returns-in-Err-clause-served : goal.returns-in-Err-clause-served
returns-in-Err-clause-served g c =
    let desk = c.args.desk.now in
    served_at_entry (g.L.Link.left c.args.link.now) (g.L.Link.written c.args.link.now) (g.C.Clock.given c.args.clock.now) (g.K.Desk.known desk)
    (λ calls. GoesOn g.K.Desk.run desk calls desk) (goes_on-nil g.K.Desk.run desk)
