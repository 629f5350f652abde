use Rattle.http_requests.specs.declared.end.LinkEnd.TheVariants.{Closed}
use Rattle.pint_http.proofs.SessionLemmas.{answered_test, goes_on-nil, OnOk-to, IfErr-to}
use Rattle.pint_http.proofs.serve.answer.Goals as goal

pub returns-in-Party-clause-ok : goal.returns-in-Party-clause-ok
returns-in-Party-clause-ok g c =
    OnOk-to c.test.result (λ wrote. rw c.in-Party.is (answered_test Closed c.in-Party.party c.args.keeps _ _ _ _ _ (goes_on-nil g.K.Desk.run c.args.desk.now) wrote)) c.test.ensures.wrote

pub returns-in-Party-clause-err : goal.returns-in-Party-clause-err
returns-in-Party-clause-err g c =
    IfErr-to c.test.result (λ e wrote. rw c.in-Party.is (answered_test e c.in-Party.party c.args.keeps _ _ _ _ _ (goes_on-nil g.K.Desk.run c.args.desk.now) wrote)) c.test.ensures.err

pub returns-in-Desk-clause-ok : goal.returns-in-Desk-clause-ok
returns-in-Desk-clause-ok g c = OnOk-to c.ask.result (λ done. rw c.in-Desk.is done) c.ask.ensures.ok

pub returns-in-Desk-clause-err : goal.returns-in-Desk-clause-err
returns-in-Desk-clause-err g c = IfErr-to c.ask.result (λ e done. rw c.in-Desk.is done) c.ask.ensures.err
