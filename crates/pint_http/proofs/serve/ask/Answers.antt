use Rattle.ebl_edge.proofs.SinkLemmas.{AppendsFirst-nil}
use Rattle.http_requests.specs.declared.end.LinkEnd.TheVariants.{Closed, NoMemory}
use Rattle.platform_requests.specs.Desk.{Call}
use Rattle.platform_requests.specs.Request.{request_view}
use Rattle.pint_http.proofs.SessionLemmas.{answered_take, OnOk-to, IfErr-to}
use Rattle.pint_http.proofs.serve.ask.Goals as goal

pub returns-in-Err-clause-err : goal.returns-in-Err-clause-err
returns-in-Err-clause-err g c =
    let call : Call = record { now = c.now-now.result; request = request_view c.args.request; outcome = c.take-reply.result } in
    answered_take NoMemory c.args.keeps call _ _ _ _ _ _ c.take-reply.ensures.runs c.now-now.ensures (AppendsFirst-nil _ _)

pub returns-clause-ok : goal.returns-clause-ok
returns-clause-ok g c =
    let call : Call = record { now = c.now-now.result; request = request_view c.args.request; outcome = c.take-reply.result } in
    OnOk-to c.put_reply.result (λ wrote. answered_take Closed c.args.keeps call _ _ _ _ _ _
    c.take-reply.ensures.runs c.now-now.ensures wrote) (rw (c.status_of-status.ensures, c.in-Ok.ensures) at c.put_reply.ensures.ok)

pub returns-clause-err : goal.returns-clause-err
returns-clause-err g c =
    let call : Call = record { now = c.now-now.result; request = request_view c.args.request; outcome = c.take-reply.result } in
    IfErr-to c.put_reply.result (λ e wrote. answered_take e c.args.keeps call _ _ _ _ _ _
    c.take-reply.ensures.runs c.now-now.ensures wrote) (rw (c.status_of-status.ensures, c.in-Ok.ensures) at c.put_reply.ensures.err)
