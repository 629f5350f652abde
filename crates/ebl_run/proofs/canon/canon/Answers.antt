use Rattle.canonical_json.specs.View.{view}
use Rattle.canonical_json.specs.declared.fault.ReadError.TheVariants.{NotJson, Repeated, Fraction, Range}
use Rattle.ebl_run.proofs.CanonLemmas.{canon_stops, canon_refuses, EndsAs-value}
use Rattle.ebl_run.proofs.canon.canon.Goals as goal

pub returns-in-Ok-clause-ends : goal.returns-in-Ok-clause-ends
returns-in-Ok-clause-ends g c =
    EndsAs-value c.put_value.result c.args.text.now (view c.in-Ok.value) (g.K.Sink.written c.args.sink.now) (g.K.Sink.written c.put_value.new.sink) c.in-Ok.ensures.ok c.put_value.ensures.ends

pub returns-in-Err-NoMemory-clause-ends : goal.returns-in-Err-NoMemory-clause-ends
returns-in-Err-NoMemory-clause-ends g c = canon_stops c.args.text.now (g.K.Sink.written c.args.sink.now)

pub returns-in-Err-NotJson-clause-ends : goal.returns-in-Err-NotJson-clause-ends
returns-in-Err-NotJson-clause-ends g c =
    let fault = rw c.in-Err-NotJson.field-0-is at c.in-Err-NotJson.ensures.err in
    canon_refuses c.args.text.now (g.K.Sink.written c.args.sink.now) NotJson fault

pub returns-in-Err-Repeated-clause-ends : goal.returns-in-Err-Repeated-clause-ends
returns-in-Err-Repeated-clause-ends g c =
    let fault = rw c.in-Err-Repeated.field-0-is at c.in-Err-Repeated.ensures.err in
    canon_refuses c.args.text.now (g.K.Sink.written c.args.sink.now) Repeated fault

pub returns-in-Err-Fraction-clause-ends : goal.returns-in-Err-Fraction-clause-ends
returns-in-Err-Fraction-clause-ends g c =
    let fault = rw c.in-Err-Fraction.field-0-is at c.in-Err-Fraction.ensures.err in
    canon_refuses c.args.text.now (g.K.Sink.written c.args.sink.now) Fraction fault

pub returns-in-Err-Range-clause-ends : goal.returns-in-Err-Range-clause-ends
returns-in-Err-Range-clause-ends g c =
    let fault = rw c.in-Err-Range.field-0-is at c.in-Err-Range.ensures.err in
    canon_refuses c.args.text.now (g.K.Sink.written c.args.sink.now) Range fault
