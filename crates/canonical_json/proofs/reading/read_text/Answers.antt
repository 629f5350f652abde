use Rattle.std.proofs.Common.{rules, ◌≡◌, ◌≤◌, true, false, Some, Ok, Err, IfErr, is_some, sym, ap, ◌∙◌, subst}
use Rattle.json.specs.Reads.{token_of}
use Rattle.canonical_json.specs.Value.{depth}
use Rattle.canonical_json.specs.Lawful.{IsLawful}
use Rattle.canonical_json.specs.Reading.{tree_of, IsFault}
use Rattle.canonical_json.proofs.Readings.{is_lawful-value_of, value_of-depth}
use Rattle.canonical_json.proofs.Trees.{tree_of-value, value_in-tree, if_last-more, if_last-none, fault_of_stop, fault_named, no_fault}
use Rattle.canonical_json.proofs.reading.read_text.Goals as goal

pub returns-in_err-json-clause-err : goal.returns-in_err-json-clause-err
returns-in_err-json-clause-err c =
    let e = c.in_err-json.field-0.0 in
    let is : c.from_residual.result ≡ Err e = search rules in
    subst (λ r. IfErr r (IsFault c.args.text.now)) (sym is) (fault_of_stop c.args.text.now c.in-Ok.reader e c.utf8.text c.in-Ok.ensures.ok c.in_err-json.ensures.err)

pub returns-then-is_some-clause-err : goal.returns-then-is_some-clause-err
returns-then-is_some-clause-err c =
    let read = c.in_ok-json.ensures.ok in
    let some : is_some c.next.result ≡ true = search rules in
    value_in-tree c.args.text.now _ (tree_of-value c.args.text.now c.in-Ok.reader (Some (read.0, c.next_value.new.reader)) c.utf8.text c.in-Ok.ensures.ok read.1 ∙ if_last-more token_of read.0 c.next.result c.next_value.new.reader c.next.new.self c.next.ensures.value some)

pub returns-in-Some-clause-err : goal.returns-in-Some-clause-err
returns-in-Some-clause-err c =
    let read = c.in_ok-json.ensures.ok in
    let none : is_some c.next.result ≡ false = search rules in
    let tree : tree_of c.args.text.now ≡ Some read.0 = tree_of-value c.args.text.now c.in-Ok.reader (Some (read.0, c.next_value.new.reader)) c.utf8.text c.in-Ok.ensures.ok read.1 ∙ if_last-none token_of read.0 c.next.result c.next_value.new.reader c.next.new.self c.next.ensures.value none in
    fault_named c.args.text.now read.0 c.none-faults.result c.next_value.new.faults tree c.none-faults.ensures read.2.0 c.in-Some.fault (sym c.first.ensures ∙ c.in-Some.is)

pub returns-clause-ok : goal.returns-clause-ok
returns-clause-ok c =
    let read = c.in_ok-json.ensures.ok in
    let none : is_some c.next.result ≡ false = search rules in
    let tree : tree_of c.args.text.now ≡ Some read.0 = tree_of-value c.args.text.now c.in-Ok.reader (Some (read.0, c.next_value.new.reader)) c.utf8.text c.in-Ok.ensures.ok read.1 ∙ if_last-none token_of read.0 c.next.result c.next_value.new.reader c.next.new.self c.next.ensures.value none in
    let clean = no_fault c.args.text.now read.0 c.none-faults.result c.next_value.new.faults tree c.none-faults.ensures read.2.0 (sym c.first.ensures ∙ c.in-None.is) in
    clean.1 ∙ ap Ok (sym (read.2.1 clean.0))

pub returns-clause-lawful : goal.returns-clause-lawful
returns-clause-lawful c =
    let read = c.in_ok-json.ensures.ok in
    let none : is_some c.next.result ≡ false = search rules in
    let tree : tree_of c.args.text.now ≡ Some read.0 = tree_of-value c.args.text.now c.in-Ok.reader (Some (read.0, c.next_value.new.reader)) c.utf8.text c.in-Ok.ensures.ok read.1 ∙ if_last-none token_of read.0 c.next.result c.next_value.new.reader c.next.new.self c.next.ensures.value none in
    let clean = no_fault c.args.text.now read.0 c.none-faults.result c.next_value.new.faults tree c.none-faults.ensures read.2.0 (sym c.first.ensures ∙ c.in-None.is) in
    subst IsLawful (sym (read.2.1 clean.0)) (is_lawful-value_of read.0)

pub returns-clause-nests : goal.returns-clause-nests
returns-clause-nests c =
    let read = c.in_ok-json.ensures.ok in
    let none : is_some c.next.result ≡ false = search rules in
    let tree : tree_of c.args.text.now ≡ Some read.0 = tree_of-value c.args.text.now c.in-Ok.reader (Some (read.0, c.next_value.new.reader)) c.utf8.text c.in-Ok.ensures.ok read.1 ∙ if_last-none token_of read.0 c.next.result c.next_value.new.reader c.next.new.self c.next.ensures.value none in
    let clean = no_fault c.args.text.now read.0 c.none-faults.result c.next_value.new.faults tree c.none-faults.ensures read.2.0 (sym c.first.ensures ∙ c.in-None.is) in
    subst (λ v. depth v ≤ 127) (sym (read.2.1 clean.0)) (value_of-depth c.args.text.now read.0 tree)
