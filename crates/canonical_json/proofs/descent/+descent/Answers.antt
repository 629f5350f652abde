use Rattle.std.proofs.Common.{rules, ◌≡◌, ◌-◌, ◌<◌, ◌++◌, ◌∷◌, [], length, Some, None, Err, IfErr, refl, sym, ap, ap₂, ◌∙◌, subst, arith}
use Rattle.json.specs.Token.{Token}
use Rattle.json.specs.Json as grammar
use Rattle.json.specs.Json.{parse_map, after_end_array, read_key, items, members, value}
use Rattle.json.specs.Reads.{token_of}
use Rattle.json.proofs.Grammar.{value_is, value-begin_array, value-begin_object, after_end_array-shorter, read_key-shorter}
use Rattle.canonical_json.specs.View.{Entry, view, member_view}
use Rattle.canonical_json.specs.Lawful.{HaveTexts}
use Rattle.canonical_json.specs.Faults.{IsStop}
use Rattle.canonical_json.specs.declared.value.Json.{the_lemmas}
use Rattle.canonical_json.proofs.Descents.{no_items_read, one_item_read, all_items_read, items_stop, no_members_read, one_member_read, all_members_read, members_no_key_stop, members_stop, IsStop-when, ItemsRead, MembersRead}
use Rattle.canonical_json.proofs.descent.+descent.Goals as goal

pub next_items-loop-alloc-init : goal.next_items-loop-alloc-init
next_items-loop-alloc-init t c =
    subst (ItemsRead (value c.args.depth) c.args.reader.now c.args.reader.now c.args.faults.now c.args.faults.now) (sym c.new-found.ensures.items) (no_items_read (value c.args.depth) c.args.reader.now c.args.faults.now)

pub next_items-returns-in_err-item-clause-err : goal.next_items-returns-in_err-item-clause-err
next_items-returns-in_err-item-clause-err t c =
    let l = c.loop-alloc in
    let going : (after_end_array l.reader ≡ None) × (c.take_end_array.new.self ≡ l.reader) = grind arith in
    let is : c.from_residual.result ≡ Err c.in_err-item.field-0.0 = search rules in
    subst (λ r. IfErr r (IsStop (items (value c.args.depth) (length c.args.reader.now) c.args.reader.now))) (sym is)
    (items_stop (value c.args.depth) c.args.reader.now l.reader c.args.faults.now l.faults l.found.items l.invariant c.in_err-item.field-0.0 going.0 (rw (← going.1) c.in_err-item.ensures.err))

pub next_items-loop-alloc-preserved : goal.next_items-loop-alloc-preserved
next_items-loop-alloc-preserved t c =
    let l = c.loop-alloc in
    let going : (after_end_array l.reader ≡ None) × (c.take_end_array.new.self ≡ l.reader) = grind arith in
    let done = c.in_ok-item.ensures in
    let less : length c.next_value.new.reader < length l.reader = rw (← going.1) done.shorter in
    let pushed : c.push.new.list.items ≡ l.found.items ++ c.in_ok-item.item ∷ [] = search rules in
    subst (ItemsRead (value c.args.depth) c.args.reader.now c.next_value.new.reader c.args.faults.now c.next_value.new.faults) (sym pushed)
    (one_item_read (value c.args.depth) c.args.reader.now l.reader c.args.faults.now l.faults l.found.items l.invariant c.next_value.new.reader c.next_value.new.faults c.in_ok-item.item done.ok.0 going.0 (rw (← going.1) done.ok.1) less done.ok.2 done.texts)

pub next_items-returns-clause-ok : goal.next_items-returns-clause-ok
next_items-returns-clause-ok t c =
    let l = c.loop-alloc in
    let all = all_items_read (value c.args.depth) c.args.reader.now l.reader c.args.faults.now l.faults l.found.items l.invariant c.take_end_array.new.self (grind arith) in
    (all.0, all.1, (all.2.0, λ once. c.from_vec.ensures.view ∙ all.2.1 once))

pub next_items-returns-clause-texts : goal.next_items-returns-clause-texts
next_items-returns-clause-texts t c = subst HaveTexts (sym c.from_vec.ensures.view) c.loop-alloc.invariant.texts

pub next_items-returns-clause-shorter : goal.next_items-returns-clause-shorter
next_items-returns-clause-shorter t c = omega (arith, after_end_array-shorter c.loop-alloc.reader c.take_end_array.new.self (grind arith), c.loop-alloc.invariant.shorter)

pub next_members-loop-found-init : goal.next_members-loop-found-init
next_members-loop-found-init t c =
    subst (MembersRead (value c.args.depth) c.args.reader.now c.args.reader.now c.args.faults.now c.args.faults.now) (sym c.new-found.ensures.items) (no_members_read (value c.args.depth) c.args.reader.now c.args.faults.now)

pub next_members-returns-in_err-name-clause-err : goal.next_members-returns-in_err-name-clause-err
next_members-returns-in_err-name-clause-err t c =
    let l = c.loop-found in
    let is : c.from_residual.result ≡ Err c.in_err-name.field-0.0 = search rules in
    subst (λ r. IfErr r (IsStop (members (value c.args.depth) (length c.args.reader.now) c.args.reader.now))) (sym is)
    (members_no_key_stop (value c.args.depth) c.args.reader.now l.reader c.args.faults.now l.faults l.found.items l.invariant c.in_err-name.field-0.0 c.in_err-name.ensures)

pub next_members-returns-in_err-value-clause-err : goal.next_members-returns-in_err-value-clause-err
next_members-returns-in_err-value-clause-err t c =
    let l = c.loop-found in
    let key : read_key l.reader ≡ Some (Some c.in-Some.name.now, c.next_name.new.reader) = grind arith in
    let is : c.from_residual-in_err-value.result ≡ Err c.in_err-value.field-0.0 = search rules in
    subst (λ r. IfErr r (IsStop (members (value c.args.depth) (length c.args.reader.now) c.args.reader.now))) (sym is)
    (members_stop (value c.args.depth) c.args.reader.now l.reader c.args.faults.now l.faults l.found.items l.invariant c.in_err-value.field-0.0 c.in-Some.name.now c.next_name.new.reader key c.in_err-value.ensures.err)

pub next_members-loop-found-preserved : goal.next_members-loop-found-preserved
next_members-loop-found-preserved t c =
    let l = c.loop-found in
    let k = c.in-Some.name.now in
    let s = c.next_name.new.reader in
    let key : read_key l.reader ≡ Some (Some k, s) = grind arith in
    let done = c.in_ok-value.ensures in
    let v = c.in_ok-value.value in
    let named : Entry = (k, view v) in
    let seen : member_view c.new.result ≡ named = c.new.ensures ∙ ap (λ n. (n, view v)) c.in_ok-name-2.ensures.value in
    let pushed : c.push.new.list.items ≡ l.found.items ++ c.new.result ∷ [] = search rules in
    subst (MembersRead (value c.args.depth) c.args.reader.now c.next_value.new.reader c.args.faults.now c.next_value.new.faults) (sym pushed)
    (one_member_read (value c.args.depth) c.args.reader.now l.reader c.args.faults.now l.faults l.found.items l.invariant k s c.next_value.new.reader c.next_value.new.faults c.new.result v done.ok.0 key done.ok.1 done.shorter seen c.in_ok-name-2.ensures.utf8 done.ok.2 done.texts)

pub next_members-sort_by_names-requires : goal.next_members-sort_by_names-requires
next_members-sort_by_names-requires t c = c.loop-found.invariant.texts

pub next_members-returns-clause-ok : goal.next_members-returns-clause-ok
next_members-returns-clause-ok t c =
    let l = c.loop-found in
    let s = c.next_name.new.reader in
    let end : read_key l.reader ≡ Some (None, s) = grind arith in
    let apart = c.in_ok-apart.ensures in
    all_members_read (value c.args.depth) c.args.reader.now l.reader c.args.faults.now l.faults l.found.items l.invariant s _ c.in_ok-apart.apart _ end apart.apart
    (λ is. c.from_vec.ensures.view ∙ apart.ordered is) refl refl refl

pub next_members-returns-clause-shorter : goal.next_members-returns-clause-shorter
next_members-returns-clause-shorter t c =
    let s = c.next_name.new.reader in
    let end : read_key c.loop-found.reader ≡ Some (None, s) = grind arith in
    omega (arith, read_key-shorter c.loop-found.reader None s end, c.loop-found.invariant.shorter)

pub next_value-returns-in_default-clause-err : goal.next_value-returns-in_default-clause-err
next_value-returns-in_default-clause-err t c =
    let empty : c.args.reader.now ≡ [] = grind arith in
    ap (value c.args.depth) empty ∙ value_is c.args.depth []

pub next_value-returns-then-depth-eq0-clause-err : goal.next_value-returns-then-depth-eq0-clause-err
unfolding value
next_value-returns-then-depth-eq0-clause-err t c =
    let first : c.args.reader.now ≡ token_of c.in-Some.token ∷ c.next.new.self = grind arith in
    let none : c.args.depth ≡ 0 = omega arith in
    ap₂ value none (first ∙ ap (λ k. token_of k ∷ c.next.new.self) c.in-BeginArray.is)

pub next_value-returns-in_err-next_items-in-BeginArray-clause-err : goal.next_value-returns-in_err-next_items-in-BeginArray-clause-err
next_value-returns-in_err-next_items-in-BeginArray-clause-err t c =
    let first : c.args.reader.now ≡ token_of c.in-Some.token ∷ c.next.new.self = grind arith in
    let opened = ap (value c.args.depth) (first ∙ ap (λ k. token_of k ∷ c.next.new.self) c.in-BeginArray.is) ∙ value-begin_array c.args.depth c.next.new.self (omega arith) in
    let e = c.in_err-next_items-in-BeginArray.field-0.0 in
    let is : c.from_residual-in_err-next_items-in-BeginArray.result ≡ Err e = search rules in
    subst (λ r. IfErr r (IsStop (value c.args.depth c.args.reader.now))) (sym is)
    (IsStop-when (items (value (c.args.depth - 1)) (length c.next.new.self) c.next.new.self) (value c.args.depth c.args.reader.now) e (λ none. opened ∙ ap (parse_map grammar.array) none) c.in_err-next_items-in-BeginArray.ensures.err)

pub next_value-returns-then-depth-eq0-2-clause-err : goal.next_value-returns-then-depth-eq0-2-clause-err
unfolding value
next_value-returns-then-depth-eq0-2-clause-err t c =
    let first : c.args.reader.now ≡ token_of c.in-Some.token ∷ c.next.new.self = grind arith in
    let none : c.args.depth ≡ 0 = omega arith in
    ap₂ value none (first ∙ ap (λ k. token_of k ∷ c.next.new.self) c.in-BeginObject.is)

pub next_value-returns-in_err-next_members-in-BeginObject-clause-err : goal.next_value-returns-in_err-next_members-in-BeginObject-clause-err
next_value-returns-in_err-next_members-in-BeginObject-clause-err t c =
    let first : c.args.reader.now ≡ token_of c.in-Some.token ∷ c.next.new.self = grind arith in
    let opened = ap (value c.args.depth) (first ∙ ap (λ k. token_of k ∷ c.next.new.self) c.in-BeginObject.is) ∙ value-begin_object c.args.depth c.next.new.self (omega arith) in
    let e = c.in_err-next_members-in-BeginObject.field-0.0 in
    let is : c.from_residual-in_err-next_members-in-BeginObject.result ≡ Err e = search rules in
    subst (λ r. IfErr r (IsStop (value c.args.depth c.args.reader.now))) (sym is)
    (IsStop-when (members (value (c.args.depth - 1)) (length c.next.new.self) c.next.new.self) (value c.args.depth c.args.reader.now) e (λ none. opened ∙ ap (parse_map grammar.object) none) c.in_err-next_members-in-BeginObject.ensures.err)

pub next_value-returns-in_ok-char_list-in-String-clause-ok : goal.next_value-returns-in_ok-char_list-in-String-clause-ok
next_value-returns-in_ok-char_list-in-String-clause-ok t c =
    let first : c.args.reader.now ≡ token_of c.in-Some.token ∷ c.next.new.self = grind arith in
    let is : c.args.reader.now ≡ Token.string c.in-String.text.now ∷ c.next.new.self = grind (arith, first) in
    (grammar.string c.in-String.text.now, ap (value c.args.depth) is ∙ value_is c.args.depth _, ((refl, refl, refl), λ once. search (rules, the_lemmas)))

pub next_value-returns-in-Number-clause-ok : goal.next_value-returns-in-Number-clause-ok
next_value-returns-in-Number-clause-ok t c =
    let first : c.args.reader.now ≡ token_of c.in-Some.token ∷ c.next.new.self = grind arith in
    let is : c.args.reader.now ≡ Token.number c.in-Number.text.now ∷ c.next.new.self = grind (arith, first) in
    (grammar.number c.in-Number.text.now, ap (value c.args.depth) is ∙ value_is c.args.depth _, (c.number_of.ensures.noted.0, λ once. c.number_of.ensures.noted.1))

pub next_value-returns-in-Bool-clause-ok : goal.next_value-returns-in-Bool-clause-ok
next_value-returns-in-Bool-clause-ok t c =
    let first : c.args.reader.now ≡ token_of c.in-Some.token ∷ c.next.new.self = grind arith in
    let is : c.args.reader.now ≡ Token.boolean c.in-Bool.flag ∷ c.next.new.self = grind (arith, first) in
    (grammar.boolean c.in-Bool.flag, ap (value c.args.depth) is ∙ value_is c.args.depth _, ((refl, refl, refl), λ once. search (rules, the_lemmas)))

pub next_value-returns-in-Null-clause-ok : goal.next_value-returns-in-Null-clause-ok
next_value-returns-in-Null-clause-ok t c =
    let first : c.args.reader.now ≡ token_of c.in-Some.token ∷ c.next.new.self = grind arith in
    let is : c.args.reader.now ≡ Token.null ∷ c.next.new.self = grind (arith, first) in
    (grammar.null, ap (value c.args.depth) is ∙ value_is c.args.depth _, ((refl, refl, refl), λ once. search (rules, the_lemmas)))

pub next_value-returns-in_ok-next_items-in-BeginArray-clause-ok : goal.next_value-returns-in_ok-next_items-in-BeginArray-clause-ok
next_value-returns-in_ok-next_items-in-BeginArray-clause-ok t c =
    let first : c.args.reader.now ≡ token_of c.in-Some.token ∷ c.next.new.self = grind arith in
    let opened = ap (value c.args.depth) (first ∙ ap (λ k. token_of k ∷ c.next.new.self) c.in-BeginArray.is) ∙ value-begin_array c.args.depth c.next.new.self (omega arith) in
    let read = c.in_ok-next_items-in-BeginArray.ensures.ok in (
      grammar.array read.0,
      opened ∙ ap (parse_map grammar.array) read.1,
      (read.2.0, λ once. let is = read.2.1 once in search (rules, the_lemmas)),
    )

pub next_value-returns-in_ok-next_members-in-BeginObject-clause-ok : goal.next_value-returns-in_ok-next_members-in-BeginObject-clause-ok
next_value-returns-in_ok-next_members-in-BeginObject-clause-ok t c =
    let first : c.args.reader.now ≡ token_of c.in-Some.token ∷ c.next.new.self = grind arith in
    let opened = ap (value c.args.depth) (first ∙ ap (λ k. token_of k ∷ c.next.new.self) c.in-BeginObject.is) ∙ value-begin_object c.args.depth c.next.new.self (omega arith) in
    let read = c.in_ok-next_members-in-BeginObject.ensures.ok in (
      grammar.object read.0,
      opened ∙ ap (parse_map grammar.object) read.1,
      (read.2.0, λ once. let is = read.2.1 once in search (rules, the_lemmas)),
    )

pub next_value-returns-in-EndObject-clause-err : goal.next_value-returns-in-EndObject-clause-err
next_value-returns-in-EndObject-clause-err t c =
    let first : c.args.reader.now ≡ token_of c.in-Some.token ∷ c.next.new.self = grind arith in
    rw (value_is c.args.depth c.args.reader.now, first) (grind arith)
