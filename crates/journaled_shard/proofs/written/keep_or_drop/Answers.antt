use Rattle.std.proofs.Common.{◌≡◌, ◌≢◌, ◌↔◌, ◌++◌, List, Ok, Err, ap, rules, subst}
use Rattle.bill_diary.specs.declared.frame.Frame.{Frame}
use Rattle.bill_journal.specs.declared.fault.OpenFault.TheVariants.{Damaged}
use Rattle.bill_journal.specs.Places.{contents_of}
use Rattle.journaled_diary.specs.Contents.{contents_in}
use Rattle.journaled_shard.proofs.WrittenLemmas.{IsSettled, named_found, not_the_diary, not_the_loose, settled_contents, settled_found}
use Rattle.journaled_shard.proofs.written.keep_or_drop.Goals as goal

pub returns-in_err-behind-clause-damaged : goal.returns-in_err-behind-clause-damaged
returns-in_err-behind-clause-damaged c = λ place found is kept.
    let e : c.from_residual.result ≡ Err c.in_err-behind.field-0.0 = search rules in
    let fault : c.in_err-behind.field-0.0 ≡ Damaged place = cc in
    not_the_diary (contents_of c.args.frames.now) c.args.register.now.diary found c.args.loose.now
    (λ more. subst (λ (h : List Frame). contents_of c.args.frames.now ≢ contents_in h ++ more) c.frames.ensures
    (c.in_err-behind.ensures.damaged place more (ap Err fault))) kept

pub returns-in_err-there-clause-damaged : goal.returns-in_err-there-clause-damaged
returns-in_err-there-clause-damaged c = λ place found is kept.
    let e : c.from_residual-in_err-there.result ≡ Err c.in_err-there.field-0.0 = search rules in
    let fault : c.in_err-there.field-0.0 ≡ Damaged place = cc in
    let neither = c.in_err-there.ensures.damaged place (ap Err fault) in
    not_the_loose (contents_of c.args.frames.now) (contents_of c.in_ok-behind.behind.now) c.args.register.now.diary found
    c.args.loose.now
    (λ more. subst (λ (h : List Frame). (contents_of c.args.frames.now ≡ contents_in h ++ more)
    ↔ (contents_of c.in_ok-behind.behind.now ≡ more)) c.frames.ensures (c.in_ok-behind.ensures.ok more))
    neither.0 neither.1 kept

pub returns-clause-contents : goal.returns-clause-contents
returns-clause-contents c =
    let s : IsSettled (contents_of c.args.frames.now) (contents_of c.in_ok-behind.behind.now) c.args.register.now.diary
    c.args.loose.now c.in_ok-there.there c.keep_if_there.new.register.diary = record {
      stands = λ more. subst (λ (h : List Frame). (contents_of c.args.frames.now ≡ contents_in h ++ more)
          ↔ (contents_of c.in_ok-behind.behind.now ≡ more)) c.frames.ensures (c.in_ok-behind.ensures.ok more);
      is = λ t. c.in_ok-there.ensures.there (ap Ok t);
      not = λ t. c.in_ok-there.ensures.not (ap Ok t);
      kept = c.in_ok-keep_if_there.ensures.kept;
      dropped = c.in_ok-keep_if_there.ensures.dropped;
    } in
    settled_contents (contents_of c.args.frames.now) (contents_of c.in_ok-behind.behind.now) c.args.register.now.diary
    c.args.loose.now c.in_ok-there.there c.keep_if_there.new.register.diary s

pub returns-clause-named : goal.returns-clause-named
returns-clause-named c =
    let s : IsSettled (contents_of c.args.frames.now) (contents_of c.in_ok-behind.behind.now) c.args.register.now.diary
    c.args.loose.now c.in_ok-there.there c.keep_if_there.new.register.diary = record {
      stands = λ more. subst (λ (h : List Frame). (contents_of c.args.frames.now ≡ contents_in h ++ more)
          ↔ (contents_of c.in_ok-behind.behind.now ≡ more)) c.frames.ensures (c.in_ok-behind.ensures.ok more);
      is = λ t. c.in_ok-there.ensures.there (ap Ok t);
      not = λ t. c.in_ok-there.ensures.not (ap Ok t);
      kept = c.in_ok-keep_if_there.ensures.kept;
      dropped = c.in_ok-keep_if_there.ensures.dropped;
    } in
    named_found c.args.register.now.diary c.keep_if_there.new.register.diary c.args.loose.now
    (settled_found (contents_of c.args.frames.now) (contents_of c.in_ok-behind.behind.now) c.args.register.now.diary
    c.args.loose.now c.in_ok-there.there c.keep_if_there.new.register.diary s)
