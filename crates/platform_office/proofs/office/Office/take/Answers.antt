use Rattle.std.proofs.Common.{rules}
use Rattle.platform_office.proofs.OfficeLemmas.{knows_no_more, knows_one_more}
use Rattle.platform_office.proofs.office.Office.take.Goals as goal

pub loop-init : goal.loop-init
loop-init g c = record {
  next = search rules;
  finite = search rules;
  of = c.requires.of;
  asked = search rules;
  goes = search rules;
  place = search rules;
  more = knows_no_more c.args.pass.now.knows;
}

pub loop-preserved : goal.loop-preserved
loop-preserved g c = record {
  next = search rules;
  finite = search rules;
  of = c.try_at.ensures.of;
  asked = search rules;
  goes = c.loop.invariant.goes;
  place = c.loop.invariant.place;
  more = knows_one_more c.args.pass.now.knows c.loop.pass.knows c.try_at.new.pass.knows c.loop.invariant.more
      (search rules);
}

pub returns-in-Ok-try_at-clause-turned : goal.returns-in-Ok-try_at-clause-turned
returns-in-Ok-try_at-clause-turned g c = (c.loop.pass.knows, c.loop.invariant.more, c.in-Ok-try_at.ensures.turned)
