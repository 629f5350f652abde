use Rattle.std.proofs.Common.{refl, sym, subst, arith}
use Rattle.std.specs.Prelude.{map}
use Rattle.honest_texts.specs.Sent.{sent_view}
use Rattle.honest_texts.proofs.Among.{among_at}
use Rattle.honest_texts.proofs.Chains.{sent_with}
use Rattle.honest_texts.proofs.sent.was_sent_in_chain.Goals as goal

pub returns-then-branch : goal.returns-then-branch
returns-then-branch c = (
  λ _. sent_with (sent_view c.one-item.result) (map sent_view c.args.sent.now) c.args.text.now
      (among_at sent_view c.args.sent.now c.loop-one.one-index c.one-item.result c.loop-one-test.true c.one-item.is)
      (c.in_ok-has_in_chain.ensures.0 c.if-branch.true),
  λ _. refl,
)
