use Rattle.std.proofs.Common.{refl, sym, subst, ◌∙◌, arith}
use Rattle.std.specs.Prelude.{map}
use Rattle.std.proofs.lemmas.Bool.{false≢true}
use Rattle.honest_texts.specs.Sent.{AreHonest, sent_view}
use Rattle.honest_texts.proofs.Among.{drop_at, drop_none, item_among}
use Rattle.honest_texts.proofs.Chains.{honest_more, honest_none}
use Rattle.honest_texts.proofs.honest.are_honest.Goals as goal

pub returns-then-not-branch : goal.returns-then-not-branch
returns-then-not-branch g c = (
  λ e. absurd (false≢true e),
  λ all. sym c.if-not-branch.true
      ∙ c.in_ok-is_honest_text.ensures.1 (all c.text-item.result
      (item_among c.args.texts.now c.loop-text.text-index c.text-item.result c.loop-text-test.true c.text-item.is)),
)

pub loop-text-preserved : goal.loop-text-preserved
loop-text-preserved g c = λ rest. c.loop-text.invariant
    (subst (AreHonest c.args.roster.now (g.G.KeyRing.keys c.args.ring.now) (map sent_view c.args.sent.now))
    (sym (drop_at c.args.texts.now c.loop-text.text-index c.text-item.result c.loop-text-test.true c.text-item.is))
    (honest_more c.args.roster.now (g.G.KeyRing.keys c.args.ring.now) (map sent_view c.args.sent.now)
    c.text-item.result _ (c.in_ok-is_honest_text.ensures.0 c.if-not-branch.false) rest))

pub returns : goal.returns
returns g c = (
  λ _. c.loop-text.invariant
      (subst (AreHonest c.args.roster.now (g.G.KeyRing.keys c.args.ring.now) (map sent_view c.args.sent.now))
      (sym (drop_none c.args.texts.now c.loop-text.text-index (omega arith)))
      (honest_none c.args.roster.now (g.G.KeyRing.keys c.args.ring.now) (map sent_view c.args.sent.now))),
  λ _. refl,
)
