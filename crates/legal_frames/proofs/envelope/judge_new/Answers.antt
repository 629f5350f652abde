use Rattle.std.proofs.Common.{sym, ◌∙◌}
use Rattle.bill_diary.specs.History.{newest_first}
use Rattle.legal_frames.proofs.EnvelopeLemmas.{judged, new_so, not_new}
use Rattle.legal_frames.proofs.envelope.judge_new.Goals as goal

pub returns-then-is_again : goal.returns-then-is_again
returns-then-is_again g c =
    λ x.
    not_new c.args.me (newest_first c.args.register.now.diary) c.args.begun.bill c.args.begun.chain.now c.args.begun.manifest.now
    c.args.begun.body.now c.requires.sound.records c.requires.spelled
    (sym c.is_again.ensures ∙ c.if-is_again.true) x.new

pub returns : goal.returns
returns g c =
    let e = c.in_ok-right.ensures.0 c.if-not-right.false in (
      record {
        envelope = e;
        new = new_so (newest_first c.args.register.now.diary) c.args.begun.bill c.args.begun.chain.now c.args.begun.manifest.now
            c.args.begun.body.now (sym c.is_again.ensures ∙ c.if-is_again.false);
      },
      c.in_ok-judgement.ensures ∙ judged c.args.roster.now (g.G.KeyRing.keys c.args.ring.now) c.args.me (newest_first
          c.args.register.now.diary) c.args.begun.bill c.args.begun.chain.now c.args.begun.manifest.now c.args.begun.body.now e,
    )
