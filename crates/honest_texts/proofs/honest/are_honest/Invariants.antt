-- All texts are honest if those that are left are.
use Rattle.std.proofs.Common.{drop}
use Rattle.std.specs.Prelude.{map}
use Rattle.honest_texts.specs.Sent.{AreHonest, sent_view}
use Rattle.honest_texts.proofs.honest.are_honest.Given as goal

abbrev pub invariant-loop-text : goal.invariant-loop-text
invariant-loop-text g l =
    AreHonest l.roster (g.G.KeyRing.keys l.ring) (map sent_view l.sent) (drop l.text-index l.texts)
    → AreHonest l.roster (g.G.KeyRing.keys l.ring) (map sent_view l.sent) l.texts
