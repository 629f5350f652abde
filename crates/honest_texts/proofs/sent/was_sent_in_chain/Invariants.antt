-- What was sent in a chain stands in one that is left.
use Rattle.std.proofs.Common.{drop}
use Rattle.std.specs.Prelude.{map}
use Rattle.run_safety.specs.Honest.{WasSentInChain}
use Rattle.honest_texts.specs.Sent.{sent_view}
use Rattle.honest_texts.proofs.sent.was_sent_in_chain.Given as goal

abbrev pub invariant-loop-one : goal.invariant-loop-one
invariant-loop-one l =
    WasSentInChain (map sent_view l.sent) l.text → WasSentInChain (map sent_view (drop l.one-index l.sent)) l.text
