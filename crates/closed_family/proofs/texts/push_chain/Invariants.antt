-- What is out, followed by what is left, is the whole.
use Rattle.std.proofs.Common.{◌≡◌, ◌++◌, drop, map}
use Rattle.closed_family.specs.Texts.{named}
use Rattle.closed_family.proofs.texts.push_chain.Given as goal

abbrev pub invariant-loop-link : goal.invariant-loop-link
invariant-loop-link l =
    l.texts.items ++ map named (map (λ link. link.text.0) (drop l.link-index l.link-items))
    ≡ l.fn.texts.items ++ map named (map (λ link. link.text.0) l.fn.chain)
