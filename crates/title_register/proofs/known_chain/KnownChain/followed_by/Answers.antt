-- The title after the longer chain goes on from that after the shorter one.
use Rattle.std.proofs.Common.{◌≡◌, ◌++◌, ◌∷◌, [], List, ap₂, ◌∙◌}
use Rattle.ebl_base.specs.declared.chain.ChainLink.{ChainLink}
use Rattle.title_register.proofs.KnownLemmas.{title_of_longer}
use Rattle.title_register.proofs.known_chain.KnownChain.followed_by.Goals as goal

pub invariant_of-result : goal.invariant_of-result
invariant_of-result c =
    let longer : c.in_ok-chain.chain ≡ c.args.self.now ++ c.args.link.now ∷ [] =
    c.in_ok-chain.ensures
    ∙ ap₂ (λ (links : List ChainLink) (link : ChainLink). links ++ link ∷ []) c.self.view_is c.in_ok-copy.ensures in
    title_of_longer c.args.self.now c.in_ok-chain.chain c.args.link.now c.as_slice.result.now c.title_with-title.result
    c.title_with-title.ensures c.as_slice.ensures longer
