-- The fold goes on from the title after the chain.
use Rattle.std.proofs.Common.{◌≡◌, List, Ok, Err, ap, sym, ◌∙◌}
use Rattle.ebl_base.specs.declared.chain.ChainLink.{ChainLink}
use Rattle.bill_chain.specs.Chain.{title_after_chain}
use Rattle.bill_diary.specs.Titles.{unplaced}
use Rattle.title_register.proofs.KnownLemmas.{title_goes_on}
use Rattle.title_register.proofs.known_chain.KnownChain.title_with.Goals as goal

pub returns-in-Ok : goal.returns-in-Ok
returns-in-Ok c =
    let is : unplaced (title_after_chain c.args.self.now) ≡ Ok c.in-Ok.title =
    ap (λ (chain : List ChainLink). unplaced (title_after_chain chain)) (sym c.self.view_is)
    ∙ sym c.self.invariant ∙ c.in-Ok.is in
    c.fold_more.ensures ∙ title_goes_on c.args.self.now c.args.more.now (Ok c.in-Ok.title) is

pub returns-in-Err : goal.returns-in-Err
returns-in-Err c =
    let is : unplaced (title_after_chain c.args.self.now) ≡ Err c.in-Err.rule =
    ap (λ (chain : List ChainLink). unplaced (title_after_chain chain)) (sym c.self.view_is)
    ∙ sym c.self.invariant ∙ c.in-Err.is in
    title_goes_on c.args.self.now c.args.more.now (Err c.in-Err.rule) is
