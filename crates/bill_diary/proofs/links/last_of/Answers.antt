use Rattle.std.proofs.Common.{Bor, ap, sym, ◌∙◌}
use Rattle.std.specs.Prelude.{option_map}
use Rattle.ebl_base.specs.declared.chain.ChainLink.{ChainLink}
use Rattle.bill_diary.proofs.LinkLemmas.{last_of-behind}
use Rattle.bill_diary.proofs.links.last_of.Goals as goal

pub returns-in-Some : goal.returns-in-Some
returns-in-Some c =
    ap (option_map (λ (link : Bor ChainLink). link.now)) c.in-Some.ensures.value ∙ last_of-behind c.args.links.now

pub returns-in-None : goal.returns-in-None
returns-in-None c =
    ap (option_map (λ (link : Bor ChainLink). link.now)) c.in-None.ensures.value ∙ last_of-behind c.args.links.now
