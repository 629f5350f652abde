use Rattle.std.proofs.Common.{◌≡◌, Bool, Some, ap, sym, ◌∙◌}
use Rattle.std.specs.Prelude.{option_copied}
use Rattle.std.specs.List.{list_any}
use Rattle.ebl_base.specs.declared.platform_code.PlatformCode.{PlatformCode}
use Rattle.bill_chain.specs.Chain.{last_of, destination}
use Rattle.closed_family.specs.Family.{histories_of}
use Rattle.closed_family.specs.Lacking.{says}
use Rattle.closed_family.proofs.Lacks.{if_ok-same, unanswered-lacks}
use Rattle.closed_family.proofs.lacking.unanswered.Goals as goal

pub returns : goal.returns
returns c =
    let Stands : PlatformCode → Bool
    = λ p. list_any (says c.args.what c.args.entry) (histories_of c.args.bill c.args.family.now p) in
    let link = c.in-Some-last_link.link.now in
    let goes : destination c.args.chain.now ≡ Some c.in-Some.platform = sym c.destination.ensures ∙ c.in-Some.is in
    let ends : last_of c.args.chain.now ≡ Some link
    = sym c.last_link.ensures ∙ ap option_copied c.in-Some-last_link.is in
    if_ok-same c.of_entry.result _ _
    (sym (unanswered-lacks Stands c.args.what c.in-Some.platform link _ _ goes ends
    (sym c.stands.ensures ∙ c.if-stands.false)))
    c.of_entry.ensures
