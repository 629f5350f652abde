use Rattle.std.proofs.Common.{false, true, ◌≡◌, sym, ◌∙◌}
use Rattle.std.specs.Bool.{IsTrue}
use Rattle.ebl_base.proofs.FormLemmas.{IsParty-name, IsParty-platform, IsParty-whole}
use Rattle.ebl_base.proofs.party.Party.is_well_formed.Goals as goal

pub returns-then-is_well_formed : goal.returns-then-is_well_formed
returns-then-is_well_formed c =
    let party = c.args.self.now in (
      λ well. IsParty-whole party (c.is_well_formed.ensures.0 c.if-is_well_formed.true) (c.is_well_formed-then-is_well_formed.ensures.0 well),
      λ form. c.is_well_formed-then-is_well_formed.ensures.1 (IsParty-name party form),
    )

pub returns-else-is_well_formed : goal.returns-else-is_well_formed
returns-else-is_well_formed c =
    let party = c.args.self.now in
    let not_well : IsTrue c.is_well_formed.result → ⊥ = λ well. let no : false ≡ true = sym c.if-is_well_formed.false ∙ well in cc in (
      λ well. absurd (not_well well),
      λ form. c.is_well_formed.ensures.1 (IsParty-platform party form),
    )
