use Rattle.std.specs.Prelude.{◌≡◌, ◌↔◌}
use Rattle.std.proofs.lemmas.Result.{IfOk-weaker}
use Rattle.ebl_base.specs.declared.checksum.Checksum.{Checksum}
use Rattle.closed_family.specs.declared.verdict.Verdict.TheVariants.{Consistent, SameName}
use Rattle.closed_family.specs.Family.{IsClosedFamily, HasDistinctNames, IsSafeFamily}
use Rattle.closed_family.specs.Survey.{IsVerdict}
use Rattle.closed_family.specs.Texts.{SharesName}
use Rattle.closed_family.proofs.Verdicts.{consistent_iff, named_shared, consistent_safe}
use Rattle.closed_family.proofs.surveying.survey.Goals as goal

pub returns-clause-consistent : goal.returns-clause-consistent
returns-clause-consistent c =
    let family = c.args.family.now in
    λ sound. IfOk-weaker c.verdict_of.result (IsVerdict family)
    (λ v. (v ≡ Consistent) ↔ (IsClosedFamily family × HasDistinctNames family))
    (consistent_iff family sound) c.verdict_of.ensures

pub returns-clause-same_name : goal.returns-clause-same_name
returns-clause-same_name c =
    let family = c.args.family.now in
    λ sound. IfOk-weaker c.verdict_of.result (IsVerdict family)
    (λ v. (name : Checksum) → v ≡ SameName name → SharesName family name)
    (named_shared family sound) c.verdict_of.ensures

pub returns-clause-safe : goal.returns-clause-safe
returns-clause-safe c =
    let family = c.args.family.now in
    λ sound. IfOk-weaker c.verdict_of.result (IsVerdict family)
    (λ v. v ≡ Consistent → IsSafeFamily family)
    (consistent_safe family sound) c.verdict_of.ensures
